-- A later symbol has all its groups left; of symbol 0 those below are less PCFICH's.
use native.Mathlib.Omega.{arith}
use Rattle.layout.proofs.VacantWays.{later-number}
use Rattle.layout.proofs.Ways.{counted-le, numbered}
use Rattle.layout.proofs.left_below.Goals as goal

pub returns-then-s-gt0 : goal.returns-then-s-gt0
returns-then-s-gt0 c = later-number c.args.cell c.args.s c.args.t c.if-s-gt0.true

pub overflow_sub-result : goal.overflow_sub-result
overflow_sub-result c =
    counted-le c.args.cell c.args.s c.args.t (omega arith) c.format_group-a.ensures c.format_group-b.ensures
    c.format_group-c.ensures c.format_group-d.ensures c.requires c.formats_below.ensures.0

pub returns : goal.returns
returns c =
    numbered c.args.cell c.args.s c.args.t (omega arith) c.format_group-a.ensures c.format_group-b.ensures
    c.format_group-c.ensures c.format_group-d.ensures c.requires c.formats_below.ensures.0
