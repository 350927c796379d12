-- `signals_compare::differ_each` meets its contract. The loop: the first ports are compared. Assumes nothing.
use Prim.Native.Nat.{◌+◌, ◌*◌}
use native.Mathlib.Omega.{arith}
use lib.ListN.{get_or}
use Rattle.element_pairs.specs.Numbers.{element_from}
use Rattle.signals.proofs.ValueByValue.{each-first, each-step, each-last}
use Rattle.signals_compare.proofs.Differing.{differing, also-differing, numbered}
use Rattle.signals_compare.proofs.differ_each.Goals as goal

pub loop-first-init : goal.loop-first-init
loop-first-init g c = each-first c.args.firsts (differing c.args.grid.now) c.args.i (element_from c.args.v)

pub loop-first-preserved : goal.loop-first-preserved
loop-first-preserved g c =
    each-step c.args.firsts (differing c.args.grid.now) c.requires.0 (omega arith) c.loop-first.invariant
    (also-differing (numbered (get_or c.args.firsts c.loop-first.first-index 0 + 6 * c.args.i) c.three_at.ensures c.requires.1))

pub returns : goal.returns
returns g c = each-last c.args.firsts (differing c.args.grid.now) c.requires.0 (omega arith) (omega arith) c.loop-first.invariant
