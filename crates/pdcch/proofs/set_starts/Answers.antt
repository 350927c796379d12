-- Even subcarrier by even subcarrier. The loop's invariant: the list has the groups so far.
use native.Mathlib.Omega.{arith}
use Rattle.pdcch.proofs.Starts.{starts_none, starts-over, starts-end}
use Rattle.pdcch.proofs.set_starts.Goals as goal

pub loop-half-init : goal.loop-half-init
loop-half-init c = starts_none c.args.cell c.args.symbols (omega arith) c.requires.3

pub loop-half-preserved : goal.loop-half-preserved
loop-half-preserved c = starts-over c.args.cell c.args.symbols c.loop-half.half _ _ c.put_starts-n.ensures

pub returns : goal.returns
returns c = starts-end c.args.cell c.args.symbols _ _ _ c.loop-half.invariant (omega arith)
