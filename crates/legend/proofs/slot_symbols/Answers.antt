-- `legend::slot_symbols` meets its contract: a slot has seven symbols at most. Assumes nothing.
use native.Mathlib.Omega.{arith}
use Rattle.layout.proofs.Pilot.{symbols-most}
use Rattle.legend.proofs.slot_symbols.Goals as goal

pub returns : goal.returns
returns c = omega (arith, c.slot_length.ensures, symbols-most c.args.cell)
