-- A slot has at most seven symbols.
use native.Mathlib.Omega.{arith}
use Rattle.layout.proofs.Pilot.{slot-length}
use Rattle.layout.proofs.symbols.Goals as goal

pub overflow_mul-result : goal.overflow_mul-result
overflow_mul-result c = omega (arith, slot-length c.args.cell, c.slot_length.ensures)

pub returns : goal.returns
returns c = omega (arith, slot-length c.args.cell, c.slot_length.ensures)
