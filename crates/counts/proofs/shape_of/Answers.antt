-- Both slots' sums. Assumes nothing.
use native.Mathlib.Omega.{arith}
use Rattle.layout.proofs.Pilot.{slot-length}
use Rattle.counts.proofs.Shapes.{shape-found}
use Rattle.counts.proofs.shape_of.Goals as goal

pub slot_shape-odd-requires : goal.slot_shape-odd-requires
slot_shape-odd-requires c = let z = slot-length c.args.cell in omega (arith, c.slot_length.ensures)

pub returns : goal.returns
returns c = let a = c.args in
    let L = c.slot_length in
    shape-found a.cell a.frame _ _ _ L.ensures c.slot_shape-even.ensures c.slot_shape-odd.ensures
