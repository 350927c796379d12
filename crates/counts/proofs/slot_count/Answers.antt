-- A user's places in a slot. Assumes nothing.
use native.Mathlib.Omega.{arith}
use Rattle.counts.proofs.Shapes.{whole-most, centre-least, slot-found}
use Rattle.counts.proofs.slot_count.Goals as goal

pub overflow_mul-result-2 : goal.overflow_mul-result-2
overflow_mul-result-2 c = let a = c.args in
    omega (arith, whole-most a.cell a.slot c.requires a.first a.count (omega arith))

pub overflow_mul-result-3 : goal.overflow_mul-result-3
overflow_mul-result-3 c = let a = c.args in
    let given = c.requires in
    let n = c.centre_halves in
    let part = centre-least a.cell a.slot given a.first a.count (omega arith) _ n.ensures in
    omega (arith, whole-most a.cell a.slot given a.first a.count (omega arith))

pub overflow_sub-result : goal.overflow_sub-result
overflow_sub-result c = let a = c.args in
    let given = c.requires in
    centre-least a.cell a.slot given a.first a.count (omega arith) _ c.centre_halves.ensures

pub returns : goal.returns
returns c = let a = c.args in
    let given = c.requires in
    slot-found a.cell a.slot given a.first a.count (omega arith) _ c.centre_halves.ensures
