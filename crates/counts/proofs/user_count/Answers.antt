-- A user's count. Assumes nothing.
use native.Mathlib.Omega.{arith}
use Rattle.counts.proofs.Shapes.{count_most, count-found}
use Rattle.counts.proofs.user_count.Goals as goal

pub overflow_add-result : goal.overflow_add-result
overflow_add-result c = let a = c.args in
    let given = c.requires in
    let even = c.slot_count in
    let odd = c.slot_count-2 in
    let h = count_most a.cell a.shape given a.u (omega arith) in
    omega (arith, count-found a.cell a.shape given a.u (omega arith) even.result odd.result even.ensures odd.ensures)

pub returns : goal.returns
returns c = let a = c.args in
    let given = c.requires in
    let even = c.slot_count in
    let odd = c.slot_count-2 in
    count-found a.cell a.shape given a.u (omega arith) even.result odd.result even.ensures odd.ensures
