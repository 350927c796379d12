-- `payload::section_clear` meets its contract. Assumes nothing.
use native.Mathlib.Omega.{arith}
use Prim.Native.Nat.{ℕ, ◌/◌, ◌%◌, ◌^◌}
use mathlib.Core.Path.{ap, ◌∙◌}
use lib.Dec.{eqb}
use Rattle.payload.proofs.Spare.{whole-clear, last-clear}
use Rattle.payload.proofs.section_clear.Goals as goal

pub returns-then-used-eq0 : goal.returns-then-used-eq0
returns-then-used-eq0 c = let a = c.args in
    whole-clear a.payload.now a.at a.bits c.if-used-eq0.true

pub overflow_add-last : goal.overflow_add-last
overflow_add-last c = omega arith

pub bounds-payload-last : goal.bounds-payload-last
bounds-payload-last c = omega arith

pub overflow_shr-result : goal.overflow_shr-result
overflow_shr-result c = omega arith

pub returns : goal.returns
returns c = let a = c.args in
    ap (λ (v : ℕ). eqb (v % (256 / 2 ^ (a.bits % 8))) 0) c.wide.ensures ∙ last-clear a.payload.now a.at a.bits c.if-used-eq0.false
