-- `phich_vectors::flips` meets its contract: the bytes below i are not -128. Assumes nothing.
use mathlib.Core.Path.{subst}
use mathlib.Core.Bool.{Bool, true, false, cond}
use native.Mathlib.Omega.{arith}
use lib.Dec.{T}
use Rattle.phich_vectors.proofs.Seen.{flips-none, flips-more, flips-all}
use Rattle.phich_vectors.proofs.flips.Goals as goal

pub returns-then-part-ne8 : goal.returns-then-part-ne8
returns-then-part-ne8 c = λ e. absurd (subst (λ (b : Bool). T (cond b false true)) e tt)

pub loop-i-init : goal.loop-i-init
loop-i-init c = flips-none (omega (arith, c.if-part-ne8.false))

pub bounds-part-i : goal.bounds-part-i
bounds-part-i c = omega (arith, c.loop-i-test.true, c.loop-i.invariant.size)

pub returns-then-part-i : goal.returns-then-part-i
returns-then-part-i c = λ e. absurd (subst (λ (b : Bool). T (cond b false true)) e tt)

pub loop-i-preserved : goal.loop-i-preserved
loop-i-preserved c = flips-more c.loop-i.invariant c.loop-i-test.true (omega arith) c.if-part-i.false

pub returns : goal.returns
returns c = λ e. flips-all c.loop-i.invariant c.loop-i-test.false
