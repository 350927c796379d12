-- A refusal is no number: the two are marked differently. Assumes nothing.
use Prim.Native.Nat.{ℕ}
use mathlib.Core.Path.{◌≡◌, refl, ap}
use mathlib.Core.Bool.{true}
use Rattle.base.proofs.Tests.{clash}
use Rattle.plan.specs.Answers.{Answer, given, refused_by}

pub no_number : {m n : ℕ} {X : Type 0} → refused_by m ≡ given n → X
no_number e = clash {b = true} refl (ap (λ (a : Answer). a.refusal) e)
