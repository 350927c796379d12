-- The i-th of a list passes a test: it is one of the list, and the test is its own. Assumes nothing.
use Prim.Native.Nat.{ℕ, zero, suc, ◌<◌}
use mathlib.Core.Path.{◌≡◌, refl}
use mathlib.Core.Bool.{Bool, true}
use mathlib.Core.List.{List, [], ◌∷◌}
use native.Mathlib.Nat.{not-suc-le-zero}
use native.Mathlib.Omega.{arith}
use lib.ListN.{length, get_or}
use Rattle.base.specs.Choice.{passes_at}
use Rattle.base.proofs.Tests.{clash}

module _ {A : Type 0} (test : A → Bool) where
  pub passes-inside : (l : List A) (i : ℕ) → passes_at test l i ≡ true → i < length l
  unfolding passes_at
  passes-inside [] i e = clash e refl
  passes-inside (a ∷ l) zero e = omega arith
  passes-inside (a ∷ l) (suc i) e = omega (arith, passes-inside l i e)

  pub passes-is : (d : A) (l : List A) (i : ℕ) → i < length l → passes_at test l i ≡ test (get_or l i d)
  unfolding passes_at
  passes-is d [] i h = absurd (not-suc-le-zero h)
  passes-is d (a ∷ l) zero h = refl
  passes-is d (a ∷ l) (suc i) h = passes-is d l i (omega arith)

  -- by another test that agrees
  pub passes_same : (other : A → Bool) → ((a : A) → test a ≡ other a) → (l : List A) (i : ℕ) → passes_at test l i ≡ passes_at other l i
  unfolding passes_at
  passes_same other h [] i = refl
  passes_same other h (a ∷ l) zero = h a
  passes_same other h (a ∷ l) (suc i) = passes_same other h l i
