-- Some number below n passes a test; and a number that is one of f 0, .., f (n - 1). Assumes nothing.
use Prim.Native.Nat.{ℕ, zero, suc, ◌≤◌, ◌<◌}
use mathlib.Core.Path.{◌≡◌, refl, sym, ap, ◌∙◌}
use mathlib.Core.Bool.{Bool, true, false, ◌||◌, or-true}
use native.Mathlib.Nat.{not-suc-le-zero}
use native.Mathlib.Decide.{dec_le, ℕ_discrete}
use native.Mathlib.Omega.{arith}
use lib.Dec.{eqb}
use borrow.Author.Tests.{eq-eqb, eqb-true}
use Rattle.base.specs.Counts.{some_of}
use Rattle.base.proofs.Tests.{by-test, clash}

or-first : (a b : Bool) → a ≡ true → a || b ≡ true
or-first a b e = rw e refl

pub passed : (test : ℕ → Bool) (n i : ℕ) → i < n → test i ≡ true → some_of test n ≡ true
passed test zero i l e = absurd (not-suc-le-zero l)
passed test (suc n) i l e = go (ℕ_discrete i n) (λ h. passed test n i h e)
  where
    go : Dec (i ≡ n) → (i < n → some_of test n ≡ true) → some_of test n || test n ≡ true
    go (yes d) ih = rw (ap test (sym d) ∙ e) (or-true (some_of test n))
    go (no d) ih = or-first (some_of test n) (test n) (ih (omega arith))

pub which-passed : (test : ℕ → Bool) (n : ℕ) → some_of test n ≡ true → (i : ℕ) × (i < n) × (test i ≡ true)
which-passed test zero e = clash e refl
which-passed test (suc n) e =
    by-test (some_of test n)
    (λ d. let i = which-passed test n d in (i.0, omega (arith, i.1), i.2))
    (λ d. (n, omega arith, last d))
  where
    last : some_of test n ≡ false → test n ≡ true
    last d = rw d at e

-- ---- one of f 0, .., f (n - 1)
abbrev pub is_some : (ℕ → ℕ) → ℕ → ℕ → Bool
is_some f n x = some_of (λ (i : ℕ). eqb x (f i)) n

pub some_in : (f : ℕ → ℕ) (n x i : ℕ) → i < n → x ≡ f i → is_some f n x ≡ true
some_in f n x i l e = passed (λ (i : ℕ). eqb x (f i)) n i l (eq-eqb x (f i) e)

pub in_some : (f : ℕ → ℕ) (n x : ℕ) → is_some f n x ≡ true → (i : ℕ) × (i < n) × (f i ≡ x)
in_some f n x e = let i = which-passed (λ (i : ℕ). eqb x (f i)) n e in (i.0, i.1, sym (eqb-true x (f i.0) i.2))

-- different where no earlier one is a later one
pub all_apart : (f : ℕ → ℕ) (n : ℕ) → ((i j : ℕ) → i < j → j < n → f i ≡ f j → ⊥) → (i j : ℕ) → i < n → j < n → f i ≡ f j → i ≡ j
all_apart f n d i j a b e = go (dec_le (suc i) j) (dec_le (suc j) i)
  where
    go : Dec (suc i ≤ j) → Dec (suc j ≤ i) → i ≡ j
    go (yes l) q = absurd (d i j l b e)
    go (no l) (yes m) = absurd (d j i m a (sym e))
    go (no l) (no m) = omega arith
