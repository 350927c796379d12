-- One of several tests holds. Assumes nothing.
use Prim.Native.Nat.{ℕ, zero, suc, ◌+◌, ◌<◌}
use mathlib.Core.Path.{◌≡◌, refl, ap}
use mathlib.Core.Bool.{Bool, true, false, ◌&&◌, ◌||◌}
use native.Mathlib.Decide.{ℕ_discrete}
use native.Mathlib.Nat.{not-suc-le-zero}
use native.Mathlib.Numerals.{add-one}
use native.Mathlib.Omega.{arith}
use Rattle.base.proofs.Tests.{clash}
use Rattle.plan.proofs.Listed.{and_left, and_right}
use Rattle.schedule.specs.Senders.{some_below}

pub or-false : (a b : Bool) → a || b ≡ false → (a ≡ false) × (b ≡ false)
or-false true b h = clash refl h
or-false false b h = (refl, h)

pub and-true : (a b : Bool) → a && b ≡ true → (a ≡ true) × (b ≡ true)
and-true a b h = (and_left a b h, and_right a b h)

pub or_cases : {X : Type 0} (a b : Bool) → a || b ≡ true → (a ≡ true → X) → (b ≡ true → X) → X
or_cases true b h f g = f refl
or_cases false b h f g = g h

pub some-none : (f : ℕ → Bool) → some_below f 0 ≡ false
unfolding some_below
some-none f = refl

pub some_more : (f : ℕ → Bool) (n : ℕ) → some_below f (n + 1) ≡ f n || some_below f n
unfolding some_below
some_more f n = ap (some_below f) (add-one n)

pub none-at : (f : ℕ → Bool) (n : ℕ) → some_below f n ≡ false → (i : ℕ) → i < n → f i ≡ false
unfolding some_below
none-at f zero h i l = absurd (not-suc-le-zero l)
none-at f (suc n) h i l = pick (ℕ_discrete i n) (none-at f n (or-false (f n) (some_below f n) h).1 i)
  where
    pick : Dec (i ≡ n) → (i < n → f i ≡ false) → f i ≡ false
    pick (yes e) g = rw e (or-false (f n) (some_below f n) h).0
    pick (no e) g = g (omega arith)

-- one that holds
pub some_is : (f : ℕ → Bool) (n : ℕ) → some_below f n ≡ true → (i : ℕ) × (i < n) × (f i ≡ true)
unfolding some_below
some_is f zero h = clash h refl
some_is f (suc n) h = or_cases (f n) (some_below f n) h (λ e. (n, omega arith, e)) (λ e. let s = some_is f n e in (s.0, omega (arith, s.1), s.2))
