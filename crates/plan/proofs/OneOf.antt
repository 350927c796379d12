-- One of a list of numbers: the test `one_of` by a search from the front, and by a `match`; the fact `Among`. Assumes nothing.
use Prim.Native.Nat.{ℕ, ◌+◌, ◌≤◌, ◌<◌}
use mathlib.Core.Path.{◌≡◌, refl, sym, ◌∙◌}
use mathlib.Core.Logic.{inl, inr}
use mathlib.Core.Bool.{Bool, true, false, ◌||◌, false≢true}
use mathlib.Core.List.{List, [], ◌∷◌}
use types.Run.{OneOf}
use native.Mathlib.Numerals.{add-one}
use lib.Dec.{T, eqb}
use lib.ListN.{length, drop, get_or, drop_of_length-le}
use lib.Seq.{drop-cons}
use lib.Ieee.Fits.{and_l, and_r}
use borrow.Author.Tests.{eq-eqb, ne_eqb, eqb-true}
use Rattle.std.specs.List.{list_any}
use Rattle.base.proofs.Computed.{every}
use Rattle.plan.specs.Lists.{one_of, Among}

or-true : (a b : Bool) → b ≡ true → a || b ≡ true
or-true true b e = refl
or-true false b e = e

pub hit : (ks : List ℕ) (x : ℕ) → OneOf ks x → one_of x ks ≡ true
unfolding one_of
hit [] x h = absurd h
hit (k ∷ []) x h = rw (eq-eqb x k h)
hit (k ∷ l ∷ ks) x (inl e) = rw (eq-eqb x k e)
hit (k ∷ l ∷ ks) x (inr h) = or-true (eqb x k) (one_of x (l ∷ ks)) (hit (l ∷ ks) x h)

-- ---- the library's search
swapped : (x y : ℕ) (t : Bool) → eqb x y ≡ t → eqb y x ≡ t
swapped x y true e = eq-eqb y x (sym (eqb-true x y e))
swapped x y false e = ne_eqb y x (λ q. false≢true (sym e ∙ eq-eqb x y (sym q)))

pub any-one_of : (x : ℕ) (ks : List ℕ) → list_any (λ (k : ℕ). eqb k x) ks ≡ one_of x ks
unfolding one_of
any-one_of x [] = refl
any-one_of x (k ∷ ks) = rw (swapped x k _ refl, any-one_of x ks) refl

-- ---- place i of a list
at_place : (x : ℕ) (ks : List ℕ) (i : ℕ) → i < length ks → one_of x (drop i ks) ≡ eqb x (get_or ks i 0) || one_of x (drop (i + 1) ks)
unfolding one_of
at_place x ks i l = rw (drop-cons ks i 0 l, add-one i) refl

pub one_left : (x : ℕ) (ks : List ℕ) (i : ℕ) → length ks ≤ i → one_of x (drop i ks) ≡ false
unfolding one_of
one_left x ks i l = rw (drop_of_length-le ks l) refl

-- ---- a look at every place, with no early exit: t says whether one of those before place i was x
abbrev pub Looked : ℕ → List ℕ → ℕ → Bool → Type 0
Looked x ks i t = t || one_of x (drop i ks) ≡ one_of x ks

pub looked-step : (x : ℕ) (ks : List ℕ) (i : ℕ) (t : Bool) → i < length ks → Looked x ks i t → Looked x ks (i + 1) (t || eqb x (get_or ks i 0))
looked-step x ks i true l h = h
looked-step x ks i false l h = sym (at_place x ks i l) ∙ h

pub looked-last : (x : ℕ) (ks : List ℕ) (i : ℕ) (t : Bool) → length ks ≤ i → Looked x ks i t → t ≡ one_of x ks
looked-last x ks i true l h = h
looked-last x ks i false l h = sym (one_left x ks i l) ∙ h

-- a list of numbers without k, as a match gives it
pub not_in : (ks : List ℕ) (k : ℕ) → OneOf ks k → one_of k ks ≡ false → ⊥
not_in ks k h e = false≢true (sym e ∙ hit ks k h)

split : (t : Bool) (x k : ℕ) (ks : List ℕ) → eqb x k ≡ t → t || one_of x ks ≡ true → (one_of x ks ≡ true → Among x ks) → Among x (k ∷ ks)
split true x k ks e h rest = inl (eqb-true x k e)
split false x k ks e h rest = inr (rest h)

pub among : (ks : List ℕ) (x : ℕ) → one_of x ks ≡ true → Among x ks
unfolding one_of
among [] x h = false≢true h
among (k ∷ ks) x h = split (eqb x k) x k ks refl h (among ks x)

-- a test that each of the numbers passes, by computation
pub among-holds : (f : ℕ → Bool) (ks : List ℕ) (x : ℕ) → T (every f ks) → Among x ks → T (f x)
among-holds f [] x t h = absurd h
among-holds f (k ∷ ks) x t (inl e) = rw e (and_l (f k) (every f ks) t)
among-holds f (k ∷ ks) x t (inr h) = among-holds f ks x (and_r (f k) (every f ks) t) h
