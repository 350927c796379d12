-- Facts of each element of a list and of each two: one more at the end, from a test, and at an index. Assumes nothing.
use Prim.Native.Nat.{ℕ, zero, suc, ◌<◌}
use mathlib.Core.Path.{◌≡◌, refl, sym}
use mathlib.Core.Bool.{Bool, true, false, not, cond, ◌&&◌, ◌||◌, and-true, and_assoc}
use mathlib.Core.List.{List, [], ◌∷◌, ◌++◌}
use native.Mathlib.Nat.{not-suc-le-zero, le_of_suc-le-suc}
use borrow.Author.Tests.{not-true}
use lib.ListN.{length, get_or}
use Rattle.plan.specs.Lists.{none_of, Every, Apart}

pub and_left : (a b : Bool) → a && b ≡ true → a ≡ true
and_left true b e = refl
and_left false b e = e

pub and_right : (a b : Bool) → a && b ≡ true → b ≡ true
and_right true b e = e
and_right false b e = cc

pub choose : {A : Type 0} (F : A → Type 0) (t : Bool) (x y : A) → (t ≡ true → F x) → (t ≡ false → F y) → F (cond t x y)
choose F true x y p q = p refl
choose F false x y p q = q refl

module _ {A : Type 0} where
  pub every-snoc : (P : A → Type 0) (xs : List A) (x : A) → Every P xs → P x → Every P (xs ++ (x ∷ []))
  every-snoc P [] x h p = (p, tt)
  every-snoc P (a ∷ xs) x h p = (h.0, every-snoc P xs x h.1 p)

  pub apart_snoc : (R : A → A → Type 0) (xs : List A) (x : A) → Apart R xs → Every (λ (a : A). R a x) xs → Apart R (xs ++ (x ∷ []))
  apart_snoc R [] x h p = (tt, tt)
  apart_snoc R (a ∷ xs) x h p = (every-snoc (R a) xs x h.0 p.0, apart_snoc R xs x h.1 p.1)

  -- no element passes the test, so each has what failing it says
  pub none-every : (f : A → Bool) (P : A → Type 0) → ((a : A) → f a ≡ false → P a) → (xs : List A) → none_of f xs ≡ true → Every P xs
  unfolding none_of
  none-every f P h [] e = tt
  none-every f P h (a ∷ xs) e = (h a (not-true (f a) (and_left _ _ e)), none-every f P h xs (and_right (not (f a)) _ e))

  pub every-imp : (P Q : A → Type 0) → ((a : A) → P a → Q a) → (xs : List A) → Every P xs → Every Q xs
  every-imp P Q f [] h = tt
  every-imp P Q f (a ∷ xs) h = (f a h.0, every-imp P Q f xs h.1)

  -- of two elements that both have P
  pub apart-imp : (P : A → Type 0) (R S : A → A → Type 0) → ((a b : A) → P a → P b → R a b → S a b) → (xs : List A) → Every P xs → Apart R xs → Apart S xs
  apart-imp P R S f [] h d = tt
  apart-imp P R S f (a ∷ xs) h d = (each xs h.1 d.0, apart-imp P R S f xs h.1 d.1)
    where
      each : (ys : List A) → Every P ys → Every (R a) ys → Every (S a) ys
      each [] p r = tt
      each (b ∷ ys) p r = (f a b h.0 p.0 r.0, each ys p.1 r.1)

  pub every-at : (P : A → Type 0) (d : A) (xs : List A) (i : ℕ) → Every P xs → i < length xs → P (get_or xs i d)
  every-at P d [] i h l = absurd (not-suc-le-zero l)
  every-at P d (a ∷ xs) zero h l = h.0
  every-at P d (a ∷ xs) (suc i) h l = every-at P d xs i h.1 (le_of_suc-le-suc l)

  pub apart-at : (R : A → A → Type 0) (d : A) (xs : List A) (i j : ℕ) → Apart R xs → i < j → j < length xs → R (get_or xs i d) (get_or xs j d)
  apart-at R d [] i j h k l = absurd (not-suc-le-zero l)
  apart-at R d (a ∷ xs) i zero h k l = absurd (not-suc-le-zero k)
  apart-at R d (a ∷ xs) zero (suc j) h k l = every-at (R a) d xs j h.0 (le_of_suc-le-suc l)
  apart-at R d (a ∷ xs) (suc i) (suc j) h k l = apart-at R d xs i j h.1 (le_of_suc-le-suc k) (le_of_suc-le-suc l)

-- ---- no element passes a test: one more at the end, either of two tests
module _ {A : Type 0} where
  pub none-snoc : (f : A → Bool) (xs : List A) (x : A) → none_of f (xs ++ (x ∷ [])) ≡ none_of f xs && not (f x)
  unfolding none_of
  none-snoc f [] x = and-true (not (f x))
  none-snoc f (a ∷ xs) x = rw (none-snoc f xs x) (sym (and_assoc (not (f a)) (none_of f xs) (not (f x))))

  pub none_or : (f g : A → Bool) (xs : List A) → none_of (λ (x : A). f x || g x) xs ≡ none_of f xs && none_of g xs
  unfolding none_of
  none_or f g [] = refl
  none_or f g (a ∷ xs) = rw (none_or f g xs) (by (f a) (g a) (none_of f xs) (none_of g xs))
    where
      by : (a b c d : Bool) → not (a || b) && (c && d) ≡ not a && c && (not b && d)
      by true b c d = refl
      by false true true d = refl
      by false true false d = refl
      by false false c d = refl
