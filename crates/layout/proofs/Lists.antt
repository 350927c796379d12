-- Elements of a list: of a table and of two lists joined, where none passes a test, some does, or just one does. Assumes nothing.
use Prim.Native.Nat.{ℕ, zero, suc, ◌+◌, ◌<◌}
use mathlib.Core.Path.{◌≡◌, refl, ap, ◌∙◌}
use mathlib.Core.Bool.{Bool, true, false, not}
use mathlib.Core.List.{List, [], ◌∷◌, ◌++◌}
use native.Mathlib.Nat.{not-suc-le-zero, le_of_suc-le-suc}
use native.Mathlib.Omega.{arith}
use lib.ListN.{length}
use Rattle.base.proofs.Tests.{by-test, clash, is_false}
use Rattle.base.specs.Tables.{table}
use Rattle.plan.specs.Lists.{none_of, Every, Apart}
use Rattle.plan.proofs.Listed.{and_right}
use Rattle.base.specs.Choice.{first_of, passes_at}
use Rattle.layout.specs.Chain.{first_as}
use Rattle.layout.specs.declared.Owner.{Owner}
use Rattle.layout.specs.declared.Owner.TheVariants.{Idle}

pub data In {A : Type 0} (a : A) : List A → Type 0 where
  here : {l : List A} → In a (a ∷ l)
  there : {b : A} {l : List A} → In a l → In a (b ∷ l)

pub in_left : {A : Type 0} {a : A} {l : List A} (m : List A) → In a l → In a (l ++ m)
in_left m here = here
in_left m (there i) = there (in_left m i)

pub in_right : {A : Type 0} {a : A} {m : List A} (l : List A) → In a m → In a (l ++ m)
in_right [] i = i
in_right (b ∷ l) i = there (in_right l i)

pub table-in : {A : Type 0} (f : ℕ → A) (n i : ℕ) → i < n → In (f i) (table n f)
unfolding table
table-in f zero i l = absurd (not-suc-le-zero l)
table-in f (suc n) zero l = here
table-in f (suc n) (suc i) l = there (table-in (λ j. f (suc j)) n i (le_of_suc-le-suc l))

module _ {A : Type 0} (t : A → Bool) where
  pub none_in : {a : A} {l : List A} → In a l → t a ≡ true → none_of t l ≡ false
  unfolding none_of
  none_in here e = rw e refl
  none_in (there {b = b} {l = l} i) e = is_false _ (λ w. clash (and_right (not (t b)) (none_of t l) w) (none_in i e))

  pub none-at : {a : A} {l : List A} → none_of t l ≡ true → In a l → t a ≡ false
  none-at {a} {l} e i = is_false (t a) (λ w. clash e (none_in i w))

  pub some_in : (l : List A) → none_of t l ≡ false → (a : A) × (t a ≡ true)
  unfolding none_of
  some_in [] e = clash refl e
  some_in (a ∷ l) e = by-test (t a) (λ w. (a, w)) (λ w. some_in l (rw w at e))

  pub first-is : (d o : A) {l : List A} → In o l → t o ≡ true → ((a : A) → t a ≡ true → a ≡ o) → first_of t d l ≡ o
  unfolding first_of
  first-is d o here e u = rw e refl
  first-is d o (there {b = b} {l = l} i) e u = by-test (t b) (λ w. rw w (u b w)) (λ w. rw w (first-is d o i e u))

-- ---- of a list those that pass keep apart: the first as an owner is the only one
module _ {A : Type 0} (owner : ℕ → Owner) (test : A → Bool) where
  module _ (R : A → A → Type 0) (never : (a b : A) → R a b → test a ≡ true → test b ≡ true → ⊥) where
    no_other : (a : A) (l : List A) → test a ≡ true → Every (R a) l → (i : ℕ) → passes_at test l i ≡ false
    unfolding passes_at
    no_other a [] e d i = refl
    no_other a (b ∷ l) e d zero = is_false _ (λ w. never a b d.0 e w)
    no_other a (b ∷ l) e d (suc i) = no_other a l e d.1 i

    pub first-as : (l : List A) (b i : ℕ) → Apart R l → passes_at test l i ≡ true → first_as owner test b l ≡ owner (b + i)
    unfolding passes_at first_as
    first-as [] b i d e = clash e refl
    first-as (a ∷ l) b zero d e = rw e (ap owner (let z : b ≡ b + 0 = omega arith in z))
    first-as (a ∷ l) b (suc i) d e =
        by-test (test a)
        (λ w. clash e (no_other a l w d.0 i))
        (λ w. rw w (first-as l (b + 1) i d.1 e ∙ ap owner (let z : b + 1 + i ≡ b + suc i = omega arith in z)))

  pub none-as : (l : List A) (b : ℕ) → ((i : ℕ) → i < length l → passes_at test l i ≡ false) → first_as owner test b l ≡ Idle
  unfolding passes_at first_as
  none-as [] b h = refl
  none-as (a ∷ l) b h = rw (h 0 (omega arith)) (none-as l (b + 1) (λ i l. h (suc i) (omega arith)))
