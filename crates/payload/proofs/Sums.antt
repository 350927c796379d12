-- Sums over lists and over numbers, and how often a position stands in a list. Nothing here is about payloads. Assumes nothing.
use Rattle.std.specs.Prelude.{if◌then◌else◌}
use Prim.Native.Nat.{ℕ, zero, suc, ◌+◌, ◌≤◌, ◌<◌}
use mathlib.Core.Path.{◌≡◌, refl, sym, ap, ap₂, ◌∙◌, subst}
use mathlib.Core.Bool.{Bool, true, false, ◌&&◌}
use mathlib.Core.Logic.{◌⊎◌, inl, inr}
use mathlib.Core.List.Memᴰ
use mathlib.Core.List.{List, [], ◌∷◌, ◌++◌, Memᴰ}
use native.Mathlib.Nat.{not-suc-le-zero}
use native.Mathlib.Omega.{arith}
use lib.Dec.{leb, ltb, eqb}
use borrow.Author.Tests.{ltb-true, ltb-false, lt-ltb, le-ltb, le-leb, lt-leb, eq-eqb, ne_eqb, eqb-true, eqb-false}
use Rattle.base.specs.Choice.{indicator}
use Rattle.base.specs.Tables.{table}
use Rattle.base.proofs.Tests.{by-test}
use Rattle.plan.specs.Lists.{Among, Every}
use Rattle.base.specs.Sums.{sum_to, sum_of}
use Rattle.base.proofs.Sums.{sum-none, list-append}
use Rattle.payload.specs.Sections.{span}
use Rattle.payload.specs.Bits.{occurs}

pub sum_first : (n : ℕ) (f : ℕ → ℕ) → sum_to (suc n) f ≡ f 0 + sum_to n (λ i. f (suc i))
unfolding sum_to
sum_first zero f = omega arith
sum_first (suc n) f = omega (arith, sum_first n f)

-- ---- sums over lists
pub sum-table : {A : Type 0} (f : A → ℕ) (n : ℕ) (g : ℕ → A) → sum_of (table n g) f ≡ sum_to n (λ i. f (g i))
unfolding sum_of table sum_to
sum-table f zero g = refl
sum-table f (suc n) g = ap (λ (x : ℕ). f (g 0) + x) (sum-table f n (λ i. g (suc i))) ∙ sym (sum_first n (λ i. f (g i)))

pub occurs-nil : (b : ℕ) → occurs b [] ≡ 0
unfolding occurs sum_of
occurs-nil b = refl

pub occurs-append : (b : ℕ) (xs ys : List ℕ) → occurs b (xs ++ ys) ≡ occurs b xs + occurs b ys
unfolding occurs
occurs-append b xs ys = list-append xs ys (λ (x : ℕ). indicator (eqb x b))

-- ---- position b is one of the n from a on: 1 or 0
unfoldable pub within : ℕ → ℕ → ℕ → ℕ
within a n b = indicator (leb a b && ltb b (a + n))

pub within_in : (a n b : ℕ) → a ≤ b → b < a + n → within a n b ≡ 1
unfolding within
within_in a n b h k = rw (le-leb a b h, lt-ltb b (a + n) k) refl

pub within-below : (a n b : ℕ) → b < a → within a n b ≡ 0
unfolding within
within-below a n b h = rw (lt-leb a b h) refl

pub within-above : (a n b : ℕ) → a + n ≤ b → within a n b ≡ 0
unfolding within
within-above a n b h = rw (le-leb a b (omega arith), le-ltb b (a + n) h) refl

pub within-split : (a m n b : ℕ) → within a (m + n) b ≡ within a m b + within (a + m) n b
within-split a m n b = pick (ltb b a) (ltb b (a + m)) (ltb b (a + m + n)) refl refl refl
  where
    pick : (t u v : Bool) → ltb b a ≡ t → ltb b (a + m) ≡ u → ltb b (a + m + n) ≡ v → within a (m + n) b ≡ within a m b + within (a + m) n b
    pick true u v e f g =
        let h : b < a = ltb-true b a e in
        omega (arith, within-below a (m + n) b h, within-below a m b h, within-below (a + m) n b (omega arith))
    pick false true v e f g =
        let h : a ≤ b = ltb-false b a e in
        let k : b < a + m = ltb-true b (a + m) f in
        omega (arith, within_in a (m + n) b h (omega arith), within_in a m b h k, within-below (a + m) n b k)
    pick false false true e f g =
        let h : a ≤ b = ltb-false b a e in
        let k : a + m ≤ b = ltb-false b (a + m) f in
        let l : b < a + m + n = ltb-true b (a + m + n) g in
        omega (arith, within_in a (m + n) b h (omega arith), within-above a m b k, within_in (a + m) n b k l)
    pick false false false e f g =
        let k : a + m ≤ b = ltb-false b (a + m) f in
        let l : a + m + n ≤ b = ltb-false b (a + m + n) g in
        omega (arith, within-above a (m + n) b (omega arith), within-above a m b k, within-above (a + m) n b l)

pub within_none : (a b : ℕ) → within a 0 b ≡ 0
within_none a b = pick (ltb b a) refl
  where
    pick : (t : Bool) → ltb b a ≡ t → within a 0 b ≡ 0
    pick true e = within-below a 0 b (ltb-true b a e)
    pick false e = within-above a 0 b (omega (arith, ltb-false b a e))

pub within-one : (a b : ℕ) → within a 1 b ≡ indicator (eqb a b)
within-one a b = pick (eqb a b) refl
  where
    off : (t : Bool) → ltb b a ≡ t → (a ≡ b → ⊥) → within a 1 b ≡ 0
    off true e n = within-below a 1 b (ltb-true b a e)
    off false e n = let h : a ≤ b = ltb-false b a e in within-above a 1 b (omega arith)

    pick : (t : Bool) → eqb a b ≡ t → within a 1 b ≡ indicator t
    pick true e = let q : a ≡ b = eqb-true a b e in within_in a 1 b (omega arith) (omega arith)
    pick false e = off (ltb b a) refl (eqb-false a b e)

-- how often b stands among the n positions from a on
span-sum : (a b n : ℕ) → sum_to n (λ j. indicator (eqb (a + j) b)) ≡ within a n b
unfolding sum_to
span-sum a b zero = sym (within_none a b)
span-sum a b (suc n) =
    let e : n + 1 ≡ suc n = omega arith in
    ap₂ (λ (x y : ℕ). x + y) (span-sum a b n) (sym (within-one (a + n) b)) ∙ sym (within-split a n 1 b) ∙ ap (λ (k : ℕ). within a k b) e

pub occurs-span : (a n b : ℕ) → occurs b (span a n) ≡ within a n b
unfolding occurs span
occurs-span a n b = sum-table (λ (x : ℕ). indicator (eqb x b)) n (λ (j : ℕ). a + j) ∙ span-sum a b n

-- ---- membership
pub among-occurs : (b : ℕ) (xs : List ℕ) → Among b xs → 1 ≤ occurs b xs
unfolding occurs sum_of
among-occurs b [] h = absurd h
among-occurs b (x ∷ xs) (inl e) = rw (eq-eqb x b (sym e)) (omega arith)
among-occurs b (x ∷ xs) (inr h) = omega (arith, among-occurs b xs h)

pub occurs-among : (b : ℕ) (xs : List ℕ) → 1 ≤ occurs b xs → Among b xs
unfolding occurs sum_of
occurs-among b [] h = absurd (not-suc-le-zero h)
occurs-among b (x ∷ xs) h = pick (eqb x b) refl h (occurs-among b xs)
  where
    pick : (t : Bool) → eqb x b ≡ t → 1 ≤ indicator t + occurs b xs → (1 ≤ occurs b xs → Among b xs) → Among b (x ∷ xs)
    pick true e l ih = inl (sym (eqb-true x b e))
    pick false e l ih = inr (ih (omega arith))

pub every-among : (P : ℕ → Type 0) (xs : List ℕ) → Every P xs → (b : ℕ) → Among b xs → P b
every-among P [] h b a = absurd a
every-among P (x ∷ xs) h b (inl e) = subst P (sym e) h.0
every-among P (x ∷ xs) h b (inr a) = every-among P xs h.1 b a

module _ {A : Type 0} (f : A → ℕ) where
  pub list-member : (a : A) (xs : List A) → Memᴰ a xs → f a ≤ sum_of xs f
  unfolding sum_of
  list-member a [] m = absurd (Memᴰ.not-nil m)
  list-member a (x ∷ xs) (Memᴰ.head e) = omega (arith, ap f e)
  list-member a (x ∷ xs) (Memᴰ.tail m) = omega (arith, list-member a xs m)

  -- an entry that counts
  pub list-find : (xs : List A) → 1 ≤ sum_of xs f → (a : A) × Memᴰ a xs × (1 ≤ f a)
  unfolding sum_of
  list-find [] h = absurd (not-suc-le-zero h)
  list-find (x ∷ xs) h = pick (ltb 0 (f x)) refl (list-find xs)
    where
      pick : (t : Bool) → ltb 0 (f x) ≡ t → (1 ≤ sum_of xs f → (a : A) × Memᴰ a xs × (1 ≤ f a)) → (a : A) × Memᴰ a (x ∷ xs) × (1 ≤ f a)
      pick true e ih = (x, Memᴰ.head refl, omega (arith, ltb-true 0 (f x) e))
      pick false e ih =
          let more = ih (omega (arith, ltb-false 0 (f x) e)) in
          (more.0, Memᴰ.tail more.1, more.2)

  -- and there is no other one where the sum is 1
  pub list-one : (a b : A) (xs : List A) → sum_of xs f ≤ 1 → 1 ≤ f a → 1 ≤ f b → Memᴰ a xs → Memᴰ b xs → a ≡ b
  unfolding sum_of
  list-one a b [] l h k m n = absurd (Memᴰ.not-nil m)
  list-one a b (x ∷ xs) l h k m n = pick (Memᴰ.cases_cons m) (Memᴰ.cases_cons n) (list-one a b xs (omega arith) h k)
    where
      pick : (a ≡ x) ⊎ Memᴰ a xs → (b ≡ x) ⊎ Memᴰ b xs → (Memᴰ a xs → Memᴰ b xs → a ≡ b) → a ≡ b
      pick (inl p) (inl q) ih = p ∙ sym q
      pick (inl p) (inr q) ih = absurd (omega (arith, ap f p, list-member b xs q))
      pick (inr p) (inl q) ih = absurd (omega (arith, ap f q, list-member a xs p))
      pick (inr p) (inr q) ih = ih p q
