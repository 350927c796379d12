-- THE LAWS OF PARTS: the elements of a channel's places by their indices. A part of none, two parts one after the other, all of it, a pair of
-- places on two ports, one place on one port. Whatever is done with the elements, writing, comparing or reading, goes by these. Assumes
-- nothing.
use Prim.Native.Nat.{ℕ, ◌+◌, ◌*◌, ◌/◌, ◌%◌, ◌≤◌, ◌<◌}
use mathlib.Core.Path.{◌≡◌, refl, sym, ap, ◌∙◌}
use mathlib.Core.Bool.{Bool, true, false, ◌&&◌, ◌||◌}
use mathlib.Core.Logic.{◌⊎◌, inl, inr, ⊎_elim}
use native.Mathlib.Nat.{mod-lt}
use native.Mathlib.Decide.{dec_le}
use native.Mathlib.Omega.{arith}
use lib.Dec.{leb, eqb}
use borrow.Author.Tests.{le-leb, lt-ltb, leb-true, ltb-true, eq-eqb, eqb-true}
use Rattle.base.proofs.Tests.{clash, both, same_test, or_cases, or_left, or_right}
use Rattle.precoding.specs.Places.{own_port, other_port}
use Rattle.base.specs.Counts.{cnt}
use Rattle.base.proofs.Counts.{cnt-lt}
use Rattle.grid.specs.Writing.{sends}
use Rattle.grid.proofs.Sending.{element-is}
use Rattle.walk.specs.Parts.{own_sends, sent_part}

first-true : (a b : Bool) → a && b ≡ true → a ≡ true
first-true true b h = refl
first-true false b h = h

second-true : (a b : Bool) → a && b ≡ true → b ≡ true
second-true true b h = h
second-true false b h = clash h refl

-- two own places with one index are one place
pub same_place : (own : ℕ → Bool) (x y : ℕ) → own x ≡ true → own y ≡ true → cnt own x ≡ cnt own y → x ≡ y
same_place own x y a b e = pick (dec_le x y) (dec_le y x)
  where
    pick : Dec (x ≤ y) → Dec (y ≤ x) → x ≡ y
    pick (yes f) (yes g) = omega arith
    pick (yes f) (no g) = absurd (omega (arith, cnt-lt own x y a (omega arith)))
    pick (no f) g = absurd (omega (arith, cnt-lt own y x b (omega arith)))

module _ (own : ℕ → Bool) (P T : ℕ) where
  abbrev index : ℕ → ℕ
  index e = cnt own (e % T)

  -- an element of a part, and its index
  pub part-is : (j n e : ℕ) → sent_part own P T j n e ≡ true → (own_sends own P T e ≡ true) × (j ≤ index e) × (index e < j + n)
  unfolding sent_part
  part-is j n e h =
      let r = second-true (own_sends own P T e) _ h in
      (first-true (own_sends own P T e) _ h, leb-true j _ (first-true (leb j (index e)) _ r), ltb-true _ (j + n) (second-true (leb j (index e)) _ r))

  pub part_of : (j n e : ℕ) → own_sends own P T e ≡ true → j ≤ index e → index e < j + n → sent_part own P T j n e ≡ true
  unfolding sent_part
  part_of j n e s l m = both s (both (le-leb j (index e) l) (lt-ltb (index e) (j + n) m))

  pub part_none : (j e : ℕ) → false ≡ sent_part own P T j 0 e
  part_none j e = same_test false (sent_part own P T j 0 e) (λ h. clash h refl) (λ h. let p = part-is j 0 e h in absurd (omega arith))

  pub part_join : (j n m e : ℕ) → sent_part own P T j (n + m) e ≡ sent_part own P T (j + n) m e || sent_part own P T j n e
  part_join j n m e =
      same_test (sent_part own P T j (n + m) e) (sent_part own P T (j + n) m e || sent_part own P T j n e)
      (λ h. let p = part-is j (n + m) e h in split p (dec_le (j + n) (index e)))
      (λ h. join (or_cases (sent_part own P T (j + n) m e) (sent_part own P T j n e) h))
    where
      split : (own_sends own P T e ≡ true) × (j ≤ index e) × (index e < j + (n + m)) → Dec (j + n ≤ index e) → sent_part own P T (j + n) m e || sent_part own P T j n e ≡ true
      split p (yes d) = or_left (sent_part own P T (j + n) m e) (sent_part own P T j n e) (part_of (j + n) m e p.0 d (omega (arith, p.2)))
      split p (no d) = or_right (sent_part own P T (j + n) m e) (sent_part own P T j n e) (part_of j n e p.0 p.1 (omega arith))

      join : (sent_part own P T (j + n) m e ≡ true) ⊎ (sent_part own P T j n e ≡ true) → sent_part own P T j (n + m) e ≡ true
      join (inl h) = let p = part-is (j + n) m e h in part_of j (n + m) e p.0 (omega (arith, p.1)) (omega (arith, p.2))
      join (inr h) = let p = part-is j n e h in part_of j (n + m) e p.0 p.1 (omega (arith, p.2))

  pub part-all : 0 < T → (e : ℕ) → sent_part own P T 0 (cnt own T) e ≡ own_sends own P T e
  unfolding own_sends
  part-all some e =
      same_test (sent_part own P T 0 (cnt own T) e) (own_sends own P T e)
      (λ h. (part-is 0 (cnt own T) e h).0)
      (λ h. part_of 0 (cnt own T) e h (omega arith) (omega (arith, cnt-lt own (e % T) T (first-true (own (e % T)) _ h) (mod-lt e some))))

  -- the element of a port at a place
  is_at : (q t e : ℕ) → t < T → eqb (q * T + t) e ≡ true → (e % T ≡ t) × (e / T ≡ q)
  is_at q t e l h =
      let a = sym (element-is T q t e l) ∙ h in
      (eqb-true (e % T) t (first-true (eqb (e % T) t) _ a), eqb-true (e / T) q (second-true (eqb (e % T) t) _ a))

  at-is : (q t e : ℕ) → t < T → e % T ≡ t → e / T ≡ q → eqb (q * T + t) e ≡ true
  at-is q t e l a b = element-is T q t e l ∙ both (eq-eqb (e % T) t a) (eq-eqb (e / T) q b)

  -- ---- one place
  module _ (t j : ℕ) (l : t < T) (is : own t ≡ true) (at_j : cnt own t ≡ j) where
    sent-here : (e : ℕ) → e % T ≡ t → own_sends own P T e ≡ sends P (j / 2 % 2) (e / T)
    unfolding own_sends
    sent-here e h = rw (h, is, at_j) refl

    here : (e : ℕ) → own_sends own P T e ≡ true → index e ≡ j → e % T ≡ t
    unfolding own_sends
    here e h i = same_place own (e % T) t (first-true (own (e % T)) _ h) is (i ∙ sym at_j)

    pub part-place :
        (e : ℕ)
        → sent_part own P T j 1 e ≡ eqb (own_port P (j / 2 % 2) * T + t) e || eqb (other_port P (j / 2 % 2) * T + t) e
    unfolding sends
    part-place e =
        same_test (sent_part own P T j 1 e) (eqb (A * T + t) e || eqb (B * T + t) e)
        (λ h. let p = part-is j 1 e h in
        let x = here e p.0 (omega (arith, p.1, p.2)) in
        ⊎_elim
        (λ y. or_left (eqb (A * T + t) e) (eqb (B * T + t) e) (at-is A t e l x (eqb-true (e / T) A y)))
        (λ y. or_right (eqb (A * T + t) e) (eqb (B * T + t) e) (at-is B t e l x (eqb-true (e / T) B y)))
        (or_cases (eqb (e / T) A) (eqb (e / T) B) (sym (sent-here e x) ∙ p.0)))
        (λ h. ⊎_elim
        (λ y. let z = is_at A t e l y in back e z.0 (or_left (eqb (e / T) A) (eqb (e / T) B) (eq-eqb (e / T) A z.1)))
        (λ y. let z = is_at B t e l y in back e z.0 (or_right (eqb (e / T) A) (eqb (e / T) B) (eq-eqb (e / T) B z.1)))
        (or_cases (eqb (A * T + t) e) (eqb (B * T + t) e) h))
      where
        A : ℕ
        A = own_port P (j / 2 % 2)

        B : ℕ
        B = other_port P (j / 2 % 2)

        back : (e : ℕ) → e % T ≡ t → eqb (e / T) A || eqb (e / T) B ≡ true → sent_part own P T j 1 e ≡ true
        back e x y = part_of j 1 e (sent-here e x ∙ y) (omega (arith, ap (cnt own) x)) (omega (arith, ap (cnt own) x))
