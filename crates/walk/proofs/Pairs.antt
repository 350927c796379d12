-- THE LAWS OF PAIRS: a pair of a channel's places on two ports written as two numbers, and parts one after the other. They hold for any values W of the elements. Assumes nothing.
use Prim.Native.Nat.{ℕ, ◌+◌, ◌*◌, ◌/◌, ◌%◌, ◌<◌}
use mathlib.Core.Path.{◌≡◌, refl, sym, ap, ap₂, ◌∙◌}
use mathlib.Core.Bool.{Bool, true, false, cond, ◌||◌}
use mathlib.Core.List.{List}
use native.Mathlib.Omega.{arith}
use lib.Dec.{eqb}
use borrow.Author.Tests.{eqb-true}
use Rattle.base.proofs.Tests.{by-test}
use Rattle.base.specs.declared.Element.{Element}
use Rattle.precoding.specs.Places.{own_port, other_port}
use Rattle.base.specs.Counts.{cnt}
use Rattle.grid.specs.Writing.{Written}
use Rattle.grid.proofs.Writing.{none, same, over}
use Rattle.element_pairs.specs.Numbers.{element_from, upper, TwoPut}
use Rattle.walk.specs.Parts.{own_sends, sent_part}
use Rattle.walk.proofs.Parts.{part_none, part_join, part-all, part-place}

-- ---- parts one after the other
module _ (own : ℕ → Bool) (P T : ℕ) (W : ℕ → Element) where
  pub written_none : (j : ℕ) (g : List ℕ) → Written (sent_part own P T j 0) W g g
  written_none j g = same (λ e. part_none own P T j e) (λ e d. refl) (none W g)

  pub written-join :
      {g h k : List ℕ} (j n m : ℕ) → Written (sent_part own P T j n) W g h → Written (sent_part own P T (j + n) m) W h k
      → Written (sent_part own P T j (n + m)) W g k
  written-join j n m p q = over p q (λ e d. refl) (λ e. part_join own P T j n m e)

  pub written_all : {g h : List ℕ} (n : ℕ) → 0 < T → n ≡ cnt own T → Written (sent_part own P T 0 n) W g h → Written (own_sends own P T) W g h
  written_all n some e p = same (λ x. ap (λ (y : ℕ). sent_part own P T 0 y x) e ∙ part-all own P T some x) (λ x d. refl) p

-- ---- a pair: places p and p + gap of the indices j and j + 1, where j is even
pub pair-value :
    (W : ℕ → Element) (gap : ℕ) (x y : Element) (a e : ℕ) → W a ≡ x → W (a + gap) ≡ y → eqb a e || eqb (a + gap) e ≡ true → cond (eqb a e) x y ≡ W e
pair-value W gap x y a e f s d =
    by-test (eqb a e)
    (λ q. rw q (sym f ∙ ap W (eqb-true a e q)))
    (λ q. let r : eqb (a + gap) e ≡ true = (rw q at d) in rw q (sym s ∙ ap W (eqb-true (a + gap) e r)))

pub swap : (a b : Bool) → a || b ≡ b || a
swap true true = refl
swap true false = refl
swap false true = refl
swap false false = refl

pub shuffle : (a b c d : Bool) → (a || b) || (c || d) ≡ (d || b) || (c || a)
shuffle true b c true = refl
shuffle true b c false = sym (ap (λ (x : Bool). b || x) (swap c true) ∙ swap b true)
shuffle false b c true = ap (λ (x : Bool). b || x) (swap c true) ∙ swap b true
shuffle false b c false = refl

-- the four elements' values, as two numbers
pub record PairHas (P T : ℕ) (W : ℕ → Element) (j p gap v w : ℕ) : Type 0 where
  pub own_first : W (own_port P (j / 2 % 2) * T + p) ≡ element_from v
  pub own-second : W (own_port P (j / 2 % 2) * T + p + gap) ≡ element_from (upper v)
  pub other-first : W (other_port P (j / 2 % 2) * T + p) ≡ element_from w
  pub other-second : W (other_port P (j / 2 % 2) * T + p + gap) ≡ element_from (upper w)

module _
    (own : ℕ → Bool) (P T j p gap : ℕ) (even : j % 2 ≡ 0) (first : own p ≡ true) (second : own (p + gap) ≡ true) (at_j : cnt own p ≡ j)
    (at_next : cnt own (p + gap) ≡ j + 1) (l : p + gap < T) where
  abbrev A : ℕ
  A = own_port P (j / 2 % 2) * T + p

  abbrev B : ℕ
  B = other_port P (j / 2 % 2) * T + p

  pair-part : (e : ℕ) → sent_part own P T j 2 e ≡ (eqb B e || eqb (B + gap) e) || (eqb A e || eqb (A + gap) e)
  pair-part e =
      let u : (j + 1) / 2 ≡ j / 2 = omega arith in
      let t : (j + 1) / 2 % 2 ≡ j / 2 % 2 = ap (λ (z : ℕ). z % 2) u in
      let x : own_port P (j / 2 % 2) * T + (p + gap) ≡ A + gap = omega arith in
      let y : other_port P (j / 2 % 2) * T + (p + gap) ≡ B + gap = omega arith in
      let q : sent_part own P T (j + 1) 1 e ≡ eqb (A + gap) e || eqb (B + gap) e =
      part-place own P T (p + gap) (j + 1) l second at_next e ∙ (rw (t, x, y) refl) in
      part_join own P T j 1 1 e
      ∙ ap₂ (λ (a b : Bool). a || b) q
      (part-place own P T p j (omega arith) first at_j e)
      ∙ shuffle (eqb (A + gap) e) (eqb (B + gap) e) (eqb A e) (eqb B e)

  module _ (W : ℕ → Element) {v w : ℕ} (h : PairHas P T W j p gap v w) where
    pub pair-written : {a b : ℕ} {g f k : List ℕ} → a ≡ 3 * A → b ≡ 3 * B → TwoPut gap a v g f → TwoPut gap b w f k → Written (sent_part own P T j 2) W g k
    pair-written {g = g} {f = f} ia ib r s =
        over (same (λ e. refl) (λ e d. pair-value W gap _ _ A e h.own_first h.own-second d) (r.written A ia)) (s.written B ib)
        (λ e d. pair-value W gap _ _ B e h.other-first h.other-second d) pair-part
