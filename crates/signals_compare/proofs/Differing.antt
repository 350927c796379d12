-- THE LAWS OF BITS THAT DIFFER: they are an instance of what loops over a grid's elements share, the state being the bits so far; a
-- reference value as a number; and none differs just when a symbol's values, none of whose bytes is 0, stand in the grid. Assumes nothing.
use Prim.Native.Nat.{ℕ, zero, suc, ◌+◌, ◌-◌, ◌*◌, ◌/◌, ◌%◌, ◌≤◌, ◌<◌}
use mathlib.Core.Path.{◌≡◌, refl, sym, ap, ◌∙◌}
use mathlib.Core.Bool.{Bool, true, false, ◌||◌}
use mathlib.Core.List.{List}
use native.Mathlib.Omega.{arith}
use lib.Bits.{bit_or, bit_xor}
use lib.Dec.{eqb}
use lib.IntN.{pos}
use lib.ListN.{length}
use mathlib.Core.Logic.{◌⊎◌, inl, inr}
use borrow.Author.Tests.{eqb-true, eq-eqb}
use Rattle.base.proofs.Tests.{clash, or_left, or_right}
use Rattle.base.specs.declared.Element.{Element}
use Rattle.base.specs.Signs.{flip}
use Rattle.base.specs.Bytes.{element_of}
use Rattle.gold.specs.declared.Registers.{Registers}
use Rattle.codeword.specs.Streams.{outputs}
use Rattle.crs.specs.Crs.{word_value}
use Rattle.grid.specs.Elements.{element_in}
use Rattle.grid.proofs.Accumulating.{Deed, Accumulates}
use Rattle.std.specs.Prelude.{Some, None}
use Rattle.compare.specs.Comparing.{nonzero, weight_of, weight_in, Compared}
use Rattle.compare.proofs.Comparing.{weight-same, weight-or, weight-none, weight-one, holds_of, differs, holds-less, holds-both, holds-old, holds-new}
use Rattle.element_pairs.specs.Numbers.{element_from, OneRead}
use Rattle.element_pairs.proofs.Puts.{or-none, none_or, none-same, same_none}
use Rattle.signals.specs.Signals.{crs_from}
use Rattle.signals.specs.Rows.{every_sixth, pair_sent, on_first, on_both, first_of, last_of, on_each, EachIn}
use Rattle.signals.proofs.Stretches.{sixth-of, sixth-none, sixth-one, sixth-past, sixth-both, on-own}
use Rattle.signals_compare.specs.Differing.{Differing}

abbrev pub DifferingIn : List ℕ → Deed ℕ
DifferingIn g D W bits = Differing D W g bits

-- the bits in which further elements differ, and those of both
pub record AlsoDiffering (g : List ℕ) (D : ℕ → Bool) (W : ℕ → Element) (bits next : ℕ) : Type 0 where
  pub part : ℕ
  pub differing : Differing D W g part
  pub either : next ≡ bit_or bits part

nothing : (W : ℕ → Element) (g : List ℕ) → Differing (λ (e : ℕ). false) W g 0
nothing W g = record { none = λ z. record { elements = λ e t. clash t refl }; same = λ t. refl }

same :
    {D D' : ℕ → Bool} {W W' : ℕ → Element} {g : List ℕ} {bits : ℕ} → ((e : ℕ) → D e ≡ D' e) → ((e : ℕ) → D e ≡ true → W e ≡ W' e)
    → Differing D W g bits → Differing D' W' g bits
same d v p =
    record {
      none = λ z. holds-less (λ e k. d e ∙ k) (λ e k. v e (d e ∙ k)) (p.none z);
      same = λ h. p.same (holds-less (λ e k. sym (d e) ∙ k) (λ e k. sym (v e k)) h);
    }

more :
    {D₁ D₂ D : ℕ → Bool} {W W₂ : ℕ → Element} {g : List ℕ} {a b : ℕ} → Differing D₁ W g a → Differing D₂ W₂ g b → ((e : ℕ) → D₂ e ≡ true → W₂ e ≡ W e)
    → ((e : ℕ) → D e ≡ D₂ e || D₁ e) → Differing D W g (bit_or a b)
more {D₁ = D₁} {D₂} {a = a} {b} p q v d =
    record {
      none = λ z. let n = or-none a b z in holds-both D₁ D₂ v d (p.none n.0) (q.none n.1);
      same = λ h. none_or a b (p.same (holds-old D₁ D₂ v d h)) (q.same (holds-new D₁ D₂ v d h));
    }

pub differing : (g : List ℕ) → Accumulates (DifferingIn g) (AlsoDiffering g) 0
differing g = record { nothing = λ W. nothing W g; same = λ d v p. same d v p; more = λ a p k v d. rw k.either (more p k.differing v d) }

pub also-differing : {g : List ℕ} {D : ℕ → Bool} {W : ℕ → Element} {bits part : ℕ} → Differing D W g part → AlsoDiffering g D W bits (bit_or bits part)
also-differing {part = part} p = record { part = part; differing = p; either = refl }

-- one element beside a number
pub numbered : {g : List ℕ} (e : ℕ) {x v : ℕ} → OneRead (3 * e) g x → v < 16777216 → Differing (eqb e) (λ (k : ℕ). element_from v) g (bit_xor x v)
numbered {g} e {v = v} p l =
    record {
      none = λ z. record { elements = λ k t. ap (element_in g) (sym (eqb-true e k t)) ∙ none-same e v p z };
      same = λ h. same_none e v p l (h.elements e (eq-eqb e e refl));
    }

-- ---- a reference value as a number
pub number_is : (two : ℕ) → element_from (65794 + two / 2 % 2 * 65024 + two % 2 * 16646144) ≡ element_of 2 (word_value (two % 4))
unfolding word_value element_from element_of
number_is two =
    let a : two % 4 / 2 ≡ two / 2 % 2 = omega arith in
    let b : two % 4 % 2 ≡ two % 2 = omega arith in
    rw (a, b) (bits (two / 2 % 2) (two % 2) (omega arith) (omega arith))
  where
    bits : (a b : ℕ) → a < 2 → b < 2 → element_from (65794 + a * 65024 + b * 16646144) ≡ element_of 2 (record { re = flip a (pos 1); im = flip b (pos 1) })
    bits zero zero l k = refl
    bits zero (suc zero) l k = refl
    bits (suc zero) zero l k = refl
    bits (suc zero) (suc zero) l k = refl
    bits zero (suc (suc b)) l k = absurd (omega arith)
    bits (suc zero) (suc (suc b)) l k = absurd (omega arith)
    bits (suc (suc a)) b l k = absurd (omega arith)

-- ---- every value has three bytes that are not 0
value-weight : (a b : ℕ) → weight_of (element_of 2 (record { re = flip a (pos 1); im = flip b (pos 1) })) ≡ 3
unfolding weight_of element_of nonzero
value-weight zero zero = refl
value-weight zero (suc b) = refl
value-weight (suc a) zero = refl
value-weight (suc a) (suc b) = refl

pub sixth-weight :
    (g : List ℕ) (first n : ℕ) → 3 * (first + 6 * n) + 2 < length g + 18 → ((e : ℕ) → every_sixth first n e ≡ true → weight_of (element_in g e) ≡ 3)
    → weight_in (every_sixth first n) g (length g / 3) ≡ 3 * n
sixth-weight g first zero l w = weight-none g (every_sixth first 0) (length g / 3) (λ e k t. clash t (sixth-none first e))
sixth-weight g first (suc n) l w =
    let N = length g / 3 in
    let new = first + 6 * n in
    let s : suc n ≡ n + 1 = omega arith in
    let d : (e : ℕ) → every_sixth first (suc n) e ≡ eqb new e || every_sixth first n e = λ e. rw s (sixth-one first n e) in
    let sum = weight-same g (every_sixth first (suc n)) (λ (e : ℕ). eqb new e || every_sixth first n e) N (λ e k. d e)
    ∙ weight-or g (every_sixth first n) (eqb new) N (λ e k. sixth-past first n e) in
    let old = sixth-weight g first n (omega arith) (λ e t. w e (d e ∙ or_right (eqb new e) (every_sixth first n e) t)) in
    let one = weight-one g new N (omega arith) ∙ w new (d new ∙ or_left (eqb new new) (every_sixth first n new) (eq-eqb new new refl)) in
    omega (arith, sum, old, one)

-- on two ports twice as many
pub both-weight :
    (g : List ℕ) (first second n : ℕ) → first + 6 * n ≤ second → 3 * (second + 6 * n) + 2 < length g + 18
    → ((e : ℕ) → on_both first second (every_sixth first n) e ≡ true → weight_of (element_in g e) ≡ 3) → weight_in (on_both first second (every_sixth first n)) g (length g / 3) ≡ 6 * n
both-weight g first second n apart l w =
    let N = length g / 3 in
    let one = every_sixth first n in
    let other = every_sixth second n in
    let d : (e : ℕ) → one (on_first first second e) ≡ other e || one e = λ e. sixth-both first second first second n e (omega arith) (omega arith) apart in
    let sum = weight-same g (on_both first second one) (λ (e : ℕ). other e || one e) N (λ e k. d e)
    ∙ weight-or g one other N (λ e k h t. let a = sixth-of first n e h in let b = sixth-of second n e t in omega arith) in
    omega (
      arith,
      sum,
      sixth-weight g first n (omega arith) (λ e t. w e (d e ∙ or_right (other e) (one e) t)),
      sixth-weight g second n l (λ e t. w e (d e ∙ or_left (other e) (one e) t)),
    )

-- and on each port that sends
pub each-weight :
    {firsts g : List ℕ} {n : ℕ} → EachIn firsts n g → ((e : ℕ) → on_each firsts (every_sixth (first_of firsts) n) e ≡ true → weight_of (element_in g e) ≡ 3)
    → weight_in (on_each firsts (every_sixth (first_of firsts) n)) g (length g / 3) ≡ 3 * n * length firsts
each-weight {firsts} {g} {n} r w = pick r.ports
  where
    pick : (length firsts ≡ 1) ⊎ (length firsts ≡ 2) → weight_in (on_each firsts (every_sixth (first_of firsts) n)) g (length g / 3) ≡ 3 * n * length firsts
    pick (inl h) =
        let j : length firsts - 1 ≡ 0 = omega arith in
        let own : (e : ℕ) → on_each firsts (every_sixth (first_of firsts) n) e ≡ every_sixth (first_of firsts) n e = λ e. rw j (ap (every_sixth (first_of firsts) n) (on-own (first_of firsts) e)) in
        weight-same g (on_each firsts (every_sixth (first_of firsts) n)) (every_sixth (first_of firsts) n) (length g / 3) (λ e l. own e)
        ∙ sixth-weight g (first_of firsts) n (rw j at r.inside) (λ e t. w e (own e ∙ t)) ∙ rw h (omega arith)
    pick (inr h) = both-weight g (first_of firsts) (last_of firsts) n (r.apart h) r.inside w ∙ rw h (omega arith)

pub pair-weight : (r : Registers) (first e : ℕ) → weight_of (pair_sent r first e) ≡ 3
unfolding pair_sent crs_from
pair-weight r first e = let i = 2 * ((e - first) / 6) in value-weight (outputs r i) (outputs r (i + 1))

-- all values are compared
module _ {D : ℕ → Bool} {W : ℕ → Element} {g : List ℕ} {bits : ℕ} (d : Differing D W g bits) where
  pub all_same : (k : ℕ) → ((e : ℕ) → weight_of (W e) ≡ 3) → (((e : ℕ) → D e ≡ true → weight_of (element_in g e) ≡ 3) → weight_in D g (length g / 3) ≡ k)
      → bits ≡ 0 → Compared D W g (Some k)
  all_same k three sum z = let h = d.none z in holds_of h (sym (sum (λ e t. ap weight_of (h.elements e t) ∙ three e)))

  pub some-differ : (bits ≡ 0 → ⊥) → Compared D W g None
  some-differ z = differs (λ k. z (d.same k))
