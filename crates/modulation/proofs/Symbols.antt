-- THE LAWS OF SYMBOLS, for every order: a word comes back from its symbol, and from no other. Assumes nothing.
use Prim.Native.Nat.{ℕ, ◌+◌, ◌-◌, ◌*◌, ◌/◌, ◌%◌, ◌^◌, ◌≤◌, ◌<◌}
use mathlib.Core.Path.{◌≡◌, refl, sym, ap, ap₂, ◌∙◌}
use mathlib.Core.Bool.{Bool, true, false, ◌&&◌}
use mathlib.Core.List.{List}
use mathlib.Core.Logic.{◌↔◌}
use native.Mathlib.Nat.{mod-eq_of_lt}
use native.Mathlib.Omega.{arith}
use lib.Dec.{T}
use lib.Ieee.Fits.{and_l, and_r}
use lib.ListN.{length}
use lib.Pow.{pow_mono}
use Rattle.base.specs.declared.Pair.{Pair}
use Rattle.base.specs.Pairs.{Small}
use Rattle.base.proofs.Pairs.{pair-of}
use Rattle.modulation.specs.Symbols.{Order, bits_of, evens, odds, level, modulation_symbol}
use Rattle.modulation.specs.Demapping.{level_bits, is_level, woven, number, Demapped, Word, NoLevel, answer_of, demap_of}
use Rattle.modulation.proofs.Levels.{Bits, level-small, levels, is-level, level-back, bits-length, bits-bits}
use Rattle.modulation.proofs.Words.{word-length, word-bits, number_word, number_small, word_number}
use Rattle.modulation.proofs.Places.{evens-bits, odds-bits, evens-length, odds-length, rejoined, Apart, apart, woven-bits}

-- ---- answers
answer-yes : (t u : Bool) (w : ℕ) → T t → T u → answer_of (t && u) w ≡ Word w
answer-yes true true w p r = refl
answer-yes true false w p r = absurd r
answer-yes false u w p r = absurd p

pub answer_word : (t : Bool) (v w : ℕ) → answer_of t v ≡ Word w → T t × (v ≡ w)
answer_word true v w e = (tt, cc)
answer_word false v w e = let z : ◌≡◌ {A = ℕ} 0 1 = cc in absurd (omega arith)

word_same : (v w : ℕ) → ◌≡◌ {A = Demapped} (Word v) (Word w) → v ≡ w
word_same v w e = cc

word-never : (w : ℕ) → ◌≡◌ {A = Demapped} (Word w) NoLevel → ⊥
word-never w e = let z : ◌≡◌ {A = ℕ} 0 1 = cc in omega arith

refused : (d : Demapped) → ((w : ℕ) → d ≡ Word w → ⊥) → d ≡ NoLevel
refused (Word w) h = absurd (h w refl)
refused NoLevel h = refl

-- ---- a level that some bits have, with the number of them given apart
level-told : (n : ℕ) (bs : List ℕ) → length bs ≡ n → Bits bs → T (is_level n (level bs)) × (level_bits n (level bs) ≡ bs)
level-told n bs e ok = rw (sym e) (is-level bs ok, levels bs ok)

-- ---- from a word
pub demap-symbol : (q w : ℕ) → demap_of q (modulation_symbol q w) ≡ Word (w % 2 ^ q)
unfolding demap_of modulation_symbol
demap-symbol q w =
    let bs = bits_of q w in
    let n = word-length q w in
    let i = level-told ((q + 1) / 2) (evens bs) (evens-length bs ∙ ap (λ (k : ℕ). (k + 1) / 2) n) (evens-bits bs (word-bits q w)) in
    let j = level-told (q / 2) (odds bs) (odds-length bs ∙ ap (λ (k : ℕ). k / 2) n) (odds-bits bs (word-bits q w)) in
    answer-yes (is_level ((q + 1) / 2) (level (evens bs))) (is_level (q / 2) (level (odds bs))) _ i.0 j.0
    ∙ ap Word (ap (number 2) (ap₂ woven i.1 j.1 ∙ rejoined bs) ∙ number_word q w)

pub demap-back : (q w : ℕ) → w < 2 ^ q → demap_of q (modulation_symbol q w) ≡ Word w
demap-back q w h = demap-symbol q w ∙ ap Word (mod-eq_of_lt h)

pub symbol-injective : (q v w : ℕ) → v < 2 ^ q → w < 2 ^ q → modulation_symbol q v ≡ modulation_symbol q w → v ≡ w
symbol-injective q v w hv hw e = word_same v w (sym (demap-back q v hv) ∙ ap (demap_of q) e ∙ demap-back q w hw)

-- ---- from a pair of levels
module _ (q : ℕ) (p : Pair) where
  even-bits : List ℕ
  even-bits = level_bits ((q + 1) / 2) p.re

  odd-bits : List ℕ
  odd-bits = level_bits (q / 2) p.im

  joined : Apart even-bits odd-bits
  unfolding even-bits odd-bits
  joined =
      let e = bits-length ((q + 1) / 2) p.re in
      let o = bits-length (q / 2) p.im in
      apart _ _ (omega arith) (omega arith)

  joined_length : length (woven even-bits odd-bits) ≡ q
  unfolding even-bits odd-bits
  joined_length = omega (arith, joined.count, bits-length ((q + 1) / 2) p.re, bits-length (q / 2) p.im)

  joined-bits : Bits (woven even-bits odd-bits)
  unfolding even-bits odd-bits
  joined-bits = woven-bits _ _ (bits-bits ((q + 1) / 2) p.re) (bits-bits (q / 2) p.im)

  word-of : bits_of q (number 2 (woven even-bits odd-bits)) ≡ woven even-bits odd-bits
  word-of = ap (λ (n : ℕ). bits_of n (number 2 (woven even-bits odd-bits))) (sym joined_length) ∙ word_number (woven even-bits odd-bits) joined-bits

  pub demap-only : (w : ℕ) → demap_of q p ≡ Word w → (modulation_symbol q w ≡ p) × (w < 2 ^ q)
  unfolding demap_of modulation_symbol even-bits odd-bits
  demap-only w e =
      let t = is_level ((q + 1) / 2) p.re in
      let u = is_level (q / 2) p.im in
      let a = answer_word (t && u) _ w e in
      let s : modulation_symbol q (number 2 (woven even-bits odd-bits)) ≡ p =
      pair-of
      (ap (λ (bs : List ℕ). level (evens bs)) word-of ∙ ap level joined.even ∙ level-back ((q + 1) / 2) p.re (and_l t u a.0))
      (ap (λ (bs : List ℕ). level (odds bs)) word-of ∙ ap level joined.odd ∙ level-back (q / 2) p.im (and_r t u a.0)) in
      let l : number 2 (woven even-bits odd-bits) < 2 ^ q = rw joined_length at (number_small (woven even-bits odd-bits) joined-bits) in
      (rw a.1 at s, rw a.1 at l)

-- no word at all has a pair that is refused
pub no-level : (q : ℕ) (p : Pair) → (demap_of q p ≡ NoLevel) ↔ ((w : ℕ) → modulation_symbol q w ≡ p → ⊥)
no-level q p = (
  (λ e w s. word-never (w % 2 ^ q) (sym (demap-symbol q w) ∙ ap (demap_of q) s ∙ e)),
  (λ h. refused (demap_of q p) (λ w e. h w (demap-only q p w e).0)),
)

-- ---- sizes
pub symbol-small : (m q w : ℕ) → q ≤ 2 * m → Small (2 ^ m - 1) (modulation_symbol q w)
unfolding modulation_symbol
symbol-small m q w h =
    let bs = bits_of q w in
    let n = word-length q w in
    let i : 2 ^ length (evens bs) ≤ 2 ^ m = pow_mono (omega (arith, evens-length bs)) in
    let j : 2 ^ length (odds bs) ≤ 2 ^ m = pow_mono (omega (arith, odds-length bs)) in
    (omega (arith, level-small (evens bs)), omega (arith, level-small (odds bs)))

pub order_small : (q w : ℕ) → Order q → Small 15 (modulation_symbol q w)
order_small q w o = symbol-small 4 q w o.2
