-- The symbols that some bits have: `is_symbol` is the constellation of an order. Assumes nothing.
use Prim.Native.Nat.{ℕ, ◌+◌, ◌/◌, ◌%◌, ◌^◌, ◌≤◌, ◌<◌}
use mathlib.Core.Path.{◌≡◌, refl, sym, ◌∙◌, subst}
use mathlib.Core.Bool.{Bool, true, false, ◌&&◌}
use native.Mathlib.Omega.{arith}
use lib.Dec.{T}
use lib.IntN.{ℤ, pos, negsuc, nat_abs}
use Rattle.base.specs.declared.Pair.{Pair}
use Rattle.base.specs.declared.Element.{Element}
use Rattle.base.specs.Bytes.{byte_of, signed_of, pair_of}
use Rattle.base.specs.Pairs.{Small}
use Rattle.modulation.specs.Symbols.{Order, modulation_symbol}
use Rattle.modulation.specs.Demapping.{level_bits, is_level, woven, number, Word, answer_of, demap_of}
use Rattle.modulation.specs.Marks.{is_symbol}
use Rattle.modulation.proofs.Levels.{level-nonzero}
use Rattle.modulation.proofs.Symbols.{answer_word, demap-symbol, demap-only, order_small}

each : (t u : Bool) → t && u ≡ true → (t ≡ true) × (u ≡ true)
each true u e = (refl, e)
each false u e = let f : ◌≡◌ {A = Bool} false true = e in absurd (subst T (sym f) tt)

is_true : (t : Bool) → T t → t ≡ true
is_true true h = refl
is_true false h = absurd h

is-so : {t : Bool} → t ≡ true → T t
is-so e = subst T (sym e) tt

-- where an element's pair is a symbol, both of its bytes are levels
pub known-each : (q : ℕ) (e : Element) → is_symbol q (pair_of e) ≡ true → (is_level (q / 2) (signed_of e.i) ≡ true) × (is_level (q / 2) (signed_of e.j) ≡ true)
unfolding is_symbol pair_of
known-each q e k = each (is_level (q / 2) (signed_of e.i)) (is_level (q / 2) (signed_of e.j)) k

-- ---- the test answers as demapping does
demapped : (q : ℕ) (d : Pair) → q % 2 ≡ 0 → demap_of q d ≡ answer_of (is_symbol q d) (number 2 (woven (level_bits (q / 2) d.re) (level_bits (q / 2) d.im)))
unfolding demap_of is_symbol
demapped q d even = let e : (q + 1) / 2 ≡ q / 2 = omega arith in rw e refl

answered : (t : Bool) (w : ℕ) → t ≡ true → answer_of t w ≡ Word w
answered t w e = rw e refl

pub symbol-known : (q w : ℕ) → Order q → is_symbol q (modulation_symbol q w) ≡ true
symbol-known q w o =
    let d = modulation_symbol q w in
    is_true (is_symbol q d) (answer_word (is_symbol q d) _ (w % 2 ^ q) (sym (demapped q d o.0) ∙ demap-symbol q w)).0

byte-nonzero : (z : ℤ) → nat_abs z ≤ 15 → 0 < nat_abs z → byte_of z ≡ 0 → ⊥
byte-nonzero (pos n) l h e = omega arith
byte-nonzero (negsuc n) l h e = omega arith

-- ---- a symbol that some bits have
module _ (q : ℕ) (d : Pair) (o : Order q) (known : is_symbol q d ≡ true) where
  pub word-of : (v : ℕ) × (demap_of q d ≡ Word v) × (v < 2 ^ q) × (modulation_symbol q v ≡ d)
  word-of =
      let v = number 2 (woven (level_bits (q / 2) d.re) (level_bits (q / 2) d.im)) in
      let e : demap_of q d ≡ Word v = demapped q d o.0 ∙ answered (is_symbol q d) v known in
      let l = demap-only q d v e in
      (v, e, l.1, l.0)

  pub small : Small 15 d
  small = let v = word-of in subst (Small 15) v.3 (order_small q v.0 o)

  pub levels-nonzero : (byte_of d.re ≡ 0 → ⊥) × (byte_of d.im ≡ 0 → ⊥)
  unfolding is_symbol
  levels-nonzero =
      let k = each (is_level (q / 2) d.re) (is_level (q / 2) d.im) known in
      let n : 0 < q / 2 = omega (arith, o) in (
        byte-nonzero d.re small.0 (level-nonzero (q / 2) d.re n (is-so k.0)),
        byte-nonzero d.im small.1 (level-nonzero (q / 2) d.im n (is-so k.1)),
      )
