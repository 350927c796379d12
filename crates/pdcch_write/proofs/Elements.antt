-- THE LAWS OF CONTROL ELEMENTS: their quads, one after the other, their bits, and one element after the other. Assumes what writing them needs.
use Prim.Native.Nat.{ℕ, ◌+◌, ◌-◌, ◌*◌, ◌/◌, ◌%◌, ◌^◌, ◌≤◌, ◌<◌}
use mathlib.Core.Path.{◌≡◌, refl, sym, ap, ap₂, ◌∙◌, subst}
use mathlib.Core.Bool.{Bool, true, false, ◌||◌}
use mathlib.Core.List.{List}
use native.Mathlib.Omega.{arith}
use lib.Bits.{bit_xor}
use lib.ListN.{length, get_or, take, drop, length-drop}
use lib.Seq.{get_or-take, get_or-drop, length-take-le}
use borrow.Author.Tests.{ltb-true, ltb-false}
use Rattle.base.proofs.Tests.{by-test}
use Rattle.base.specs.declared.Pair.{Pair}
use Rattle.base.specs.Bits.{bit_at}
use Rattle.gold.specs.declared.Registers.{Registers}
use Rattle.gold.specs.Sequence.{binary}
use Rattle.gold.specs.Steps.{after, output_of, word_of}
use Rattle.gold.proofs.Binary.{binary-same}
use Rattle.gold.proofs.Laws.{after_none, after-after}
use Rattle.gold.proofs.Window.{Holds, exact}
use Rattle.modulation.specs.Symbols.{modulation_symbol}
use Rattle.codeword.specs.Codewords.{scrambled, data_symbol}
use Rattle.codeword.specs.Streams.{outputs, symbols_of}
use Rattle.codeword.specs.Bits48.{scrambled_bits}
use Rattle.codeword.proofs.Laws.{scrambled-lt}
use Rattle.codeword.proofs.Streams.{byte_word, more-word}
use Rattle.precoding.specs.Places.{on_port, partner_index}
use Rattle.plan.specs.Fields.{control_elements, region_groups}
use Rattle.plan.specs.declared.Cell.{Cell}
use Rattle.plan.specs.declared.Frame.{Frame}
use Rattle.places.specs.Places.{places_of}
use Rattle.grid.specs.Writing.{Written}
use Rattle.grid.proofs.Writing.{none, same, over}
use Rattle.data_write.proofs.Source.{SymbolsAt, first-symbols, next-symbols}
use Rattle.pdcch.specs.Block.{is_given, block_index, block_sends, block_with, block_bit, block_sent}
use Rattle.pdcch.specs.Groups.{GroupTable, RegionOf, gap_of}
use Rattle.pdcch_write.specs.declared.GroupPairs.{GroupPairs}
use Rattle.pdcch_write.specs.Quads.{pairs_of, QuadIn, QuadPut}
use Rattle.pdcch_write.specs.Filling.{quads_send, element_sent, nine_bytes, ElementIn, ElementPut, GivenPut, FillIn}
use Rattle.pdcch_write.proofs.Quads.{quad-inside, quad_is, first-pair, second-pair, quads-none, quads-more}
use Rattle.pdcch_write.proofs.Given.{given_below, of-element, given-none, given-more, given-skip, given-all}

-- an element's quads are the block's
inside : (c : Cell) (f : Frame) (e i : ℕ) → e < control_elements c f → i < 9 → 9 * e + i < region_groups c f
unfolding control_elements
inside c f e i l h = omega arith

-- ---- the quads of control element e: i of them are written, and s has given their bits
pub record QuadsDone (c : Cell) (groups : List ℕ) (e : ℕ) (bits : List ℕ) (r s : Registers) (i : ℕ) (before grid : List ℕ) : Type 0 where
  pub most : i ≤ 9
  pub given : s ≡ after r (8 * i)
  pub size : length grid ≡ length before
  pub written :
      (f : Frame) → RegionOf c f → GroupTable c f groups → e < control_elements c f → Written (quads_send c f (9 * e) i) (element_sent c f e bits r) before grid

pub quads-start : (c : Cell) (groups : List ℕ) (e : ℕ) (bits : List ℕ) (r : Registers) (grid : List ℕ) → QuadsDone c groups e bits r r 0 grid grid
quads-start c groups e bits r grid =
    record {
      most = omega arith;
      given = sym (after_none r);
      size = refl;
      written = λ f ok table l. same (λ x. quads-none c f ok (9 * e) x) (λ x h. refl) (none (element_sent c f e bits r) grid);
    }

-- byte i of nine, scrambled, has the symbols 4i to 4i + 3
module _ (bits : List ℕ) (r s : Registers) (i z : ℕ) (given : s ≡ after r (8 * i)) (ez : (z ≡ bit_xor (get_or bits i 0) (word_of s 8)) × (get_or bits i 0 < 256)) where
  byte-held : Holds (scrambled_bits bits r) (2 * (4 * i)) 8 z
  byte-held =
      let k : 8 * i ≡ 2 * (4 * i) = omega arith in
      exact (scrambled_bits bits r) (scrambled-lt (bit_at bits) (outputs r)) (2 * (4 * i)) 8 z
      (ez.0 ∙ ap₂ (λ (a : ℕ) (q : Registers). bit_xor a (word_of q 8)) (sym (byte_word bits i ez.1)) given ∙ more-word bits r (8 * i) 8
      ∙ ap (λ (j : ℕ). binary (scrambled_bits bits r) j 8) k)

  first_two : SymbolsAt 2 bits r (4 * i) (z / 4 / 4 / 4) (z / 4 / 4)
  first_two = first-symbols bits r 2 (4 * i) z byte-held

  last-two : SymbolsAt 2 bits r (4 * i + 2) (z / 4) z
  last-two = next-symbols bits r 2 (4 * i) z byte-held

module _
    {c : Cell} {groups : List ℕ} {e : ℕ} {bits : List ℕ} {r s : Registers} {i : ℕ} {before grid : List ℕ} (d : QuadsDone c groups e bits r s i before grid)
    (l : i < 9) {T six : ℕ} (et : T ≡ places_of c) (es : six ≡ gap_of c 0) {x : GroupPairs} (ex : x ≡ pairs_of (get_or groups (9 * e + i) 0) six) where
  pairs-are : x ≡ pairs_of (get_or groups (9 * e + i) 0) (gap_of c 0)
  pairs-are = ex ∙ ap (pairs_of (get_or groups (9 * e + i) 0)) es

  -- what `put_quad` requires
  pub quad-in : {t : List ℕ} → ElementIn c groups e t before → QuadIn c.ports T x t grid
  quad-in h =
      let q = quad-inside c h.frame h.region h.table (9 * e + i) (inside c h.frame e i h.inside l) in
      rw (et, pairs-are)
      (record {
        room = record { some = h.room.some; most = h.room.most; not_three = h.room.not_three; fits = h.room.fits; size = d.size ∙ h.room.size };
        table = h.symbols;
        some = q.0;
        near = q.1;
        first = q.2;
        second = q.3;
      })

  symbol-at : (w j m : ℕ) → modulation_symbol 2 w ≡ symbols_of 2 bits r j → m - 36 * e ≡ j → modulation_symbol 2 w ≡ symbols_of 2 bits r (m - 36 * e)
  symbol-at w j m h n = h ∙ ap (symbols_of 2 bits r) (sym n)

  -- one quad more
  module _ {z : ℕ} {k : List ℕ} (ez : (z ≡ bit_xor (get_or bits i 0) (word_of s 8)) × (get_or bits i 0 < 256)) (put : QuadPut c.ports T x z grid k) where
    put-at : QuadPut c.ports (places_of c) (pairs_of (get_or groups (9 * e + i) 0) (gap_of c 0)) z grid k
    put-at = subst (λ (y : GroupPairs). QuadPut c.ports (places_of c) y z grid k) pairs-are (subst (λ (y : ℕ). QuadPut c.ports y x z grid k) et put)

    more : (f : Frame) → RegionOf c f → GroupTable c f groups → e < control_elements c f → Written (quads_send c f (9 * e) (i + 1)) (element_sent c f e bits r) before k
    unfolding element_sent
    more f ok table m =
        let q = 9 * e + i in
        let y : ℕ → Pair = λ j. symbols_of 2 bits r (j - 36 * e) in
        let in-q = inside c f e i m l in
        let a = first_two bits r s i z d.given ez in
        let b = last-two bits r s i z d.given ez in
        over (d.written f ok table m)
        (put-at.written (block_with c f y)
        (first-pair c f ok table q in-q y (symbol-at (z / 4 / 4 / 4) (4 * i) (4 * q + 0) a.first (omega arith)) (symbol-at (z / 4 / 4) (4 * i + 1) (4 * q + 1) a.second (omega arith)))
        (second-pair c f ok table q in-q y (symbol-at (z / 4) (4 * i + 2) (4 * q + 2) b.first (omega arith)) (symbol-at z (4 * i + 2 + 1) (4 * q + 3) b.second (omega arith))))
        (λ v h. refl)
        (λ v. quads-more c f ok (9 * e) i v ∙ ap (λ (t : Bool). t || quads_send c f (9 * e) i v) (quad_is c f ok table q in-q v))

    pub quads-next : {s' : Registers} → s' ≡ after s 8 → QuadsDone c groups e bits r s' (i + 1) before k
    quads-next es' =
        let sum : 8 * i + 8 ≡ 8 * (i + 1) = omega arith in
        record {
          most = omega arith;
          given = es' ∙ ap (λ (y : Registers). after y 8) d.given ∙ after-after r (8 * i) 8 ∙ ap (after r) sum;
          size = put.size ∙ d.size;
          written = more;
        }

pub quads-end :
    {c : Cell} {groups : List ℕ} {e : ℕ} {bits : List ℕ} {r s : Registers} {i : ℕ} {before grid : List ℕ} → QuadsDone c groups e bits r s i before grid → 9 ≤ i
    → ElementPut c groups e bits r before grid × (s ≡ after r 72)
quads-end {c} {groups} {e} {bits} {r} {s} {i} {before} {grid} d l =
    let n : i ≡ 9 = omega (arith, d.most) in
    let h : QuadsDone c groups e bits r s 9 before grid = subst (λ (y : ℕ). QuadsDone c groups e bits r s y before grid) n d in
    (record { size = h.size; written = h.written }, h.given)

-- ---- a control element that may be given
module _ {b n : ℕ} (bits : List ℕ) (some : 1 ≤ n) (eb : b ≡ n - 1) (l : 9 * n ≤ length bits) where
  part-is : take (9 * b + 9 - 9 * b) (drop (9 * b) bits) ≡ nine_bytes bits n
  part-is =
      let e : 9 * b + 9 - 9 * b ≡ 9 = omega arith in
      let f : 9 * b ≡ 9 * n - 9 = omega arith in
      ap₂ (λ (x y : ℕ). take x (drop y bits)) e f

  pub nine-long : length (take (9 * b + 9 - 9 * b) (drop (9 * b) bits)) ≡ 9
  nine-long =
      let h : 9 ≤ length (drop (9 * n - 9) bits) = omega (arith, length-drop (9 * n - 9) bits) in
      ap length part-is ∙ length-take-le 9 (drop (9 * n - 9) bits) h

  pub given-put :
      {c : Cell} {groups : List ℕ} {e : ℕ} {r s : Registers} {before grid : List ℕ}
      → ElementPut c groups e (take (9 * b + 9 - 9 * b) (drop (9 * b) bits)) r before grid × (s ≡ after r 72) → GivenPut c groups e n bits r before grid × (s ≡ after r 72)
  given-put {c} {groups} {e} {r} {s} {before} {grid} p =
      (record { none = λ z. absurd (omega arith); some = λ z. subst (λ (y : List ℕ). ElementPut c groups e y r before grid) part-is p.0 }, p.1)

pub given-passed :
    {c : Cell} {groups : List ℕ} {e n : ℕ} {bits : List ℕ} {r s : Registers} {grid : List ℕ} → (1 ≤ n → ⊥) → s ≡ after r 72
    → GivenPut c groups e n bits r grid grid × (s ≡ after r 72)
given-passed none es = (record { none = λ y. refl; some = λ y. absurd (none y) }, es)

-- ---- the control elements: those below n are written where they are given, and s has given the bits of all of them
pub record ElementsDone (c : Cell) (elements : ℕ) (groups from bits : List ℕ) (r s : Registers) (n : ℕ) (before grid : List ℕ) : Type 0 where
  pub most : n ≤ elements
  pub given : s ≡ after r (72 * n)
  pub size : length grid ≡ length before
  pub written :
      (f : Frame) → RegionOf c f → GroupTable c f groups → elements ≡ control_elements c f → Written (given_below c f from n) (block_sent c f from bits r) before grid

-- the bits of control element n, and its symbols
outputs-after : (r : Registers) (n i : ℕ) → outputs (after r n) i ≡ outputs r (n + i)
unfolding outputs
outputs-after r n i = ap output_of (after-after r n i)

-- the two symbols of a pair are one control element's
beside : (j : ℕ) → partner_index j / 36 ≡ j / 36
beside j =
    let u : partner_index j / 2 ≡ j / 2 = omega arith in
    let v : (y : ℕ) → y / 36 ≡ y / 2 / 18 = λ y. omega arith in
    v (partner_index j) ∙ ap (λ (y : ℕ). y / 18) u ∙ sym (v j)

module _ (from bits : List ℕ) (r s : Registers) (n : ℕ) (given : s ≡ after r (72 * n)) (some : 1 ≤ get_or from n 0) where
  abbrev part : List ℕ
  part = nine_bytes bits (get_or from n 0)

  bit_is : (i m : ℕ) → i < 72 → m ≡ 72 * n + i → bit_at part i ≡ block_bit from bits m
  unfolding bit_at block_bit
  bit_is i m l h =
      let a : ℕ = 9 * get_or from n 0 - 9 in
      let q : m / 72 ≡ n = omega arith in
      let k : ℕ = 72 * (get_or from n 0 - 1) + m % 72 in
      let byte : a + i / 8 ≡ k / 8 = omega arith in
      let low : i % 8 ≡ k % 8 = omega arith in
      let b : get_or part (i / 8) 0 ≡ get_or bits (k / 8) 0 =
      get_or-take 9 (drop a bits) (i / 8) 0 (omega arith) ∙ get_or-drop a bits (i / 8) 0 ∙ ap (λ (x : ℕ). get_or bits x 0) byte in
      (λ t. b t / 2 ^ (7 - low t) % 2) ∙ ap (λ (x : ℕ). get_or bits ((72 * (get_or from x 0 - 1) + m % 72) / 8) 0 / 2 ^ (7 - (72 * (get_or from x 0 - 1) + m % 72) % 8) % 2) (sym q)

  output-is : (i m : ℕ) → m ≡ 72 * n + i → outputs s i ≡ outputs r m
  output-is i m h = ap (λ (y : Registers). outputs y i) given ∙ outputs-after r (72 * n) i ∙ ap (outputs r) (sym h)

  symbol-is : (j : ℕ) → j / 36 ≡ n → symbols_of 2 part s (j - 36 * n) ≡ data_symbol 2 (block_bit from bits) (outputs r) j
  unfolding symbols_of data_symbol scrambled
  symbol-is j h =
      ap (modulation_symbol 2)
      (binary-same (scrambled (bit_at part) (outputs s)) (scrambled (block_bit from bits) (outputs r)) (2 * (j - 36 * n)) (2 * j) 2
      (λ i l.
      let m : 2 * j + i ≡ 72 * n + (2 * (j - 36 * n) + i) = omega arith in
      ap₂ (λ (a b : ℕ). (a + b) % 2) (bit_is (2 * (j - 36 * n) + i) (2 * j + i) (omega arith) m) (output-is (2 * (j - 36 * n) + i) (2 * j + i) m)))

  value-is :
      (c : Cell) (f : Frame) (e : ℕ) → block_index c f (e % places_of c) / 36 ≡ n
      → element_sent c f n part s e ≡ block_sent c f from bits r e
  unfolding element_sent block_sent block_with
  value-is c f e h =
      let j = block_index c f (e % places_of c) in
      let o : partner_index j / 36 ≡ n = beside j ∙ h in
      ap₂ (λ (a b : Pair). on_port c.ports (j / 2 % 2) 2 (j % 2) a b (e / places_of c)) (symbol-is j h) (symbol-is (partner_index j) o)

pub elements-start :
    (c : Cell) (elements : ℕ) (groups from bits : List ℕ) (r : Registers) (grid : List ℕ) → ElementsDone c elements groups from bits r r 0 grid grid
elements-start c elements groups from bits r grid =
    record {
      most = omega arith;
      given = sym (after_none r);
      size = refl;
      written = λ f ok table count. same (λ e. given-none c f ok from e) (λ e d. refl) (none (block_sent c f from bits r) grid);
    }

module _
    {c : Cell} {elements : ℕ} {groups from bits : List ℕ} {r s : Registers} {n : ℕ} {before grid : List ℕ} (d : ElementsDone c elements groups from bits r s n before grid)
  where
    -- what `put_given` requires
    module _ {f : Frame} {t : List ℕ} (h : FillIn c f elements groups from t bits before) (l : n < elements) where
      in_block : n < control_elements c f
      in_block = omega (arith, h.count)

      pub in-from : n < 88
      in-from = omega (arith, h.given.few, in_block)

      pub element-in : ElementIn c groups n t grid × (9 * get_or from n 0 ≤ length bits)
      element-in = (
        record {
          frame = f;
          region = h.region;
          table = h.table;
          inside = in_block;
          few = in-from;
          symbols = h.symbols;
          room = record { some = h.room.some; most = h.room.most; not_three = h.room.not_three; fits = h.room.fits; size = d.size ∙ h.room.size };
        },
        by-test (is_given from n) (λ g. h.given.inside n g) (λ g. omega (arith, ltb-false 0 (get_or from n 0) g)),
      )

    -- one more
    module _ (l : n < elements) {s' : Registers} {k : List ℕ} (p : GivenPut c groups n (get_or from n 0) bits s grid k × (s' ≡ after s 72)) where
      is_none : is_given from n ≡ false → k ≡ grid
      is_none g = p.0.none (omega (arith, ltb-false 0 (get_or from n 0) g))

      is_some : is_given from n ≡ true → ElementPut c groups n (nine_bytes bits (get_or from n 0)) s grid k
      is_some g = p.0.some (omega (arith, ltb-true 0 (get_or from n 0) g))

      one_more :
          (f : Frame) → RegionOf c f → GroupTable c f groups → elements ≡ control_elements c f → Written (given_below c f from (n + 1)) (block_sent c f from bits r) before k
      one_more f ok table count =
          by-test (is_given from n)
          (λ g.
          over (d.written f ok table count) ((is_some g).written f ok table (omega arith))
          (λ e q. value-is from bits r s n d.given (omega (arith, ltb-true 0 (get_or from n 0) g)) c f e (of-element c f ok from e n q).1)
          (λ e. given-more c f ok from e n g))
          (λ g.
          subst (λ (y : List ℕ). Written (given_below c f from (n + 1)) (block_sent c f from bits r) before y) (sym (is_none g))
          (same (λ e. given-skip c f ok from e n g) (λ e q. refl) (d.written f ok table count)))

      pub elements-next : ElementsDone c elements groups from bits r s' (n + 1) before k
      elements-next =
          let sum : 72 * n + 72 ≡ 72 * (n + 1) = omega arith in
          record {
            most = omega arith;
            given = p.1 ∙ ap (λ (y : Registers). after y 72) d.given ∙ after-after r (72 * n) 72 ∙ ap (after r) sum;
            size = by-test (is_given from n) (λ g. (is_some g).size ∙ d.size) (λ g. ap length (is_none g) ∙ d.size);
            written = one_more;
          }

    pub elements-end :
        {f : Frame} {t : List ℕ} → FillIn c f elements groups from t bits before → elements ≤ n
        → Written (block_sends c f from) (block_sent c f from bits r) before grid × (s ≡ after r (72 * control_elements c f))
    elements-end {f} h l =
        let e : n ≡ control_elements c f = omega (arith, h.count, d.most) in (
          same (λ x. given-all c f h.region from x n h.given (omega arith)) (λ x q. refl) (d.written f h.region h.table h.count),
          d.given ∙ ap (λ (y : ℕ). after r (72 * y)) e,
        )
