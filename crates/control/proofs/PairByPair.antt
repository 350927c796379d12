-- PCFICH and a PHICH unit, pair by pair, whether they are written or compared: after n pairs the elements of the indices below 2n are done.
-- Assumes nothing.
use Prim.Native.Nat.{ℕ, ◌+◌, ◌*◌, ◌/◌, ◌%◌, ◌≤◌, ◌<◌}
use mathlib.Core.Path.{◌≡◌, refl, sym, ap, ◌∙◌}
use mathlib.Core.Bool.{Bool}
use mathlib.Core.List.{List}
use native.Mathlib.Omega.{arith}
use lib.Bits.{bit_xor}
use lib.ListN.{get_or}
use Rattle.base.specs.declared.Pair.{Pair}
use Rattle.base.specs.declared.Element.{Element}
use Rattle.base.specs.Pairs.{nil, Small}
use Rattle.gold.specs.declared.Registers.{Registers}
use Rattle.gold.specs.Sequence.{binary}
use Rattle.gold.specs.Steps.{after, word_of}
use Rattle.gold.proofs.Laws.{after_none, after-after}
use Rattle.modulation.specs.Symbols.{modulation_symbol as symbol_for}
use Rattle.modulation.proofs.Symbols.{order_small}
use Rattle.codeword.specs.Codewords.{data_symbol, cfi_bit}
use Rattle.codeword.specs.Streams.{outputs}
use Rattle.plan.specs.Valid.{CellIn}
use Rattle.plan.specs.declared.Cell.{Cell}
use Rattle.plan.specs.Fields.{symbol_groups}
use Rattle.layout.specs.Rules.{format_group, pcfich, quad_symbol, quad_group, phich}
use Rattle.layout.proofs.GroupShape.{quad-low}
use Rattle.places.specs.Quads.{quads_place}
use Rattle.places.specs.Places.{symbol_at, carrier_at, place_number, places_of}
use Rattle.grid.proofs.Accumulating.{Deed, Step, Accumulates}
use Rattle.control.specs.declared.PairAt.{PairAt}
use Rattle.control.specs.Control.{pcfich_index, pcfich_sends, pcfich_sent, phich_index, phich_sends, unit_sent}
use Rattle.control.specs.Filling.{UnitIn}
use Rattle.control.specs.Pairs.{PairIn, group_place, pair_sends, pair_sent, pcfich_pair, PcfichPair, unit_pair}
use Rattle.control.proofs.ListedPlaces.{up_to, value_by}
use Rattle.control.proofs.Listings.{place_at, pair_inside, some-places, six, unit-few, pcfich-groups, pcfich-listed, phich-groups, phich-listed}
use Rattle.control.proofs.Pairs.{Stands, start, finish, pair-more}
use Rattle.control.proofs.Words.{first-symbol, second-symbol, scrambled-word}

-- ---- PCFICH
small-symbol : (w : ℕ) → Small 127 (symbol_for 2 w)
small-symbol w = let s = order_small 2 w (refl, omega arith, omega arith) in (omega (arith, s.0), omega (arith, s.1))

-- what `quad_place` requires for PCFICH
pub format-in : {c : Cell} {n g : ℕ} → CellIn c → n < 8 → g ≡ format_group c (n / 2) → g < symbol_groups c 0
format-in {c = c} {n = n} ok in-n eg = omega (arith, eg, (pcfich-groups c ok).small (n / 2) (omega arith))

-- what `pcfich_pair` makes of four bits of the codeword and four of the sequence
pub pcfich-made :
    {c : Cell} {cfi n : ℕ} {s : Registers} → CellIn c → n < 8 → {u v g a b : ℕ} {d e : Pair} → u ≡ binary (cfi_bit cfi) (4 * n) 4 → v ≡ word_of s 4
    → g ≡ format_group c (n / 2) → a ≡ group_place c 0 g (2 * (n % 2)) → b ≡ group_place c 0 g (2 * (n % 2) + 1)
    → d ≡ symbol_for 2 (bit_xor u v / 4) → e ≡ symbol_for 2 (bit_xor u v % 4)
    → PcfichPair c cfi s n (record { first_place = a; second_place = b; port_pair = n % 2; first = d; second = e })
    × PairIn c (record { first_place = a; second_place = b; port_pair = n % 2; first = d; second = e })
unfolding pcfich_pair
pcfich-made {c = c} {cfi = cfi} {n = n} {s = s} ok in-n {u = u} {v = v} {g = g} eu ev eg ea eb ed ee = (
  record {
    is = λ r h.
        let w = scrambled-word cfi n r s u v h eu ev in
        rw (ea, eb, eg, ed ∙ first-symbol (cfi_bit cfi) (outputs r) n (bit_xor u v) w, ee ∙ second-symbol (cfi_bit cfi) (outputs r) n (bit_xor u v) w) refl;
  },
  record {
    first-inside = rw ea inside.0;
    second-inside = rw eb inside.1;
    apart = λ q. inside.2 (sym ea ∙ q ∙ eb);
    first = rw ed (small-symbol (bit_xor u v / 4));
    second = rw ee (small-symbol (bit_xor u v % 4));
  },
)
  where
    inside : (group_place c 0 g (2 * (n % 2)) < places_of c) × (group_place c 0 g (2 * (n % 2) + 1) < places_of c) × (group_place c 0 g (2 * (n % 2)) ≡ group_place c 0 g (2 * (n % 2) + 1) → ⊥)
    inside = pair_inside c 0 g (n % 2) (omega arith) (format-in ok in-n eg) (omega arith)

abbrev by_two : ℕ → ℕ
by_two j = j / 2 % 2

abbrev pcfich_up_to : Cell → ℕ → ℕ → Bool
pcfich_up_to c n = up_to c.ports (places_of c) (λ (t : ℕ). pcfich c (symbol_at c t) (carrier_at c t)) (pcfich_index c) by_two (2 * n)

abbrev pcfich_value : Cell → ℕ → Registers → ℕ → Element
pcfich_value c cfi r = value_by c.ports (places_of c) (pcfich_index c) by_two (data_symbol 2 (cfi_bit cfi) (outputs r))

-- n pairs are done in the state x, and the pair of registers s has given their bits
pub record PcfichDone {X : Type 0} (Done : Deed X) (c : Cell) (cfi : ℕ) (r s : Registers) (n : ℕ) (x : X) : Type 0 where
  pub most : n ≤ 8
  pub given : s ≡ after r (4 * n)
  pub done : Done (pcfich_up_to c n) (pcfich_value c cfi r) x

pcfich-stands :
    (c : Cell) (cfi : ℕ) (r : Registers) (n : ℕ)
    → Stands c (λ (j : ℕ). place_number c 0 (quads_place c (λ (i : ℕ). 0) (format_group c) j)) by_two (data_symbol 2 (cfi_bit cfi) (outputs r)) n (pcfich_pair c cfi r n)
unfolding pcfich_pair
pcfich-stands c cfi r n =
    let i : ℕ = 2 * (n % 2) in
    record {
      ports-one = omega arith;
      ports-two = omega arith;
      one = place_at c (λ (i : ℕ). 0) (format_group c) (2 * n) (n / 2) i (omega arith) (omega arith);
      two = place_at c (λ (i : ℕ). 0) (format_group c) (2 * n + 1) (n / 2) (i + 1) (omega arith) (omega arith);
      first = refl;
      second = refl;
    }

module _ {X : Type 0} {Done : Deed X} {Also : Step X} {none : X} (A : Accumulates Done Also none) {c : Cell} (ok : CellIn c) (cfi : ℕ) (r : Registers) where
  pub pcfich-start : PcfichDone Done c cfi r r 0 none
  pcfich-start =
      record {
        most = omega arith;
        given = sym (after_none r);
        done = start c by_two (data_symbol 2 (cfi_bit cfi) (outputs r)) (some-places c ok) (pcfich-listed c ok) A;
      }

  -- one pair more, and the pair of registers four steps on
  pub pcfich-next :
      {s s' : Registers} {n : ℕ} {p : PairAt} {x y : X} → PcfichDone Done c cfi r s n x → n < 8 → PcfichPair c cfi s n p × PairIn c p
      → Also (pair_sends c p) (pair_sent c p) x y → s' ≡ after s 4 → PcfichDone Done c cfi r s' (n + 1) y
  pcfich-next {n = n} t in-n p k z =
      let sum : 4 * n + 4 ≡ 4 * (n + 1) = omega arith in
      record {
        most = omega arith;
        given = z ∙ ap (λ (y : Registers). after y 4) t.given ∙ after-after r (4 * n) 4 ∙ ap (after r) sum;
        done =
            pair-more c by_two (data_symbol 2 (cfi_bit cfi) (outputs r)) (some-places c ok) (pcfich-listed c ok) A (omega arith) p.1
            (rw (p.0.is r t.given) (pcfich-stands c cfi r n)) t.done k;
      }

  pub pcfich-finish : {s : Registers} {n : ℕ} {x : X} → PcfichDone Done c cfi r s n x → 8 ≤ n → Done (pcfich_sends c) (pcfich_sent c cfi r) x × (s ≡ after r 32)
  unfolding pcfich_sends pcfich_sent
  pcfich-finish {n = n} t last =
      let e : n ≡ 8 = omega (arith, t.most) in
      let bits : 4 * n ≡ 32 = omega (arith, e) in
      (finish c by_two (data_symbol 2 (cfi_bit cfi) (outputs r)) (some-places c ok) (pcfich-listed c ok) A (rw e at t.done), t.given ∙ ap (after r) bits)

-- ---- a PHICH unit
-- what `unit_group` requires for quad n of unit m, and for pair k, one of its two, `unit_pair`, and `put_pair` and `compare_pair`
module _ {c : Cell} {m : ℕ} {sums : List Pair} (ok : UnitIn c m sums) {n : ℕ} (in-n : n < 3) where
  pub group-asked : (6 ≤ c.blocks) × (m < 256) × (n < 3)
  group-asked = (six c ok.cell, unit-few c ok.cell m ok.unit, in-n)

  module _ (k : ℕ) (ek : k / 2 ≡ n) {s g : ℕ} (es : s ≡ quad_symbol c n) (eg : g ≡ quad_group c m n) where
    pub unit-asked : (m < 256) × (s < 3) × (g < symbol_groups c s) × (k < 6)
    unit-asked =
        let gs = phich-groups c ok.cell m ok.unit in
        (group-asked.1, omega (arith, es, quad-low c n), omega (arith, eg, gs.small n in-n, ap (symbol_groups c) es), omega arith)

    pub pair-asked : {p : PairAt} → p ≡ unit_pair c m s g sums k → PairIn c p
    pair-asked ep =
        let inside = pair_inside c s g (k % 2) unit-asked.1 unit-asked.2 (omega arith) in
        rw ep
        (record {
          first-inside = inside.0;
          second-inside = inside.1;
          apart = inside.2;
          first = small-sum (2 * k) (omega arith);
          second = small-sum (2 * k + 1) (omega arith);
        })
      where
        small-sum : (i : ℕ) → i < 12 → Small 127 (get_or sums i nil)
        small-sum i l = let s = ok.small i l in (omega (arith, s.0), omega (arith, s.1))

abbrev by_quad : ℕ → ℕ → ℕ
by_quad m j = (j / 4 + m) % 2

abbrev unit_up_to : Cell → ℕ → ℕ → ℕ → Bool
unit_up_to c m n = up_to c.ports (places_of c) (λ (t : ℕ). phich c m (symbol_at c t) (carrier_at c t)) (phich_index c m) (by_quad m) (2 * n)

abbrev unit_value : Cell → ℕ → List Pair → ℕ → Element
unit_value c m sums = value_by c.ports (places_of c) (phich_index c m) (by_quad m) (λ (i : ℕ). get_or sums i nil)

pub record UnitDone {X : Type 0} (Done : Deed X) (c : Cell) (m : ℕ) (sums : List Pair) (n : ℕ) (x : X) : Type 0 where
  pub most : n ≤ 6
  pub done : Done (unit_up_to c m n) (unit_value c m sums) x

unit-stands :
    (c : Cell) (m : ℕ) (sums : List Pair) (n k : ℕ) → k / 2 ≡ n
    → Stands c (λ (j : ℕ). place_number c (quad_symbol c (j / 4)) (quads_place c (quad_symbol c) (quad_group c m) j)) (by_quad m) (λ (i : ℕ). get_or sums i nil) k
    (unit_pair c m (quad_symbol c n) (quad_group c m n) sums k)
unit-stands c m sums n k e =
    let i : ℕ = 2 * (k % 2) in
    let u : 2 * k / 4 ≡ k / 2 = omega arith in
    let v : (2 * k + 1) / 4 ≡ k / 2 = omega arith in
    record {
      ports-one = ap (λ (z : ℕ). (z + m) % 2) u;
      ports-two = ap (λ (z : ℕ). (z + m) % 2) v;
      one = place_at c (quad_symbol c) (quad_group c m) (2 * k) n i (omega arith) (omega arith);
      two = place_at c (quad_symbol c) (quad_group c m) (2 * k + 1) n (i + 1) (omega arith) (omega arith);
      first = refl;
      second = refl;
    }

module _ {X : Type 0} {Done : Deed X} {Also : Step X} {none : X} (A : Accumulates Done Also none) {c : Cell} {m : ℕ} {sums : List Pair} (ok : UnitIn c m sums) where
  pub unit-start : UnitDone Done c m sums 0 none
  unit-start =
      record {
        most = omega arith;
        done = start c (by_quad m) (λ (i : ℕ). get_or sums i nil) (some-places c ok.cell) (phich-listed c ok.cell m ok.unit) A;
      }

  module _ {n s g : ℕ} (in-n : n < 3) (es : s ≡ quad_symbol c n) (eg : g ≡ quad_group c m n) where
    pair-next :
        {k : ℕ} {p : PairAt} {x y : X} → k / 2 ≡ n → UnitDone Done c m sums k x → p ≡ unit_pair c m s g sums k → Also (pair_sends c p) (pair_sent c p) x y → UnitDone Done c m sums (k + 1) y
    pair-next {k = k} ek t ep a =
        record {
          most = omega arith;
          done =
              pair-more c (by_quad m) (λ (i : ℕ). get_or sums i nil) (some-places c ok.cell) (phich-listed c ok.cell m ok.unit) A (omega arith)
              (pair-asked ok in-n k ek es eg ep) (rw (ep, es, eg) (unit-stands c m sums n k ek)) t.done a;
        }

    -- the first pair of quad n
    module _ {p : PairAt} {x y : X} (t : UnitDone Done c m sums (2 * n) x) (ep : p ≡ unit_pair c m s g sums (2 * n)) (one : Also (pair_sends c p) (pair_sent c p) x y) where
      pub half-next : UnitDone Done c m sums (2 * n + 1) y
      half-next = pair-next (omega arith) t ep one

      -- and the second
      pub quad-next : {q : PairAt} {z : X} → q ≡ unit_pair c m s g sums (2 * n + 1) → Also (pair_sends c q) (pair_sent c q) y z → UnitDone Done c m sums (2 * (n + 1)) z
      quad-next eq two =
          let e : 2 * n + 1 + 1 ≡ 2 * (n + 1) = omega arith in
          rw e at (pair-next (omega arith) half-next eq two)

  pub unit-finish : {n : ℕ} {x : X} → UnitDone Done c m sums (2 * n) x → 3 ≤ n → Done (phich_sends c m) (unit_sent c m sums) x
  unfolding phich_sends unit_sent
  unit-finish {n = n} t last =
      let e : 2 * n ≡ 6 = omega (arith, t.most) in
      finish c (by_quad m) (λ (i : ℕ). get_or sums i nil) (some-places c ok.cell) (phich-listed c ok.cell m ok.unit) A (rw e at t.done)
