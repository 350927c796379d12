-- The units' first quads read from a grid place by place, and the loop over a plan's HIs that writes their bits. Assumes nothing.
use Prim.Native.Nat.{ℕ, ◌+◌, ◌*◌, ◌/◌, ◌%◌, ◌^◌, ◌≤◌, ◌<◌}
use mathlib.Core.Path.{◌≡◌, sym, ap, ap₂, ◌∙◌}
use mathlib.Core.Bool.{cond}
use mathlib.Core.List.{List}
use native.Mathlib.Nat.{not-suc-le-zero}
use native.Mathlib.Decide.{ℕ_discrete}
use native.Mathlib.Omega.{arith}
use lib.Dec.{eqb}
use lib.IntN.{ℤ, pos, negsuc}
use lib.ListN.{length, get_or, drop, set, length-set}
use Rattle.base.specs.declared.Element.{Element}
use Rattle.base.specs.Bytes.{signed_of, pair_of}
use Rattle.base.specs.Pairs.{nil}
use Rattle.base.specs.Signs.{below}
use Rattle.base.proofs.Pairs.{pair-of}
use Rattle.base.proofs.Tables.{table_at}
use Rattle.gold.specs.declared.Registers.{Registers}
use Rattle.gold.specs.Steps.{word_of}
use Rattle.codeword.specs.Streams.{outputs}
use Rattle.precoding.specs.Places.{own_port}
use Rattle.grid.specs.Elements.{element_in}
use Rattle.grid.proofs.Sending.{own-fits}
use Rattle.phich.specs.His.{hi_number}
use Rattle.phich.specs.Spreading.{word_bit, spread_length}
use Rattle.phich.specs.Units.{mapping_unit}
use Rattle.phich.specs.Recovery.{along, bit_in}
use Rattle.phich.specs.Loops.{HiIn, levels_at, quad_of}
use Rattle.phich.proofs.Adding.{set-even, set-odd, set-others}
use Rattle.phich.proofs.Along.{along-same}
use Rattle.phich.proofs.Chips.{bit-chips}
use Rattle.phich.proofs.HisLeft.{At, at-start, here, at_next, here_in}
use Rattle.phich.proofs.Units.{length-ok}
use Rattle.plan.specs.Commands.{hi_of}
use Rattle.plan.specs.CommandLists.{his_from, next_of}
use Rattle.plan.specs.declared.Cell.{Cell}
use Rattle.plan.specs.declared.Hi.{Hi}
use Rattle.plan.specs.declared.CommandList.{CommandList}
use Rattle.plan.specs.Fields.{mapping_units, symbol_groups}
use Rattle.plan.proofs.Counts.{units-most}
use Rattle.places.specs.Places.{place_number, places_of}
use Rattle.places.specs.Quads.{quad_place}
use Rattle.payload.specs.Sections.{section_bytes}
use Rattle.recovery.specs.Recovery.{section_of}
use Rattle.control_read.specs.Reading.{own_element, sum_read, sums_of, ack_from, pushed, PushIn, UnitRead, FirstRead, QuadsIn, HisRead, ReadIn}
use Rattle.control.proofs.His.{his-in}
use Rattle.control.proofs.Listings.{place_inside, phich-groups}
use Rattle.control_read.proofs.Packing.{Packed, push_ok, push-more, pushed-length, packed_none, packed_all}
use Rattle.control.proofs.Words.{word-bits}
use Rattle.layout.specs.Rules.{quad_symbol, quad_group}
use Rattle.layout.proofs.GroupShape.{first-quad}

-- ---- the first quads
step-odd : (P x : ℕ) → own_port P (x % 2) ≡ own_port P x
unfolding own_port
step-odd P x = let e : x % 2 % 2 ≡ x % 2 = omega arith in ap (λ (y : ℕ). cond (eqb P 4) y 0) e

module _ {c : Cell} {m : ℕ} {grid : List ℕ} (ok : UnitRead c m grid) {i : ℕ} (in-i : i < 4) {g : ℕ} (eg : g ≡ quad_group c m 0) where
  pub group-in : g < symbol_groups c 0
  group-in = omega (arith, eg, (phich-groups c ok.cell m ok.unit).small 0 (omega arith), ap (symbol_groups c) (first-quad c))

  module _ {t port q T : ℕ} (et : t ≡ place_number c 0 (quad_place c 0 g i)) (ep : port ≡ own_port c.ports (m % 2)) (eq : q ≡ port) (eT : T ≡ places_of c) where
    pub element-fits : (q * T < 2 ^ 64) × (q * T + t < 2 ^ 64) × (3 * (q * T + t) + 2 < length grid)
    element-fits = rw eT (own-fits ok.room (m % 2) q t (eq ∙ ep) (rw et (place_inside c 0 g i (omega arith) group-in in-i)))

    element-is : q * T + t ≡ own_element c ((4 * m + i) / 4) ((4 * m + i) % 4)
    unfolding own_element
    element-is =
        let u : m ≡ (4 * m + i) / 4 = omega arith in
        let v : i ≡ (4 * m + i) % 4 = omega arith in
        let z : 0 ≡ i / 4 = omega arith in
        let o : m ≡ i / 4 + m = omega arith in
        let k : i ≡ i % 4 = omega arith in
        ap₂ (λ (x y : ℕ). x * y + t) (eq ∙ ep ∙ step-odd c.ports m) eT
        ∙ ap (λ (x : ℕ). own_port c.ports m * places_of c + x) (et ∙ ap₂ (λ (s x : ℕ). place_number c s (quad_place c s x i)) (sym (first-quad c)) eg)
        ∙ ap₂ (λ (x y : ℕ). own_port c.ports x * places_of c + y) o (ap₂ (λ (x y : ℕ). place_number c (quad_symbol c x) (quad_place c (quad_symbol c x) (quad_group c m x) y)) z k)
        ∙ ap₂ (own_element c) u v

    -- one more place is read
    pub first_next :
        {e : Element} {first : List ℕ} → FirstRead c grid (4 * m + i) first → e ≡ element_in grid (q * T + t)
        → FirstRead c grid (4 * m + (i + 1)) (set (set first (2 * (4 * m + i)) e.i) (2 * (4 * m + i) + 1) e.j)
    first_next {e = e} {first = first} f ee =
        let y : ℕ = 4 * m + i in
        let room : 2 * y + 1 < length first = omega (arith, f.size, units-most c ok.cell, ok.unit) in
        let is = ee ∙ ap (element_in grid) element-is in
        record {
          size = length-set (set first (2 * y) e.i) (2 * y + 1) e.j ∙ length-set first (2 * y) e.i ∙ f.size;
          read = λ z r. pick room is z r (ℕ_discrete z y);
        }
      where
        pick :
            2 * (4 * m + i) + 1 < length first → e ≡ element_in grid (own_element c ((4 * m + i) / 4) ((4 * m + i) % 4)) → (z : ℕ) → z < 4 * m + (i + 1) → Dec (z ≡ 4 * m + i)
            → (get_or (set (set first (2 * (4 * m + i)) e.i) (2 * (4 * m + i) + 1) e.j) (2 * z) 0 ≡ (element_in grid (own_element c (z / 4) (z % 4))).i)
            × (get_or (set (set first (2 * (4 * m + i)) e.i) (2 * (4 * m + i) + 1) e.j) (2 * z + 1) 0 ≡ (element_in grid (own_element c (z / 4) (z % 4))).j)
        pick room is z r (yes q) =
            rw q
            (set-even first (4 * m + i) e.i e.j room ∙ ap (λ (x : Element). x.i) is, set-odd first (4 * m + i) e.i e.j room ∙ ap (λ (x : Element). x.j) is)
        pick room is z r (no n) =
            let o = set-others first (4 * m + i) e.i e.j room z n in
            let s = f.read z (omega (arith, n)) in
            (o.0 ∙ s.0, o.1 ∙ s.1)

pub first-start : {c : Cell} {grid first : List ℕ} → length first ≡ 200 → FirstRead c grid 0 first
first-start e = record { size = e; read = λ y r. absurd (not-suc-le-zero r) }

pub first_to : {c : Cell} {grid first : List ℕ} (n : ℕ) {k : ℕ} → n ≤ k → FirstRead c grid k first → FirstRead c grid n first
first_to n e f = record { size = f.size; read = λ y r. f.read y (omega arith) }

-- what `read_quad` requires
pub unit-read : {c : Cell} {grid first : List ℕ} → QuadsIn c grid first → {m n : ℕ} → m < n → n ≡ mapping_units c → UnitRead c m grid
unit-read ok r e = record { cell = ok.cell; unit = omega arith; room = ok.room }

-- ---- the bits that they give
module _ {c : Cell} {grid first : List ℕ} (f : FirstRead c grid (4 * mapping_units c) first) where
  levels-read : (m i : ℕ) → m < mapping_units c → i < 4 → levels_at first (4 * m + i) ≡ sum_read c m grid i
  unfolding sum_read pair_of
  levels-read m i r k =
      let u : (4 * m + i) / 4 ≡ m = omega arith in
      let v : (4 * m + i) % 4 ≡ i = omega arith in
      let x = f.read (4 * m + i) (omega arith) in
      let e = ap (element_in grid) (ap₂ (own_element c) u v) in
      pair-of (ap signed_of (x.0 ∙ ap (λ (z : Element). z.i) e)) (ap signed_of (x.1 ∙ ap (λ (z : Element). z.j) e))

  -- THE LAW: they are those of all the sums in the grid
  quad-bit : (l : ℕ) (x : ℕ → ℕ) (h : Hi) → mapping_unit l h < mapping_units c → bit_in l x h (quad_of first (mapping_unit l h)) ≡ bit_in l x h (sums_of c (mapping_unit l h) grid)
  unfolding bit_in quad_of sums_of
  quad-bit l x h r =
      ap below
      (along-same l x h _ _ (λ i k.
      table_at 4 (λ (j : ℕ). levels_at first (4 * mapping_unit l h + j)) nil i k
      ∙ levels-read (mapping_unit l h) i r k
      ∙ sym (table_at 12 (sum_read c (mapping_unit l h) grid) nil i (omega arith))))

-- by the word's bits or the pair's
pub quad-ack :
    {c : Cell} {grid first : List ℕ} → FirstRead c grid (4 * mapping_units c) first → (r : Registers) (w l : ℕ) → w ≡ word_of r 12 → l ≡ spread_length c → (hs : List Hi) (n : ℕ)
    → mapping_unit (spread_length c) (hi_number hs n) < mapping_units c → {h : Hi} → h ≡ hi_number hs n → bit_in l (word_bit w) h (quad_of first (mapping_unit l h)) ≡ ack_from c r hs grid n
unfolding ack_from
quad-ack {c = c} {grid = grid} {first = first} f r w l ew el hs n in-u eh =
    rw (el, eh)
    (quad-bit f (spread_length c) (word_bit w) (hi_number hs n) in-u
    ∙ bit-chips (spread_length c) (length-ok c) (word_bit w) (outputs r) (word-bits r w ew) (hi_number hs n) (sums_of c (mapping_unit (spread_length c) (hi_number hs n)) grid))

below_two : (z : ℤ) → below z < 2
below_two (pos n) = omega arith
below_two (negsuc n) = omega arith

ack-two : (c : Cell) (r : Registers) (hs : List Hi) (g : List ℕ) (n : ℕ) → ack_from c r hs g n < 2
unfolding ack_from bit_in
ack-two c r hs g n =
    let h = hi_number hs n in
    below_two (along (spread_length c) (outputs r) h (λ (i : ℕ). get_or (sums_of c (mapping_unit (spread_length c) h) g) i nil))

-- ---- the HIs of the plan
-- what `first_sums` requires, and the loops over the HIs
module _ {c : Cell} {his : CommandList} {plan grid : List ℕ} (ok : HisRead c his plan grid) where
  pub quads-in : {first : List ℕ} → length first ≡ 200 → QuadsIn c grid first
  quads-in e = record { cell = ok.cell-his.cell; room = ok.room; size = e }

-- n bits are written
pub record ReadStep (c : Cell) (r : Registers) (his : CommandList) (plan grid part : List ℕ) (at n : ℕ) : Type 0 where
  pub where-at : At plan his.at his.count at n
  pub size : length part ≡ section_bytes his.count
  pub bits : Packed (ack_from c r (his_from (drop his.at plan) his.count) grid) n part

module _ {c : Cell} {his : CommandList} {plan grid part₀ : List ℕ} (ok : ReadIn c his plan grid part₀) (r : Registers) where
  abbrev hs : List Hi
  hs = his_from (drop his.at plan) his.count

  abbrev bit : ℕ → ℕ
  bit = ack_from c r hs grid

  pub read-start : ReadStep c r his plan grid part₀ his.at 0
  read-start = record { where-at = at-start plan his.at his.count; size = ok.size; bits = packed_none bit part₀ }

  module _ {part : List ℕ} {at n : ℕ} (t : ReadStep c r his plan grid part at n) (more : n < his.count) where
    -- what `bit_of` and `push` require
    pub hi-read : {l : ℕ} {h : Hi} → l ≡ spread_length c → h ≡ hi_of (drop at plan) → HiIn l h
    hi-read el eh = here_in t.where-at more (his-in ok.each.cell-his el) eh

    module _ {first : List ℕ} (f : FirstRead c grid (4 * mapping_units c) first) {w l b : ℕ} (ew : w ≡ word_of r 12) (el : l ≡ spread_length c) {h : Hi} (eh : h ≡ hi_of (drop at plan))
        (eb : b ≡ bit_in l (word_bit w) h (quad_of first (mapping_unit l h))) where
      bit_is : b ≡ bit n
      bit_is = eb ∙ quad-ack f r w l ew el hs n (ok.each.cell-his.units n more) (eh ∙ here t.where-at more)

      inside : n / 8 < length part
      inside = omega (arith, t.size)

      pub push-in : PushIn part n b
      push-in = push_ok bit n t.bits (ack-two c r hs grid) b bit_is inside

      pub read_next : {new : List ℕ} {next : ℕ} → new ≡ pushed part n b → next ≡ next_of plan at → ReadStep c r his plan grid new next (n + 1)
      read_next en ex =
          record {
            where-at = at_next t.where-at more ex;
            size = ap length en ∙ pushed-length part n b ∙ t.size;
            bits = push-more bit n t.bits b bit_is inside en;
          }

  pub read-finish : {part : List ℕ} {at n : ℕ} → ReadStep c r his plan grid part at n → his.count ≤ n → part ≡ section_of bit his.count
  read-finish {part = part} {n = n} t h =
      let e : n ≡ his.count = omega (arith, t.where-at.done) in
      packed_all bit his.count part t.size (rw e at t.bits)
