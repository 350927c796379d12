-- Two builds of one plan hold the same bytes at an acknowledgement unit's elements exactly where the payloads agree in the unit's
-- bits. Assumes nothing beyond the plan check's answer.
use Rattle.std.specs.Prelude.{if◌then◌else◌, Ok as accepted}
use Prim.Native.Nat.{ℕ, zero, suc, ◌+◌, ◌*◌, ◌/◌, ◌%◌, ◌<◌, suc-le-suc, zero-le}
use mathlib.Core.Path.{◌≡◌, refl, sym, ap, ◌∙◌, subst}
use mathlib.Core.Logic.Iff
use mathlib.Core.Logic.{◌↔◌}
use mathlib.Core.Bool.{Bool, true, false}
use mathlib.Core.List.{List, [], ◌∷◌}
use native.Mathlib.Nat.{not-suc-le-zero, le_of_suc-le-suc, suc_inj}
use native.Mathlib.Omega.{arith}
use borrow.Author.Tests.{eq-eqb, eqb-true}
use lib.Dec.{eqb}
use lib.ListN.{length, get_or}
use lib.Seq.{ext_get_or}
use Rattle.base.proofs.Tests.{on-if}
use Rattle.base.specs.declared.Pair.{Pair}
use Rattle.base.specs.Bits.{bit_at}
use Rattle.base.specs.Pairs.{nil, Small}
use Rattle.base.proofs.Tables.{table-length}
use Rattle.gold.specs.Sequence.{c}
use Rattle.precoding.specs.Layers.{Occurs}
use Rattle.precoding.specs.Phich.{phich_precoded}
use Rattle.precoding.proofs.Diversity.{phich-elements, phich-symbols}
use Rattle.phich.specs.His.{hi_number}
use Rattle.phich.specs.Units.{mapping_unit, sum_at, mapping_unit_sums, SameHiBits as SameHis}
use Rattle.phich.proofs.Units.{bit_le, exactly}
use Rattle.phich.specs.Spreading.{spread_length}
use Rattle.plan.specs.Lists.{Every}
use Rattle.plan.specs.Fields.{mapping_units}
use Rattle.plan.specs.CommandLists.{his_of}
use Rattle.plan.specs.Check.{check_of}
use Rattle.plan.specs.declared.Hi.{Hi}
use Rattle.plan.specs.declared.Plan.{Plan}
use Rattle.plan.proofs.Valid.{valid}
use Rattle.layout.specs.declared.Owner.TheVariants.{Phich}
use Rattle.counts.specs.Counts.{count_of}
use Rattle.counts.proofs.FixedCounts.{phich-count}
use Rattle.places.specs.Places.{place_number, symbol_at, carrier_at, place_of, index_of}
use Rattle.payload.specs.Bits.{hi_bits, mapping_unit_bits, owner_bits}
use Rattle.payload.proofs.Sections.{hi-length}
use Rattle.subframe.specs.Elements.{control_init, hi_bit, phich_sum, element_for}
use Rattle.subframe.specs.Grid.{grid_of}
use Rattle.subframe.specs.TwoBuilds.{SameBytes, SameBits}
use Rattle.subframe.proofs.Owned.{SameElements, index-place, index-owned, index_back, same_bytes}
use Rattle.subframe.proofs.Occurs.{even-occurs}
use Rattle.subframe.proofs.Acknowledged.{spread, within, distinct, sums-small}

-- ---- hs are HIs and bs the positions of their bits: what holds of each of a unit's bits holds of each of its HIs, by number, and back
module _ (l m : ℕ) (F : ℕ → Type 0) where
  abbrev OfHis : List Hi → List ℕ → Type 0
  OfHis hs bs = (n : ℕ) → n < length hs → mapping_unit l (hi_number hs n) ≡ m → F (get_or bs n 0)

  module _ (h : Hi) (hs : List Hi) (b : ℕ) (bs : List ℕ) where
    later : Every F (mapping_unit_bits l m (h ∷ hs) (b ∷ bs)) → Every F (mapping_unit_bits l m hs bs)
    unfolding mapping_unit_bits
    later = pick (eqb (mapping_unit l h) m)
      where
        pick : (t : Bool) → Every F (if t then b ∷ mapping_unit_bits l m hs bs else mapping_unit_bits l m hs bs) → Every F (mapping_unit_bits l m hs bs)
        pick true e = e.1
        pick false e = e

    first : mapping_unit l h ≡ m → Every F (mapping_unit_bits l m (h ∷ hs) (b ∷ bs)) → F b
    unfolding mapping_unit_bits
    first u e = (subst (λ (t : Bool). Every F (if t then b ∷ mapping_unit_bits l m hs bs else mapping_unit_bits l m hs bs)) (eq-eqb (mapping_unit l h) m u) e).0

  to-his : (hs : List Hi) (bs : List ℕ) → length hs ≡ length bs → Every F (mapping_unit_bits l m hs bs) → OfHis hs bs
  to-his [] bs q e n k u = absurd (not-suc-le-zero k)
  to-his (h ∷ hs) [] q e n k u = absurd (omega arith)
  to-his (h ∷ hs) (b ∷ bs) q e zero k u = first h hs b bs u e
  to-his (h ∷ hs) (b ∷ bs) q e (suc n) k u = to-his hs bs (suc_inj q) (later h hs b bs e) n (le_of_suc-le-suc k) u

  pub from-his : (hs : List Hi) (bs : List ℕ) → OfHis hs bs → Every F (mapping_unit_bits l m hs bs)
  unfolding mapping_unit_bits
  from-his [] bs f = tt
  from-his (h ∷ hs) [] f = tt
  from-his (h ∷ hs) (b ∷ bs) f =
      let rest : Every F (mapping_unit_bits l m hs bs) = from-his hs bs (λ n k u. f (suc n) (suc-le-suc k) u) in
      on-if (Every F) (eqb (mapping_unit l h) m) (λ t. (f 0 (suc-le-suc zero-le) (eqb-true (mapping_unit l h) m t), rest)) (λ t. rest)

-- ---- an accepted plan
wide : (d : Pair) → Small 8 d → Small 127 d
wide d s = (omega (arith, s.0), omega (arith, s.1))

module _ (w : List ℕ) (p : Plan) (ok : check_of w ≡ accepted p) where
  -- the twelve symbols of a unit can be mapped to the cell's ports
  pub unit-occurs : Occurs p.cell.ports 12
  unit-occurs = even-occurs w p ok 12 refl

  module _ (A B : List ℕ) (m : ℕ) where
    abbrev SameSums : Type 0
    SameSums = (i : ℕ) → i < 12 → phich_sum w p A m i ≡ phich_sum w p B m i

    -- ---- the unit's elements and its sums
    to-elements : SameSums → SameElements w p (Phich m) A B
    unfolding element_for
    to-elements same port s k in-port place own =
        let j = index_of w p (Phich m) (place_number p.cell s k) in
        phich-elements p.cell.ports m 2 (phich_sum w p A m) (phich_sum w p B m) same (j / 4) (j % 4) port

    -- at the i-th of its places
    at_place :
        m < mapping_units p.cell → SameElements w p (Phich m) A B → (i : ℕ) → i < 12 → (port : ℕ) → port < p.cell.ports
        → phich_precoded p.cell.ports m 2 (phich_sum w p A m) (i / 4) (i % 4) port ≡ phich_precoded p.cell.ports m 2 (phich_sum w p B m) (i / 4) (i % 4) port
    unfolding element_for
    at_place in-m same i l port in-port =
        let r : i < count_of w p (Phich m) = omega (arith, phich-count w p ok m in-m) in
        let t : ℕ = place_of w p (Phich m) i in
        subst
        (λ (j : ℕ). phich_precoded p.cell.ports m 2 (phich_sum w p A m) (j / 4) (j % 4) port ≡ phich_precoded p.cell.ports m 2 (phich_sum w p B m) (j / 4) (j % 4) port)
        (index_back w p ok (Phich m) i r)
        (same port (symbol_at p.cell t) (carrier_at p.cell t) in-port (index-place w p ok (Phich m) i r) (index-owned w p ok (Phich m) i r))

    to-sums : m < mapping_units p.cell → SameElements w p (Phich m) A B → SameSums
    to-sums in-m same i l =
        let e : 4 * (i / 4) + i % 4 ≡ i = omega arith in
        let n : ℕ = 4 * (i / 4) + i % 4 in
        let r : n < 12 = omega arith in
        subst (λ (j : ℕ). phich_sum w p A m j ≡ phich_sum w p B m j) e
        (phich-symbols unit-occurs m 2 (phich_sum w p A m) (phich_sum w p B m) (i / 4) (i % 4) (omega arith) (omega arith)
        (wide (phich_sum w p A m n) (sums-small w p ok A m n r)) (wide (phich_sum w p B m n) (sums-small w p ok B m n r))
        (at_place in-m same i l))

    -- ---- its sums and its HIs' bits
    abbrev sums_of : List ℕ → List Pair
    sums_of payload = mapping_unit_sums (spread_length p.cell) (c (control_init p.cell p.frame)) m (hi_bit w p payload) (his_of w p)

    twelve : (payload : List ℕ) → length (sums_of payload) ≡ 12
    unfolding mapping_unit_sums
    twelve payload = table-length 12 (λ i. sum_at (spread_length p.cell) (c (control_init p.cell p.frame)) m (hi_bit w p payload) i (his_of w p) 0)

    as-list : SameSums ↔ (sums_of A ≡ sums_of B)
    unfolding phich_sum
    as-list = (
      (λ same. ext_get_or nil (sums_of A) (sums_of B) (twelve A ∙ sym (twelve B)) (λ i l. same i (omega (arith, twelve A)))),
      (λ e i l. ap (λ (u : List Pair). get_or u i nil) e),
    )

    by-his : (sums_of A ≡ sums_of B) ↔ SameHis (spread_length p.cell) m (his_of w p) (hi_bit w p A) (hi_bit w p B)
    unfolding hi_bit
    by-his =
        exactly (spread_length p.cell) (spread w p ok) (c (control_init p.cell p.frame)) (his_of w p) (within w p ok) (distinct w p ok) m (hi_bit w p A) (hi_bit w p B)
        (λ n. bit_le A _) (λ n. bit_le B _)

    -- ---- and the unit's bits in the payload
    by_bits : SameHis (spread_length p.cell) m (his_of w p) (hi_bit w p A) (hi_bit w p B) ↔ SameBits w p (Phich m) A B
    unfolding SameHis hi_bit owner_bits
    by_bits = (
      from-his (spread_length p.cell) m (λ b. bit_at A b ≡ bit_at B b) (his_of w p) (hi_bits w p),
      to-his (spread_length p.cell) m (λ b. bit_at A b ≡ bit_at B b) (his_of w p) (hi_bits w p) ((valid w p ok).his-count ∙ sym (hi-length w p)),
    )

    pub unit-elements : m < mapping_units p.cell → SameElements w p (Phich m) A B ↔ SameBits w p (Phich m) A B
    unit-elements in-m = Iff.trans (to-sums in-m, to-elements) (Iff.trans as-list (Iff.trans by-his by_bits))

-- THE LAW: "For .. each acknowledgement unit .., the two grids hold the same bytes at all of that owner's elements, on all ports, exactly
-- when A and B agree in all of that owner's bits"
pub unit-builds :
    (w : List ℕ) (p : Plan) → check_of w ≡ accepted p → (A B : List ℕ) (m : ℕ) → m < mapping_units p.cell
    → SameBytes w p (Phich m) (grid_of w p A) (grid_of w p B) ↔ SameBits w p (Phich m) A B
unit-builds w p ok A B m in-m = Iff.trans (same_bytes w p ok (Phich m) A B) (unit-elements w p ok A B m in-m)
