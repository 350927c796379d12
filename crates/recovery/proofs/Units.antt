-- The bit of each HI, read from the sums of its unit in the grid that was built, is the payload's. Assumes nothing beyond the plan check's
-- answer.
use Prim.Native.Nat.{ℕ, ◌+◌, ◌*◌, ◌/◌, ◌%◌, ◌<◌}
use mathlib.Core.Path.{◌≡◌, sym, ap, ◌∙◌}
use mathlib.Core.List.{List}
use native.Mathlib.Omega.{arith}
use lib.ListN.{length}
use Rattle.std.specs.declared.result.Result.TheVariants.{Ok as accepted}
use Rattle.base.specs.declared.Pair.{Pair}
use Rattle.base.specs.Bytes.{pair_of}
use Rattle.base.specs.Pairs.{nil, Small}
use Rattle.base.proofs.Tables.{table-length, filled}
use Rattle.gold.specs.Sequence.{c}
use Rattle.precoding.specs.Layers.{Occurs}
use Rattle.precoding.specs.Phich.{phich_precoded}
use Rattle.precoding.specs.Places.{own_port, partner_index}
use Rattle.precoding.proofs.Ports.{own-inside}
use Rattle.precoding.proofs.Diversity.{phich-by-place}
use Rattle.phich.specs.His.{hi_number}
use Rattle.phich.specs.Units.{mapping_unit, sum_at, mapping_unit_sums}
use Rattle.phich.specs.Recovery.{bit_in}
use Rattle.phich.proofs.Units.{hi-unit, bit_le, recovered}
use Rattle.phich.specs.Spreading.{spread_length}
use Rattle.plan.specs.Fields.{mapping_units}
use Rattle.plan.specs.CommandLists.{his_of}
use Rattle.plan.specs.Check.{check_of}
use Rattle.plan.specs.Valid.{HiIn}
use Rattle.plan.specs.declared.Hi.{Hi}
use Rattle.plan.specs.declared.Plan.{Plan}
use Rattle.plan.proofs.Listed.{every-at}
use Rattle.plan.proofs.Valid.{valid}
use Rattle.layout.specs.declared.Owner.TheVariants.{Phich}
use Rattle.counts.specs.Counts.{count_of}
use Rattle.counts.proofs.FixedCounts.{phich-count}
use Rattle.subframe.specs.Elements.{control_init, hi_bit, phich_sum, element_for}
use Rattle.subframe.specs.Grid.{grid_of}
use Rattle.subframe.proofs.Owned.{index_back}
use Rattle.subframe.proofs.Acknowledged.{spread, within, distinct, sums-small}
use Rattle.subframe.proofs.UnitBuilds.{unit-occurs}
use Rattle.recovery.specs.Recovery.{symbol_in, sums_in, ack_bit}
use Rattle.recovery.proofs.Symbols.{own_read, symbol-in}

module _ (w : List ℕ) (p : Plan) (ok : check_of w ≡ accepted p) (A : List ℕ) where
  -- ---- a unit's sums
  module _ (m : ℕ) (in-m : m < mapping_units p.cell) where
    sum_back : (i : ℕ) → i < 12 → symbol_in w p (grid_of w p A) (Phich m) (i / 4 + m) i ≡ phich_sum w p A m i
    unfolding element_for
    sum_back i r =
        let d : ℕ → Pair = phich_sum w p A m in
        let occurs : Occurs p.cell.ports 12 = unit-occurs w p ok in
        let q : ℕ = own_port p.cell.ports (i / 4 + m) in
        let in-port : q < p.cell.ports = own-inside (i / 4 + m) occurs in
        let l : i < count_of w p (Phich m) = omega (arith, phich-count w p ok m in-m) in
        let n : ℕ = 4 * (i / 4) + i % 4 in
        let e : n ≡ i = omega arith in
        let h : Small 8 (d n) = sums-small w p ok A m n (omega arith) in
        symbol-in w p ok (Phich m) A (i / 4 + m) i l in-port
        ∙ ap pair_of
        (ap (λ (j : ℕ). phich_precoded p.cell.ports m 2 d (j / 4) (j % 4) q) (index_back w p ok (Phich m) i l)
        ∙ phich-by-place occurs m 2 d (i / 4) (i % 4) q (omega arith) (omega arith) in-port)
        ∙ own_read p.cell.ports (i / 4 + m) 2 (n % 2) (d n) (d (partner_index n)) (omega arith, omega arith)
        ∙ ap d e

    sums-back : sums_in w p (grid_of w p A) m ≡ mapping_unit_sums (spread_length p.cell) (c (control_init p.cell p.frame)) m (hi_bit w p A) (his_of w p)
    unfolding sums_in mapping_unit_sums phich_sum
    sums-back =
        sym
        (filled nil (λ (i : ℕ). symbol_in w p (grid_of w p A) (Phich m) (i / 4 + m) i) 12
        (mapping_unit_sums (spread_length p.cell) (c (control_init p.cell p.frame)) m (hi_bit w p A) (his_of w p))
        (table-length 12 (λ (i : ℕ). sum_at (spread_length p.cell) (c (control_init p.cell p.frame)) m (hi_bit w p A) i (his_of w p) 0))
        (λ i l. sym (sum_back i l)))

  -- ---- THE LAW
  module _ (n : ℕ) (l : n < p.his.count) where
    listed : n < length (his_of w p)
    listed = omega (arith, (valid w p ok).his-count)

    in-unit : mapping_unit (spread_length p.cell) (hi_number (his_of w p) n) < mapping_units p.cell
    in-unit = hi-unit p.cell (hi_number (his_of w p) n) (every-at (HiIn p.cell) (record { group = 0; sequence = 0 }) (his_of w p) n (valid w p ok).his listed)

    pub ack-recovered : ack_bit w p (grid_of w p A) n ≡ hi_bit w p A n
    unfolding ack_bit hi_bit
    ack-recovered =
        let L : ℕ = spread_length p.cell in
        let h : Hi = hi_number (his_of w p) n in
        ap (bit_in L (c (control_init p.cell p.frame)) h) (sums-back (mapping_unit L h) in-unit)
        ∙ recovered L (spread w p ok) (c (control_init p.cell p.frame)) (his_of w p) (within w p ok) (distinct w p ok) (hi_bit w p A) n
        (bit_le A _) listed
