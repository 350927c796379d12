-- FOR THE CALLERS: what the HIs are read from is what recovery reads, and under an accepted plan what `read_his` requires holds. Assumes
-- nothing beyond the plan check's answer.
use Prim.Native.Nat.{ℕ, ◌+◌, ◌*◌, ◌/◌, ◌%◌}
use mathlib.Core.Path.{◌≡◌, sym, ap, ◌∙◌}
use mathlib.Core.List.{List}
use native.Mathlib.Omega.{arith}
use lib.ListN.{length}
use Rattle.std.specs.declared.result.Result.TheVariants.{Ok as accepted}
use Rattle.base.specs.Bytes.{pair_of}
use Rattle.base.proofs.Tables.{table_same}
use Rattle.gold.specs.Sequence.{c, pair_at}
use Rattle.codeword.proofs.Laws.{outputs-start}
use Rattle.precoding.specs.Places.{own_port}
use Rattle.grid.specs.Elements.{element_in}
use Rattle.grid.specs.Writing.{Room}
use Rattle.phich.specs.His.{hi_number}
use Rattle.phich.specs.Units.{mapping_unit}
use Rattle.phich.specs.Recovery.{bit_in}
use Rattle.phich.specs.Spreading.{spread_length}
use Rattle.plan.specs.Check.{check_of}
use Rattle.plan.specs.CommandLists.{his_of}
use Rattle.plan.specs.declared.Plan.{Plan}
use Rattle.layout.specs.declared.Owner.TheVariants.{Phich}
use Rattle.layout.specs.Rules.{quad_symbol, quad_group}
use Rattle.places.specs.Places.{place_number, places_of, place_of}
use Rattle.places.specs.Quads.{quad_place}
use Rattle.places.proofs.Listing.{phich-place}
use Rattle.payload.specs.Sections.{section_bytes}
use Rattle.subframe.specs.Elements.{control_init}
use Rattle.recovery.specs.Recovery.{symbol_in, sums_in, ack_bit}
use Rattle.control.proofs.ControlOwners.{cell-his}
use Rattle.control_read.specs.Reading.{own_element, sum_read, sums_of, ack_from, HisRead, ReadIn}

module _ (w : List ℕ) (p : Plan) (g : List ℕ) where
  place_is : (m i : ℕ) → let s = quad_symbol p.cell (i / 4) in place_number p.cell s (quad_place p.cell s (quad_group p.cell m (i / 4)) (i % 4)) ≡ place_of w p (Phich m) i
  place_is m i =
      let e : 4 * (i / 4) + i % 4 ≡ i = omega arith in
      sym (ap (place_of w p (Phich m)) (sym e) ∙ phich-place w p m (i / 4) (i % 4) (omega arith))

  -- the sums of a unit
  pub sums-are : (m : ℕ) → sums_of p.cell m g ≡ sums_in w p g m
  unfolding sums_of sums_in sum_read symbol_in own_element
  sums-are m =
      table_same 12 (sum_read p.cell m g) (λ (i : ℕ). symbol_in w p g (Phich m) (i / 4 + m) i)
      (λ i. ap (λ (t : ℕ). pair_of (element_in g (own_port p.cell.ports (i / 4 + m) * places_of p.cell + t))) (place_is m i))

  -- THE LAW: the bit of HI n
  pub acks-are : (n : ℕ) → ack_from p.cell (pair_at (control_init p.cell p.frame) 0) (his_of w p) g n ≡ ack_bit w p g n
  unfolding ack_from ack_bit
  acks-are n =
      let l = spread_length p.cell in
      let h = hi_number (his_of w p) n in
      ap (λ (x : ℕ → ℕ). bit_in l x h (sums_of p.cell (mapping_unit l h) g)) (outputs-start (control_init p.cell p.frame))
      ∙ ap (bit_in l (c (control_init p.cell p.frame)) h) (sums-are (mapping_unit l h))

module _ (w : List ℕ) (p : Plan) (ok : check_of w ≡ accepted p) where
  -- what the loops over the HIs and `read_his` require
  pub his-read : {grid : List ℕ} → Room p.cell.ports (places_of p.cell) grid → HisRead p.cell p.his w grid
  his-read r = record { cell-his = cell-his w p ok; room = r }

  pub read-in : {grid part : List ℕ} → Room p.cell.ports (places_of p.cell) grid → length part ≡ section_bytes p.his.count → ReadIn p.cell p.his w grid part
  read-in r s = record { each = his-read r; size = s }
