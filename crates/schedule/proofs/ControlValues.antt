-- PCFICH and the PHICH units: what they send is the subframe's. Assumes nothing beyond the plan
-- check's answer, and sums over the plan's HIs with the payload's bits.
use Prim.Native.Nat.{ℕ, ◌+◌, ◌*◌, ◌/◌, ◌%◌, ◌<◌}
use mathlib.Core.Path.{◌≡◌, sym, ◌∙◌}
use mathlib.Core.Bool.{true}
use mathlib.Core.List.{List}
use lib.ListN.{take, drop}
use Rattle.std.specs.declared.result.Result.TheVariants.{Ok as accepted}
use Rattle.gold.specs.Sequence.{pair_at}
use Rattle.phich.specs.Spreading.{spread_length}
use Rattle.phich.specs.Loops.{QuadSums}
use Rattle.plan.specs.Check.{check_of}
use Rattle.plan.specs.Fields.{mapping_units}
use Rattle.plan.specs.CommandLists.{his_of}
use Rattle.plan.specs.declared.Plan.{Plan}
use Rattle.layout.specs.declared.Owner.TheVariants.{Pcfich, Phich}
use Rattle.places.specs.Places.{places_of, owns_at, index_of}
use Rattle.grid.specs.Writing.{sends, Room}
use Rattle.subframe.specs.Elements.{control_init, hi_bit}
use Rattle.subframe.specs.Grid.{element_numbered}
use Rattle.control.specs.Control.{pcfich_sends, pcfich_sent, phich_sends, phich_sent}
use Rattle.control.proofs.ControlOwners.{pcfich-value, phich-value}
use Rattle.schedule.specs.Senders.{active, owner_sends}
use Rattle.schedule.proofs.Some.{and-true}
use Rattle.schedule.proofs.Numbered.{sends-port, numbered}
use Rattle.schedule.proofs.Senders.{pcfich-owned, phich-owned}

module _ (w : List ℕ) (p : Plan) (ok : check_of w ≡ accepted p) (payload : List ℕ) {grid : List ℕ} (room : Room p.cell.ports (places_of p.cell) grid) where
  abbrev T : ℕ
  T = places_of p.cell

  pub pcfich-numbered :
      (e : ℕ) → pcfich_sends p.cell e ≡ true
      → pcfich_sent p.cell p.frame.cfi (pair_at (control_init p.cell p.frame) 0) e ≡ element_numbered w p payload e
  unfolding owner_sends active
  pcfich-numbered e h =
      let o = and-true (owns_at w p Pcfich (e % T)) (sends p.cell.ports (index_of w p Pcfich (e % T) / 2 % 2) (e / T)) (sym (pcfich-owned w p ok e) ∙ h) in
      pcfich-value w p ok payload e h (sends-port room (index_of w p Pcfich (e % T) / 2 % 2) (e / T) o.1) ∙ sym (numbered w p ok payload Pcfich e o.0)

  module _ (m : ℕ) (in-m : m < mapping_units p.cell) where
    pub phich-numbered :
        {bit : ℕ → ℕ} {s : List ℕ} → QuadSums (spread_length p.cell) bit (his_of w p) s → ((n : ℕ) → n < p.his.count → bit n ≡ hi_bit w p payload n)
        → (e : ℕ) → phich_sends p.cell m e ≡ true
        → phich_sent p.cell m (pair_at (control_init p.cell p.frame) 0) (take 8 (drop (8 * m) s)) e ≡ element_numbered w p payload e
    unfolding owner_sends active
    phich-numbered q same e h =
        let o = and-true (owns_at w p (Phich m) (e % T)) (sends p.cell.ports ((index_of w p (Phich m) (e % T) / 4 + m) % 2) (e / T)) (sym (phich-owned w p ok m e) ∙ h) in
        phich-value w p ok q m in-m payload same e h (sends-port room ((index_of w p (Phich m) (e % T) / 4 + m) % 2) (e / T) o.1)
        ∙ sym (numbered w p ok payload (Phich m) e o.0)
