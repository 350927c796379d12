-- Reference and synchronisation signals: what they write is the subframe's. Assumes nothing beyond the plan check's answer.
use Prim.Native.Nat.{ℕ, ◌+◌, ◌-◌, ◌*◌, ◌/◌, ◌%◌}
use mathlib.Core.Path.{◌≡◌, sym, ap, ◌∙◌}
use mathlib.Core.Bool.{true}
use mathlib.Core.List.{List}
use Rattle.std.specs.declared.result.Result.TheVariants.{Ok as accepted}
use Rattle.gold.specs.Sequence.{pair_at}
use Rattle.crs.specs.Crs.{crs_init}
use Rattle.plan.specs.Check.{check_of}
use Rattle.plan.specs.declared.Plan.{Plan}
use Rattle.layout.specs.Rules.{slot_of, in_slot, marked}
use Rattle.layout.specs.Owners.{owns}
use Rattle.layout.specs.declared.Mark.TheVariants.{Primary, Secondary}
use Rattle.layout.specs.declared.Owner.TheVariants.{Crs, Sync}
use Rattle.places.specs.Places.{carrier_at, places_of, owns_at}
use Rattle.subframe.specs.Elements.{crs_element, element_for}
use Rattle.subframe.specs.Grid.{element_numbered}
use Rattle.signals.specs.Signals.{crs_sends, crs_sent, mark_sends, pss_sent, sss_sent}
use Rattle.signals.proofs.SignalOwners.{port-sends, crs-parts, crs-value, pss-sends, sss-sends, pss-value, sss-value}
use Rattle.schedule.proofs.Numbered.{numbered}

module _ (w : List ℕ) (p : Plan) (ok : check_of w ≡ accepted p) (payload : List ℕ) where
  abbrev T : ℕ
  T = places_of p.cell

  pub crs-numbered :
      (s e : ℕ) → crs_sends p.cell s e ≡ true
      → crs_sent p.cell (pair_at (crs_init p.cell.prefix p.cell.identity (2 * p.frame.subframe + slot_of p.cell s) (in_slot p.cell s)) (2 * (110 - p.cell.blocks))) e
      ≡ element_numbered w p payload e
  unfolding element_for owns_at
  crs-numbered s e h =
      let q = e / T in
      let y = crs-parts w p s e h in
      let d = port-sends w p q s e y.0 y.1 y.2 in
      crs-value w p q s e ok y.2
      ∙ ap (λ (x : ℕ). crs_element p.cell p.frame q (e / T) x (carrier_at p.cell (e % T))) (sym d.2)
      ∙ sym (numbered w p ok payload (Crs q) e (ap (λ (x : ℕ). owns w p (Crs q) x (carrier_at p.cell (e % T))) d.2 ∙ d.0))

  module _ (m : marked p.frame ≡ true) (e : ℕ) where
    pub pss-numbered : mark_sends p.cell 1 e ≡ true → pss_sent p.cell e ≡ element_numbered w p payload e
    unfolding element_for owns_at
    pss-numbered h = pss-value w p e h ∙ sym (numbered w p ok payload (Sync Primary) e ((pss-sends w p e m).0 h).0)

    pub sss-numbered : mark_sends p.cell 2 e ≡ true → sss_sent p.cell p.frame e ≡ element_numbered w p payload e
    unfolding element_for owns_at
    sss-numbered h = sss-value w p e h ∙ sym (numbered w p ok payload (Sync Secondary) e ((sss-sends w p e m).0 h).0)
