-- For the crates above: in a grid that some payload makes, every symbol of PBCH and of a user is one that some bits have, and with two
-- ports or four their places go in pairs. Assumes nothing beyond the plan check's answer.
use Prim.Native.Nat.{ℕ, ◌+◌, ◌-◌, ◌%◌, ◌<◌}
use mathlib.Core.Path.{◌≡◌, refl, ap, ◌∙◌}
use mathlib.Core.Bool.{true}
use mathlib.Core.List.{List}
use native.Mathlib.Omega.{arith}
use borrow.Author.Tests.{eq-eqb}
use lib.ListN.{length}
use Rattle.modulation.specs.Marks.{is_symbol}
use Rattle.precoding.specs.Layers.{Occurs, one, two, four}
use Rattle.plan.specs.CommandLists.{users_of, nth_user}
use Rattle.plan.specs.declared.Plan.{Plan}
use Rattle.plan.proofs.Valid.{valid}
use Rattle.layout.specs.declared.Owner.TheVariants.{Pbch, User as UserOf}
use Rattle.compare.specs.Comparing.{Holds}
use Rattle.compare.proofs.Comparing.{holds-less}
use Rattle.subframe.specs.Grid.{grid_of}
use Rattle.subframe.proofs.Occurs.{pbch-occurs, user-occurs}
use Rattle.recovery.specs.Recovery.{payload_in}
use Rattle.areas.specs.Areas.{area_count, pbch_area, user_area}
use Rattle.areas.proofs.AreaOwners.{pbch-count}
use Rattle.data_compare.specs.Symbols.{area_symbol}
use Rattle.schedule.specs.Senders.{owner_sends}
use Rattle.schedule.specs.Schedule.{signal_turns, users_first, channel_count, TurnOf, present_in, sends_of}
use Rattle.schedule.specs.declared.Channel.{Channel}
use Rattle.schedule.specs.declared.Channel.TheVariants as channel
use Rattle.schedule.proofs.Senders.{pbch-sends, user-sends}
use Rattle.schedule.proofs.Owners.{element-in, belongs}
use Rattle.verify.specs.Made.{element_due, Given}
use Rattle.verify.proofs.Elements.{made-element}
use Rattle.verify.proofs.Areas as areas

occurs-even : {P M : ℕ} → Occurs P M → (P ≡ 1 → ⊥) → M % 2 ≡ 0
occurs-even one n = absurd (n refl)
occurs-even (two e) n = e
occurs-even (four e) n = e

module _ (w : List ℕ) (p : Plan) (g : List ℕ) (given : Given w p g) where
  -- ---- the places
  pub pbch-even : p.frame.subframe ≡ 0 → (p.cell.ports ≡ 1 → ⊥) → area_count (pbch_area p.cell p.frame) % 2 ≡ 0
  pbch-even z n =
      ap (λ (m : ℕ). m % 2) (pbch-count w p given.answer z) ∙ occurs-even (pbch-occurs w p given.answer) n

  pub user-even :
      (i : ℕ) → i < length (users_of w p) → (p.cell.ports ≡ 1 → ⊥) → area_count (user_area p.cell p.frame (nth_user w p i)) % 2 ≡ 0
  user-even i in-i n =
      ap (λ (m : ℕ). m % 2) (areas.user-count w p given.answer g given.room i in-i) ∙ occurs-even (user-occurs w p given.answer i in-i) n

  -- ---- the symbols
  module _ (made : grid_of w p (payload_in w p g) ≡ g) where
    -- the elements of every turn hold what is due
    turn_holds : (n : ℕ) (ch : Channel) → TurnOf w p n ch → Holds (sends_of p ch) (element_due w p g) g
    turn_holds n ch t =
        record { elements = λ e k. made-element w p g made e (element-in w p given.answer given.room _ e (belongs w p given.answer given.room n e ch t k).of) }

    pbch-holds : p.frame.subframe ≡ 0 → Holds (owner_sends w p Pbch) (element_due w p g) g
    unfolding TurnOf present_in
    pbch-holds z =
        holds-less (λ e k. pbch-sends w p given.answer (eq-eqb p.frame.subframe 0 z) e ∙ k) (λ e k. refl) (turn_holds (signal_turns p.cell + 2) channel.Pbch refl)

    user-holds : (i : ℕ) → i < length (users_of w p) → Holds (owner_sends w p (UserOf i)) (element_due w p g) g
    unfolding TurnOf channel_count
    user-holds i l =
        let n = users_first p + i in
        let d : i ≡ n - users_first p = omega arith in
        holds-less (λ e k. user-sends w p given.answer i l (nth_user w p i) refl e ∙ k) (λ e k. refl)
        (turn_holds n (channel.User (nth_user w p i)) (omega arith, omega (arith, l, (valid w p given.answer).users-count), ap (nth_user w p) d))

    pub pbch-known :
        p.frame.subframe ≡ 0 → (j : ℕ) → j < area_count (pbch_area p.cell p.frame)
        → is_symbol 2 (area_symbol (pbch_area p.cell p.frame) g j) ≡ true
    pbch-known z = areas.pbch-known w p given.answer g given.room z (pbch-holds z)

    pub user-known :
        (i : ℕ) → i < length (users_of w p) → (j : ℕ) → j < area_count (user_area p.cell p.frame (nth_user w p i))
        → is_symbol (nth_user w p i).order (area_symbol (user_area p.cell p.frame (nth_user w p i)) g j) ≡ true
    user-known i in-i = areas.user-known w p given.answer g given.room i in-i (user-holds i in-i)
