-- A channel sends nothing where the subframe does not have it; the elements that PBCH, PCFICH, a unit and a user send are the owner's on the
-- ports with a term. Assumes nothing beyond the plan
-- check's answer.
use Prim.Native.Nat.{ℕ, ◌%◌, ◌<◌}
use mathlib.Core.Path.{◌≡◌, refl, ap, ◌∙◌}
use mathlib.Core.Bool.{true, false}
use mathlib.Core.List.{List}
use native.Mathlib.Omega.{arith}
use borrow.Author.Tests.{eqb-true}
use lib.ListN.{length}
use Rattle.std.specs.declared.result.Result.TheVariants.{Ok as accepted}
use Rattle.plan.specs.Check.{check_of}
use Rattle.plan.specs.CommandLists.{users_of, nth_user}
use Rattle.plan.specs.declared.Plan.{Plan}
use Rattle.plan.specs.declared.User.{User}
use Rattle.layout.specs.declared.Owner.TheVariants.{Pbch, Pcfich, Phich, User as UserOf}
use Rattle.places.specs.Places.{places_of}
use Rattle.areas.specs.Areas.{area_sends, pbch_area, user_area}
use Rattle.areas.proofs.AreaOwners.{pbch-place, pbch-index, user-place, user-index}
use Rattle.control.specs.Control.{pcfich_sends, phich_sends}
use Rattle.control.proofs.ControlOwners.{pcfich-owns, pcfich-index, phich-owns, phich-index}
use Rattle.schedule.specs.Senders.{active, owner_sends}
use Rattle.schedule.specs.Schedule.{present_in, elements_of, sends_of}
use Rattle.schedule.specs.declared.Channel.{Channel}
use Rattle.schedule.specs.declared.Channel.TheVariants as channel
use Rattle.schedule.proofs.Some.{and-true}
use Rattle.schedule.proofs.Numbered.{place-lt}

-- ---- whether the subframe has a channel
module _ (p : Plan) (ch : Channel) where
  pub present-sends : present_in p ch ≡ true → (e : ℕ) → sends_of p ch e ≡ elements_of p ch e
  unfolding sends_of
  present-sends h e = rw h refl

  pub absent-sends : present_in p ch ≡ false → (e : ℕ) → sends_of p ch e ≡ false
  unfolding sends_of
  absent-sends h e = rw h refl

  pub present-of : (e : ℕ) → sends_of p ch e ≡ true → present_in p ch ≡ true
  unfolding sends_of
  present-of e h = (and-true (present_in p ch) (elements_of p ch e) h).0

module _ (w : List ℕ) (p : Plan) (ok : check_of w ≡ accepted p) where
  abbrev T : ℕ
  T = places_of p.cell

  pub pcfich-owned : (e : ℕ) → pcfich_sends p.cell e ≡ owner_sends w p Pcfich e
  unfolding pcfich_sends owner_sends active
  pcfich-owned e = rw (pcfich-owns w p ok (e % T), pcfich-index w p ok (e % T)) refl

  pub phich-owned : (m e : ℕ) → phich_sends p.cell m e ≡ owner_sends w p (Phich m) e
  unfolding phich_sends owner_sends active
  phich-owned m e = rw (phich-owns w p ok m (e % T), phich-index w p ok m (e % T)) refl

  pub pbch-area : p.frame.subframe ≡ 0 → (e : ℕ) → area_sends (pbch_area p.cell p.frame) e ≡ owner_sends w p Pbch e
  unfolding area_sends owner_sends active
  pbch-area z e = rw (pbch-place w p ok z (e % T), pbch-index w p ok z (e % T)) refl

  pub user-area : (i : ℕ) → i < length (users_of w p) → (e : ℕ) → area_sends (user_area p.cell p.frame (nth_user w p i)) e ≡ owner_sends w p (UserOf i) e
  unfolding area_sends owner_sends active nth_user
  user-area i l e = rw (user-place w p ok i l _ (e % T) (place-lt w p ok e), user-index w p ok i l _ (e % T) (omega (arith, place-lt w p ok e))) refl

  -- ---- the same of the schedule's channels
  pub pbch-sends : present_in p channel.Pbch ≡ true → (e : ℕ) → sends_of p channel.Pbch e ≡ owner_sends w p Pbch e
  unfolding sends_of present_in elements_of
  pbch-sends h e = rw h (pbch-area (eqb-true p.frame.subframe 0 h) e)

  pub pcfich-sends : (e : ℕ) → sends_of p channel.Pcfich e ≡ owner_sends w p Pcfich e
  unfolding sends_of present_in elements_of
  pcfich-sends e = pcfich-owned e

  pub unit-sends : (m e : ℕ) → sends_of p (channel.Phich m) e ≡ owner_sends w p (Phich m) e
  unfolding sends_of present_in elements_of
  unit-sends m e = phich-owned m e

  pub user-sends : (i : ℕ) → i < length (users_of w p) → (u : User) → u ≡ nth_user w p i → (e : ℕ) → sends_of p (channel.User u) e ≡ owner_sends w p (UserOf i) e
  unfolding sends_of present_in elements_of
  user-sends i l u eu e = ap (λ (v : User). area_sends (user_area p.cell p.frame v) e) eu ∙ user-area i l e
