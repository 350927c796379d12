-- A channel's section as `read_channel` reads it: what the calls for its area need, and that the part then is what is due. Assumes nothing.
use Prim.Native.Nat.{ℕ, ◌*◌}
use mathlib.Core.Path.{◌≡◌, refl, sym, ap, ap₂, subst, ◌∙◌}
use mathlib.Core.Bool.{Bool, true, false, not}
use mathlib.Core.List.{List, [], ◌∷◌}
use types.Run.{OneOf}
use denote.Enum.Declared.{tag_of}
use borrow.Author.Tests.{not-true, not-false}
use lib.ListN.{length}
use Rattle.gold.specs.declared.Registers.{Registers}
use Rattle.plan.specs.Lists.{one_of}
use Rattle.plan.specs.declared.Plan.{Plan}
use Rattle.plan.specs.declared.User.{User}
use Rattle.plan.proofs.OneOf.{not_in}
use Rattle.payload.specs.Sections.{section_bytes}
use Rattle.recovery.specs.Recovery.{section_of}
use Rattle.constellation.specs.Axis.{Axis}
use Rattle.areas.specs.declared.Area.{Area}
use Rattle.areas.specs.Areas.{area_count, pbch_area, user_area}
use Rattle.areas.specs.Tables.{RowMasks}
use Rattle.data_read.specs.Reading.{area_bit, AreaReads}
use Rattle.schedule.specs.Schedule.{start_pair, present_in}
use Rattle.schedule.specs.declared.Channel.{Channel}
use Rattle.schedule.specs.declared.Channel.TheVariants.{Crs, Sync, Pbch, Pcfich, Phich, User as UserOf}
use Rattle.schedule.specs.contracts.Channel.{the_type}
use Rattle.std.specs.declared.option.Option.{Option}
use Rattle.read.specs.Reading.{PartIn, part_read, PartOf, own_part, part_after, ChannelIn}

-- ---- the call for an area
module _ (p : Plan) (ch : Channel) (A : Area) (q : ℕ) (g : List ℕ) (a : Area) (is : a ≡ A) where
  pub area-reads :
      {part : List ℕ} → PartIn p ch A q g part → {d masks : List ℕ} → Axis q d → RowMasks a.cell a.frame a.signals a.leaves 14 masks
      → AreaReads a q d masks g × (length part ≡ section_bytes (q * area_count a))
  area-reads h axis rows =
      (record { section = rw is h.section; signals = rw is h.signals; axis = axis; bytes = rows }, rw is h.size)

  pub area-read : (r : Registers) → r ≡ start_pair p ch → {ys : List ℕ} → ys ≡ section_of (area_bit a q g r) (q * area_count a) → ys ≡ part_read p ch A q g
  area-read r er e = e ∙ ap₂ (λ (b : Area) (s : Registers). section_of (area_bit b q g s) (q * area_count b)) is er

-- ---- by the channel
kept-part : (p : Plan) (g part : List ℕ) (ch : Channel) → OneOf (0 ∷ 1 ∷ 3 ∷ 4 ∷ []) (tag_of the_type ch) → part ≡ own_part p ch g part
unfolding own_part one_of
kept-part p g part (Crs s) k = refl
kept-part p g part (Sync m) k = refl
kept-part p g part Pbch k = absurd (not_in (0 ∷ 1 ∷ 3 ∷ 4 ∷ []) 2 k refl)
kept-part p g part Pcfich k = refl
kept-part p g part (Phich m) k = refl
kept-part p g part (UserOf u) k = absurd (not_in (0 ∷ 1 ∷ 3 ∷ 4 ∷ []) 5 k refl)

module _ {p : Plan} {ch : Channel} {have : Option ℕ} {d masks g part : List ℕ} (given : ChannelIn p ch have d masks g part) {b : Bool} (eb : b ≡ present_in p ch) where
  -- the subframe does not have the channel
  pub absent-after : not b ≡ true → part ≡ part_after p ch g part
  absent-after n = rw (sym eb ∙ not-true b n) refl

  module _ (n : not b ≡ false) where
    there : present_in p ch ≡ true
    there = sym eb ∙ not-false b n

    -- or has it: PBCH
    module _ (is : ch ≡ Pbch) where
      pub pbch-needs : PartIn p Pbch (pbch_area p.cell p.frame) 2 g part
      unfolding PartOf
      pbch-needs = subst (λ (x : Channel). PartOf p x g part) is (given.own there)

      pub pbch-after : {ys : List ℕ} → ys ≡ part_read p Pbch (pbch_area p.cell p.frame) 2 g → ys ≡ part_after p ch g part
      unfolding own_part
      pbch-after e = rw there (e ∙ sym (ap (λ (x : Channel). own_part p x g part) is))

    -- a user
    module _ {u : User} (is : ch ≡ UserOf u) where
      abbrev A : Area
      A = user_area p.cell p.frame u

      pub user-needs : PartIn p (UserOf u) (user_area p.cell p.frame u) u.order g part
      unfolding PartOf
      user-needs = subst (λ (x : Channel). PartOf p x g part) is (given.own there)

      pub user-reads :
          (a : Area) → a ≡ user_area p.cell p.frame u → {t : List ℕ} → Axis u.order t
          → AreaReads a u.order t masks g × (length part ≡ section_bytes (u.order * area_count a))
      user-reads a ea axis = area-reads p (UserOf u) A u.order g a ea user-needs axis (rw ea given.rows)

      pub user-after :
          (a : Area) → a ≡ user_area p.cell p.frame u → (r : Registers) → r ≡ start_pair p (UserOf u)
          → {ys : List ℕ} → ys ≡ section_of (area_bit a u.order g r) (u.order * area_count a) → ys ≡ part_after p ch g part
      unfolding own_part
      user-after a ea r er e =
          rw there (area-read p (UserOf u) A u.order g a ea r er e ∙ sym (ap (λ (x : Channel). own_part p x g part) is))

    -- a channel with no section of its own
    pub kept-after : OneOf (0 ∷ 1 ∷ 3 ∷ 4 ∷ []) (tag_of the_type ch) → part ≡ part_after p ch g part
    kept-after k = rw there (kept-part p g part ch k)
