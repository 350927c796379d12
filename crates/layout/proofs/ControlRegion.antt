-- The control region ends before SSS's symbol, and has every place of PCFICH and of a PHICH unit in either duration; users begin at its end,
-- so none meets one. Assumes of the first that the CFI is at most 3, else nothing beyond the plan check's answer.
use Prim.Native.Nat.{ℕ, ◌-◌, ◌≤◌, ◌<◌}
use native.Mathlib.Omega.{arith}
use mathlib.Core.Path.{◌≡◌}
use mathlib.Core.Bool.{true, false, ◌&&◌}
use mathlib.Core.List.{List}
use lib.Dec.{leb, eqb}
use borrow.Author.Tests.{eqb-true, eqb-false, leb-true}
use Rattle.std.specs.declared.result.Result.TheVariants.{Ok as accepted}
use Rattle.base.proofs.Tests.{by-test, is_false}
use Rattle.plan.specs.Check.{check_of}
use Rattle.plan.specs.CommandLists.{users_of}
use Rattle.plan.specs.Fields.{control_symbols}
use Rattle.plan.specs.Valid.{Valid}
use Rattle.plan.specs.declared.Cell.{Cell}
use Rattle.plan.specs.declared.Frame.{Frame}
use Rattle.plan.specs.declared.Plan.{Plan}
use Rattle.plan.proofs.ControlRegion.{region-least, region-most}
use Rattle.plan.proofs.Listed.{and_left, and_right}
use Rattle.plan.proofs.Valid.{valid}
use Rattle.layout.specs.Rules.{slot_length, slot_of, element_group, in_group, is_format, format_has, pcfich, phich}
use Rattle.layout.specs.Owners.{free, user_rule}
use Rattle.layout.specs.Chain.{user_has}
use Rattle.layout.proofs.Pilot.{slot-length}
use Rattle.layout.proofs.GroupShape.{quad-normal, quad-low}
use Rattle.layout.proofs.Units.{phich-parts}

-- SSS's symbol is the last but one of the slot
pub region-before-sync : (c : Cell) (f : Frame) → f.cfi ≤ 3 → control_symbols c f ≤ slot_length c - 2
region-before-sync c f l = omega (arith, region-most c f, slot-length c)

module _ (c : Cell) (f : Frame) (some : 1 ≤ f.cfi) (s k : ℕ) where
  pub pcfich-in-region : pcfich c s k ≡ true → s < control_symbols c f
  unfolding pcfich format_has
  pcfich-in-region e =
      let t = element_group c s k in
      let z = eqb-true s 0 (and_left (eqb s 0) (is_format c t) (and_right (in_group c s k) (eqb s 0 && is_format c t) e)) in
      omega (arith, region-least c f)

  pub phich-in-region : (c.duration ≡ 1 → 3 ≤ control_symbols c f) → (m : ℕ) → phich c m s k ≡ true → s < control_symbols c f
  phich-in-region three m e =
      let q = (phich-parts c m s k e).2 in
      by-test (eqb c.duration 1)
      (λ d. omega (arith, q.2, q.1, quad-low c q.0, three (eqb-true c.duration 1 d)))
      (λ d. omega (arith, q.2, quad-normal c q.0 (eqb-false c.duration 1 d), region-least c f))

-- after the region PCFICH and PHICH have nothing
pub record AfterRegion (c : Cell) (s : ℕ) : Type 0 where
  pub no-format : (k : ℕ) → pcfich c s k ≡ false
  pub no-unit : (k m : ℕ) → phich c m s k ≡ false

pub after-region : (w : List ℕ) (p : Plan) → Valid w p → (s : ℕ) → control_symbols p.cell p.frame ≤ s → AfterRegion p.cell s
after-region w p ok s l =
    record {
      no-format = λ k. is_false _ (λ e. let n : ⊥ = omega (arith, pcfich-in-region p.cell p.frame ok.frame.some s k e) in n);
      no-unit = λ k m. is_false _ (λ e. let n : ⊥ = omega (arith, phich-in-region p.cell p.frame ok.frame.some s k ok.region m e) in n);
    }

module _ (w : List ℕ) (p : Plan) (ok : check_of w ≡ accepted p) (s k : ℕ) where
  -- a user's first symbol is the region's end
  pub user-after-region : (i : ℕ) → user_rule w p i s k ≡ true → control_symbols p.cell p.frame ≤ s
  unfolding user_rule
  user-after-region i e =
      let a = user_has (users_of w p) i (slot_of p.cell s) k in
      let b = leb (control_symbols p.cell p.frame) s in
      leb-true _ _ (and_right a b (and_left (a && b) (free p.cell p.frame s k) e))

  -- A QUAD NEVER MEETS A USER
  pub user-meets-no-unit : (i m : ℕ) → user_rule w p i s k ≡ true → phich p.cell m s k ≡ false
  user-meets-no-unit i m e = (after-region w p (valid w p ok) s (user-after-region i e)).no-unit k m
