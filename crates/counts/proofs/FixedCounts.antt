-- PCFICH has 16 places, every PHICH unit 12, and PBCH 240 (extended prefix 216) in subframe 0: half of document 01's 480 (432) bits.
-- Assumes nothing but that the plan check answers with the plan.
use Rattle.std.specs.Prelude.{if◌then◌else◌, Ok as accepted}
use Prim.Native.Nat.{ℕ, ◌+◌, ◌-◌, ◌*◌, ◌/◌, ◌%◌, ◌≤◌, ◌<◌}
use mathlib.Core.Path.{◌≡◌, refl, ap, ◌∙◌}
use mathlib.Core.Bool.{Bool, not, ◌&&◌}
use mathlib.Core.List.{List}
use native.Mathlib.Omega.{arith}
use lib.Dec.{leb, ltb, eqb}
use borrow.Author.Tests.{lt-ltb}
use Rattle.base.proofs.Tests.{by-test}
use Rattle.plan.specs.Fields.{mapping_units, symbol_groups}
use Rattle.plan.specs.Check.{check_of}
use Rattle.plan.specs.declared.Plan.{Plan}
use Rattle.base.specs.Choice.{indicator}
use Rattle.plan.specs.declared.Cell.{Cell}
use Rattle.plan.specs.declared.Frame.{Frame}
use Rattle.layout.specs.Rules.{slot_length, in_slot, crs_symbol, crs_below, centre, in_pbch_area, pbch, element_group, in_group, format_has, pcfich, mapping_unit_has, phich}
use Rattle.layout.specs.Owners.{symbols, carriers, fixed_rule, owns}
use Rattle.layout.proofs.Few.{blocks-least, sixths-most}
use Rattle.layout.proofs.Pilot.{hits}
use Rattle.layout.proofs.Units.{units-fit}
use Rattle.layout.specs.declared.Owner.TheVariants.{Pbch, Pcfich, Phich}
use Rattle.base.specs.Sums.{sum_to}
use Rattle.counts.specs.Counts.{count_of}
use Rattle.counts.specs.Users.{signals}
use Rattle.base.proofs.Sums.{by-six, sum_same, sum-none, sum-times}
use Rattle.counts.proofs.Signals.{refs, half-left}
use Rattle.counts.proofs.Halves.{central, centre-half, twelve}
use Rattle.counts.proofs.Groups.{pairs, four-formats, three-groups, group-row}

-- ---- what has some groups has four places of each
group-places : (c : Cell) (r has : ℕ → ℕ → Bool) → ((s k : ℕ) → r s k ≡ in_group c s k && has s (element_group c s k))
    → sum_to (symbols c) (λ s. sum_to (carriers c) (λ k. indicator (r s k))) ≡ pairs (symbols c) (symbol_groups c) has * 4
group-places c r has same =
    sum_same (symbols c) _ _ (λ s l. sum_same (carriers c) _ _ (λ k m. ap indicator (same s k)) ∙ group-row c s (has s))
    ∙ sum-times (symbols c) 4 (λ s. sum_to (symbol_groups c s) (λ t. indicator (has s t)))

-- ---- PBCH: what the reference signals of P ports leave of the centre in a symbol
pub open_row : (c : Cell) (P s : ℕ) → 6 ≤ c.blocks
    → sum_to (carriers c) (λ k. indicator (centre c k && not (crs_below c P s k))) ≡ 12 * (6 - signals c P s)
open_row c P s wide =
    let N = c.blocks in
    let q = refs c P s in
    let z : carriers c ≡ 6 * (2 * N) = omega arith in
    let v = 6 - signals c P s in
    rw z
    (by-six (2 * N) _ (λ b r. indicator (central c b && not (hits q.u q.v q.x r)))
    (λ b r k i j e.
    let x : k / 6 ≡ b = omega arith in
    let y : k % 6 ≡ r = omega arith in
    rw (centre-half c k, q.held k, x, y) refl)
    ∙ sum_same (2 * N) _ (λ b. indicator (central c b) * v) (λ b i. half-left (central c b) q.u q.v q.small ∙ ap (λ (x : ℕ). indicator (central c b) * (6 - x)) q.sum)
    ∙ sum-times (2 * N) v (λ b. indicator (central c b)) ∙ ap (λ (x : ℕ). x * v) (twelve c wide))

module _ (c : Cell) (f : Frame) (wide : 6 ≤ c.blocks) where
  -- symbol s is one of PBCH's
  abbrev in_area : ℕ → Bool
  in_area s = eqb f.subframe 0 && leb (slot_length c) s && ltb s (slot_length c + 4)

  pbch-row : (s : ℕ) → sum_to (carriers c) (λ k. indicator (pbch c f s k)) ≡ (if in_area s then 12 * (6 - signals c 4 s) else 0)
  unfolding pbch in_pbch_area
  pbch-row s =
      by-test (in_area s)
      (λ e. rw e (open_row c 4 s wide))
      (λ e. rw e (sum-none (carriers c) _ (λ k l. refl)))

  pbch-rows : sum_to (symbols c) (λ s. if in_area s then 12 * (6 - signals c 4 s) else 0) ≡ (if eqb f.subframe 0 then (if eqb c.prefix 1 then 216 else 240) else 0)
  unfolding slot_length sum_to signals crs_symbol in_slot
  pbch-rows =
      by-test (eqb f.subframe 0)
      (λ x. by-test (eqb c.prefix 1) (λ y. rw (x, y) refl) (λ y. rw (x, y) refl))
      (λ x. rw x (sum-none (symbols c) _ (λ s l. refl)))

module _ (w : List ℕ) (p : Plan) (e : check_of w ≡ accepted p) where
  wide : 6 ≤ p.cell.blocks
  wide = blocks-least w p e

  pub pcfich-count : count_of w p Pcfich ≡ 16
  unfolding count_of owns fixed_rule pcfich
  pcfich-count = group-places p.cell (pcfich p.cell) (format_has p.cell) (λ s k. refl) ∙ rw (four-formats p.cell wide) refl

  pub phich-count : (m : ℕ) → m < mapping_units p.cell → count_of w p (Phich m) ≡ 12
  unfolding count_of owns fixed_rule phich
  phich-count m l =
      group-places p.cell (phich p.cell m) (mapping_unit_has p.cell m) (λ s k. rw (lt-ltb m (mapping_units p.cell) l) refl)
      ∙ rw (three-groups p.cell wide (units-fit p.cell (sixths-most w p e) wide) m l) refl

  pub pbch-count : count_of w p Pbch ≡ (if eqb p.frame.subframe 0 then (if eqb p.cell.prefix 1 then 216 else 240) else 0)
  unfolding count_of owns fixed_rule
  pbch-count = sum_same (symbols p.cell) _ _ (λ s l. pbch-row p.cell p.frame wide s) ∙ pbch-rows p.cell p.frame wide
