-- One law for each way out of the code's functions for the kinds' counts. Assumes nothing but what it names.
use Rattle.std.specs.Prelude.{if◌then◌else◌, Ok as accepted}
use Prim.Native.Nat.{ℕ, ◌+◌, ◌-◌, ◌*◌, ◌≤◌}
use mathlib.Core.Path.{◌≡◌, refl, sym, ap, ◌∙◌}
use mathlib.Core.Bool.{Bool, true, false}
use mathlib.Core.List.{List, [], ◌∷◌}
use native.Mathlib.Nat.{mul-le-mul_left, le_trans}
use native.Mathlib.Omega.{arith}
use lib.Dec.{eqb}
use borrow.Author.Tests.{eq-eqb, ne_eqb}
use Rattle.base.specs.Tables.{table}
use Rattle.plan.specs.Fields.{mapping_units}
use Rattle.plan.specs.Check.{check_of}
use Rattle.plan.specs.declared.Cell.{Cell}
use Rattle.plan.specs.declared.Frame.{Frame}
use Rattle.plan.specs.declared.Plan.{Plan}
use Rattle.plan.proofs.Valid.{valid}
use Rattle.plan.proofs.Counts.{blocks-most}
use Rattle.layout.specs.Owners.{symbols, carriers}
use Rattle.layout.proofs.Pilot.{slot-length}
use Rattle.base.specs.Sums.{sum_to}
use Rattle.counts.specs.Counts.{kinds, kind_count}
use Rattle.counts.specs.Kinds.{crs_elements, sync_elements, pbch_elements, holes, held_elements}
use Rattle.counts.proofs.AddUp.{kinds-add-up}
use Rattle.counts.proofs.KindCounts.{crs-kind, pss-kind, sss-kind, pbch-kind, pcfich-kind, phich-kind, held-kind, idle-kind}

module _ (c : Cell) where
  pub crs-one : c.ports ≡ 1 → 8 * c.blocks ≡ crs_elements c
  unfolding crs_elements
  crs-one e = rw (eq-eqb c.ports 1 e) refl

  pub crs-two : (c.ports ≡ 1 → ⊥) → c.ports ≡ 2 → 16 * c.blocks ≡ crs_elements c
  unfolding crs_elements
  crs-two n e = rw (ne_eqb c.ports 1 n, eq-eqb c.ports 2 e) refl

  pub crs-four : (c.ports ≡ 1 → ⊥) → (c.ports ≡ 2 → ⊥) → 24 * c.blocks ≡ crs_elements c
  unfolding crs_elements
  crs-four n m = rw (ne_eqb c.ports 1 n, ne_eqb c.ports 2 m) refl

  pub holes-extended : c.ports ≡ 1 → c.prefix ≡ 1 → 48 ≡ holes c
  unfolding holes
  holes-extended e d = rw (eq-eqb c.ports 1 e, eq-eqb c.prefix 1 d) refl

  pub holes-normal : c.ports ≡ 1 → (c.prefix ≡ 1 → ⊥) → 36 ≡ holes c
  unfolding holes
  holes-normal e d = rw (eq-eqb c.ports 1 e, ne_eqb c.prefix 1 d) refl

  pub holes-two : (c.ports ≡ 1 → ⊥) → c.ports ≡ 2 → 24 ≡ holes c
  unfolding holes
  holes-two n e = rw (ne_eqb c.ports 1 n, eq-eqb c.ports 2 e) refl

  pub holes-none : (c.ports ≡ 1 → ⊥) → (c.ports ≡ 2 → ⊥) → 0 ≡ holes c
  unfolding holes
  holes-none n m = rw (ne_eqb c.ports 1 n, ne_eqb c.ports 2 m) refl

  pub holes-few : holes c ≤ 48
  unfolding holes
  holes-few = pick (eqb c.ports 1) (eqb c.prefix 1) (eqb c.ports 2)
    where
      pick : (x y z : Bool) → (if x then (if y then 48 else 36) else if z then 24 else 0) ≤ 48
      pick true true z = omega arith
      pick true false z = omega arith
      pick false y true = omega arith
      pick false y false = omega arith

  module _ (f : Frame) where
    pub pbch-extended : f.subframe ≡ 0 → c.prefix ≡ 1 → 216 ≡ pbch_elements c f
    unfolding pbch_elements
    pbch-extended e d = rw (eq-eqb f.subframe 0 e, eq-eqb c.prefix 1 d) refl

    pub pbch-normal : f.subframe ≡ 0 → (c.prefix ≡ 1 → ⊥) → 240 ≡ pbch_elements c f
    unfolding pbch_elements
    pbch-normal e d = rw (eq-eqb f.subframe 0 e, ne_eqb c.prefix 1 d) refl

    pub pbch-none : (f.subframe ≡ 0 → ⊥) → 0 ≡ pbch_elements c f
    unfolding pbch_elements
    pbch-none n = rw (ne_eqb f.subframe 0 n) refl

    pub held_first : f.subframe ≡ 0 → (x : ℕ) → x ≡ holes c → 20 + x ≡ held_elements c f
    unfolding held_elements
    held_first e x d = rw (eq-eqb f.subframe 0 e, d) refl

    pub held-sixth : (f.subframe ≡ 0 → ⊥) → f.subframe ≡ 5 → 20 ≡ held_elements c f
    unfolding held_elements
    held-sixth n e = rw (ne_eqb f.subframe 0 n, eq-eqb f.subframe 5 e) refl

    pub held_none : (f.subframe ≡ 0 → ⊥) → (f.subframe ≡ 5 → ⊥) → 0 ≡ held_elements c f
    unfolding held_elements
    held_none n m = rw (ne_eqb f.subframe 0 n, ne_eqb f.subframe 5 m) refl

-- ---- the grid's places
places-most : (n S : ℕ) → n ≤ 255 → S ≤ 14 → 12 * n * S ≤ 42840
places-most n S l m = le_trans (mul-le-mul_left (12 * n) m) (let z : 12 * n * 14 ≤ 42840 = omega arith in z)

-- ---- the nine counts
module _ (w : List ℕ) (p : Plan) (ok : check_of w ≡ accepted p)
    (crs sync pbch units users held : ℕ) (e0 : crs ≡ crs_elements p.cell) (e1 : sync ≡ sync_elements p.frame) (e3 : pbch ≡ pbch_elements p.cell p.frame)
    (e5 : units ≡ mapping_units p.cell) (e6 : users ≡ kind_count w p 6) (e7 : held ≡ held_elements p.cell p.frame) where
  abbrev owned : ℕ
  owned = crs + sync + sync + pbch + 16 + 12 * units + users + held

  eight : sum_to 8 (kind_count w p) ≡ owned
  unfolding sum_to
  eight =
      omega (
        arith,
        e0 ∙ sym (crs-kind w p ok),
        e1 ∙ sym (pss-kind w p ok),
        e1 ∙ sym (sss-kind w p ok),
        e3 ∙ sym (pbch-kind w p ok),
        pcfich-kind w p ok,
        phich-kind w p ok,
        e6,
        e7 ∙ sym (held-kind w p ok),
      )

  pub owned-most : owned ≤ carriers p.cell * symbols p.cell
  unfolding sum_to
  owned-most = part (sum_to 8 (kind_count w p)) (kind_count w p 8) owned (carriers p.cell * symbols p.cell) eight (kinds-add-up w p ok)
    where
      part : (a b o t : ℕ) → a ≡ o → a + b ≡ t → o ≤ t
      part a b o t x y = omega arith

  pub owned-few : owned ≤ 42840
  owned-few =
      let b = blocks-most p.cell (valid w p ok).cell in
      let z = slot-length p.cell in
      le_trans owned-most (places-most p.cell.blocks (symbols p.cell) (omega arith) (omega arith))

  pub nine : (total : ℕ) → total ≡ carriers p.cell * symbols p.cell
      → crs ∷ sync ∷ sync ∷ pbch ∷ 16 ∷ (12 * units) ∷ users ∷ held ∷ (total - owned) ∷ [] ≡ table kinds (kind_count w p)
  unfolding table
  nine total t =
      let last : total - owned ≡ kind_count w p 8 = ap (λ (x : ℕ). x - owned) t ∙ ap (λ (x : ℕ). carriers p.cell * symbols p.cell - x) (sym eight) ∙ sym (idle-kind w p ok) in
      rw (crs-kind w p ok, pss-kind w p ok, sss-kind w p ok, pbch-kind w p ok, pcfich-kind w p ok, phich-kind w p ok, held-kind w p ok, ← last, ← e6, ← e0, ← e1, ← e3, ← e5, ← e7) refl
