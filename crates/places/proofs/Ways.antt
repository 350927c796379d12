-- What each function hands back, over plain values. Assumes what the functions require.
use Prim.Native.Nat.{ℕ, ◌+◌, ◌*◌, ◌/◌, ◌%◌, ◌≤◌, ◌<◌}
use mathlib.Core.Path.{◌≡◌, refl, sym, ◌∙◌}
use native.Mathlib.Nat.{mul-le-mul}
use native.Mathlib.Omega.{arith}
use lib.Dec.{ltb}
use Rattle.base.specs.Choice.{indicator}
use Rattle.plan.specs.declared.Cell.{Cell}
use Rattle.plan.specs.Fields.{group_size, symbol_groups}
use Rattle.layout.specs.Rules.{format_group, quad_symbol, groups_left, start_number, quad_number, quad_group}
use Rattle.layout.specs.Owners.{carriers}
use Rattle.layout.proofs.GroupShape.{else-six, groups-most}
use Rattle.layout.proofs.Groups.{left-most}
use Rattle.layout.proofs.Units.{number_lt}
use Rattle.places.specs.Quads.{quad_place}
use Rattle.layout.specs.Chain.{below_of}
use Rattle.places.specs.Steps.{step_of, left_of}
use Rattle.places.specs.Places.{place_number}
use Rattle.places.proofs.Quads.{place-four, place-six}
use Rattle.places.proofs.Inserted.{unit-inserted, unit-later}

-- quad i's symbol s, the number h of the groups left there, and the start's number b
pub number_in :
    (c : Cell) {s h b : ℕ} (m i : ℕ) → s ≡ quad_symbol c i → h ≡ groups_left c s → b ≡ start_number c s → 6 ≤ c.blocks → c.blocks < 256
    → ((b + m + i * h / 3) % h ≡ quad_number c m i) × ((b + m + i * h / 3) % h < 1024)
unfolding quad_number
number_in c m i es eh eb big small =
    rw (eb, eh, es) (refl, omega (arith, number_lt c big m i, left-most c big (quad_symbol c i)))

pub step_sum : (a b c d n t : ℕ) {x r : ℕ} → x ≡ below_of a b c d t → r ≡ indicator (ltb t (n + 1 + x)) → r ≡ step_of a b c d n t
step_sum a b c d n t ex er = rw (← ex) er

module _ (c : Cell) (m i : ℕ) (big : 6 ≤ c.blocks) {n : ℕ} (en : n ≡ quad_number c m i) where
  pub unit-sum :
      {s : ℕ} → s ≡ quad_symbol c i → s ≤ 0 → {w x y z : ℕ} → w ≡ format_group c 0 → x ≡ format_group c 1 → y ≡ format_group c 2 → z ≡ format_group c 3
      → {g : ℕ} → g ≡ left_of w x y z n → g ≡ quad_group c m i
  unit-sum es l ew ex ey ez eg = let z : quad_symbol c i ≡ 0 = omega arith in eg ∙ rw (ew, ex, ey, ez, en) (unit-inserted c big m i z)

  pub unit-sum-later : {s : ℕ} → s ≡ quad_symbol c i → 0 < s → n ≡ quad_group c m i
  unit-sum-later es l = en ∙ unit-later c big m i (omega arith)

-- W is the number of subcarriers, z a group's
module _ (c : Cell) (s g j : ℕ) {z : ℕ} (in_g : g < symbol_groups c s) (in-j : j < 4) (ez : z ≡ group_size c s) {W : ℕ} (eW : W ≡ carriers c) where
  pub place-of-four : z ≡ 4 → s * W + (4 * g + j) ≡ place_number c s (quad_place c s g j)
  place-of-four e = rw (eW, place-four c s g in_g j in-j (sym ez ∙ e)) refl

  pub place-of-six : (z ≡ 4 → ⊥) → {x : ℕ} → x ≡ indicator (ltb (c.identity % 3) (j % 2 + 1)) → s * W + (6 * g + (3 * (j / 2) + j % 2 + x)) ≡ place_number c s (quad_place c s g j)
  place-of-six n ex = rw (eW, ex, place-six c s g j in_g in-j (else-six c s (λ d. n (ez ∙ d)))) refl

-- what fits the machine's words
pub rows_few : (c : Cell) (s : ℕ) {W : ℕ} → W ≡ carriers c → s < 4 → c.blocks < 256 → s * W ≤ 3 * 3060
rows_few c s {W = W} e l small = mul-le-mul {n₁ = s} {m₁ = W} {n₂ = 3} {m₂ = 3060} (omega arith) (omega arith)

pub groups-few : (c : Cell) (s g : ℕ) → g < symbol_groups c s → c.blocks < 256 → g < 1024
groups-few c s g l small = omega (arith, groups-most c s)
