-- For the crates above: the groups of the control symbols, those of the region that PCFICH and PHICH leave, and the control elements. Assumes nothing.
use Prim.Native.Nat.{ℕ, zero, suc, ◌+◌, ◌-◌, ◌*◌, ◌/◌, ◌≤◌, ◌<◌}
use mathlib.Core.Path.{◌≡◌, refl, sym}
use mathlib.Core.Bool.{◌&&◌, ◌||◌}
use native.Mathlib.Nat.{mul-le-mul, le_refl}
use native.Mathlib.Numerals.{add-one}
use native.Mathlib.Omega.{arith}
use lib.Dec.{eqb}
use borrow.Author.Tests.{eq-eqb, ne_eqb, eqb-true, eqb-false}
use Rattle.base.proofs.Tests.{by-test}
use Rattle.plan.specs.Fields.{control_symbols, mapping_units, group_size, symbol_groups, groups_below, region_groups, control_elements}
use Rattle.plan.specs.Valid.{CellIn, FrameIn}
use Rattle.plan.specs.declared.Cell.{Cell}
use Rattle.plan.specs.declared.Frame.{Frame}
use Rattle.plan.proofs.Listed.{choose}
use Rattle.plan.proofs.ControlRegion.{region-other, region-least, region-most}
use Rattle.plan.proofs.Counts.{blocks-least, blocks-most, sixths-most, units-least}

-- ---- a symbol: its groups are of six or of four subcarriers, as the code finds out
module _ (c : Cell) (s : ℕ) where
  pub size-first : s ≡ 0 → 6 ≡ group_size c s
  unfolding group_size
  size-first e = rw e refl

  pub size-second : s ≡ 1 → c.ports ≡ 4 → 6 ≡ group_size c s
  unfolding group_size
  size-second e p = rw (e, eq-eqb c.ports 4 p) refl

  pub size-few-ports : s ≡ 1 → (c.ports ≡ 4 → ⊥) → 4 ≡ group_size c s
  unfolding group_size
  size-few-ports e p = rw (e, ne_eqb c.ports 4 p) refl

  pub size-fourth : s ≡ 3 → c.prefix ≡ 1 → 6 ≡ group_size c s
  unfolding group_size
  size-fourth e p = rw (e, eq-eqb c.prefix 1 p) refl

  pub size-normal : s ≡ 3 → (c.prefix ≡ 1 → ⊥) → 4 ≡ group_size c s
  unfolding group_size
  size-normal e p = rw (e, ne_eqb c.prefix 1 p) refl

  pub size-other : (s ≡ 0 → ⊥) → (s ≡ 1 → ⊥) → (s ≡ 3 → ⊥) → 4 ≡ group_size c s
  unfolding group_size
  size-other a b d = rw (ne_eqb s 0 a, ne_eqb s 1 b, ne_eqb s 3 d) refl

  pub by_size : (P : ℕ → Type 0) → P 6 → P 4 → P (group_size c s)
  unfolding group_size
  by_size P six four = choose P (eqb s 0 || (eqb s 1 && eqb c.ports 4) || (eqb s 3 && eqb c.prefix 1)) 6 4 (λ t. six) (λ t. four)

  pub else-six : (group_size c s ≡ 4 → ⊥) → group_size c s ≡ 6
  else-six = by_size (λ (z : ℕ). (z ≡ 4 → ⊥) → z ≡ 6) (λ n. refl) (λ n. absurd (n refl))

  -- two groups a block, or three
  pub groups-of-four : group_size c s ≡ 4 → 3 * c.blocks ≡ symbol_groups c s
  unfolding symbol_groups
  groups-of-four e = rw e (omega arith)

  pub groups-of-six : group_size c s ≡ 6 → 2 * c.blocks ≡ symbol_groups c s
  unfolding symbol_groups
  groups-of-six e = rw e (omega arith)

  pub symbol-most : symbol_groups c s ≤ 3 * c.blocks
  unfolding symbol_groups
  symbol-most = by_size (λ (z : ℕ). 12 * c.blocks / z ≤ 3 * c.blocks) (omega arith) (omega arith)

-- ---- the symbols below: symbol 0 has two groups a block, another two or three
module _ (c : Cell) where
  pub below_none : 0 ≡ groups_below c 0
  unfolding groups_below
  below_none = refl

  pub below_next : (s : ℕ) → groups_below c s + symbol_groups c s ≡ groups_below c (s + 1)
  unfolding groups_below
  below_next s = rw (add-one s) refl

  below_one : groups_below c 1 ≡ 2 * c.blocks
  below_one = omega (arith, below_none, below_next 0, groups-of-six c 0 (sym (size-first c 0 refl)))

  below_two : groups_below c 2 ≤ 5 * c.blocks
  below_two = omega (arith, below_one, below_next 1, symbol-most c 1)

  below-three : groups_below c 3 ≤ 8 * c.blocks
  below-three = omega (arith, below_two, below_next 2, symbol-most c 2)

  below-four : groups_below c 4 ≤ 11 * c.blocks
  below-four = omega (arith, below-three, below_next 3, symbol-most c 3)

  pub below-most : (s : ℕ) → s ≤ 4 → groups_below c s ≤ 11 * c.blocks
  below-most zero h = omega (arith, below_none)
  below-most (suc zero) h = omega (arith, below_one)
  below-most (suc (suc zero)) h = omega (arith, below_two)
  below-most (suc (suc (suc zero))) h = omega (arith, below-three)
  below-most (suc (suc (suc (suc zero)))) h = below-four
  below-most (suc (suc (suc (suc (suc s))))) h = absurd (omega arith)

  below-few : (s : ℕ) → s ≤ 3 → groups_below c s ≤ 8 * c.blocks
  below-few zero h = omega (arith, below_none)
  below-few (suc zero) h = omega (arith, below_one)
  below-few (suc (suc zero)) h = omega (arith, below_two)
  below-few (suc (suc (suc zero))) h = below-three
  below-few (suc (suc (suc (suc s)))) h = absurd (omega arith)

  pub below-least : (s : ℕ) → 2 * c.blocks ≤ groups_below c (suc s)
  unfolding groups_below
  below-least zero = omega (arith, below_one)
  below-least (suc s) = omega (arith, below-least s)

-- ---- the region of an accepted cell and frame
module _ (c : Cell) (f : Frame) (ci : CellIn c) (fi : FrameIn f) where
  pub region-symbols : control_symbols c f ≤ 4
  region-symbols = omega (arith, region-most c f, fi.most)

  -- symbol 0 alone has PCFICH's four groups and three for each PHICH unit
  first_fits : 4 + 3 * mapping_units c ≤ 2 * c.blocks
  unfolding mapping_units
  first_fits =
      let product : c.sixths * c.blocks ≤ 12 * c.blocks = mul-le-mul (sixths-most c ci) (le_refl c.blocks) in
      omega (arith, blocks-least c ci)

  pub region-fits : 4 + 3 * mapping_units c ≤ groups_below c (control_symbols c f)
  region-fits = by (control_symbols c f) (omega (arith, region-least c f, fi.some))
    where
      by : (s : ℕ) → 1 ≤ s → 4 + 3 * mapping_units c ≤ groups_below c s
      by zero h = absurd (omega arith)
      by (suc s) h = omega (arith, first_fits, below-least c s)

  all_most : groups_below c (control_symbols c f) ≤ 800
  all_most =
      by-test (eqb c.blocks 6)
      (λ t. omega (arith, eqb-true c.blocks 6 t, below-most c (control_symbols c f) region-symbols))
      (λ t.
      let s : f.cfi ≡ control_symbols c f = region-other c f (eqb-false c.blocks 6 t) in
      omega (arith, below-few c (control_symbols c f) (omega (arith, s, fi.most)), blocks-most c ci))

  pub region-most-groups : region_groups c f ≤ 793
  unfolding region_groups
  region-most-groups = omega (arith, all_most, region-fits, units-least c ci)

  pub elements-most : control_elements c f ≤ 88
  unfolding control_elements
  elements-most = omega (arith, region-most-groups)

  -- the loop over the symbols of the region ends with all their groups, and what PCFICH and PHICH have is taken off
  pub region-loop : {n s all : ℕ} → n ≡ control_symbols c f → s ≤ n → n ≤ s → all ≡ groups_below c s → all ≡ groups_below c (control_symbols c f)
  region-loop {s = s} e l u h = let z : s ≡ control_symbols c f = omega arith in rw z at h

  pub region-less : {all m : ℕ} → all ≡ groups_below c (control_symbols c f) → m ≡ mapping_units c → (all - 4 - 3 * m ≡ region_groups c f) × (all - 4 - 3 * m < 1024)
  unfolding region_groups
  region-less h e = rw (h, e) (refl, omega (arith, all_most))
