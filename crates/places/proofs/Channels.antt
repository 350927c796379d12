-- PCFICH's quads and a PHICH unit's: the groups that their rules name, each once. Assumes six blocks, and that the units fill at most a third
-- of the numbers.
use Prim.Native.Nat.{ℕ, ◌/◌, ◌≤◌, ◌<◌}
use mathlib.Core.Path.{◌≡◌, refl, sym}
use mathlib.Core.Bool.{true}
use native.Mathlib.Omega.{arith}
use lib.Dec.{eqb}
use borrow.Author.Tests.{eqb-true}
use Rattle.base.proofs.Some.{in_some}
use Rattle.plan.specs.Fields.{mapping_units}
use Rattle.plan.specs.declared.Cell.{Cell}
use Rattle.plan.proofs.Listed.{and_left, and_right}
use Rattle.layout.specs.Rules.{format_group, is_format, format_has, quad_symbol, groups_left, quad_group, mapping_unit_has}
use Rattle.layout.proofs.GroupShape.{first-groups, quad-low}
use Rattle.layout.proofs.Groups.{is-format, format_small, format-once}
use Rattle.layout.proofs.Units.{unit-small, units-apart, unit-quad, quad-unit}
use Rattle.places.proofs.Numbers.{symbols-least}
use Rattle.places.proofs.Quads.{QuadChannel}

module _ (c : Cell) (big : 6 ≤ c.blocks) where
  format-found : (s g : ℕ) → format_has c s g ≡ true → (i : ℕ) × (i < 4) × (s ≡ 0) × (g ≡ format_group c i)
  unfolding format_has is_format
  format-found s g e =
      let i = in_some (format_group c) 4 g (and_right (eqb s 0) (is_format c g) e) in
      (i.0, i.1, eqb-true s 0 (and_left (eqb s 0) (is_format c g) e), sym i.2)

  pub format-groups : QuadChannel c 4 (λ (i : ℕ). 0) (format_group c) (format_has c)
  unfolding format_has
  format-groups =
      record {
        low = λ i l. omega (arith, symbols-least c);
        small = λ i l. omega (arith, format_small c big i, first-groups c);
        has-group = λ i l. is-format c (format_group c i) i l refl;
        apart = λ i j l m a b. format-once c big i j l m b;
        some = format-found;
      }

  pub unit-groups : ((s : ℕ) → mapping_units c ≤ groups_left c s / 3) → (m : ℕ) → m < mapping_units c → QuadChannel c 3 (quad_symbol c) (quad_group c m) (mapping_unit_has c m)
  unit-groups fit m in-m =
      record {
        low = λ i l. omega (arith, quad-low c i, symbols-least c);
        small = λ i l. unit-small c big m i;
        has-group = λ i l. quad-unit c m (quad_symbol c i) (quad_group c m i) (i, l, refl, refl);
        apart = λ i j l u a b. (units-apart c big fit m m i j in-m in-m l u a b).1;
        some = unit-quad c m;
      }
