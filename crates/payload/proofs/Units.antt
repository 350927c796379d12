-- Each HI's bit is the bit of exactly one PHICH unit. Assumes nothing.
use Rattle.std.specs.Prelude.{if◌then◌else◌}
use Prim.Native.Nat.{ℕ, ◌+◌}
use mathlib.Core.Path.{◌≡◌, refl, sym, ap₂, ◌∙◌}
use mathlib.Core.Bool.{Bool, true, false}
use mathlib.Core.List.{List, [], ◌∷◌}
use native.Mathlib.Nat.{suc_inj}
use native.Mathlib.Omega.{arith}
use lib.Dec.{eqb}
use lib.ListN.{length}
use Rattle.base.specs.Choice.{indicator}
use Rattle.plan.specs.Lists.{Every}
use Rattle.plan.specs.Fields.{mapping_units}
use Rattle.plan.specs.Valid.{HiIn}
use Rattle.plan.specs.declared.Cell.{Cell}
use Rattle.plan.specs.declared.Hi.{Hi}
use Rattle.phich.specs.Spreading.{spread_length}
use Rattle.phich.specs.Units.{mapping_unit}
use Rattle.phich.proofs.Units.{hi-unit}
use Rattle.base.specs.Sums.{sum_to, sum_of}
use Rattle.base.proofs.Sums.{sum_same, sum-none, sum-add, sum_one}
use Rattle.payload.specs.Bits.{occurs, mapping_unit_bits}
use Rattle.payload.proofs.Sums.{occurs-nil}

occurs-if : (t : Bool) (b x : ℕ) (rest : List ℕ) → occurs b (if t then x ∷ rest else rest) ≡ (if t then indicator (eqb x b) else 0) + occurs b rest
unfolding occurs sum_of
occurs-if true b x rest = refl
occurs-if false b x rest = omega arith

-- the units' bits together are the HIs' bits, one position for each HI
pub units-sum :
    (c : Cell) (b : ℕ) (hs : List Hi) (bs : List ℕ) → length hs ≡ length bs → Every (HiIn c) hs
    → sum_to (mapping_units c) (λ m. occurs b (mapping_unit_bits (spread_length c) m hs bs)) ≡ occurs b bs
unfolding mapping_unit_bits
units-sum c b [] [] e h = sum-none (mapping_units c) (λ m. occurs b []) (λ m l. occurs-nil b) ∙ sym (occurs-nil b)
units-sum c b [] (x ∷ bs) e h = absurd (omega arith)
units-sum c b (g ∷ hs) [] e h = absurd (omega arith)
units-sum c b (g ∷ hs) (x ∷ bs) e h =
    let L : ℕ = spread_length c in
    let X : ℕ → ℕ = λ m. if eqb (mapping_unit L g) m then indicator (eqb x b) else 0 in
    let Y : ℕ → ℕ = λ m. occurs b (mapping_unit_bits L m hs bs) in
    sum_same (mapping_units c) (λ m. occurs b (mapping_unit_bits L m (g ∷ hs) (x ∷ bs))) (λ m. X m + Y m) (λ m l. occurs-if (eqb (mapping_unit L g) m) b x (mapping_unit_bits L m hs bs))
    ∙ sym (sum-add (mapping_units c) X Y)
    ∙ ap₂ (λ (i j : ℕ). i + j) (sum_one (mapping_unit L g) (indicator (eqb x b)) (mapping_units c) (hi-unit c g h.0)) (units-sum c b hs bs (suc_inj e) h.1)
    ∙ sym (occurs-if true b x bs)
