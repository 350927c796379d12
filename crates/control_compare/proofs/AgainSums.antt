-- The sums made again from the bits that a grid gives, by the word's bits or the pair's. Assumes nothing.
use Prim.Native.Nat.{ℕ, ◌*◌}
use mathlib.Core.Path.{◌≡◌, refl}
use mathlib.Core.List.{List}
use native.Mathlib.Omega.{arith}
use lib.ListN.{drop}
use Rattle.gold.specs.declared.Registers.{Registers}
use Rattle.gold.specs.Steps.{word_of}
use Rattle.phich.specs.Spreading.{word_bit, spread_length}
use Rattle.phich.specs.Loops.{QuadSums, bits_from}
use Rattle.phich.proofs.Scrambled.{quads-same}
use Rattle.plan.specs.Commands.{hi_of}
use Rattle.plan.specs.Fields.{mapping_units}
use Rattle.plan.specs.CommandLists.{his_from}
use Rattle.plan.specs.declared.Cell.{Cell}
use Rattle.plan.specs.declared.CommandList.{CommandList}
use Rattle.plan.proofs.CommandLists.{commands-length}
use Rattle.control_read.specs.Reading.{FirstRead, HisRead, ack_from}
use Rattle.control_read.proofs.Reading.{quad-ack}

-- `sums_again`: the bits from the first quads are those of the grid
pub again :
    {c : Cell} {his : CommandList} {plan grid first : List ℕ} → HisRead c his plan grid → FirstRead c grid (4 * mapping_units c) first → (r : Registers)
    (w l : ℕ) → w ≡ word_of r 12 → l ≡ spread_length c
    → {s : List ℕ} → QuadSums l (bits_from l (word_bit w) (his_from (drop his.at plan) his.count) first) (his_from (drop his.at plan) his.count) s
    → QuadSums (spread_length c) (ack_from c r (his_from (drop his.at plan) his.count) grid) (his_from (drop his.at plan) his.count) s
unfolding bits_from
again {c = c} {his = his} {plan = plan} ok f r w l ew el q =
    let hs = his_from (drop his.at plan) his.count in
    quads-same (λ n k. quad-ack f r w (spread_length c) ew refl hs n (ok.cell-his.units n (omega (arith, commands-length hi_of (drop his.at plan) his.count))) refl) (rw el at q)
