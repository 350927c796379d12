-- The HIs of a cell are such as the loops over them require. Assumes nothing.
use Prim.Native.Nat.{ℕ, zero, suc, ◌*◌, ◌<◌}
use mathlib.Core.Path.{◌≡◌}
use mathlib.Core.List.{List, [], ◌∷◌}
use native.Mathlib.Nat.{not-suc-le-zero}
use native.Mathlib.Omega.{arith}
use lib.ListN.{length, drop}
use Rattle.phich.specs.His.{hi_number}
use Rattle.phich.specs.Loops.{HisIn}
use Rattle.phich.specs.Spreading.{spread_length}
use Rattle.phich.specs.Units.{Within}
use Rattle.phich.proofs.Units.{length-ok}
use Rattle.plan.specs.Commands.{hi_of}
use Rattle.plan.specs.CommandLists.{his_from}
use Rattle.plan.specs.declared.Cell.{Cell}
use Rattle.plan.specs.declared.Hi.{Hi}
use Rattle.plan.specs.declared.CommandList.{CommandList}
use Rattle.plan.proofs.Counts.{units-most}
use Rattle.plan.proofs.CommandLists.{commands-length}
use Rattle.control.specs.Filling.{CellHis}

within-at : (l : ℕ) (hs : List Hi) (n : ℕ) → Within l hs → n < length hs → (hi_number hs n).sequence < 2 * l
unfolding Within
within-at l [] n k h = absurd (not-suc-le-zero h)
within-at l (x ∷ hs) zero k h = k.0
within-at l (x ∷ hs) (suc n) k h = within-at l hs n k.1 (omega arith)

pub his-in : {c : Cell} {his : CommandList} {plan : List ℕ} → CellHis c his plan → {l : ℕ} → l ≡ spread_length c → HisIn l plan his.at his.count
his-in {c = c} {his = his} {plan = plan} ok is =
    rw is
    (record {
      each = λ n r. record {
        spread = length-ok c;
        known = within-at (spread_length c) (his_from (drop his.at plan) his.count) n ok.known (omega (arith, commands-length hi_of (drop his.at plan) his.count));
        unit = omega (arith, ok.units n r, units-most c ok.cell);
      };
    })
