-- What PHICH needs of an accepted plan: sequences of the cell's length, pairs used once, at most eight HIs to a unit. Assumes nothing.
use Rattle.std.specs.Prelude.{if◌then◌else◌, Ok as accepted}
use Prim.Native.Nat.{ℕ, ◌*◌, ◌<◌}
use mathlib.Core.Path.{◌≡◌, ap}
use mathlib.Core.Bool.{Bool, true, false, cond}
use mathlib.Core.List.{List, [], ◌∷◌}
use native.Mathlib.Omega.{arith}
use lib.Dec.{eqb}
use Rattle.base.specs.Pairs.{Small}
use Rattle.gold.specs.Sequence.{c}
use Rattle.plan.specs.Lists.{Every, Apart}
use Rattle.plan.specs.Fields.{sequences_of}
use Rattle.plan.specs.CommandLists.{his_of}
use Rattle.plan.specs.Check.{check_of}
use Rattle.plan.specs.Valid.{HiIn, OtherPair}
use Rattle.plan.specs.declared.Cell.{Cell}
use Rattle.plan.specs.declared.Hi.{Hi}
use Rattle.plan.specs.declared.Plan.{Plan}
use Rattle.plan.proofs.Valid.{valid}
use Rattle.phich.specs.His.{Fresh, Distinct}
use Rattle.phich.specs.Spreading.{Length, spread_length}
use Rattle.phich.specs.Units.{Within}
use Rattle.phich.proofs.Units.{length-ok, small}
use Rattle.subframe.specs.Elements.{control_init, hi_bit, phich_sum}

-- ---- the cell's spreading sequences
module _ (cell : Cell) where
  -- there are 2 N_SF of them
  sequences-are : sequences_of cell ≡ 2 * spread_length cell
  unfolding sequences_of spread_length
  sequences-are = pick (eqb cell.prefix 1)
    where
      pick : (t : Bool) → cond t 4 8 ≡ 2 * (if t then 2 else 4)
      pick true = omega arith
      pick false = omega arith

  all-within : (hs : List Hi) → Every (HiIn cell) hs → Within (spread_length cell) hs
  unfolding Within
  all-within [] h = tt
  all-within (x ∷ hs) h = (omega (arith, h.0.sequence, sequences-are), all-within hs h.1)

-- ---- pairs that differ
fresh : (h : Hi) (hs : List Hi) → Every (OtherPair h) hs → Fresh h hs
unfolding Fresh
fresh h [] e = tt
fresh h (x ∷ hs) e = ((λ q. e.0 (ap (λ (y : Hi). y.group) q) (ap (λ (y : Hi). y.sequence) q)), fresh h hs e.1)

all-distinct : (hs : List Hi) → Apart OtherPair hs → Distinct hs
unfolding Distinct
all-distinct [] a = tt
all-distinct (h ∷ hs) a = (fresh h hs a.0, all-distinct hs a.1)

-- ---- an accepted plan
module _ (w : List ℕ) (p : Plan) (ok : check_of w ≡ accepted p) where
  pub spread : Length (spread_length p.cell)
  spread = length-ok p.cell

  pub within : Within (spread_length p.cell) (his_of w p)
  within = all-within p.cell (his_of w p) (valid w p ok).his

  pub distinct : Distinct (his_of w p)
  distinct = all-distinct (his_of w p) (valid w p ok).pairs

  -- each sum is at most eight either way
  pub sums-small : (payload : List ℕ) (m i : ℕ) → i < 12 → Small 8 (phich_sum w p payload m i)
  unfolding phich_sum
  sums-small payload m i r = small (spread_length p.cell) spread (c (control_init p.cell p.frame)) (his_of w p) within distinct m (hi_bit w p payload) i r
