-- Rules of the table of units, for any table. Assumes nothing.
use Rattle.std.specs.Prelude.{Some}
use mathlib.Core.Path.{◌≡◌, refl}
use mathlib.Core.Bool.{Bool, true, false, cond}
use mathlib.Core.List.{List, [], ◌∷◌}
use Prim.Native.Nat.{ℕ}
use native.Mathlib.Omega.{arith}
use borrow.Author.Tests.{eqb-true}
use lib.Dec.{T, eqb}
use lib.Ieee.Fits.{and_l, and_r}
use Rattle.base.proofs.Computed.{every}
use Rattle.sample.specs.declared.UnitRow.{UnitRow}
use Rattle.sample.specs.Units.{seek}

-- a test that passes at each row passes at the row of a byte
pub found : (P : UnitRow → Bool) (rs : List UnitRow) → T (every P rs) → (b : ℕ) (w : UnitRow) → seek b rs ≡ Some w → T (P w)
found P [] t b w e = let z : ◌≡◌ {A = ℕ} 0 1 = cc in absurd (omega arith)
found P (r ∷ rs) t b w e = pick (eqb r.byte b) e (found P rs (and_r (P r) (every P rs) t) b w)
  where
    pick : (c : Bool) → cond c (Some r) (seek b rs) ≡ Some w → (seek b rs ≡ Some w → T (P w)) → T (P w)
    pick true q later = let same : r ≡ w = cc in rw (← same) (and_l (P r) (every P rs) t)
    pick false q later = later q

-- the row of a byte has that byte
pub has-byte : (rs : List UnitRow) (b : ℕ) (w : UnitRow) → seek b rs ≡ Some w → w.byte ≡ b
has-byte [] b w e = let z : ◌≡◌ {A = ℕ} 0 1 = cc in absurd (omega arith)
has-byte (r ∷ rs) b w e = pick (eqb r.byte b) refl e (has-byte rs b w)
  where
    pick : (c : Bool) → eqb r.byte b ≡ c → cond c (Some r) (seek b rs) ≡ Some w → (seek b rs ≡ Some w → w.byte ≡ b) → w.byte ≡ b
    pick true q f later = let same : r ≡ w = cc in rw (← same) (eqb-true r.byte b q)
    pick false q f later = later f
