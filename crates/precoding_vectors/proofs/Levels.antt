-- A number below 15, less 7, fits an i8. Assumes nothing.
use Prim.Native.Nat.{ℕ, ◌≤◌, ◌<◌}
use mathlib.Core.Path.{◌≡◌}
use native.Mathlib.Omega.{arith}
use lib.IntN.{pos, nat_abs, ◌-ℤ◌}
use mir.Syntax.{w8}
use mir.Val.{SFits, to_z, of_z}
use mir.Facts.{to_z-of_z}
use Rattle.base.proofs.Fits.{fits-abs, abs-minus}

module _ (x : ℕ) (h : x < 15) where
  level : to_z w8 x ≡ pos x
  level = to_z-of_z {w = w8} {z = pos x} (record { sfits = omega arith })

  difference : SFits w8 (pos x -ℤ pos 7)
  difference = fits-abs w8 (pos x -ℤ pos 7) (omega (arith, abs-minus (pos x) (pos 7)))

  pub less-fits : SFits w8 (to_z w8 x -ℤ pos 7)
  less-fits = rw level difference

  pub less-small : nat_abs (to_z w8 (of_z w8 (to_z w8 x -ℤ pos 7))) ≤ 127
  less-small = rw (level, to_z-of_z difference) (omega (arith, abs-minus (pos x) (pos 7)))
