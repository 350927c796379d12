-- A power of two below 512, by a shift.
use Prim.Native.Nat.{◌^◌, ◌≤◌}
use native.Mathlib.Omega.{arith}
use lib.Pow.{pow_mono}
use Rattle.constellation.proofs.power.Goals as goal

pub returns : goal.returns
returns c = let p : 2 ^ c.args.k ≤ 256 = pow_mono {j = 8} c.requires in (omega arith, omega arith)
