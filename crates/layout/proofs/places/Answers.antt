-- At most 14 symbols of 255 blocks.
use Prim.Native.Nat.{◌*◌}
use native.Mathlib.Omega.{arith}
use mathlib.Core.Path.{ap₂}
use Prim.Native.Nat.{◌≤◌}
use native.Mathlib.Nat.{mul-le-mul}
use Rattle.layout.proofs.places.Goals as goal

pub overflow_mul-result : goal.overflow_mul-result
overflow_mul-result c = let rows : c.symbols.result ≤ 14 = omega arith in
    let row : c.carriers.result ≤ 3060 = omega arith in
    omega (arith, mul-le-mul rows row)

pub returns : goal.returns
returns c = ap₂ ◌*◌ c.symbols.ensures.0 c.carriers.ensures
