-- `data_compare::Form::of` meets its contract. Assumes nothing.
use Prim.Native.Nat.{◌^◌, ◌/◌, ◌≤◌}
use native.Mathlib.Omega.{arith}
use lib.Pow.{pow_mono}
use Rattle.data_compare.proofs.Numbers.{form-made}
use Rattle.data_compare.proofs.Form.of.Goals as goal

pub overflow_sub-result : goal.overflow_sub-result
overflow_sub-result c = let p : 2 ^ (c.args.q / 2) ≤ 16 = pow_mono {j = 4} (omega (arith, c.requires)) in omega arith

pub returns : goal.returns
returns c = let p : 2 ^ (c.args.q / 2) ≤ 16 = pow_mono {j = 4} (omega (arith, c.requires)) in rw c.from.ensures (form-made c.args.q c.args.byte c.requires (omega arith) (omega arith))
