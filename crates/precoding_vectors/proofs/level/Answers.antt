-- `precoding_vectors::level` meets its contract. Assumes nothing.
use native.Mathlib.Omega.{arith}
use Prim.Native.Nat.{◌%◌}
use Rattle.precoding_vectors.proofs.Levels.{less-fits, less-small}
use Rattle.precoding_vectors.proofs.level.Goals as goal

pub overflow_sub-result : goal.overflow_sub-result
overflow_sub-result c = less-fits (c.args.n % 15) (omega arith)

pub returns : goal.returns
returns c = less-small (c.args.n % 15) (omega arith)
