-- `gold::pair_at` meets its contract. Assumes nothing.
use native.Mathlib.Nat.{zero-add}
use Rattle.gold.proofs.Laws.{stands}
use Rattle.gold.proofs.pair_at.Goals as goal

pub returns : goal.returns
returns c = let a = c.args in
    stands a.c_init 0 a.first a.first (zero-add a.first) c.start.ensures c.skip.ensures
