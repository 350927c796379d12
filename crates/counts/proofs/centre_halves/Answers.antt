-- How many of a user's half blocks are the centre's. Assumes nothing.
use native.Mathlib.Omega.{arith}
use Rattle.counts.proofs.Ways.{shared, not-shared}
use Rattle.counts.proofs.centre_halves.Goals as goal

pub returns-then-low-high : goal.returns-then-low-high
returns-then-low-high c =
    shared c.args.cell.blocks c.args.first c.args.count _ _ c.max-low.ensures c.min-high.ensures (omega arith)

pub returns : goal.returns
returns c =
    not-shared c.args.cell.blocks c.args.first c.args.count _ _ c.max-low.ensures c.min-high.ensures (omega arith)
