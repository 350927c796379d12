-- `legend::number_at` meets its contract: inside the grid the owner, outside idle. Assumes nothing.
use native.Mathlib.Omega.{arith}
use Rattle.legend.proofs.Showing.{shown-owner, shown-late, shown-wide}
use Rattle.legend.proofs.number_at.Goals as goal

pub returns-then-k-carriers : goal.returns-then-k-carriers
returns-then-k-carriers c =
    shown-owner c.args.plan.now c.args.p c.requires c.args.s c.args.k (omega (arith, c.symbols.ensures, c.if-s-symbols.true))
    (omega (arith, c.carriers.ensures, c.if-k-carriers.true)) _ _ c.from.ensures c.owner_at.ensures

pub returns-else-k-carriers : goal.returns-else-k-carriers
returns-else-k-carriers c =
    shown-wide c.args.plan.now c.args.p c.requires c.args.s c.args.k (omega (arith, c.carriers.ensures, c.if-k-carriers.false))

pub returns-else-s-symbols : goal.returns-else-s-symbols
returns-else-s-symbols c =
    shown-late c.args.plan.now c.args.p c.requires c.args.s c.args.k (omega (arith, c.symbols.ensures, c.if-s-symbols.false))
