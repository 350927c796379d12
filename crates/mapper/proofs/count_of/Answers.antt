-- `mapper::count_of` meets its contract: the table of all kinds at that kind, or 0 beyond it. Assumes nothing.
use Rattle.mapper.proofs.Counting.{kind_at, kind-beyond}
use Rattle.mapper.proofs.count_of.Goals as goal

pub returns-then-kind-lt9 : goal.returns-then-kind-lt9
returns-then-kind-lt9 c = kind_at c.args.plan.now c.args.p c.args.kind _ c.kind_counts-counts.ensures c.if-kind-lt9.true

pub returns : goal.returns
returns c = kind-beyond c.args.plan.now c.args.p c.args.kind c.if-kind-lt9.false
