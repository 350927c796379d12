-- `phich::sum_his` meets its contract: what is summed and what is left make the whole sums. Assumes nothing.
use Rattle.std.proofs.Common.{◌∙◌}
use Rattle.phich.proofs.HisLeft.{start, here, here_in, next, finish}
use Rattle.phich.proofs.sum_his.Goals as goal

pub loop-k-init : goal.loop-k-init
loop-k-init g c = start c.args.l c.args.plan.now c.args.at c.args.count g.bits c.args.sums.now c.requires.1.1.0

pub bit-requires : goal.bit-requires
bit-requires g c = c.requires.1.1.1.0 _ _ (here_in c.loop-k.invariant.where-at c.loop-k-test.true c.requires.1.0 c.hi_at-h.ensures)

pub add_hi-requires : goal.add_hi-requires
add_hi-requires g c = (
  c.loop-k.invariant.size,
  here_in c.loop-k.invariant.where-at c.loop-k-test.true c.requires.1.0 c.hi_at-h.ensures,
)

pub loop-k-preserved : goal.loop-k-preserved
loop-k-preserved g c =
    let e = c.hi_at-h.ensures ∙ here c.loop-k.invariant.where-at c.loop-k-test.true in
    next c.loop-k.invariant c.loop-k-test.true c.hi_at-h.ensures
    (c.requires.1.1.1.1 c.loop-k.k _ c.loop-k-test.true (rw e at c.bit.ensures)) c.next_at-from.ensures c.add_hi.ensures

pub returns : goal.returns
returns g c = finish c.loop-k.invariant c.loop-k-test.false
