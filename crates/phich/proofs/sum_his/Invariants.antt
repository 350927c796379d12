-- `phich::sum_his` meets its contract: what is summed and what is left make the whole sums. Assumes nothing.
use Rattle.phich.proofs.HisLeft.{Summed}
use Rattle.phich.proofs.sum_his.Given as goal

abbrev pub invariant-loop-k : goal.invariant-loop-k
invariant-loop-k g l = Summed l.l l.plan l.at l.count g.bits l.sums l.from l.k
