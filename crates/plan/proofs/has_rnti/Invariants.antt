-- `plan::has_rnti` meets its contract. The invariant: what was found before `i`, or is there from `i` on, is what the table has. The measure is what is left. Assumes nothing.
use Rattle.plan.proofs.OneOf.{Looked}
use Rattle.plan.proofs.has_rnti.Given as goal

abbrev pub invariant-loop-x : goal.invariant-loop-x
invariant-loop-x l = Looked l.rnti l.table l.x-index l.found
