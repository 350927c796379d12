-- `plan::earlier_of` meets its contract: none where nothing is in common, else the loop over the commands before. The invariant: the first from here on is the one
-- asked for. The measure is how many are left. Assumes nothing.
use Rattle.plan.proofs.Clashes.{Looking}
use Rattle.plan.proofs.earlier_of.Given as goal

abbrev pub invariant-loop-number : goal.invariant-loop-number
invariant-loop-number l = Looking l.plan l.n l.at l.s l.number l.before
