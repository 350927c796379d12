-- `gold::mirrored` meets its contract. The loop has taken k bits. Assumes nothing.
use Rattle.gold.proofs.Loops.{Mirrored}
use Rattle.gold.proofs.mirrored.Given as goal

abbrev pub invariant-loop-k : goal.invariant-loop-k
invariant-loop-k l = Mirrored l.c l.k l.x
