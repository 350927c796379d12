-- Group by group. The loop's invariant: the cursor and the table are those after the groups so far.
use Rattle.pdcch.specs.Walk.{BlockOut}
use Rattle.pdcch.proofs.put_block.Given as goal

abbrev pub invariant-loop-v : goal.invariant-loop-v
invariant-loop-v l = BlockOut l.taken l.starts l.base l.v-index l.initial.cursor l.initial.groups l.cursor l.groups
