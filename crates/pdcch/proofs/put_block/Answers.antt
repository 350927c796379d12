-- Group by group. The loop's invariant: the cursor and the table are those after the groups so far.
use native.Mathlib.Omega.{arith}
use Rattle.pdcch.proofs.Walk.{block_none, block-put, block_more, block-all}
use Rattle.pdcch.proofs.put_block.Goals as goal

pub loop-v-init : goal.loop-v-init
loop-v-init c = block_none c.args.taken.now c.args.starts.now c.args.base c.args.c c.args.groups.now

pub overflow_add-v : goal.overflow_add-v
overflow_add-v c = omega (arith, (c.requires.group c.loop-v.v-index c.loop-v-test.true).small)

pub put_group-cursor-requires : goal.put_group-cursor-requires
put_group-cursor-requires c =
    block-put c.args.taken.now c.args.starts.now c.args.base c.args.c c.args.groups.now c.requires c.loop-v.invariant
    (omega arith)

pub loop-v-preserved : goal.loop-v-preserved
loop-v-preserved c =
    block_more c.args.taken.now c.args.starts.now c.args.base c.args.c c.args.groups.now c.loop-v.invariant
    c.put_group-cursor.ensures.0 c.put_group-cursor.ensures.1

pub returns : goal.returns
returns c =
    block-all c.args.taken.now c.args.starts.now c.args.base c.args.c c.args.groups.now c.loop-v.invariant (omega arith)
