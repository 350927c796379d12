-- `compare::weight` meets its contract: part after part, and the rest. Assumes nothing.
use Prim.Native.Nat.{◌+◌}
use native.Mathlib.Omega.{arith}
use lib.ListN.{length}
use Rattle.compare.proofs.Nonzeros.{part-few, count_none, count-part, count-all, count_most}
use Rattle.compare.proofs.weight.Goals as goal

pub loop-i-init : goal.loop-i-init
loop-i-init c = count_none c.args.grid.now

pub overflow_sub-grid : goal.overflow_sub-grid
overflow_sub-grid c = omega arith

pub overflow_add-end : goal.overflow_add-end
overflow_add-end c = omega arith

pub slice_bounds-nonzeros_in-count : goal.slice_bounds-nonzeros_in-count
slice_bounds-nonzeros_in-count c = omega arith

pub nonzeros_in-requires : goal.nonzeros_in-requires
nonzeros_in-requires c =
    part-few c.args.grid.now c.loop-i.i (c.loop-i.i + 224) 224 (omega arith)

pub overflow_add-n : goal.overflow_add-n
overflow_add-n c =
    omega
    (arith, count_most (count-part c.loop-i.invariant (c.loop-i.i + 224) (omega arith) (omega arith) c.nonzeros_in.ensures c.from-n.ensures))

pub loop-i-smaller : goal.loop-i-smaller
loop-i-smaller c = omega arith

pub loop-i-preserved : goal.loop-i-preserved
loop-i-preserved c =
    count-part c.loop-i.invariant (c.loop-i.i + 224) (omega arith) (omega arith) c.nonzeros_in.ensures c.from-n.ensures

pub slice_bounds-nonzeros_in-count-2 : goal.slice_bounds-nonzeros_in-count-2
slice_bounds-nonzeros_in-count-2 c = omega arith

pub nonzeros_in-requires-2 : goal.nonzeros_in-requires-2
nonzeros_in-requires-2 c =
    part-few c.args.grid.now c.loop-i.i (length c.args.grid.now) 224 (omega arith)

pub overflow_add-result : goal.overflow_add-result
overflow_add-result c =
    omega
    (arith, count_most (count-part c.loop-i.invariant (length c.args.grid.now) c.loop-i.invariant.inside (omega arith) c.nonzeros_in-2.ensures c.from.ensures))

pub returns : goal.returns
returns c =
    count-all
    (count-part c.loop-i.invariant (length c.args.grid.now) c.loop-i.invariant.inside (omega arith) c.nonzeros_in-2.ensures c.from.ensures)
    (omega arith)
