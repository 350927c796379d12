-- `control_write::put_unit` meets its contract: after n quads those of the indices below 4n are written. Assumes nothing.
use Prim.Native.Nat.{◌+◌, ◌*◌}
use native.Mathlib.Omega.{arith}
use Rattle.grid.proofs.Writing.{room-kept}
use Rattle.grid.proofs.Accumulating.{writing}
use Rattle.control.proofs.PairByPair.{group-asked, unit-asked, pair-asked, unit-start, quad-next, unit-finish}
use Rattle.control_write.proofs.put_unit.Goals as goal

pub loop-n-init : goal.loop-n-init
loop-n-init c = unit-start (writing c.args.grid.now) c.requires.0

pub unit_group-g-requires : goal.unit_group-g-requires
unit_group-g-requires c =
    group-asked c.requires.0 c.loop-n-test.true

pub unit_pair-requires : goal.unit_pair-requires
unit_pair-requires c =
    unit-asked c.requires.0 c.loop-n-test.true (2 * c.loop-n.n) (omega arith) c.quad_symbol-s.ensures c.unit_group-g.ensures

pub put_pair-requires : goal.put_pair-requires
put_pair-requires c = (
  pair-asked c.requires.0 c.loop-n-test.true (2 * c.loop-n.n) (omega arith) c.quad_symbol-s.ensures
      c.unit_group-g.ensures c.unit_pair.ensures,
  room-kept c.requires.1 c.loop-n.invariant.done,
)

pub unit_pair-requires-in-loop-n : goal.unit_pair-requires-in-loop-n
unit_pair-requires-in-loop-n c =
    unit-asked c.requires.0 c.loop-n-test.true (2 * c.loop-n.n + 1) (omega arith) c.quad_symbol-s.ensures
    c.unit_group-g.ensures

pub put_pair-requires-in-loop-n : goal.put_pair-requires-in-loop-n
put_pair-requires-in-loop-n c = (
  pair-asked c.requires.0 c.loop-n-test.true (2 * c.loop-n.n + 1) (omega arith) c.quad_symbol-s.ensures
      c.unit_group-g.ensures c.unit_pair-in-loop-n.ensures,
  room-kept (room-kept c.requires.1 c.loop-n.invariant.done)
      c.put_pair.ensures,
)

pub loop-n-preserved : goal.loop-n-preserved
loop-n-preserved c =
    quad-next (writing c.args.grid.now) c.requires.0 c.loop-n-test.true c.quad_symbol-s.ensures c.unit_group-g.ensures c.loop-n.invariant
    c.unit_pair.ensures c.put_pair.ensures c.unit_pair-in-loop-n.ensures c.put_pair-in-loop-n.ensures

pub returns : goal.returns
returns c =
    unit-finish (writing c.args.grid.now) c.requires.0 c.loop-n.invariant c.loop-n-test.false
