-- `control_compare::compare_sums` meets its contract: after n quads those of the indices below 4n are compared. Assumes nothing.
use Prim.Native.Nat.{◌+◌, ◌*◌}
use native.Mathlib.Omega.{arith}
use Rattle.compare.proofs.Comparing.{widest, both-few}
use Rattle.compare.proofs.Accumulating.{also, comparing}
use Rattle.control.proofs.PairByPair.{group-asked, unit-asked, pair-asked, unit-start, half-next, quad-next, unit-finish}
use Rattle.control_compare.proofs.compare_sums.Goals as goal

pub loop-n-init : goal.loop-n-init
loop-n-init c = unit-start (comparing c.args.grid.now) c.requires.0

pub unit_group-g-requires : goal.unit_group-g-requires
unit_group-g-requires c =
    group-asked c.requires.0 c.loop-n-test.true

pub unit_pair-x-requires : goal.unit_pair-x-requires
unit_pair-x-requires c =
    unit-asked c.requires.0 c.loop-n-test.true (2 * c.loop-n.n) (omega arith) c.quad_symbol-s.ensures c.unit_group-g.ensures

pub compare_pair-requires : goal.compare_pair-requires
compare_pair-requires c = (
  pair-asked c.requires.0 c.loop-n-test.true (2 * c.loop-n.n) (omega arith) c.quad_symbol-s.ensures
      c.unit_group-g.ensures c.unit_pair-x.ensures,
  c.requires.1,
)

pub together-one-requires : goal.together-one-requires
together-one-requires c =
    both-few (widest c.requires.1) c.loop-n.invariant.done c.compare_pair.ensures

pub unit_pair-y-requires : goal.unit_pair-y-requires
unit_pair-y-requires c =
    unit-asked c.requires.0 c.loop-n-test.true (2 * c.loop-n.n + 1) (omega arith) c.quad_symbol-s.ensures
    c.unit_group-g.ensures

pub compare_pair-requires-in-loop-n : goal.compare_pair-requires-in-loop-n
compare_pair-requires-in-loop-n c = (
  pair-asked c.requires.0 c.loop-n-test.true (2 * c.loop-n.n + 1) (omega arith) c.quad_symbol-s.ensures
      c.unit_group-g.ensures c.unit_pair-y.ensures,
  c.requires.1,
)

pub together-seen-requires : goal.together-seen-requires
together-seen-requires c =
    both-few (widest c.requires.1) (half-next (comparing c.args.grid.now) c.requires.0 c.loop-n-test.true
    c.quad_symbol-s.ensures c.unit_group-g.ensures c.loop-n.invariant c.unit_pair-x.ensures
    (also c.compare_pair.ensures c.together-one.ensures)).done c.compare_pair-in-loop-n.ensures

pub loop-n-preserved : goal.loop-n-preserved
loop-n-preserved c =
    quad-next (comparing c.args.grid.now) c.requires.0 c.loop-n-test.true c.quad_symbol-s.ensures c.unit_group-g.ensures c.loop-n.invariant
    c.unit_pair-x.ensures (also c.compare_pair.ensures c.together-one.ensures) c.unit_pair-y.ensures
    (also c.compare_pair-in-loop-n.ensures c.together-seen.ensures)

pub returns : goal.returns
returns c =
    unit-finish (comparing c.args.grid.now) c.requires.0 c.loop-n.invariant c.loop-n-test.false
