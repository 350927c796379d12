-- The sums tell of the pairs before i. Assumes nothing.
use native.Mathlib.Omega.{arith}
use Rattle.walk.proofs.Addresses.{pairs-fit}
use Rattle.data_compare.proofs.Pairs.{pairs_start, pair_fits, pairs-on, pairs_end}
use Rattle.data_compare.proofs.rounds.Goals as goal

pub of-p-requires : goal.of-p-requires
of-p-requires g c = pairs-fit c.requires

pub loop-i-init : goal.loop-i-init
loop-i-init g c = pairs_start {s = c.default-s.result} c.of-p.ensures c.default-s.ensures.0 c.default-s.ensures.1.0 c.default-s.ensures.1.1

pub pair_at-requires : goal.pair_at-requires
pair_at-requires g c = omega (arith, pair_fits c.requires c.of-p.ensures c.loop-i.invariant c.loop-i-test.true)

pub overflow_add-at : goal.overflow_add-at
overflow_add-at g c = omega (arith, pair_fits c.requires c.of-p.ensures c.loop-i.invariant c.loop-i-test.true)

pub pair_at-requires-in-loop-i : goal.pair_at-requires-in-loop-i
pair_at-requires-in-loop-i g c = omega (arith, pair_fits c.requires c.of-p.ensures c.loop-i.invariant c.loop-i-test.true)

pub overflow_add-then : goal.overflow_add-then
overflow_add-then g c =
    omega (arith, c.requires.short, pair_fits c.requires c.of-p.ensures c.loop-i.invariant c.loop-i-test.true)

pub loop-i-preserved : goal.loop-i-preserved
loop-i-preserved g c =
    pairs-on c.requires c.of-p.ensures c.loop-i.invariant c.loop-i-test.true c.pair_at.ensures c.pair_at-in-loop-i.ensures c.with_pair-s.ensures

pub returns : goal.returns
returns g c = pairs_end c.loop-i.invariant c.loop-i-test.false c.told.ensures
