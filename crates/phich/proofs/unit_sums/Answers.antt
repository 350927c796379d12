-- `phich::unit_sums` meets its contract: the places below i have their sums. Assumes nothing.
use Rattle.std.proofs.Common.{refl, arith}
use Rattle.phich.proofs.Places.{start, flips, next, finish}
use Rattle.phich.proofs.unit_sums.Goals as goal

pub loop-i-init : goal.loop-i-init
loop-i-init c = start refl

pub chip_of-requires : goal.chip_of-requires
chip_of-requires c = (c.requires.0, c.loop-i-test.true)

pub scrambling-s-requires : goal.scrambling-s-requires
scrambling-s-requires c = c.chip_of.ensures.1

pub levels_at-d-requires : goal.levels_at-d-requires
levels_at-d-requires c = omega (arith, c.requires.1.size)

pub flipped-requires : goal.flipped-requires
flipped-requires c = flips c.loop-i.i c.requires.1 c.levels_at-d.ensures

pub offset_bounds-sums-i : goal.offset_bounds-sums-i
offset_bounds-sums-i c = omega (arith, c.loop-i-test.true)

pub bounds-sums-i : goal.bounds-sums-i
bounds-sums-i c = omega (arith, c.loop-i-test.true)

pub loop-i-preserved : goal.loop-i-preserved
loop-i-preserved c = next c.loop-i.invariant c.loop-i-test.true c.chip_of.ensures.0 c.scrambling-s.ensures c.levels_at-d.ensures c.flipped.ensures

pub returns : goal.returns
returns c = finish c.loop-i.invariant c.loop-i-test.false
