-- `phich::bit_of` meets its contract: the HI's first n places are totalled along its chips. Assumes nothing.
use Rattle.std.proofs.Common.{◌∙◌, arith}
use Rattle.phich.proofs.Signed.{product-held}
use Rattle.phich.proofs.Parts.{row-entry, row-chip}
use Rattle.phich.proofs.Own.{place-fits}
use Rattle.phich.proofs.Quad.{start, next_fits, next, finish-one, finish-zero}
use Rattle.phich.proofs.bit_of.Goals as goal

pub sequence-row-requires : goal.sequence-row-requires
sequence-row-requires c = (c.requires.spread, omega (arith, c.requires.known, c.from.ensures))

pub loop-n-init : goal.loop-n-init
loop-n-init c = start

pub offset_bounds-row-n : goal.offset_bounds-row-n
offset_bounds-row-n c = omega (arith, c.loop-n-test.true, c.requires.spread.1)

pub bounds-row-n : goal.bounds-row-n
bounds-row-n c = omega (arith, c.loop-n-test.true, c.requires.spread.1)

pub plain_chip-chip-requires : goal.plain_chip-chip-requires
plain_chip-chip-requires c = row-entry c.sequence-row.ensures c.loop-n-test.true

pub overflow_mul-from : goal.overflow_mul-from
overflow_mul-from c =
    omega (arith, (place-fits c.requires c.from-in-loop-n.ensures c.loop-n-test.true).0)

pub overflow_add-from : goal.overflow_add-from
overflow_add-from c =
    omega (arith, (place-fits c.requires c.from-in-loop-n.ensures c.loop-n-test.true).1)

pub levels_at-p-requires : goal.levels_at-p-requires
levels_at-p-requires c =
    omega (arith, (place-fits c.requires c.from-in-loop-n.ensures c.loop-n-test.true).2)

pub scrambling-requires : goal.scrambling-requires
scrambling-requires c =
    omega (arith, c.loop-n-test.true, c.requires.spread.1)

pub flipped_by-d-requires : goal.flipped_by-d-requires
flipped_by-d-requires c = (product-held c.dot.result c.dot.ensures.1).1

pub overflow_add-t : goal.overflow_add-t
overflow_add-t c =
    next_fits c.loop-n.invariant c.flipped_by-d.result c.loop-n-test.true c.requires.spread.1 c.flipped_by-d.ensures.1

pub loop-n-preserved : goal.loop-n-preserved
loop-n-preserved c =
    next c.loop-n.invariant c.flipped_by-d.result c.loop-n-test.true c.requires.spread.1 c.flipped_by-d.ensures.1 c.from.ensures
    (row-chip c.sequence-row.ensures c.loop-n-test.true c.plain_chip-chip.ensures) c.from-in-loop-n.ensures c.levels_at-p.ensures
    ((product-held c.dot.result c.dot.ensures.1).0 ∙ c.dot.ensures.0) c.scrambling.ensures
    c.flipped_by-d.ensures.0

pub returns-then-t-lt0 : goal.returns-then-t-lt0
returns-then-t-lt0 c =
    finish-one c.requires.spread c.loop-n.invariant c.loop-n-test.false c.if-t-lt0.true

pub returns-else-t-lt0 : goal.returns-else-t-lt0
returns-else-t-lt0 c =
    finish-zero c.requires.spread c.loop-n.invariant c.loop-n-test.false c.if-t-lt0.false
