-- `phich::add_hi` meets its contract: the HI's first n chips are added. Assumes nothing.
use Rattle.std.proofs.Common.{◌∙◌, arith}
use Rattle.phich.proofs.Parts.{chip-flips, row-entry, row-chip}
use Rattle.phich.proofs.Own.{place-fits, flipped-chip, add_start, add-next, add-finish}
use Rattle.phich.proofs.add_hi.Goals as goal

pub sequence-row-requires : goal.sequence-row-requires
sequence-row-requires c = (c.requires.1.spread, omega (arith, c.requires.1.known, c.from.ensures))

pub loop-n-init : goal.loop-n-init
loop-n-init c =
    add_start c.args.l c.requires.1.spread c.args.h c.args.b c.args.sums.now c.requires.0

pub offset_bounds-row-n : goal.offset_bounds-row-n
offset_bounds-row-n c = omega (arith, c.loop-n-test.true, c.requires.1.spread.1)

pub bounds-row-n : goal.bounds-row-n
bounds-row-n c = omega (arith, c.loop-n-test.true, c.requires.1.spread.1)

pub plain_chip-chip-requires : goal.plain_chip-chip-requires
plain_chip-chip-requires c = row-entry c.sequence-row.ensures c.loop-n-test.true

pub overflow_mul-from : goal.overflow_mul-from
overflow_mul-from c =
    omega (arith, (place-fits c.requires.1 c.from-in-loop-n.ensures c.loop-n-test.true).0)

pub overflow_add-from : goal.overflow_add-from
overflow_add-from c =
    omega (arith, (place-fits c.requires.1 c.from-in-loop-n.ensures c.loop-n-test.true).1)

pub flipped-requires : goal.flipped-requires
flipped-requires c =
    chip-flips _ _ _ (row-chip c.sequence-row.ensures c.loop-n-test.true c.plain_chip-chip.ensures)

pub add_at-requires : goal.add_at-requires
add_at-requires c = (
  c.loop-n.invariant.added.size ∙ c.loop-n.invariant.size,
  (place-fits c.requires.1 c.from-in-loop-n.ensures c.loop-n-test.true).2,
  flipped-chip _ _ _ c.args.b (row-chip c.sequence-row.ensures c.loop-n-test.true c.plain_chip-chip.ensures) c.flipped.ensures,
)

pub loop-n-preserved : goal.loop-n-preserved
loop-n-preserved c =
    add-next c.args.l c.requires.1.spread c.args.h c.args.b c.loop-n.invariant c.loop-n-test.true c.from.ensures
    (row-chip c.sequence-row.ensures c.loop-n-test.true c.plain_chip-chip.ensures) c.flipped.ensures c.from-in-loop-n.ensures
    c.add_at.ensures

pub returns : goal.returns
returns c =
    add-finish c.args.l c.requires.1.spread c.args.h c.args.b c.loop-n.invariant c.loop-n-test.false
