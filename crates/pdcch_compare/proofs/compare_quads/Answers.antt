-- One quad more.
use mathlib.Core.Path.{◌∙◌}
use native.Mathlib.Omega.{arith}
use Rattle.pdcch_compare.proofs.Elements.{quads-start, quads-on, quads-end, table-entry, entry_at, below_nine, from-nine}
use Rattle.pdcch_compare.proofs.compare_quads.Goals as goal

pub loop-x-init : goal.loop-x-init
loop-x-init c = quads-start

pub compare_entry-bad-requires : goal.compare_entry-bad-requires
compare_entry-bad-requires c = (
  table-entry c.args.e c.loop-x.x-index c.requires (below_nine c.args.e c.args.groups.now c.loop-x-test.true (omega arith))
      (c.from.ensures ∙ entry_at c.args.e c.loop-x.x-index c.args.groups.now (omega arith) (omega arith)),
  c.places-places.ensures,
)

pub loop-x-preserved : goal.loop-x-preserved
loop-x-preserved c =
    quads-on c.loop-x.invariant (below_nine c.args.e c.args.groups.now c.loop-x-test.true (omega arith))
    (c.from.ensures ∙ entry_at c.args.e c.loop-x.x-index c.args.groups.now (omega arith) (omega arith)) c.compare_entry-bad.ensures

pub returns : goal.returns
returns c = quads-end c.loop-x.invariant (from-nine c.args.e c.args.groups.now c.loop-x-test.false (omega arith) (omega (arith, c.requires.few, c.told-groups)))
