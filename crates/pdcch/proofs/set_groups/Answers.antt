-- Block by block. The loop's invariant: the vacant groups of the blocks so far are in the table, and the cursor stands at the next one's quad.
use native.Mathlib.Omega.{arith}
use Prim.Native.Nat.{◌*◌}
use mathlib.Core.Path.{refl, sym}
use native.Mathlib.Nat.{mod-lt}
use Rattle.pdcch.proofs.Taken.{empty-set}
use Rattle.pdcch.proofs.Walk.{some-symbols, few-symbols, starts-few, starts-short, block-short, block-long, some-quads, few-quads, walk_start, block_in, walk-next, walk_end}
use Rattle.pdcch.proofs.set_groups.Goals as goal

pub set_taken-requires : goal.set_taken-requires
set_taken-requires c =
    (c.requires.0.cell, refl, empty-set 32)

pub set_starts-count-requires : goal.set_starts-count-requires
set_starts-count-requires c = (
  c.requires.0.cell,
  some-symbols c.args.cell c.args.frame c.requires.0 c.control_symbols-symbols.ensures
      c.region_groups-quads.ensures.0,
  few-symbols c.args.cell c.args.frame c.requires.0 c.control_symbols-symbols.ensures
      c.region_groups-quads.ensures.0,
  refl,
)

pub start-cursor-requires : goal.start-cursor-requires
start-cursor-requires c = (
  mod-lt _
      (some-quads c.args.cell c.args.frame c.requires.0 c.control_symbols-symbols.ensures c.region_groups-quads.ensures.0),
  omega (
    arith,
    few-quads c.args.cell c.args.frame c.requires.0 c.control_symbols-symbols.ensures
        c.region_groups-quads.ensures.0,
  ),
)

pub loop-block-init : goal.loop-block-init
loop-block-init c =
    walk_start c.args.cell c.args.frame c.requires.0 c.control_symbols-symbols.ensures c.region_groups-quads.ensures.0
    c.set_starts-count.ensures (rw c.from.ensures at c.start-cursor.ensures) c.requires.1

pub returns : goal.returns
returns c =
    walk_end c.args.cell c.args.frame c.requires.0 c.control_symbols-symbols.ensures c.region_groups-quads.ensures.0
    c.set_starts-count.ensures c.loop-block.invariant c.loop-block-test.false

pub put_block-cursor-requires : goal.put_block-cursor-requires
put_block-cursor-requires c =
    rw c.from-in-loop-block.ensures
    (block-short c.set_taken.new.taken c.set_starts-count.new.starts (24 * c.loop-block.block) c.set_starts-count.result c.loop-block.cursor c.loop-block.groups
    (starts-short c.args.cell c.args.frame c.requires.0 c.control_symbols-symbols.ensures c.region_groups-quads.ensures.0 c.set_starts-count.ensures)
    (block_in c.args.cell c.args.frame c.requires.0 c.control_symbols-symbols.ensures c.region_groups-quads.ensures.0
    c.set_starts-count.ensures c.set_taken.ensures c.loop-block.invariant c.loop-block-test.true))

pub loop-block-preserved : goal.loop-block-preserved
loop-block-preserved c =
    walk-next c.args.cell c.args.frame c.requires.0 c.control_symbols-symbols.ensures c.region_groups-quads.ensures.0
    c.set_starts-count.ensures c.set_taken.ensures c.loop-block.invariant c.loop-block-test.true (omega arith)
    (block-long c.set_taken.new.taken c.set_starts-count.new.starts (24 * c.loop-block.block) c.set_starts-count.result c.loop-block.cursor c.loop-block.groups
    (starts-short c.args.cell c.args.frame c.requires.0 c.control_symbols-symbols.ensures c.region_groups-quads.ensures.0 c.set_starts-count.ensures)
    (rw c.from-in-loop-block.ensures at c.put_block-cursor.ensures))

pub nonzero_rem-from : goal.nonzero_rem-from
nonzero_rem-from c =
    omega (arith, some-quads c.args.cell c.args.frame c.requires.0 c.control_symbols-symbols.ensures c.region_groups-quads.ensures.0)

pub slice_bounds-starts-end : goal.slice_bounds-starts-end
slice_bounds-starts-end c =
    omega (arith, c.set_starts-count.ensures.size, starts-few c.args.cell c.args.frame c.requires.0 c.control_symbols-symbols.ensures c.region_groups-quads.ensures.0 c.set_starts-count.ensures)

pub slice_bounds-put_block-end-in-loop-block : goal.slice_bounds-put_block-end-in-loop-block
slice_bounds-put_block-end-in-loop-block c =
    sym (starts-short c.args.cell c.args.frame c.requires.0 c.control_symbols-symbols.ensures c.region_groups-quads.ensures.0 c.set_starts-count.ensures)
