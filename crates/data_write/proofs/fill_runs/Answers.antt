-- `data_write::fill_runs` meets its contract. Invariant: the runs before the cursor are filled. Assumes nothing.
use Rattle.areas.proofs.Runs.{cursor-in}
use Rattle.data_write.proofs.Areas.{area-begins, area-run, area_on, area-ends}
use Rattle.walk.proofs.Cursors.{less}
use Rattle.data_write.proofs.fill_runs.Goals as goal

pub loop-c-init : goal.loop-c-init
loop-c-init c = area-begins c.requires c.start-c.ensures

pub run_at-run-requires : goal.run_at-run-requires
run_at-run-requires c =
    cursor-in c.requires.runs c.symbols-symbols.ensures.0 c.carriers-carriers.ensures c.places-places.ensures c.loop-c.invariant.cursor c.loop-c-test.true

pub fill_run-j-requires : goal.fill_run-j-requires
fill_run-j-requires c =
    area-run c.requires c.symbols-symbols.ensures.0 c.carriers-carriers.ensures c.places-places.ensures c.loop-c.invariant c.loop-c-test.true c.run_at-run.ensures.0
    c.run_at-run.ensures.1

pub loop-c-smaller : goal.loop-c-smaller
loop-c-smaller c =
    less _ c.args.tables.now.rows c.loop-c.c c.next-c.ensures.0 c.loop-c-test.true c.next-c.ensures.1

pub loop-c-preserved : goal.loop-c-preserved
loop-c-preserved c =
    area_on c.requires c.symbols-symbols.ensures.0 c.carriers-carriers.ensures c.places-places.ensures c.loop-c.invariant c.loop-c-test.true c.run_at-run.ensures.0
    c.next-c.ensures.0 c.fill_run-j.ensures

pub returns : goal.returns
returns c =
    area-ends c.requires c.symbols-symbols.ensures.0 c.carriers-carriers.ensures c.places-places.ensures c.loop-c.invariant c.loop-c-test.false
