-- `data_compare::compare_runs` meets its contract. Invariant: the runs before the cursor are compared. Assumes nothing.
use native.Mathlib.Omega.{arith}
use Rattle.walk.proofs.Cursors.{less}
use Rattle.areas.proofs.Runs.{cursor-in, area-open}
use Rattle.data_compare.proofs.Areas.{area-begins, area_on, area-ends, runs-wrong}
use Rattle.data_compare.proofs.compare_runs.Goals as goal

pub loop-c-init : goal.loop-c-init
loop-c-init c = area-begins c.requires c.start-c.ensures

pub run_at-run-requires : goal.run_at-run-requires
run_at-run-requires c =
    cursor-in c.requires c.symbols-symbols.ensures.0 c.carriers-carriers.ensures c.places-places.ensures c.loop-c.invariant.cursor c.loop-c-test.true

pub compare_run-bad-requires : goal.compare_run-bad-requires
compare_run-bad-requires c =
    area-open c.requires c.symbols-symbols.ensures.0 c.carriers-carriers.ensures c.places-places.ensures c.loop-c.invariant.cursor c.loop-c-test.true
    c.run_at-run.ensures.0 c.run_at-run.ensures.1

pub places_of-j-requires : goal.places_of-j-requires
places_of-j-requires c =
    let r = area-open c.requires c.symbols-symbols.ensures.0 c.carriers-carriers.ensures c.places-places.ensures c.loop-c.invariant.cursor c.loop-c-test.true
    c.run_at-run.ensures.0 c.run_at-run.ensures.1 in (r.single, r.short)

pub overflow_add-j : goal.overflow_add-j
overflow_add-j c =
    let runs =
    area-open c.requires c.symbols-symbols.ensures.0 c.carriers-carriers.ensures c.places-places.ensures c.loop-c.invariant.cursor c.loop-c-test.true c.run_at-run.ensures.0
    c.run_at-run.ensures.1 in
    omega (arith, c.places_of-j.ensures, runs.index)

pub loop-c-smaller : goal.loop-c-smaller
loop-c-smaller c =
    less _ c.args.tables.now.rows c.loop-c.c c.next-c.ensures.0 c.loop-c-test.true c.next-c.ensures.1

pub loop-c-preserved : goal.loop-c-preserved
loop-c-preserved c =
    area_on c.requires c.symbols-symbols.ensures.0 c.carriers-carriers.ensures c.places-places.ensures c.loop-c.invariant c.loop-c-test.true c.run_at-run.ensures.0
    c.next-c.ensures.0 c.places_of-j.ensures c.compare_run-bad.ensures

pub returns-then-bad-eq0 : goal.returns-then-bad-eq0
returns-then-bad-eq0 c =
    rw c.if-bad-eq0.true at
    (area-ends c.requires c.symbols-symbols.ensures.0 c.carriers-carriers.ensures c.places-places.ensures c.loop-c.invariant c.loop-c-test.false)

pub returns-else-bad-eq0 : goal.returns-else-bad-eq0
returns-else-bad-eq0 c =
    runs-wrong c.if-bad-eq0.false
    (area-ends c.requires c.symbols-symbols.ensures.0 c.carriers-carriers.ensures c.places-places.ensures c.loop-c.invariant c.loop-c-test.false)
