-- `control_read::read_quad` meets its contract: place after place. Assumes nothing.
use mathlib.Core.Path.{refl}
use native.Mathlib.Omega.{arith}
use Rattle.control.proofs.Listings.{six, unit-few}
use Rattle.control_read.proofs.Reading.{group-in, element-fits, first_next, first_to}
use Rattle.plan.proofs.Counts.{units-most}
use Rattle.control_read.proofs.read_quad.Goals as goal

pub unit_group-g-requires : goal.unit_group-g-requires
unit_group-g-requires c = (
  six c.args.cell c.requires.0.cell,
  unit-few c.args.cell c.requires.0.cell c.args.m c.requires.0.unit,
  omega arith,
)

pub overflow_mul-own : goal.overflow_mul-own
overflow_mul-own c = let f = element-fits c.requires.0 {i = 0} (omega arith) c.unit_group-g.ensures
    refl c.own_port-port.ensures c.from.ensures c.places.ensures in
    omega (arith, f.0)

pub loop-i-init : goal.loop-i-init
loop-i-init c =
    first_to _ (omega arith) c.requires.1

pub quad_place-requires : goal.quad_place-requires
quad_place-requires c =
    (omega arith, group-in c.requires.0 {i = c.loop-i.i} c.loop-i-test.true c.unit_group-g.ensures, c.loop-i-test.true)

pub overflow_add-own : goal.overflow_add-own
overflow_add-own c = let f = element-fits c.requires.0 {i = c.loop-i.i} c.loop-i-test.true c.unit_group-g.ensures c.quad_place.ensures c.own_port-port.ensures c.from.ensures c.places.ensures in
    omega (arith, f.1)

pub get-e-requires : goal.get-e-requires
get-e-requires c =
    (element-fits c.requires.0 {i = c.loop-i.i} c.loop-i-test.true c.unit_group-g.ensures c.quad_place.ensures
    c.own_port-port.ensures c.from.ensures c.places.ensures).2

pub overflow_mul-at : goal.overflow_mul-at
overflow_mul-at c =
    omega (arith, c.loop-i-test.true, c.loop-i.invariant.size, unit-few c.args.cell c.requires.0.cell c.args.m c.requires.0.unit)

pub overflow_add-at : goal.overflow_add-at
overflow_add-at c =
    omega (arith, c.loop-i-test.true, c.loop-i.invariant.size, unit-few c.args.cell c.requires.0.cell c.args.m c.requires.0.unit)

pub overflow_mul-at-in-loop-i : goal.overflow_mul-at-in-loop-i
overflow_mul-at-in-loop-i c =
    omega (arith, c.loop-i-test.true, c.loop-i.invariant.size, unit-few c.args.cell c.requires.0.cell c.args.m c.requires.0.unit)

pub bounds-first-at : goal.bounds-first-at
bounds-first-at c =
    omega (arith, c.loop-i-test.true, c.loop-i.invariant.size, c.requires.0.unit, units-most c.args.cell c.requires.0.cell)

pub overflow_add-first : goal.overflow_add-first
overflow_add-first c =
    omega (arith, c.loop-i-test.true, c.loop-i.invariant.size, unit-few c.args.cell c.requires.0.cell c.args.m c.requires.0.unit)

pub bounds-first-at-in-loop-i : goal.bounds-first-at-in-loop-i
bounds-first-at-in-loop-i c =
    omega (arith, c.loop-i-test.true, c.loop-i.invariant.size, c.requires.0.unit, units-most c.args.cell c.requires.0.cell)

pub loop-i-preserved : goal.loop-i-preserved
loop-i-preserved c =
    first_next c.requires.0 {i = c.loop-i.i} c.loop-i-test.true c.unit_group-g.ensures c.quad_place.ensures
    c.own_port-port.ensures c.from.ensures c.places.ensures c.loop-i.invariant c.get-e.ensures

pub returns : goal.returns
returns c = first_to _ (omega (arith, c.loop-i-test.false, c.loop-i.invariant.size)) c.loop-i.invariant
