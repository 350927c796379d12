-- `signals_write::fill_crs` meets its contract: every sixth element from the first one on, on each port, is a reference signal. Assumes nothing.
use native.Mathlib.Omega.{arith}
use Rattle.grid.proofs.Accumulating.{writing}
use Rattle.signals.proofs.Numbers.{crs-given}
use Rattle.signals.proofs.Ports.{first-port, second-port, one_inside, one-done, both-inside, both-done}
use Rattle.signals_write.proofs.fill_crs.Goals as goal

pub crs_at-first-requires : goal.crs_at-first-requires
crs_at-first-requires c =
    first-port c.requires c.crs_port-port.ensures

pub fill_values-requires : goal.fill_values-requires
fill_values-requires c =
    (omega arith, one_inside c.requires c.crs_port-port.ensures c.crs_at-first.ensures c.from-n.ensures)

pub returns-then-cell-eq1 : goal.returns-then-cell-eq1
returns-then-cell-eq1 c = (
  one-done c.requires c.crs_port-port.ensures c.crs_at-first.ensures c.from-n.ensures (writing c.args.grid.now) c.args.r c.if-cell-eq1.true
      c.fill_values.ensures.0,
  crs-given c.from-n.ensures c.args.r c.fill_values.ensures.1,
)

pub overflow_add-port : goal.overflow_add-port
overflow_add-port c =
    omega (arith, (second-port c.requires c.crs_port-port.ensures c.if-cell-eq1.false).2, c.ranges)

pub crs_at-second-requires : goal.crs_at-second-requires
crs_at-second-requires c =
    second-port c.requires c.crs_port-port.ensures c.if-cell-eq1.false

pub fill_values-requires-2 : goal.fill_values-requires-2
fill_values-requires-2 c =
    (omega arith, both-inside c.requires c.crs_port-port.ensures c.crs_at-first.ensures c.from-n.ensures c.if-cell-eq1.false c.crs_at-second.ensures)

pub returns : goal.returns
returns c = (
  both-done c.requires c.crs_port-port.ensures c.crs_at-first.ensures c.from-n.ensures c.if-cell-eq1.false c.crs_at-second.ensures
      (writing c.args.grid.now) c.args.r c.fill_values-2.ensures.0,
  crs-given c.from-n.ensures c.args.r c.fill_values-2.ensures.1,
)
