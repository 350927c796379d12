-- `plan::region_groups` meets its contract: the groups of the symbols so far, one symbol more with each turn. Assumes nothing.
use Rattle.plan.proofs.ControlElements.{region-loop, region-less}
use native.Mathlib.Omega.{arith}
use Rattle.plan.proofs.Counts.{blocks-most, units-most}
use Rattle.plan.proofs.ControlElements.{below_none, below_next, below-most, region-symbols, region-fits}
use Rattle.plan.proofs.region_groups.Goals as goal

pub loop-s-init : goal.loop-s-init
loop-s-init c = (below_none c.args.cell, omega arith)

pub symbol_groups-all-requires : goal.symbol_groups-all-requires
symbol_groups-all-requires c =
    omega
    (arith, c.control_symbols-symbols.ensures, region-symbols c.args.cell c.args.frame c.requires.0 c.requires.1, c.loop-s-test.true)

pub overflow_add-all : goal.overflow_add-all
overflow_add-all c =
    omega (
      arith,
      c.loop-s.invariant.0,
      c.symbol_groups-all.ensures.1,
      blocks-most c.args.cell c.requires.0,
      below-most c.args.cell c.loop-s.s
          (omega (
            arith,
            c.control_symbols-symbols.ensures,
            region-symbols c.args.cell c.args.frame c.requires.0 c.requires.1,
            c.loop-s-test.true,
          )),
    )

pub loop-s-preserved : goal.loop-s-preserved
loop-s-preserved c =
    (omega (arith, c.loop-s.invariant.0, c.symbol_groups-all.ensures.0, below_next c.args.cell c.loop-s.s), omega (arith, c.loop-s-test.true))

pub overflow_sub-result : goal.overflow_sub-result
overflow_sub-result c =
    let all = region-loop c.args.cell c.args.frame c.requires.0 c.requires.1 c.control_symbols-symbols.ensures
    c.loop-s.invariant.1 c.loop-s-test.false c.loop-s.invariant.0 in omega
    (arith, region-fits c.args.cell c.args.frame c.requires.0 c.requires.1)

pub overflow_mul-result : goal.overflow_mul-result
overflow_mul-result c =
    omega (arith, c.units.ensures, units-most c.args.cell c.requires.0)

pub overflow_sub-result-2 : goal.overflow_sub-result-2
overflow_sub-result-2 c =
    let all = region-loop c.args.cell c.args.frame c.requires.0 c.requires.1 c.control_symbols-symbols.ensures
    c.loop-s.invariant.1 c.loop-s-test.false c.loop-s.invariant.0 in omega
    (arith, region-fits c.args.cell c.args.frame c.requires.0 c.requires.1, c.units.ensures)

pub returns : goal.returns
returns c =
    let all = region-loop c.args.cell c.args.frame c.requires.0 c.requires.1 c.control_symbols-symbols.ensures
    c.loop-s.invariant.1 c.loop-s-test.false c.loop-s.invariant.0 in region-less c.args.cell c.args.frame c.requires.0
    c.requires.1 all c.units.ensures
