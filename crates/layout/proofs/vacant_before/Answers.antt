-- The vacant groups of the symbols so far, one symbol more with each turn.
use native.Mathlib.Omega.{arith}
use Rattle.layout.proofs.VacantWays.{before-none, size-least, starts_fit, before-next, before-all}
use Rattle.layout.proofs.vacant_before.Goals as goal

pub loop-n-init : goal.loop-n-init
loop-n-init c = (before-none c.args.cell c.args.k c.args.s, omega arith, omega arith)

pub group_size-size-requires : goal.group_size-size-requires
group_size-size-requires c = omega (arith, c.requires.2, c.loop-n-test.true)

pub overflow_sub-starts : goal.overflow_sub-starts
overflow_sub-starts c =
    (size-least c.args.cell c.loop-n.n c.args.k c.args.s c.group_size-size.ensures c.one_below.ensures.0).0

pub overflow_add-starts-in-loop-n : goal.overflow_add-starts-in-loop-n
overflow_add-starts-in-loop-n c =
    omega (
      arith,
      (size-least c.args.cell c.loop-n.n c.args.k c.args.s c.group_size-size.ensures c.one_below.ensures.0).1,
      c.one_below.ensures.1,
      c.requires.3,
    )

pub vacant_below-sum-requires : goal.vacant_below-sum-requires
vacant_below-sum-requires c =
    let fit = starts_fit c.args.cell c.loop-n.n c.args.k c.args.s c.group_size-size.ensures c.one_below.ensures.0
    (omega arith) c.requires.3 c.one_below.ensures.1 in (c.requires.0, c.requires.1, fit.0, fit.1)

pub loop-n-preserved : goal.loop-n-preserved
loop-n-preserved c = (
  before-next c.args.cell c.loop-n.n c.args.k c.args.s c.group_size-size.ensures c.one_below.ensures.0
      c.vacant_below-sum.ensures.0 c.loop-n.invariant.0,
  omega (arith, c.loop-n-test.true),
  omega
      (arith, c.vacant_below-sum.ensures.1, c.loop-n.invariant.2),
)

pub returns : goal.returns
returns c =
    before-all c.args.cell c.args.symbols c.loop-n.n c.args.k c.args.s c.loop-n.sum c.loop-n.invariant.1
    c.loop-n-test.false c.requires.2 c.loop-n.invariant.0 c.loop-n.invariant.2

pub nonzero_div-starts : goal.nonzero_div-starts
nonzero_div-starts c =
    (size-least c.args.cell c.loop-n.n c.args.k c.args.s c.group_size-size.ensures c.one_below.ensures.0).0
