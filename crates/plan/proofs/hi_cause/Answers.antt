-- `plan::hi_cause` meets its contract: the fields of HI, then the pairs before. Assumes nothing.
use Rattle.std.proofs.Common.{◌<◌}
use native.Mathlib.Omega.{arith}
use Rattle.std.proofs.Common.{rules}
use borrow.Author.Tests.{ltb-true}
use Rattle.plan.specs.Finding.{hi_cause}
use Rattle.plan.proofs.Before.{pair-word}
use Rattle.plan.proofs.CauseLaws.{held, hi-range, hi-tests}
use Rattle.plan.proofs.hi_cause.Goals as goal

pub returns-in_err-demand : goal.returns-in_err-demand
unfolding hi_cause
returns-in_err-demand c hs s = search rules

pub returns-in_err-demand-2 : goal.returns-in_err-demand-2
unfolding hi_cause
returns-in_err-demand-2 c hs s = search rules

pub has-requires : goal.has-requires
has-requires c =
    let k : c.args.h.group < c.groups.result = ltb-true _ _ (held _ _ c.demand.ensures c.in_ok-demand.was) in
    let l : c.args.h.sequence < c.sequences.result = ltb-true _ _ (held _ _ c.demand-2.ensures c.in_ok-demand-2.was) in
    omega (arith, c.pair_of.ensures, pair-word c.args.cell c.requires c.args.h (hi-range c.args.cell c.args.h c.groups.ensures k c.sequences.ensures l))

pub returns : goal.returns
returns c =
    let k : c.args.h.group < c.groups.result = ltb-true _ _ (held _ _ c.demand.ensures c.in_ok-demand.was) in
    let l : c.args.h.sequence < c.sequences.result = ltb-true _ _ (held _ _ c.demand-2.ensures c.in_ok-demand-2.was) in
    hi-tests c.args.cell c.args.h c.groups.ensures k c.sequences.ensures l c.args.pairs.now c.pair_of.ensures c.has.ensures c.demand-3.ensures
