-- `plan::symbol_groups` meets its contract: three groups a block, or two. Assumes nothing.
use native.Mathlib.Omega.{arith}
use mathlib.Core.Path.{sym, ◌∙◌}
use Rattle.plan.proofs.ControlElements.{else-six, groups-of-four, groups-of-six}
use Rattle.plan.proofs.symbol_groups.Goals as goal

pub returns-then-group_size-eq4 : goal.returns-then-group_size-eq4
returns-then-group_size-eq4 c =
    let e = groups-of-four c.args.cell c.args.s (sym c.group_size.ensures ∙ c.if-group_size-eq4.true) in (e, omega arith)

pub returns-else-group_size-eq4 : goal.returns-else-group_size-eq4
returns-else-group_size-eq4 c =
    let e = groups-of-six c.args.cell c.args.s
    (else-six c.args.cell c.args.s (λ d. c.if-group_size-eq4.false (c.group_size.ensures ∙ d))) in (e, omega arith)
