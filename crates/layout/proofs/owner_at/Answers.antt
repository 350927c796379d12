-- The owner above the users, or the user that has the block.
use borrow.Enum.Refused.{opened}
use mathlib.Core.Path.{◌∙◌, sym}
use Rattle.layout.proofs.OneOwner.{owner_of_lem}
use native.Mathlib.Omega.{arith}
use Rattle.layout.proofs.Few.{blocks-least, ports-most, sixths-most}
use Rattle.plan.proofs.Counts.{users-most}
use Rattle.layout.proofs.Pilot.{slot-length}
use Rattle.layout.proofs.Ways.{end-fixed, end-control, end-user}
use Rattle.layout.proofs.owner_at.Goals as goal

pub fixed_at-o-requires : goal.fixed_at-o-requires
fixed_at-o-requires c =
    let z = slot-length c.args.p.cell in omega (
      arith,
      c.requires,
      blocks-least c.args.plan.now c.args.p c.requires.0,
      ports-most
          c.args.plan.now c.args.p c.requires.0,
      sixths-most c.args.plan.now c.args.p c.requires.0,
    )

pub returns-then-s-control_symbols : goal.returns-then-s-control_symbols
returns-then-s-control_symbols c =
    end-control c.args.plan.now c.args.p c.args.s c.args.k _ c.fixed_at-o.ensures c.in-Idle.is
    _ c.control_symbols.ensures c.if-s-control_symbols.true ∙ sym (owner_of_lem c.args.plan.now c.args.p c.requires.0 c.args.s c.args.k c.requires.1.0 c.requires.1.1)

pub user_from-requires : goal.user_from-requires
user_from-requires c =
    omega (arith, users-most c.args.plan.now c.args.p c.requires.0)

pub returns-else-s-control_symbols : goal.returns-else-s-control_symbols
returns-else-s-control_symbols c =
    end-user c.args.plan.now c.args.p c.args.s c.args.k _ c.fixed_at-o.ensures c.in-Idle.is _
    c.control_symbols.ensures c.if-s-control_symbols.false _ c.user_from.ensures
    ∙ sym (owner_of_lem c.args.plan.now c.args.p c.requires.0 c.args.s c.args.k c.requires.1.0 c.requires.1.1)

pub returns-in_default : goal.returns-in_default
returns-in_default c =
    end-fixed c.args.plan.now c.args.p c.args.s c.args.k _ c.fixed_at-o.ensures (opened c.in_default.in_default-own.keys2)
    ∙ sym (owner_of_lem c.args.plan.now c.args.p c.requires.0 c.args.s c.args.k c.requires.1.0 c.requires.1.1)
