-- `plan::body` meets its contract: the HIs, then what follows them. Assumes nothing.
use mathlib.Core.Path.{◌∙◌, subst}
use Rattle.std.proofs.Common.{rules}
use Rattle.plan.specs.Loops.{HisRead}
use Rattle.plan.proofs.body.Goals as goal

pub users_from-requires : goal.users_from-requires
users_from-requires c =
    ((subst (HisRead c.args.plan.now c.args.cell c.args.start) c.in_ok-his.was c.his_from.ensures).0, c.requires.1)

pub returns-in_err-his : goal.returns-in_err-his
returns-in_err-his c = let h = subst (HisRead c.args.plan.now c.args.cell c.args.start) c.in_err-his.was c.his_from.ensures in search (rules, h c.args.frame)

pub returns : goal.returns
returns c =
    c.users_from.ensures
    ∙ (subst (HisRead c.args.plan.now c.args.cell c.args.start) c.in_ok-his.was c.his_from.ensures).1 c.args.frame
