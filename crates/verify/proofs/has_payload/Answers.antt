-- `verify::has_payload` meets its contract. Assumes nothing.
use Rattle.std.proofs.Common.{rules}
use Rattle.verify.proofs.Whole.{answer}
use Rattle.verify.proofs.has_payload.Goals as goal

pub returns : goal.returns
returns c = answer c.args.plan.now c.args.p c.args.grid.now c.requires c.compare_all.ensures (λ n p. search rules) c.is_some_and.ensures
