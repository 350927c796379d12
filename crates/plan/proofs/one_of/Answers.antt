-- `plan::one_of` meets its contract: the library's search. Assumes nothing.
use mathlib.Core.Path.{◌∙◌}
use Rattle.plan.proofs.OneOf.{any-one_of}
use Rattle.plan.proofs.one_of.Goals as goal

pub returns : goal.returns
returns c = c.contains.ensures.value ∙ any-one_of c.args.n c.args.list.now
