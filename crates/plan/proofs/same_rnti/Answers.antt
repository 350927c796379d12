-- `plan::same_rnti` meets its contract. Assumes nothing.
use mathlib.Core.Path.{refl}
use Rattle.plan.specs.Finding.{same_rnti}
use Rattle.plan.proofs.same_rnti.Goals as goal

pub returns : goal.returns
unfolding same_rnti
returns c = refl
