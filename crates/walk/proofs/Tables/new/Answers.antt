-- `walk::Tables::new` meets its contract. Assumes nothing.
use mathlib.Core.Path.{refl}
use Rattle.base.specs.Tables.{table}
use Rattle.walk.proofs.Tables.new.Goals as goal

pub returns-clause-rows : goal.returns-clause-rows
unfolding table
returns-clause-rows c = refl

pub returns-clause-spans : goal.returns-clause-spans
unfolding table
returns-clause-spans c = refl
