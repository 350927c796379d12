-- `precoding::unit_byte_on` meets its contract. Assumes nothing.
use mathlib.Core.Path.{ap, ◌∙◌}
use Rattle.base.specs.Bytes.{unit_byte}
use Rattle.precoding.specs.Matrices.{unit_byte_on}
use Rattle.precoding.proofs.unit_byte_on.Goals as goal

pub returns : goal.returns
unfolding unit_byte_on
returns c = c.unit_byte.ensures ∙ ap unit_byte c.unit_on.ensures
