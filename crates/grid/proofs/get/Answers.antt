-- `grid::get` meets its contract: three bytes of one element. Assumes nothing.
use mathlib.Core.Path.{refl}
use Rattle.grid.specs.Elements.{element_in}
use Rattle.grid.proofs.get.Goals as goal

pub returns : goal.returns
unfolding element_in
returns c = refl
