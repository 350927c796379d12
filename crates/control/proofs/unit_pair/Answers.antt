-- The places and the sums are those of the definition.
use mathlib.Core.Path.{refl}
use Rattle.control.proofs.unit_pair.Goals as goal

pub returns : goal.returns
returns c = rw (c.quad_place.ensures, c.quad_place-2.ensures) refl
