-- `modulation_vectors::back_lines` ends. Assumes nothing.
use mathlib.Core.Path.{refl}
use native.Mathlib.Omega.{arith}
use Rattle.modulation_vectors.proofs.back_lines.Goals as goal

pub set_elements-requires : goal.set_elements-requires
set_elements-requires g c = (refl, c.requires.0, omega (arith, c.requires.2))

pub set_axis-requires : goal.set_axis-requires
set_axis-requires g c = (refl, omega (arith, c.requires.2))
