-- `modulation_vectors::map_lines` ends. Assumes nothing.
use mathlib.Core.Path.{refl}
use native.Mathlib.Omega.{arith}
use Rattle.modulation_vectors.proofs.map_lines.Goals as goal

pub set_elements-requires : goal.set_elements-requires
set_elements-requires g c = (refl, c.requires.0, omega (arith, c.requires.2))
