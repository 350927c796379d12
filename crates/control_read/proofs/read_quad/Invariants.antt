-- `control_read::read_quad` meets its contract: place after place. Assumes nothing.
use Prim.Native.Nat.{◌+◌, ◌*◌}
use Rattle.control_read.specs.Reading.{FirstRead}
use Rattle.control_read.proofs.read_quad.Given as goal

abbrev pub invariant-loop-i : goal.invariant-loop-i
invariant-loop-i l = FirstRead l.cell l.grid (4 * l.m + l.i) l.first
