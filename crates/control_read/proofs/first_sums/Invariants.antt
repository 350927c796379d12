-- `control_read::first_sums` meets its contract: unit after unit. Assumes nothing.
use Prim.Native.Nat.{◌*◌}
use Rattle.control_read.specs.Reading.{FirstRead}
use Rattle.control_read.proofs.first_sums.Given as goal

abbrev pub invariant-loop-m : goal.invariant-loop-m
invariant-loop-m l = FirstRead l.cell l.grid (4 * l.m) l.first
