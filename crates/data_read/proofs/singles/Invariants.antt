-- The places of i rounds are read.
use Prim.Native.Nat.{◌+◌, ◌≤◌}
use Rattle.data_read.specs.Runs.{ReadOn}
use Rattle.data_read.proofs.singles.Given as goal

abbrev pub invariant-loop-i : goal.invariant-loop-i
invariant-loop-i l = (l.i ≤ l.n) × ReadOn l.q l.j l.i (◌+◌ l.start) l.d l.grid l.initial.st l.initial.part l.st l.part
