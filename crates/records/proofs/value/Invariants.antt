-- `records::value` is below 2^32, whatever the bytes are. Assumes nothing.
use Prim.Native.Nat.{◌<◌}
use Rattle.records.proofs.value.Given as goal

abbrev pub invariant-loop-x : goal.invariant-loop-x
invariant-loop-x l = l.v < 4294967296
