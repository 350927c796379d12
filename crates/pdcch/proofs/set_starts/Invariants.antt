-- Even subcarrier by even subcarrier. The loop's invariant: the list has the groups so far.
use Prim.Native.Nat.{◌*◌}
use Rattle.pdcch.specs.Walk.{StartsTo}
use Rattle.pdcch.proofs.set_starts.Given as goal

abbrev pub invariant-loop-half : goal.invariant-loop-half
invariant-loop-half l = StartsTo l.cell l.symbols (2 * l.half * l.symbols) l.n l.starts
