-- Symbol by symbol. The loop's invariant: the list has the groups of the symbols so far.
use Prim.Native.Nat.{◌+◌, ◌*◌}
use Rattle.pdcch.specs.Walk.{StartsTo}
use Rattle.pdcch.proofs.put_starts.Given as goal

abbrev pub invariant-loop-s : goal.invariant-loop-s
invariant-loop-s l = StartsTo l.cell l.symbols (l.k * l.symbols + l.s) l.count l.starts
