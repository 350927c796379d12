-- Unit by unit around the ring. The loop's invariant: the groups of the units so far are marked, and n is the next one's number.
use Prim.Native.Nat.{◌+◌, ◌%◌, ◌≤◌}
use mathlib.Core.Path.{◌≡◌}
use Rattle.pdcch.specs.Walk.{MarkedBy, ring_spot}
use Rattle.pdcch.proofs.mark_quads.Given as goal

abbrev pub invariant-loop-m : goal.invariant-loop-m
invariant-loop-m l =
    MarkedBy (ring_spot l.first l.pairs l.s l.format.first l.format.second l.format.third l.format.fourth l.h l.initial.n) l.m l.initial.taken l.taken
    × (l.n ≡ (l.initial.n + l.m) % l.h) × (l.m ≤ l.units)
