-- Block by block. The loop's invariant: the vacant groups of the blocks so far are in the table, and the cursor stands at the next one's quad.
use Prim.Native.Nat.{◌*◌}
use Rattle.pdcch.specs.Walk.{WalkAt}
use Rattle.pdcch.proofs.set_groups.Given as goal

abbrev pub invariant-loop-block : goal.invariant-loop-block
invariant-loop-block l = WalkAt l.fn.cell l.symbols l.quads l.count l.block (24 * l.block) l.cursor l.groups
