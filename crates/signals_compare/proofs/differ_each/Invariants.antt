-- `signals_compare::differ_each` meets its contract. The loop: the first ports are compared. Assumes nothing.
use Rattle.element_pairs.specs.Numbers.{element_from}
use Rattle.signals.proofs.ValueByValue.{EachDone}
use Rattle.signals_compare.proofs.Differing.{DifferingIn}
use Rattle.signals_compare.proofs.differ_each.Given as goal

abbrev pub invariant-loop-first : goal.invariant-loop-first
invariant-loop-first g l = EachDone (DifferingIn l.grid) l.fn.firsts l.i (element_from l.v) l.first-index l.differ
