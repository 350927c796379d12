-- `data_write::pairs` meets its contract: the pairs of the rounds before i are filled, with the stream's word in locals. Assumes nothing.
use mathlib.Core.Path.{refl}
use native.Mathlib.Omega.{arith}
use Rattle.walk.proofs.Addresses.{pairs-fit}
use Rattle.data_write.proofs.Rounds.{rounds-first, rounds-at, round-takes, round-in, few_bytes, round-on, filled-end}
use Rattle.data_write.proofs.pairs.Goals as goal

pub first_round-f-requires : goal.first_round-f-requires
first_round-f-requires g c = pairs-fit c.requires.1

pub loop-i-init : goal.loop-i-init
loop-i-init g c =
    rounds-at (omega arith) (omega arith) (rounds-first c.args.n (c.requires.1, c.requires.2) c.first_round-f.ensures refl)

pub take_rest-h-requires : goal.take_rest-h-requires
take_rest-h-requires g c = round-takes c.loop-i.invariant c.loop-i-test.true

pub overflow_shr-h : goal.overflow_shr-h
overflow_shr-h g c = omega (arith, c.take_rest-h.ensures.most)

pub round-requires : goal.round-requires
round-requires g c = (c.requires.0, round-in c.loop-i.invariant c.loop-i-test.true)

pub loop-i-preserved : goal.loop-i-preserved
loop-i-preserved g c =
    rounds-at (omega arith) (omega arith) (round-on c.loop-i.invariant c.loop-i-test.true c.take_rest-h.ensures.takes c.round.ensures)

pub overflow_add-f : goal.overflow_add-f
overflow_add-f g c = omega (arith, few_bytes c.loop-i.invariant c.loop-i-test.true)

pub overflow_add-f-in-loop-i : goal.overflow_add-f-in-loop-i
overflow_add-f-in-loop-i g c = omega (arith, few_bytes c.loop-i.invariant c.loop-i-test.true)

pub shape_of-grid : goal.shape_of-grid
shape_of-grid g c = c.loop-i.invariant.done.size

pub returns : goal.returns
returns g c = filled-end c.loop-i.invariant c.loop-i-test.false refl
