-- Two pairs are read in each of i rounds.
use native.Mathlib.Omega.{arith}
use Rattle.walk.proofs.Addresses.{offsets-small}
use Rattle.data_read.proofs.Places.{rounds-begin, rounds-at, round-fits, round-gives, round-on, all_read}
use Rattle.data_read.proofs.rounds.Goals as goal

pub overflow_add-at : goal.overflow_add-at
overflow_add-at g c = omega (arith, offsets-small c.requires.0 c.port_offsets-p.ensures)

pub overflow_mul-at : goal.overflow_mul-at
overflow_mul-at g c = omega (arith, offsets-small c.requires.0 c.port_offsets-p.ensures)

pub overflow_add-next : goal.overflow_add-next
overflow_add-next g c = omega (arith, offsets-small c.requires.0 c.port_offsets-p.ensures)

pub overflow_add-next-2 : goal.overflow_add-next-2
overflow_add-next-2 g c = omega (arith, offsets-small c.requires.0 c.port_offsets-p.ensures)

pub overflow_mul-next : goal.overflow_mul-next
overflow_mul-next g c = omega (arith, offsets-small c.requires.0 c.port_offsets-p.ensures)

pub loop-i-init : goal.loop-i-init
loop-i-init g c =
    rounds-at (omega arith) (omega arith) (rounds-begin c.args.n c.requires.0 c.requires.1 c.port_offsets-p.ensures)

pub pair_at-x-requires : goal.pair_at-x-requires
pair_at-x-requires g c = omega (arith, round-fits c.loop-i.invariant c.loop-i-test.true)

pub pair_at-y-requires : goal.pair_at-y-requires
pair_at-y-requires g c = omega (arith, round-fits c.loop-i.invariant c.loop-i-test.true)

pub give-requires : goal.give-requires
give-requires g c = round-gives c.loop-i.invariant c.loop-i-test.true c.four.ensures.1

pub overflow_add-at-in-loop-i : goal.overflow_add-at-in-loop-i
overflow_add-at-in-loop-i g c = omega (arith, round-fits c.loop-i.invariant c.loop-i-test.true)

pub overflow_add-next-in-loop-i : goal.overflow_add-next-in-loop-i
overflow_add-next-in-loop-i g c = omega (arith, round-fits c.loop-i.invariant c.loop-i-test.true)

pub loop-i-preserved : goal.loop-i-preserved
loop-i-preserved g c =
    rounds-at (omega arith) (omega arith)
    (round-on c.loop-i.invariant c.loop-i-test.true c.pair_at-x.ensures c.pair_at-y.ensures c.four.ensures.0 c.give.ensures)

pub returns : goal.returns
returns g c = all_read (omega (arith, c.loop-i.invariant.round.rounds)) (omega (arith, c.loop-i-test.false)) c.loop-i.invariant.read
