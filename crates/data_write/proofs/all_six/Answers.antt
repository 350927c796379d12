-- `data_write::all_six` meets its contract. Assumes nothing.
use native.Mathlib.Omega.{arith}
use Rattle.data_write.proofs.Filled.{sixes-sending, sixes-odd, sixes-even}
use Rattle.walk.proofs.Addresses.{sixes-rounds, sixes-last}
use Rattle.data_write.proofs.all_six.Goals as goal

pub pairs-requires : goal.pairs-requires
pairs-requires c = (omega arith, sixes-rounds c.args.halves c.requires.0, c.requires.1)

pub pair-requires : goal.pair-requires
pair-requires c = (
  sixes-last c.args.halves c.requires.0 c.pairs.ensures.size c.if-halves-eq1.true,
  sixes-sending c.args.j
      c.args.first c.args.halves c.pairs.ensures c.requires.1,
)

pub returns-then-halves-eq1 : goal.returns-then-halves-eq1
returns-then-halves-eq1 c =
    sixes-odd c.args.j c.args.first c.args.halves c.pairs.ensures c.if-halves-eq1.true c.pair.ensures

pub returns-else-halves-eq1 : goal.returns-else-halves-eq1
returns-else-halves-eq1 c =
    sixes-even c.args.j c.args.first c.args.halves c.pairs.ensures c.if-halves-eq1.false
