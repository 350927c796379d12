-- `data_read::all_six` meets its contract. Assumes nothing.
use native.Mathlib.Omega.{arith}
use Rattle.walk.proofs.Addresses.{sixes-rounds, sixes-last}
use mathlib.Core.Path.{refl}
use Rattle.data_read.proofs.Gatherings.{read-fewer}
use Rattle.data_read.proofs.Places.{sixes-reading, sixes-odd, sixes-even}
use Rattle.data_read.proofs.all_six.Goals as goal

pub rounds-requires : goal.rounds-requires
rounds-requires c =
    (sixes-rounds c.args.halves c.requires.0, read-fewer c.requires.1 (omega arith))

pub pair-requires : goal.pair-requires
pair-requires c = (
  sixes-last c.args.halves c.requires.0 refl c.if-halves-eq1.true,
  sixes-reading c.args.halves c.args.ports c.args.places c.args.first c.rounds.ensures c.if-halves-eq1.true c.requires.1,
)

pub returns-then-halves-eq1 : goal.returns-then-halves-eq1
returns-then-halves-eq1 c =
    sixes-odd c.args.halves c.args.ports c.args.places c.args.first c.rounds.ensures c.if-halves-eq1.true c.pair.ensures

pub returns-else-halves-eq1 : goal.returns-else-halves-eq1
returns-else-halves-eq1 c =
    sixes-even c.args.halves c.args.ports c.args.places c.args.first c.rounds.ensures c.if-halves-eq1.false
