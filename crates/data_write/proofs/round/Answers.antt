-- `data_write::round` meets its contract: four symbols out of the bits taken, two numbers for each pair. Assumes nothing.
use Rattle.data_write.proofs.Source.{from-table}
use Rattle.data_write.proofs.Rounds.{round-made}
use Rattle.data_write.proofs.round.Goals as goal

pub returns : goal.returns
returns g c =
    round-made (from-table c.number-a.ensures.0 c.number-b.ensures.0 c.joint.ensures
    c.partners.ensures) (from-table c.number-c.ensures.0 c.number-d.ensures.0
    c.joint-2.ensures c.partners-2.ensures) c.put_pair.ensures c.put_pair-2.ensures
