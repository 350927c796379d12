-- `plan::stands` meets its contract: by size and byte. Assumes nothing.
use Rattle.plan.proofs.Reading.{stands-made}
use Rattle.plan.proofs.stands.Goals as goal

pub returns : goal.returns
returns c =
    stands-made c.args.plan.now c.args.at c.args.code c.size_of.ensures c.byte_at.ensures
