-- `mapper::owner` meets its contract: the answer's number is that of the query. Assumes nothing.
use Rattle.mapper.proofs.Numbers.{owner-numbers}
use Rattle.mapper.proofs.owner.Goals as goal

pub returns : goal.returns
returns c = let a = c.args in
    (c.owner_query.ensures, owner-numbers a.plan.now a.s a.k a.port _ c.owner_query.ensures)
