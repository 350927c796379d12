-- A user's area is the one that the specs name.
use Rattle.areas.proofs.Made.{user-made}
use Rattle.areas.proofs.user_area.Goals as goal

pub returns : goal.returns
returns c = let a = c.args in
    user-made a.cell a.frame c.symbols.ensures.0 a.u _ _ _ c.control_symbols.ensures c.from-first.ensures c.from-count.ensures
