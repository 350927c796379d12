-- `grid::put_place` meets its contract: the own port, and with more ports the other one. Assumes nothing.
use mathlib.Core.Path.{◌∙◌}
use Rattle.grid.proofs.Sending.{own-fits, other_fits, one-put, two-puts}
use Rattle.grid.proofs.Writing.{room-kept}
use Rattle.grid.proofs.put_place.Goals as goal

pub put-requires : goal.put-requires
put-requires c =
    (own-fits c.requires.0 c.args.pair _ c.args.t (c.from.ensures ∙ c.own_port.ensures) c.requires.1).2

pub returns-then-ports-eq1 : goal.returns-then-ports-eq1
returns-then-ports-eq1 c =
    one-put c.requires.0 c.args.pair c.args.unit c.args.odd c.args.t c.args.d c.args.e c.requires.1
    (c.from.ensures ∙ c.own_port.ensures) c.unit_byte_on-byte.ensures c.if-ports-eq1.true c.element_of.ensures c.put.ensures

pub put-requires-2 : goal.put-requires-2
put-requires-2 c =
    (other_fits c.requires.0 c.args.pair _ c.args.t (c.from-2.ensures ∙ c.other_port.ensures) c.requires.1).2

pub put-requires-3 : goal.put-requires-3
put-requires-3 c =
    (own-fits (room-kept c.requires.0 c.put-2.ensures) c.args.pair _ c.args.t (c.from.ensures ∙ c.own_port.ensures)
    c.requires.1).2

pub returns : goal.returns
returns c =
    two-puts c.requires.0 c.args.pair c.args.unit c.args.odd c.args.t c.args.d c.args.e c.requires.1
    (c.from.ensures ∙ c.own_port.ensures) c.unit_byte_on-byte.ensures c.if-ports-eq1.false (c.from-2.ensures ∙ c.other_port.ensures)
    c.partner.ensures c.element_of-2.ensures c.element_of-3.ensures c.put-2.ensures c.put-3.ensures
