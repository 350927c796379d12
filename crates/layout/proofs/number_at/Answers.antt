-- How far the number lies past the start.
use Rattle.layout.proofs.Ways.{number-from, far-rest, far-fits}
use Rattle.layout.proofs.number_at.Goals as goal

pub overflow_sub-far : goal.overflow_sub-far
overflow_sub-far c = far-rest c.start_number.result c.groups_left-h.result c.groups_left-h.ensures.1

pub overflow_add-far : goal.overflow_add-far
overflow_add-far c = record { fits = far-fits c.args.n c.groups_left-h.result _ c.requires.3 c.groups_left-h.ensures.2 }

pub returns : goal.returns
returns c =
    number-from c.args.cell c.args.s c.args.n c.groups_left-h.ensures.0 c.start_number.ensures.0 _
    c.unit_in.ensures
