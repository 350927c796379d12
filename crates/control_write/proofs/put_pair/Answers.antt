-- `control_write::put_pair` meets its contract: one place, then the other. Assumes nothing.
use Rattle.grid.proofs.Writing.{room-kept}
use Rattle.grid.proofs.Accumulating.{writing}
use Rattle.control.proofs.Pairs.{first-ok, second-ok, pair-done}
use Rattle.control_write.proofs.put_pair.Goals as goal

pub put_place-requires : goal.put_place-requires
put_place-requires c = first-ok c.requires.0 c.requires.1 c.places-places.ensures

pub put_place-requires-2 : goal.put_place-requires-2
put_place-requires-2 c =
    second-ok c.requires.0 (room-kept c.requires.1 c.put_place.ensures) c.places-places.ensures

pub returns : goal.returns
returns c =
    pair-done c.requires.0 (writing c.args.grid.now) c.places-places.ensures c.put_place.ensures c.put_place-2.ensures
