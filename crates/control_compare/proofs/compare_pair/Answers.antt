-- `control_compare::compare_pair` meets its contract: one place, and the other. Assumes nothing.
use Rattle.compare.proofs.Comparing.{widest, both-few}
use Rattle.compare.proofs.Accumulating.{also, comparing}
use Rattle.control.proofs.Pairs.{first-ok, second-ok, pair-done}
use Rattle.control_compare.proofs.compare_pair.Goals as goal

pub compare_place-one-requires : goal.compare_place-one-requires
compare_place-one-requires c = first-ok c.requires.0 c.requires.1 c.places-places.ensures

pub compare_place-requires : goal.compare_place-requires
compare_place-requires c = second-ok c.requires.0 c.requires.1 c.places-places.ensures

pub together-requires : goal.together-requires
together-requires c = both-few (widest c.requires.1) c.compare_place-one.ensures c.compare_place.ensures

pub returns : goal.returns
returns c =
    pair-done c.requires.0 (comparing c.args.grid.now) c.places-places.ensures c.compare_place-one.ensures
    (also c.compare_place.ensures c.together.ensures)
