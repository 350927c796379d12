-- `control::pcfich_pair` meets its contract: four scrambled bits make two symbols. Assumes nothing.
use native.Mathlib.Omega.{arith}
use Rattle.control.proofs.Listings.{six}
use Rattle.control.proofs.PairByPair.{pcfich-made, format-in}
use Rattle.control.proofs.pcfich_pair.Goals as goal

pub format_group-group-requires : goal.format_group-group-requires
format_group-group-requires c = (six _ c.requires.0, omega (arith, c.requires.3))

pub quad_place-requires : goal.quad_place-requires
quad_place-requires c = (omega arith, format-in c.requires.0 c.requires.3 c.format_group-group.ensures, omega arith)

pub quad_place-requires-2 : goal.quad_place-requires-2
quad_place-requires-2 c =
    (omega arith, format-in c.requires.0 c.requires.3 c.format_group-group.ensures, omega arith)

pub returns : goal.returns
returns c =
    pcfich-made c.requires.0 c.requires.3 c.cfi_word.ensures c.word.ensures c.format_group-group.ensures
    c.quad_place.ensures c.quad_place-2.ensures c.qpsk.ensures c.qpsk-2.ensures
