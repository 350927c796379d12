-- `mapper::gridcount` meets its contract: the answer's numbers are those of the input. Assumes nothing.
use mathlib.Core.Path.{ap}
use Rattle.counted.specs.Gridcount.{numbers_of}
use Rattle.mapper.proofs.gridcount.Goals as goal

pub returns : goal.returns
returns c = (c.gridcount.ensures, ap numbers_of c.gridcount.ensures)
