-- Two bytes: the law of bytes one after the other.
use Rattle.element_pairs.proofs.Puts.{two_bytes}
use Rattle.element_pairs.proofs.put_two.Goals as goal

pub returns : goal.returns
returns c = two_bytes c.args.at c.args.v c.args.grid.now c.requires
