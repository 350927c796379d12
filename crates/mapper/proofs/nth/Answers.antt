-- `mapper::nth` meets its contract. Assumes nothing.
use Rattle.mapper.proofs.Samples.{no-fourth}
use Rattle.mapper.proofs.nth.Goals as goal

pub returns : goal.returns
returns c = no-fourth c.args.a c.args.b c.args.c c.args.n c.if-n-lt3.false
