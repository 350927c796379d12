-- `signals::level_element` meets its contract: the level goes through a signed byte. Assumes nothing.
use Rattle.signals.proofs.Values.{level-made}
use Rattle.signals.proofs.level_element.Goals as goal

pub returns : goal.returns
returns c =
    level-made c.args.d c.args.i c.sss_level-level.ensures c.element_of.ensures
