-- `signals::phase_element` meets its contract. Assumes nothing.
use Rattle.signals.proofs.Values.{phase-made}
use Rattle.signals.proofs.phase_element.Goals as goal

pub returns : goal.returns
returns c = phase-made c.args.identity c.args.i c.pss_phase.ensures
