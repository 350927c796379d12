-- `crs::n_cp` meets its contract. Assumes nothing.
use mathlib.Core.Path.{◌∙◌}
use Rattle.crs.proofs.Values.{prefix-flag}
use Rattle.crs.proofs.n_cp.Goals as goal

pub returns : goal.returns
returns c = c.from.ensures ∙ prefix-flag c.args.prefix
