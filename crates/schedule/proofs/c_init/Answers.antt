-- `schedule::c_init` meets its contract: a case for each channel. Assumes nothing.
use mathlib.Core.Path.{subst}
use Rattle.schedule.specs.Schedule.{Among}
use Rattle.schedule.proofs.c_init.Goals as goal

pub crs_init-requires : goal.crs_init-requires
unfolding Among
crs_init-requires c = (c.requires.0, c.requires.1, subst (Among c.args.p) c.in-Crs.is c.requires.2)
