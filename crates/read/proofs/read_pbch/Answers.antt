-- `read::read_pbch` meets its contract: the bits of PBCH's area. Assumes nothing.
use native.Mathlib.Omega.{arith}
use Rattle.plan.proofs.Counts.{blocks-least}
use Rattle.schedule.specs.declared.Channel.TheVariants.{Pbch}
use Rattle.read.proofs.Channels.{area-reads, area-read}
use Rattle.read.proofs.read_pbch.Goals as goal

pub pbch_area-area-requires : goal.pbch_area-area-requires
pbch_area-area-requires c =
    omega (arith, blocks-least c.args.p.cell c.requires.begins.0)

pub started-requires : goal.started-requires
started-requires c = c.requires.begins

pub read_area-requires : goal.read_area-requires
read_area-requires c =
    area-reads c.args.p Pbch _ 2 c.args.grid.now _ c.pbch_area-area.ensures c.requires c.set_axis.ensures c.row_masks.ensures

pub returns : goal.returns
returns c =
    area-read c.args.p Pbch _ 2 c.args.grid.now _ c.pbch_area-area.ensures _ c.started.ensures c.read_area.ensures
