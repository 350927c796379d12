-- `verify::compare_channel` meets its contract: a case for each channel. Assumes nothing.
use mathlib.Core.Path.{ap, ◌∙◌}
use native.Mathlib.Omega.{arith}
use Rattle.modulation.specs.Symbols.{unit_of}
use Rattle.schedule.specs.declared.Channel.TheVariants.{Sync}
use Rattle.verify.proofs.Channels.{crs-starts, crs-ready, mark-ready, pcfich-ready, unit-few, unit-ready, user-ready}
use Rattle.verify.proofs.Channels.{crs-answer, pss-answer, sss-answer, pbch-answer, pcfich-answer, unit-answer, user-answer}
use Rattle.verify.proofs.compare_channel.Goals as goal

pub started-r-requires : goal.started-r-requires
started-r-requires c = crs-starts c.requires.1 c.in-Crs.is

pub compare_crs-requires : goal.compare_crs-requires
compare_crs-requires c =
    crs-ready c.requires.1 c.in-Crs.is c.from.ensures

pub compare_pss-requires : goal.compare_pss-requires
compare_pss-requires c = mark-ready c.requires.1

pub compare_sss-requires : goal.compare_sss-requires
compare_sss-requires c = mark-ready c.requires.1

pub compare_pbch-requires : goal.compare_pbch-requires
compare_pbch-requires c = (c.requires.0, rw c.in-Pbch.is at c.requires.1)

pub compare_pcfich-requires : goal.compare_pcfich-requires
compare_pcfich-requires c = pcfich-ready c.requires.1

pub slice_bounds-part-end : goal.slice_bounds-part-end
slice_bounds-part-end c =
    omega (arith, unit-few c.requires.1 c.requires.2 c.in-Phich.is c.from-unit.ensures)

pub compare_phich-requires : goal.compare_phich-requires
compare_phich-requires c =
    unit-ready c.requires.1 c.requires.2 c.in-Phich.is c.from-unit.ensures

pub compare_area-requires : goal.compare_area-requires
compare_area-requires c =
    let unit = c.unit.ensures ∙ ap unit_of c.from-order.ensures in
    rw c.from-order.ensures (user-ready c.requires.1 c.requires.2 c.in-User.is c.user_area-area.ensures unit)

pub returns-in-Crs : goal.returns-in-Crs
returns-in-Crs c =
    crs-answer c.args.p c.args.sums.now c.args.grid.now _ c.in-Crs.is c.from.ensures
    c.started-r.ensures c.compare_crs.ensures

pub returns-in-Sync-Primary : goal.returns-in-Sync-Primary
returns-in-Sync-Primary c =
    pss-answer c.args.p c.args.sums.now c.args.grid.now _
    (c.in-Sync-Primary.is ∙ ap Sync (rw c.in-Sync-Primary.is at c.in-Sync-Primary.field-0-is)) c.compare_pss.ensures

pub returns-in-Sync-Secondary : goal.returns-in-Sync-Secondary
returns-in-Sync-Secondary c =
    sss-answer c.args.p c.args.sums.now c.args.grid.now _
    (c.in-Sync-Secondary.is ∙ ap Sync (rw c.in-Sync-Secondary.is at c.in-Sync-Secondary.field-0-is)) c.compare_sss.ensures

pub returns-in-Pbch : goal.returns-in-Pbch
returns-in-Pbch c =
    pbch-answer c.args.p c.args.sums.now c.args.grid.now _ c.in-Pbch.is c.compare_pbch.ensures

pub returns-in-Pcfich : goal.returns-in-Pcfich
returns-in-Pcfich c =
    pcfich-answer c.args.p c.args.sums.now c.args.grid.now _ c.in-Pcfich.is c.requires.2.start c.compare_pcfich.ensures

pub returns-in-Phich : goal.returns-in-Phich
returns-in-Phich c =
    unit-answer c.args.p c.args.sums.now c.args.grid.now _ c.in-Phich.is
    c.from-unit.ensures c.requires.2.start c.compare_phich.ensures

pub returns-in-User : goal.returns-in-User
returns-in-User c =
    user-answer c.args.p c.args.sums.now c.args.grid.now _ c.in-User.is
    c.user_area-area.ensures (c.unit.ensures ∙ ap unit_of c.from-order.ensures) (rw c.from-order.ensures at c.compare_area.ensures)
