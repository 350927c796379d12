-- `channel_write::filled` meets its contract: a case for each channel. Assumes nothing.
use mathlib.Core.Path.{refl}
use Rattle.channel_write.proofs.Filling.{crs-in, pbch-wide, pbch-in, pcfich-in, phich-in, user-in, no-mark}
use Rattle.channel_write.proofs.Filling.{crs-filled, pbch-filled, pcfich-filled, phich-filled, user-filled}
use Rattle.channel_write.proofs.filled.Goals as goal

pub fill_crs-requires : goal.fill_crs-requires
fill_crs-requires c =
    crs-in c.requires.0 _ _ c.in-Crs.is c.wide.ensures

pub pbch_area-area-requires : goal.pbch_area-area-requires
pbch_area-area-requires c = pbch-wide c.requires.0

pub fill_by_tables-requires : goal.fill_by_tables-requires
fill_by_tables-requires c =
    pbch-in c.requires.0 _ c.in-Pbch.is c.pbch_area-area.ensures c.row_masks.ensures

pub fill_pcfich-requires : goal.fill_pcfich-requires
fill_pcfich-requires c = pcfich-in c.requires.0

pub fill_phich-requires : goal.fill_phich-requires
fill_phich-requires c =
    phich-in c.requires.0 _ _ c.in-Phich.is c.wide-in-Phich.ensures

pub fill_by_tables-requires-in-User : goal.fill_by_tables-requires-in-User
fill_by_tables-requires-in-User c =
    user-in c.requires.0 _ _ _ c.in-User.is c.user_area-area.ensures refl

pub returns-in-Crs : goal.returns-in-Crs
returns-in-Crs c =
    crs-filled c.requires.0 _ _ _ c.in-Crs.is c.wide.ensures c.fill_crs.ensures

pub returns-in-Sync : goal.returns-in-Sync
returns-in-Sync c = no-mark c.requires c.in-Sync.is

pub returns-in-Pbch : goal.returns-in-Pbch
returns-in-Pbch c =
    pbch-filled c.requires.0 _ _ c.in-Pbch.is c.pbch_area-area.ensures c.fill_by_tables.ensures

pub returns-in-Pcfich : goal.returns-in-Pcfich
returns-in-Pcfich c =
    pcfich-filled c.requires.0 _ c.in-Pcfich.is c.fill_pcfich.ensures

pub returns-in-Phich : goal.returns-in-Phich
returns-in-Phich c =
    phich-filled c.requires.0 _ _ _ c.in-Phich.is c.wide-in-Phich.ensures c.fill_phich.ensures

pub returns-in-User : goal.returns-in-User
returns-in-User c =
    user-filled c.requires.0 _ _ _ _ c.in-User.is c.user_area-area.ensures refl c.fill_by_tables-in-User.ensures
