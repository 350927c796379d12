-- `channel_write::write` meets its contract: a mark, PCFICH, a unit, or another channel. Assumes nothing.
use native.Mathlib.Omega.{arith}
use Rattle.channel_write.proofs.Filling.{mark-in, mark-written, unit-few, unit_ok, unit-written, pcfich-ok, pcfich-written, other-ok, other-starts, other-written}
use Rattle.channel_write.proofs.write.Goals as goal

pub write_mark-requires : goal.write_mark-requires
write_mark-requires c = mark-in c.requires.0

pub map-requires : goal.map-requires
map-requires c = pcfich-ok c.args.sums.now c.args.bits.now c.requires.0 c.in-Pcfich.is

pub slice_bounds-map-end : goal.slice_bounds-map-end
slice_bounds-map-end c =
    omega (arith, unit-few c.args.sums.now c.args.bits.now c.requires.0 c.in-Phich.is c.wide-from.ensures, c.requires.1)

pub map-requires-in-Phich : goal.map-requires-in-Phich
map-requires-in-Phich c =
    unit_ok c.args.sums.now c.args.bits.now c.requires.0 c.in-Phich.is c.wide-from.ensures

pub started-requires : goal.started-requires
started-requires c = other-starts c.args.sums.now c.args.bits.now c.requires.0 c.in_default.in_default-own.keys4

pub map-requires-in_default : goal.map-requires-in_default
map-requires-in_default c = other-ok c.args.sums.now c.args.bits.now c.requires.0 c.in_default.in_default-own.keys4

pub returns-in-Sync : goal.returns-in-Sync
returns-in-Sync c =
    mark-written c.args.sums.now c.args.bits.now c.requires.0 c.in-Sync.is c.write_mark.ensures

pub returns-in-Pcfich : goal.returns-in-Pcfich
returns-in-Pcfich c =
    pcfich-written c.args.sums.now c.args.bits.now c.requires.0 c.in-Pcfich.is c.requires.2 c.map.ensures

pub returns-in-Phich : goal.returns-in-Phich
returns-in-Phich c =
    unit-written c.args.sums.now c.args.bits.now c.requires.0 c.in-Phich.is c.wide-from.ensures c.requires.2 c.map-in-Phich.ensures

pub returns-in_default : goal.returns-in_default
returns-in_default c =
    other-written c.args.sums.now c.args.bits.now c.requires.0 c.in_default.in_default-own.keys4 c.started.ensures c.map-in_default.ensures
