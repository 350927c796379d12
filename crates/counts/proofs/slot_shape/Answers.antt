-- A slot's two sums. The loop's invariant: they are the sums over the slot's first l symbols. The measure is what is left of the symbols. Assumes nothing.
use native.Mathlib.Omega.{arith}
use Rattle.layout.proofs.Pilot.{slot-length}
use Rattle.counts.proofs.Shapes.{summed-first, whole_room, centre-room, summed-next, summed-end}
use Rattle.counts.proofs.slot_shape.Goals as goal

pub loop-l-init : goal.loop-l-init
loop-l-init c = summed-first c.args.cell c.args.frame c.args.start

pub overflow_add-start : goal.overflow_add-start
overflow_add-start c = let a = c.args in
    let z = slot-length a.cell in omega (arith, c.slot_length-symbols.ensures, c.loop-l.invariant.inside)

pub overflow_add-whole : goal.overflow_add-whole
overflow_add-whole c = let a = c.args in
    let l = c.loop-l in
    let v = c.row_places-whole in
    omega (arith, whole_room a.cell a.frame a.start l.invariant v.result v.ensures)

pub overflow_add-start-in-loop-l : goal.overflow_add-start-in-loop-l
overflow_add-start-in-loop-l c = let a = c.args in
    let L = c.slot_length-symbols in
    let z = slot-length a.cell in omega (arith, L.ensures, c.loop-l.invariant.inside)

pub centre_places-centre-requires : goal.centre_places-centre-requires
centre_places-centre-requires c = let a = c.args in
    let L = c.slot_length-symbols in
    let z = slot-length a.cell in omega (arith, L.ensures, c.loop-l.invariant.inside)

pub overflow_add-centre : goal.overflow_add-centre
overflow_add-centre c = let a = c.args in
    let l = c.loop-l in
    let w = c.centre_places-centre in
    omega (arith, centre-room a.cell a.frame a.start l.invariant w.result w.ensures)

pub loop-l-preserved : goal.loop-l-preserved
loop-l-preserved c = let a = c.args in
    let L = c.slot_length-symbols in
    let l = c.loop-l in
    let v = c.row_places-whole in
    summed-next a.cell a.frame a.start l.invariant _ _ (omega (arith, L.ensures)) v.ensures c.centre_places-centre.ensures

pub returns : goal.returns
returns c = let a = c.args in
    summed-end a.cell a.frame a.start c.loop-l.invariant (omega (arith, c.slot_length-symbols.ensures))
