-- `control_write::fill_pcfich` meets its contract: after n pairs of places those of the indices below 2n are written. Assumes nothing.
use Rattle.grid.proofs.Writing.{room-kept}
use Rattle.grid.proofs.Accumulating.{writing}
use Rattle.control.proofs.PairByPair.{pcfich-start, pcfich-next, pcfich-finish}
use Rattle.control_write.proofs.fill_pcfich.Goals as goal

pub loop-n-init : goal.loop-n-init
loop-n-init c = pcfich-start (writing c.args.grid.now) c.requires.cell c.args.cfi c.args.r

pub put_pair-requires : goal.put_pair-requires
put_pair-requires c =
    (c.pcfich_pair.ensures.1, room-kept c.requires.room c.loop-n.invariant.done)

pub loop-n-preserved : goal.loop-n-preserved
loop-n-preserved c =
    pcfich-next (writing c.args.grid.now) c.requires.cell c.args.cfi c.args.r c.loop-n.invariant c.loop-n-test.true
    c.pcfich_pair.ensures c.put_pair.ensures c.advance-s.ensures

pub returns : goal.returns
returns c =
    pcfich-finish (writing c.args.grid.now) c.requires.cell c.args.cfi c.args.r c.loop-n.invariant c.loop-n-test.false
