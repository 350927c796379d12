-- `control_compare::compare_pcfich` meets its contract: after n pairs of places those of the indices below 2n are compared. Assumes nothing.
use Rattle.compare.proofs.Comparing.{widest, both-few}
use Rattle.compare.proofs.Accumulating.{also, comparing}
use Rattle.control.proofs.PairByPair.{pcfich-start, pcfich-next, pcfich-finish}
use Rattle.control_compare.proofs.compare_pcfich.Goals as goal

pub loop-n-init : goal.loop-n-init
loop-n-init c = pcfich-start (comparing c.args.grid.now) c.requires.cell c.args.cfi c.args.r

pub together-seen-requires : goal.together-seen-requires
together-seen-requires c =
    both-few (widest c.requires.room) c.loop-n.invariant.done c.compare_pair.ensures

pub loop-n-preserved : goal.loop-n-preserved
loop-n-preserved c =
    pcfich-next (comparing c.args.grid.now) c.requires.cell c.args.cfi c.args.r c.loop-n.invariant
    c.loop-n-test.true c.pcfich_pair-x.ensures (also c.compare_pair.ensures c.together-seen.ensures)
    c.advance-s.ensures

pub returns : goal.returns
returns c =
    (pcfich-finish (comparing c.args.grid.now) c.requires.cell c.args.cfi c.args.r c.loop-n.invariant c.loop-n-test.false).0
