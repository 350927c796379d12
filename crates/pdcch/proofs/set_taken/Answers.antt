-- PCFICH's four groups, and three quads of each unit.
use Rattle.pdcch.proofs.Taken.{taken-all}
use Rattle.pdcch.proofs.set_taken.Goals as goal

pub returns : goal.returns
returns c =
    taken-all c.args.cell c.requires.0 _ _ _ _ _ _ _ _ c.requires.2 c.mark_format.ensures c.mark_format-2.ensures
    c.mark_format-3.ensures c.mark_format-4.ensures
    c.mark_quads.ensures c.mark_quads-2.ensures c.mark_quads-3.ensures
