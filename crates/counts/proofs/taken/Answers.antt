-- Whether the centre of a symbol is taken. Assumes nothing.
use mathlib.Core.Path.{◌∙◌}
use native.Mathlib.Omega.{arith}
use Rattle.layout.proofs.Pilot.{slot-length}
use Rattle.counts.proofs.Ways.{before-marks, in-centre, after_first, after-other}
use Rattle.counts.proofs.taken.Goals as goal

pub returns-then-s-length-2 : goal.returns-then-s-length-2
returns-then-s-length-2 c = let a = c.args in before-marks a.cell a.frame a.s _ c.slot_length-length.ensures (omega arith)

pub returns-then-s-length : goal.returns-then-s-length
returns-then-s-length c = let a = c.args in
    c.is_marked.ensures ∙ in-centre a.cell a.frame a.s _ c.slot_length-length.ensures (omega arith) (omega arith)

pub overflow_add-result : goal.overflow_add-result
overflow_add-result c = omega (arith, slot-length c.args.cell, c.slot_length-length.ensures)

pub returns-then-frame-eq0 : goal.returns-then-frame-eq0
returns-then-frame-eq0 c = let a = c.args in
    after_first a.cell a.frame a.s _ c.slot_length-length.ensures (omega arith) c.if-frame-eq0.true

pub returns : goal.returns
returns c = let a = c.args in
    after-other a.cell a.frame a.s _ c.slot_length-length.ensures (omega arith) c.if-frame-eq0.false
