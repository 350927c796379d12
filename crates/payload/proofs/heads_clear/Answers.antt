-- `payload::heads_clear` meets its contract. Assumes nothing.
use Rattle.payload.proofs.Spare.{first-room, second-room, first-set, second-clear}
use Rattle.payload.proofs.heads_clear.Goals as goal

pub section_clear-requires : goal.section_clear-requires
section_clear-requires c = let a = c.args in
    first-room a.p a.payload.now c.requires _ c.pbch_bits-pbch.ensures

pub section_clear-requires-then-section_clear : goal.section_clear-requires-then-section_clear
section_clear-requires-then-section_clear c = let a = c.args in
    second-room a.p a.payload.now c.requires _ c.pbch_bits-pbch.ensures _ c.section_bytes.ensures

pub returns-then-section_clear : goal.returns-then-section_clear
returns-then-section_clear c = let a = c.args in
    second-clear a.p a.payload.now c.requires _ c.pbch_bits-pbch.ensures _
    c.section_clear.ensures c.if-section_clear.true _ c.section_bytes.ensures _ c.section_clear-then-section_clear.ensures

pub returns-else-section_clear : goal.returns-else-section_clear
returns-else-section_clear c = let a = c.args in
    first-set a.p a.payload.now c.requires _ c.pbch_bits-pbch.ensures _ c.section_clear.ensures c.if-section_clear.false
