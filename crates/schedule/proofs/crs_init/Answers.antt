-- `schedule::crs_init` meets its contract: a symbol of the first slot, and one of the second. Assumes nothing.
use Rattle.schedule.proofs.Starts.{early, late}
use native.Mathlib.Omega.{arith}
use mathlib.Core.Path.{refl, ap, ◌∙◌}
use Prim.Native.Nat.{ℕ, ◌+◌, ◌-◌, ◌*◌}
use Rattle.crs.specs.Crs.{crs_init}
use Rattle.layout.proofs.Pilot.{slot-length}
use Rattle.schedule.proofs.crs_init.Goals as goal

pub overflow_cast-slot : goal.overflow_cast-slot
overflow_cast-slot c = let e = c.slot_length-slot.ensures in omega (arith, e, slot-length c.args.cell)

pub c_init-requires : goal.c_init-requires
c_init-requires c = let a = c.args in
    let h = c.requires in
    (h.0.identity, omega (arith, h.1.subframe), omega (arith, c.if-s-slot.true, c.slot_length-slot.ensures, slot-length a.cell))

pub returns-then-s-slot : goal.returns-then-s-slot
returns-then-s-slot c = let a = c.args in
    let e = c.slot_length-slot.ensures in
    c.c_init.ensures ∙ early a.cell (2 * a.frame.subframe) a.frame.subframe a.s refl (omega (arith, c.if-s-slot.true, e))

pub c_init-requires-2 : goal.c_init-requires-2
c_init-requires-2 c = let a = c.args in
    let h = c.requires in
    (h.0.identity, omega (arith, h.1.subframe), omega (arith, h.2, c.slot_length-slot.ensures, slot-length a.cell))

pub returns : goal.returns
returns c = let a = c.args in
    let e = c.slot_length-slot.ensures in
    c.c_init-2.ensures ∙ ap (λ (x : ℕ). crs_init a.cell.prefix a.cell.identity (2 * a.frame.subframe + 1) (a.s - x)) e
    ∙ late a.cell (2 * a.frame.subframe) a.frame.subframe a.s refl (omega (arith, c.if-s-slot.false, e))
