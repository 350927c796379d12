-- `payload::users_clear` meets its contract. The loop: the answer for the users left is the answer for all. Assumes nothing.
use Rattle.counts.proofs.Shapes.{shape-in}
use native.Mathlib.Omega.{arith}
use borrow.Author.Tests.{not-true, not-false}
use Prim.Native.Nat.{◌+◌, ◌-◌}
use mathlib.Core.Path.{◌≡◌, refl}
use Rattle.payload.proofs.Lengths.{bits_are}
use Rattle.payload.proofs.Spare.{clearing-room, clearing-set, clearing-next, clearing-end}
use Rattle.payload.proofs.users_clear.Goals as goal

pub loop-init : goal.loop-init
loop-init c = let e : c.args.p.users.count - 0 ≡ c.args.p.users.count = omega arith in rw e (record { room = c.requires; same = refl })

pub user_bits-bits-requires : goal.user_bits-bits-requires
user_bits-bits-requires c = let a = c.args in
    let x = c.shape_of-shape in
    shape-in a.p.cell a.p.frame _ x.ensures

pub section_clear-requires : goal.section_clear-requires
section_clear-requires c = let a = c.args in
    let x = c.shape_of-shape in
    let l = c.loop in
    let u = c.user_at in
    let n = c.user_bits-bits in
    let e = bits_are a.p.cell a.p.frame u.result _ _ x.ensures n.ensures in
    clearing-room l.invariant (omega arith) _ u.ensures _ e

pub returns-then-not-section_clear : goal.returns-then-not-section_clear
returns-then-not-section_clear c = let a = c.args in
    let x = c.shape_of-shape in
    let l = c.loop in
    let u = c.user_at in
    let n = c.user_bits-bits in
    let t = c.section_clear in
    let i = c.if-not-section_clear in
    let e = bits_are a.p.cell a.p.frame u.result _ _ x.ensures n.ensures in
    clearing-set l.invariant (omega arith) _ u.ensures _ e _ t.ensures i.true

pub overflow_add-byte : goal.overflow_add-byte
overflow_add-byte c =
    let l = c.loop in
    let u = c.user_at in
    let x = c.shape_of-shape.ensures in
    let e = bits_are c.args.p.cell c.args.p.frame u.result _ _ x c.user_bits-bits.ensures in
    omega (arith, clearing-room l.invariant (omega arith) _ u.ensures _ e, c.section_bytes-byte.ensures, c.well_formed)

pub loop-preserved : goal.loop-preserved
loop-preserved c = let a = c.args in
    let x = c.shape_of-shape in
    let l = c.loop in
    let u = c.user_at in
    let n = c.user_bits-bits in
    let t = c.section_clear in
    let i = c.if-not-section_clear in
    let s = c.section_bytes-byte in
    let to = c.next_at-at in
    let e = bits_are a.p.cell a.p.frame u.result _ _ x.ensures n.ensures in
    let left : a.p.users.count - (l.counter + 1) ≡ a.p.users.count - l.counter - 1 = omega arith in
    rw left (clearing-next l.invariant (omega arith) _ u.ensures _ e _ t.ensures i.false _ s.ensures _ to.ensures)

pub returns : goal.returns
returns c = clearing-end c.loop.invariant (omega arith)
