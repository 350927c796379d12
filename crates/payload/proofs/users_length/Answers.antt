-- `payload::users_length` meets its contract. The loop: the bytes so far and those of the users left are the whole. Assumes nothing.
use native.Mathlib.Omega.{arith}
use Prim.Native.Nat.{◌+◌, ◌-◌}
use mathlib.Core.Path.{◌≡◌, ap, ◌∙◌}
use Rattle.counts.proofs.Shapes.{shape-in}
use Rattle.payload.specs.Sections.{section_bytes}
use Rattle.payload.proofs.Lengths.{users-fit, bits_are, going-room, going_next, going_end}
use Rattle.payload.proofs.users_length.Goals as goal

pub sections-init : goal.sections-init
sections-init c = let a = c.args in
    let e : a.p.users.count - 0 ≡ a.p.users.count = omega arith in
    rw e (record { so_far = omega arith; most = users-fit a.plan.now a.p c.requires })

pub user_bits-requires : goal.user_bits-requires
user_bits-requires c = let a = c.args in
    let x = c.shape_of-shape in
    shape-in a.p.cell a.p.frame _ x.ensures

pub overflow_add-bytes : goal.overflow_add-bytes
overflow_add-bytes c = let a = c.args in
    let x = c.shape_of-shape in
    let l = c.sections in
    let u = c.user_at in
    let n = c.user_bits in
    let s = c.section_bytes-bytes in
    let e = s.ensures ∙ ap section_bytes (bits_are a.p.cell a.p.frame u.result _ _ x.ensures n.ensures) in
    omega (arith, going-room l.invariant (omega arith) u.result u.ensures s.result e)

pub sections-preserved : goal.sections-preserved
sections-preserved c = let a = c.args in
    let x = c.shape_of-shape in
    let l = c.sections in
    let u = c.user_at in
    let n = c.user_bits in
    let s = c.section_bytes-bytes in
    let to = c.next_at-at in
    let e = s.ensures ∙ ap section_bytes (bits_are a.p.cell a.p.frame u.result _ _ x.ensures n.ensures) in
    let left : a.p.users.count - (l.counter + 1) ≡ a.p.users.count - l.counter - 1 = omega arith in
    rw left (going_next l.invariant (omega arith) _ u.ensures _ e _ to.ensures)

pub returns : goal.returns
returns c = going_end c.sections.invariant (omega arith)
