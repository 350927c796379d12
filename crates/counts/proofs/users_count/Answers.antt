-- All users' count. The loop's invariant: n and the counts of the users left are the count of all. The measure is how many are left. Assumes nothing.
use native.Mathlib.Omega.{arith}
use Prim.Native.Nat.{◌+◌, ◌-◌}
use mathlib.Core.Path.{◌≡◌, refl, sym, ◌∙◌}
use Rattle.counts.specs.Users.{users_elements}
use Rattle.counts.proofs.UserSizes.{users-few}
use Rattle.counts.proofs.AllUsers.{users-kind, user-step, user-within, no-user-left, all-users}
use Rattle.counts.proofs.Shapes.{count-is, shape-in}
use Rattle.counts.proofs.users_count.Goals as goal

pub loop-init : goal.loop-init
loop-init c = let e : c.args.p.users.count - 0 ≡ c.args.p.users.count = omega arith in rw e (all-users c.args.plan.now c.args.p)

pub user_count-n-requires : goal.user_count-n-requires
user_count-n-requires c = let a = c.args in
    let x = c.shape_of-shape in
    shape-in a.p.cell a.p.frame _ x.ensures

pub overflow_add-n : goal.overflow_add-n
overflow_add-n c = let a = c.args in
    let given = c.requires in
    let x = c.shape_of-shape in
    let l = c.loop in
    let u = c.user_at in
    let n = c.user_count-n in
    let total = users_elements a.plan.now a.p in
    let e = n.ensures ∙ count-is a.p.cell a.p.frame u.result _ x.ensures in
    let within = user-within a.p.cell a.p.frame a.plan.now l.at total l.n (a.p.users.count - l.counter) _ _ u.result (omega arith) u.ensures e refl l.invariant in
    omega (arith, users-few a.plan.now a.p given)

pub loop-preserved : goal.loop-preserved
loop-preserved c = let a = c.args in
    let x = c.shape_of-shape in
    let l = c.loop in
    let u = c.user_at in
    let n = c.user_count-n in
    let to = c.next_at-at in
    let total = users_elements a.plan.now a.p in
    let e = n.ensures ∙ count-is a.p.cell a.p.frame u.result _ x.ensures in
    let left : a.p.users.count - (l.counter + 1) ≡ a.p.users.count - l.counter - 1 = omega arith in
    rw left (user-step a.p.cell a.p.frame a.plan.now l.at total l.n (a.p.users.count - l.counter) _ _ u.result (omega arith) u.ensures e to.ensures l.invariant)

pub returns : goal.returns
returns c = let a = c.args in
    let given = c.requires in
    let l = c.loop in
    let total = users_elements a.plan.now a.p in
    no-user-left a.p.cell a.p.frame a.plan.now l.at total l.n (a.p.users.count - l.counter) (omega arith) l.invariant
    ∙ sym (users-kind a.plan.now a.p given)
