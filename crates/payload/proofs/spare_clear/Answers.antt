-- `payload::spare_clear` meets its contract. Assumes nothing.
use Rattle.payload.proofs.Spare.{heads-room, users-room, heads-set, users-rest}
use Rattle.payload.proofs.spare_clear.Goals as goal

pub heads_clear-requires : goal.heads_clear-requires
heads_clear-requires c = let a = c.args in
    let pre = c.requires in
    heads-room a.plan.now a.p pre.0 a.payload.now pre.1

pub users_clear-requires : goal.users_clear-requires
users_clear-requires c = let a = c.args in
    let pre = c.requires in
    users-room a.plan.now a.p pre.0 a.payload.now pre.1 _ c.users_start.ensures

pub returns-then-heads_clear : goal.returns-then-heads_clear
returns-then-heads_clear c = let a = c.args in
    let pre = c.requires in
    users-rest a.plan.now a.p pre.0 a.payload.now pre.1 _ c.heads_clear.ensures c.if-heads_clear.true _
    c.users_start.ensures _ c.users_clear.ensures

pub returns-else-heads_clear : goal.returns-else-heads_clear
returns-else-heads_clear c = let a = c.args in
    let pre = c.requires in
    heads-set a.plan.now a.p pre.0 a.payload.now pre.1 _ c.heads_clear.ensures c.if-heads_clear.false
