-- `build::fill_turn` meets its contract: the channel is written, or nothing where the subframe does not have it. Assumes nothing.
use mathlib.Core.Path.{sym, ◌∙◌}
use Rattle.build.proofs.Turns.{turn-absent, turn-order, turn-channel, turn-without, having-made}
use Rattle.build.proofs.fill_turn.Goals as goal
use Rattle.build.proofs.fill_turn.Goals.{in-Some, in_default}

pub returns-then-not-present : goal.returns-then-not-present
returns-then-not-present c =
    (turn-absent c.requires.0 (sym c.present.ensures ∙ c.if-not-present.true), c.requires.0.having)

pub renew-requires : goal.renew-requires
renew-requires c = (c.requires.0.having, turn-order c.requires.0 c.order_of-order.ensures c.in-Some.is)

pub write-requires : goal.write-requires
write-requires c =
    let there = sym c.present.ensures ∙ c.if-not-present.false in
    elim c.match-order.branch [
      | in-Some w ↦ rw w.t-is (turn-channel c.requires.0 c.order_of-order.ensures there w.in-Some.is w.renew.ensures, c.requires.0.size, c.requires.1)
      | in_default w ↦ rw w.t-is (turn-without c.requires.0 c.order_of-order.ensures there w.in_default.is, c.requires.0.size, c.requires.1)
    ]

pub returns : goal.returns
returns c = (
  c.write.ensures,
  rw c.or.ensures
      (elim c.match-order.branch [
        | in-Some w ↦ rw (w.t-is, w.order-is) (having-made w.renew.ensures)
        | in_default w ↦ rw (w.t-is, w.order-is, w.in_default.is) c.requires.0.having
      ]),
)
