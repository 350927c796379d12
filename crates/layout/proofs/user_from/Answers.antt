-- The users not yet looked at give what all of them give.
use Prim.Native.Nat.{◌+◌, ◌-◌}
use mathlib.Core.Path.{◌≡◌, refl, ◌∙◌}
use native.Mathlib.Omega.{arith}
use Rattle.layout.proofs.Ways.{user-found, user-passed, user-end}
use Rattle.layout.proofs.user_from.Goals as goal

pub loop-i-init : goal.loop-i-init
loop-i-init c n = let e : c.args.count - 0 ≡ c.args.count = omega arith in rw e refl

pub returns-then-blocks_have : goal.returns-then-blocks_have
returns-then-blocks_have c n =
    user-found c.args.plan.now c.loop-i.at c.args.k c.loop-i.i _ c.user_at.ensures _
    c.blocks_have.ensures (c.args.count - c.loop-i.i) (omega arith) c.if-blocks_have.true n ∙ c.loop-i.invariant n

pub loop-i-preserved : goal.loop-i-preserved
loop-i-preserved c n =
    user-passed c.args.plan.now c.loop-i.at c.args.k c.loop-i.i _ c.user_at.ensures _
    c.blocks_have.ensures (c.args.count - c.loop-i.i) (c.args.count - (c.loop-i.i + 1)) (omega arith) c.if-blocks_have.false _ c.next_at-at.ensures (c.loop-i.i + 1)
    (omega arith) n ∙ c.loop-i.invariant n

pub returns : goal.returns
returns c n =
    user-end c.args.plan.now c.loop-i.at c.args.k c.loop-i.i (c.args.count - c.loop-i.i) (omega arith) n ∙ c.loop-i.invariant n
