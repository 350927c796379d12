-- `legend::fill` meets its contract: place after place. Assumes nothing.
use Prim.Native.Nat.{ℕ, ◌+◌}
use mathlib.Core.Path.{◌∙◌}
use native.Mathlib.Omega.{arith}
use lib.ListN.{length, length-set}
use Rattle.base.proofs.Tables.{set_more, filled}
use Rattle.legend.specs.Shown.{shown_at}
use Rattle.legend.proofs.fill.Goals as goal

pub loop-i-preserved : goal.loop-i-preserved
loop-i-preserved c =
    let l = c.loop-i in (
      omega (arith, l.invariant.1),
      length-set l.row l.i _ ∙ l.invariant.1,
      set_more 0
          (λ (j : ℕ). shown_at c.args.plan.now c.args.s (c.args.first + j)) l.row l.i _ (omega (arith, l.invariant.1)) c.number_at.ensures l.invariant.2,
    )

pub returns : goal.returns
returns c =
    let l = c.loop-i in filled 0 (λ (j : ℕ). shown_at c.args.plan.now c.args.s (c.args.first + j)) (length c.args.row.now) l.row
    l.invariant.1 (λ j h. l.invariant.2 j (omega (arith, l.invariant.1)))
