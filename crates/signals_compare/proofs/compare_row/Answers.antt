-- `signals_compare::compare_row` meets its contract. The loop: the first i elements are compared, with any values that they can have. Assumes
-- nothing.
use Prim.Native.Nat.{◌+◌}
use mathlib.Core.Path.{◌≡◌, refl, ap, ◌∙◌}
use native.Mathlib.Omega.{arith}
use Rattle.std.specs.Prelude.{None}
use borrow.Author.Tests.{eqb-true}
use Rattle.signals.proofs.Stretches.{row_in}
use Rattle.compare.proofs.Comparing.{seen-three, looked, part-differs}
use Rattle.compare.proofs.Accumulating.{also, comparing}
use Rattle.signals.proofs.ValueByValue.{row_first, row_step, row_last}
use Rattle.signals_compare.proofs.compare_row.Goals as goal

pub loop-i-init : goal.loop-i-init
loop-i-init g c = (omega arith, λ W p. row_first (comparing c.args.grid.now) W c.args.first)

pub overflow_add-weight : goal.overflow_add-weight
overflow_add-weight g c = omega (arith, seen-three _ _ c.in_ok-weight.ensures)

pub loop-i-preserved : goal.loop-i-preserved
loop-i-preserved g c = (
  omega (arith, seen-three _ _ c.in_ok-weight.ensures),
  λ W p.
      row_step (comparing c.args.grid.now) (c.loop-i.invariant.1 W p) c.loop-i-test.true (p c.loop-i.i c.element.result c.loop-i-test.true c.element.ensures)
      (also (looked c.args.grid.now (c.args.first + c.loop-i.i) c.element.result (omega arith) c.in_ok-weight.ensures) refl),
)

pub returns-in_err-weight : goal.returns-in_err-weight
returns-in_err-weight g c = λ W p.
    let at = c.args.first + c.loop-i.i in
    let el : c.element.result ≡ W at = p c.loop-i.i c.element.result c.loop-i-test.true c.element.ensures in
    rw c.from_residual.ensures (part-differs
    (λ e t. row_in c.args.first 62 c.loop-i.i e c.loop-i-test.true t)
    (λ e t. el ∙ ap W (eqb-true at e t))
    (looked c.args.grid.now at c.element.result {seen = None} (omega arith) c.in_err-weight.ensures))

pub returns : goal.returns
returns g c = λ W p. row_last (comparing c.args.grid.now) (c.loop-i.invariant.1 W p) (omega arith)
