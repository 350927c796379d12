-- The invariant: the position and the empty places passed are what is left and the reads passed. Assumes nothing.
use Prim.Native.Nat.{ℕ, ◌-◌, ◌*◌, ◌/◌, ◌%◌, ◌+◌, min}
use mathlib.Core.Path.{◌≡◌, refl, ap, ◌∙◌}
use mathlib.Core.Bool.{cond}
use native.Mathlib.Omega.{arith}
use Rattle.interleaver.specs.Matrix.{rows_of, empty_of}
use Rattle.interleaver.specs.Cursor.{empty_in}
use Rattle.interleaver.proofs.Ways.{none_passed, column-passed, none_left, column-found}
use Rattle.interleaver.proofs.start.Goals as goal

rows-are : (R r : ℕ) → r ≡ R / 32 + min 1 (R % 32) → r ≡ rows_of R
rows-are R r e = omega arith

-- whether a column has an empty place, by the rows that the code counts
by_rows : (R r j g : ℕ) → r ≡ rows_of R → g ≡ cond (empty_in (32 * r - R) j) 1 0 → g ≡ cond (empty_in (empty_of R) j) 1 0
by_rows R r j g e h = h ∙ ap (λ (x : ℕ). cond {A = ℕ} (empty_in (32 * x - R) j) 1 0) e

pub loop-order-init : goal.loop-order-init
loop-order-init c = (omega arith, none_passed (empty_of c.args.quads) (rows_of c.args.quads) c.args.at)

pub returns-then-row-rows : goal.returns-then-row-rows
returns-then-row-rows c =
    let e = rows-are c.args.quads _ c.div_ceil-rows.ensures in
    column-found c.args.quads c.args.at c.requires.0 c.loop-order.left c.loop-order.order c.empty_in.result c.loop-order.invariant.1
    (by_rows c.args.quads _ c.loop-order.order _ e c.empty_in.ensures.0) c.requires.1 c.loop-order-test.true (omega (arith, e))
    c.column_at.result c.column_at.ensures.0 _ refl refl (ap (λ (x : ℕ). 32 * x - c.args.quads) e) refl refl

pub loop-order-preserved : goal.loop-order-preserved
loop-order-preserved c =
    let e = rows-are c.args.quads _ c.div_ceil-rows.ensures in (
      omega (arith, e, c.empty_in.ensures.1),
      rw e (column-passed c.args.quads c.args.at c.requires.0 c.loop-order.left c.loop-order.order c.empty_in.result c.loop-order.invariant.1
          (by_rows c.args.quads _ c.loop-order.order _ e c.empty_in.ensures.0) (omega (arith, e))),
    )

pub unreachable-requires : goal.unreachable-requires
unreachable-requires c =
    let z : c.loop-order.order ≡ 32 = omega arith in
    none_left c.args.quads c.args.at c.loop-order.left c.requires.0 (rw z at c.loop-order.invariant.1)
