-- The quads not yet looked at name the unit that all of them name.
use Prim.Native.Nat.{◌-◌}
use native.Mathlib.Omega.{arith}
use mathlib.Core.Path.{refl, ◌∙◌, sym}
use Rattle.layout.proofs.GroupShape.{quad-product}
use Rattle.layout.proofs.Ways.{unit-none, unit-found, unit-byte, unit-passed}
use Rattle.layout.proofs.unit_in.Goals as goal

pub groups_left-h-requires : goal.groups_left-h-requires
groups_left-h-requires c = (c.requires.0, c.requires.2)

pub loop-i-init : goal.loop-i-init
loop-i-init c = (omega arith, refl)

pub quad_in-requires : goal.quad_in-requires
quad_in-requires c = (c.requires.0, c.requires.2, omega (arith, c.loop-i.invariant.0))

pub overflow_mul-result : goal.overflow_mul-result
overflow_mul-result c =
    omega
    (arith, quad-product (c.loop-i.i - 1) c.groups_left-h.result (omega (arith, c.loop-i.invariant.0)) c.groups_left-h.ensures.2)

pub overflow_sub-result : goal.overflow_sub-result
overflow_sub-result c =
    (unit-byte c.args.cell c.args.s c.args.d c.groups_left-h.ensures.0 (c.loop-i.i - 1) c.quad_in.ensures
    c.if-quad_in.true c.requires.1 (omega arith)).0

pub overflow_cast-result : goal.overflow_cast-result
overflow_cast-result c =
    omega (
      arith,
      unit-byte c.args.cell c.args.s c.args.d c.groups_left-h.ensures.0 (c.loop-i.i - 1)
          c.quad_in.ensures c.if-quad_in.true c.requires.1 (omega arith),
    )

pub returns-then-quad_in : goal.returns-then-quad_in
returns-then-quad_in c =
    unit-found c.args.cell c.args.s c.args.d c.groups_left-h.ensures.0 c.loop-i.i c.loop-i-test.true
    c.quad_in.ensures c.if-quad_in.true ∙ c.loop-i.invariant.1

pub loop-i-preserved : goal.loop-i-preserved
loop-i-preserved c = (
  omega (arith, c.loop-i.invariant.0),
  sym
      (unit-passed c.args.cell c.args.s c.args.d c.loop-i.i c.loop-i-test.true c.quad_in.ensures c.if-quad_in.false) ∙ c.loop-i.invariant.1,
)

pub returns : goal.returns
returns c = unit-none c.args.cell c.args.s c.args.d (omega arith) ∙ c.loop-i.invariant.1
