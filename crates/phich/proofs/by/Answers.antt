-- `phich::by` meets its contract: z widened, and its sign flipped where s is below 0. Assumes nothing.
use Rattle.std.proofs.Common.{ℤ, sym, ap, ◌∙◌, arith, to_z-of_z, w8, to_z, of_z}
use Rattle.base.specs.Signs.{by as by_sign}
use Rattle.base.proofs.Fits.{of-bits, by-below, by-above, by-abs, abs8, bounded}
use Rattle.phich.proofs.Signed.{widened-fits, widened_is, negated_fits, negated-is}
use Rattle.phich.proofs.by.Goals as goal

pub overflow_cast-x : goal.overflow_cast-x
overflow_cast-x c = widened-fits c.args.z c.ranges.z

pub returns-then-s-eq0 : goal.returns-then-s-eq0
returns-then-s-eq0 c =
    bounded 128 {x = by_sign c.args.s c.args.z}
    (ap (λ (x : ℤ). by_sign x c.args.z) (sym (of-bits c.ranges.s (ap (to_z w8) c.if-s-eq0.true))))
    (omega (arith, by-abs c.args.s c.args.z, abs8 c.args.z c.ranges.z))

pub overflow_sub-result : goal.overflow_sub-result
overflow_sub-result c = negated_fits c.args.z c.ranges.z

pub returns-then-s-lt0 : goal.returns-then-s-lt0
returns-then-s-lt0 c =
    bounded 128 {x = by_sign c.args.s c.args.z}
    (negated-is c.args.z c.ranges.z ∙ sym (by-below c.args.s c.args.z (rw (to_z-of_z c.ranges.s) at c.if-s-lt0.true)))
    (omega (arith, by-abs c.args.s c.args.z, abs8 c.args.z c.ranges.z))

pub returns-else-s-lt0 : goal.returns-else-s-lt0
returns-else-s-lt0 c =
    bounded 128 {x = by_sign c.args.s c.args.z}
    (widened_is c.args.z c.ranges.z ∙ sym (by-above c.args.s c.args.z (λ e. c.if-s-eq0.false (ap (of_z w8) e)) (rw (to_z-of_z c.ranges.s) at c.if-s-lt0.false)))
    (omega (arith, by-abs c.args.s c.args.z, abs8 c.args.z c.ranges.z))
