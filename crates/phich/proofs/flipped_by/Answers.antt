-- `phich::flipped_by` meets its contract: a product is small, so that its negation fits. Assumes nothing.
use Rattle.std.proofs.Common.{ℕ, neg_ℤ, sym, ap, ◌∙◌, arith, to_z-of_z, w16}
use Rattle.base.specs.Signs.{flip}
use Rattle.base.proofs.Signs.{flip_one}
use Rattle.base.proofs.Fits.{abs_neg, flip-abs, fits-abs, neg-fits, neg-back, bounded}
use Rattle.phich.proofs.flipped_by.Goals as goal

pub overflow_sub-result : goal.overflow_sub-result
overflow_sub-result c = let z = c.args.z in neg-fits w16 z c.ranges.z (fits-abs w16 (neg_ℤ z) (omega (arith, abs_neg z, c.requires)))

pub returns-then-b-eq0 : goal.returns-then-b-eq0
returns-then-b-eq0 c = let z = c.args.z in let b = c.args.b in bounded 256 {x = flip b z} (to_z-of_z c.ranges.z ∙ ap (λ (x : ℕ). flip x z) (sym c.if-b-eq0.true))
    (omega (arith, flip-abs b z, c.requires))

pub returns-else-b-eq0 : goal.returns-else-b-eq0
returns-else-b-eq0 c = let z = c.args.z in let b = c.args.b in bounded 256 {x = flip b z}
    (neg-back w16 z c.ranges.z (fits-abs w16 (neg_ℤ z) (omega (arith, abs_neg z, c.requires))) ∙ sym (flip_one b z c.if-b-eq0.false))
    (omega (arith, flip-abs b z, c.requires))
