-- Operations of the code on small signed numbers: that each fits, and what it gives. Assumes nothing.
use Rattle.std.proofs.Common.{◌≡◌, ◌+◌, ◌^◌, ◌<◌, ◌≤◌, ℤ, pos, ◌+ℤ◌, ◌-ℤ◌, neg_ℤ, nat_abs, arith, to_z-of_z, w8, w16, SFits, to_z, of_z}
use mir.Syntax.{Width}
use mir.Val.{hbits}
use Rattle.base.proofs.Fits.{abs-add, abs-minus, fits-abs, bounded, sub-zero, add-fits, add_back, sub-fits, sub_back, wide8, wide-neg8}

-- ---- sums and differences at any width
module _ (w : Width) (a b : ℤ) (h : nat_abs a + nat_abs b < 2 ^ hbits w) where
  pub sum_fits : SFits w (to_z w (of_z w a) +ℤ to_z w (of_z w b))
  sum_fits = add-fits w a b (fits-abs w a (omega arith)) (fits-abs w b (omega arith)) (fits-abs w (a +ℤ b) (omega (arith, abs-add a b)))

  pub sum_is : to_z w (of_z w (to_z w (of_z w a) +ℤ to_z w (of_z w b))) ≡ a +ℤ b
  sum_is = add_back w a b (fits-abs w a (omega arith)) (fits-abs w b (omega arith)) (fits-abs w (a +ℤ b) (omega (arith, abs-add a b)))

  pub difference-fits : SFits w (to_z w (of_z w a) -ℤ to_z w (of_z w b))
  difference-fits = sub-fits w a b (fits-abs w a (omega arith)) (fits-abs w b (omega arith)) (fits-abs w (a -ℤ b) (omega (arith, abs-minus a b)))

  pub difference-is : to_z w (of_z w (to_z w (of_z w a) -ℤ to_z w (of_z w b))) ≡ a -ℤ b
  difference-is = sub_back w a b (fits-abs w a (omega arith)) (fits-abs w b (omega arith)) (fits-abs w (a -ℤ b) (omega (arith, abs-minus a b)))

-- a product as an i16
pub product-held : (z : ℤ) → nat_abs z ≤ 256 → (to_z w16 (of_z w16 z) ≡ z) × (nat_abs (to_z w16 (of_z w16 z)) ≤ 256)
product-held z k = bounded 256 (to_z-of_z (fits-abs w16 z (omega arith))) k

-- ---- an i8 as an i16, and its negation there
module _ (z : ℤ) (f : SFits w8 z) where
  pub widened-fits : SFits w16 (to_z w8 (of_z w8 z))
  widened-fits = rw (to_z-of_z f) (wide8 z f)

  pub widened_is : to_z w16 (of_z w16 (to_z w8 (of_z w8 z))) ≡ z
  widened_is = simp (to_z-of_z f, to_z-of_z (wide8 z f))

  pub negated_fits : SFits w16 (pos 0 -ℤ to_z w16 (of_z w16 (to_z w8 (of_z w8 z))))
  negated_fits = simp (to_z-of_z f, to_z-of_z (wide8 z f), sub-zero) (wide-neg8 z f)

  pub negated-is : to_z w16 (of_z w16 (pos 0 -ℤ to_z w16 (of_z w16 (to_z w8 (of_z w8 z))))) ≡ neg_ℤ z
  negated-is = simp (to_z-of_z f, to_z-of_z (wide8 z f), sub-zero, to_z-of_z (wide-neg8 z f))
