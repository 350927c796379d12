-- Numbers modulo 256: sums go over to bytes, and a small number comes back from its byte. Assumes nothing.
use Rattle.std.proofs.Common.{◌≡◌, ℕ, suc, ◌+◌, ◌-◌, ◌%◌, ◌≤◌, Bool, true, false, cond, ltb, ℤ, pos, negsuc, ◌+ℤ◌, nat_abs, sym, refl, ap, ◌∙◌, arith, w8, ltb-false, ltb-true}
use lib.IntN.{sub_ℕ}
use Rattle.base.specs.Bytes.{byte_of, signed_of}
use Rattle.base.proofs.Bytes.{byte-back}
use Rattle.base.proofs.Fits.{fits-abs}
use Rattle.phich.specs.Loops.{residue}

mixed : (a b : ℕ) → residue (sub_ℕ a (suc b)) ≡ (a % 256 + (255 - b % 256)) % 256
unfolding residue
mixed a b = pick (ltb a (suc b)) refl
  where
    pick : (t : Bool) → ltb a (suc b) ≡ t → residue (cond t (negsuc (suc b - suc a)) (pos (a - suc b))) ≡ (a % 256 + (255 - b % 256)) % 256
    pick true e = omega (arith, ltb-true a (suc b) e)
    pick false e = omega (arith, ltb-false a (suc b) e)

pub residue-add : (x y : ℤ) → residue (x +ℤ y) ≡ (residue x + residue y) % 256
unfolding residue
residue-add (pos a) (pos b) = omega arith
residue-add (pos a) (negsuc b) = mixed a b
residue-add (negsuc a) (pos b) = omega (arith, mixed b a)
residue-add (negsuc a) (negsuc b) = omega arith

pub byte-residue : (z : ℤ) → nat_abs z ≤ 127 → byte_of z ≡ residue z
unfolding residue
byte-residue (pos n) h = omega arith
byte-residue (negsuc n) h = omega arith

pub residue-back : (z : ℤ) → nat_abs z ≤ 127 → signed_of (residue z) ≡ z
residue-back z h = ap signed_of (sym (byte-residue z h)) ∙ byte-back z (fits-abs w8 z (omega arith)).sfits
