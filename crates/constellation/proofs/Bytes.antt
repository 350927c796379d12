-- THE LAWS OF AN ELEMENT'S BYTES: each byte of its number, a level less and minus a level as bytes. Assumes nothing.
use Prim.Native.Nat.{ℕ, zero, suc, ◌+◌, ◌-◌, ◌/◌, ◌%◌, ◌≤◌, ◌<◌}
use mathlib.Core.Path.{◌≡◌, refl, ap, ◌∙◌}
use mathlib.Core.Bool.{Bool, true, false, cond}
use native.Mathlib.Omega.{arith}
use borrow.Author.Tests.{ltb-true, ltb-false}
use lib.Dec.{ltb}
use lib.IntN.{ℤ, pos, negsuc, neg_ℤ, nat_abs, ◌-ℤ◌}
use Rattle.base.specs.Bytes.{byte_of}
use Rattle.base.proofs.Fits.{sub-zero}
use Rattle.constellation.specs.Entries.{three_bytes, byte_less}

-- a level that an i8 holds has a byte
pub byte_small : (z : ℤ) → nat_abs z ≤ 127 → byte_of z < 256
byte_small (pos n) h = omega arith
byte_small (negsuc n) h = omega arith

-- h less a level
pub less-byte : (h : ℕ) (z : ℤ) → h + nat_abs z ≤ 127 → byte_less h (byte_of z) ≡ byte_of (pos h -ℤ z)
less-byte h (pos zero) l = omega arith
less-byte h (negsuc n) l = omega arith
less-byte h (pos (suc n)) l = pick (ltb h (suc n)) refl
  where
    pick : (t : Bool) → ltb h (suc n) ≡ t → byte_less h (suc n) ≡ byte_of (cond t (negsuc (suc n - suc h)) (pos (h - suc n)))
    pick true e = omega (arith, ltb-true h (suc n) e)
    pick false e = omega (arith, ltb-false h (suc n) e)

pub minus-byte : (z : ℤ) → nat_abs z ≤ 127 → byte_less 0 (byte_of z) ≡ byte_of (neg_ℤ z)
minus-byte z l = less-byte 0 z (omega arith) ∙ ap byte_of (sub-zero z)

-- ---- the bytes of three
module _ (u i j : ℕ) (lu : u < 256) (li : i < 256) (lj : j < 256) where
  pub byte-second : three_bytes u i j / 256 % 256 ≡ i
  byte-second = omega arith

  pub byte-third : three_bytes u i j / 65536 % 256 ≡ j
  byte-third = omega arith
