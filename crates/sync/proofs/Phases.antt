-- The phase number is the phase of TS 36.211's formula, whole turns apart. Assumes nothing.
use Prim.Native.Nat.{ℕ, zero, suc, ◌+◌, ◌*◌, ◌/◌, ◌%◌}
use mathlib.Core.Path.{◌≡◌, refl}
use mathlib.Core.Bool.{Bool, true, false, cond}
use native.Mathlib.Omega.{arith}
use lib.Dec.{leb}
use Rattle.sync.specs.Pss.{pss_root, pss_t, pss_phase}

-- TS 36.211 6.11.1.1: d_u(n) = exp(−jπ u E/63), E = n(n+1) for n = 0, .., 30 and (n+1)(n+2) for n = 31, .., 61
unfoldable pub zadoff_chu : ℕ → ℕ
zadoff_chu n = cond (leb n 30) (n * (n + 1)) ((n + 1) * (n + 2))

even : (n : ℕ) → n * (n + 1) % 2 ≡ 0
even zero = refl
even (suc n) =
    let h : n * (n + 1) % 2 ≡ 0 = even n in
    let e : suc n * (suc n + 1) ≡ n * (n + 1) + 2 * (n + 1) = omega arith in
    omega arith

-- E = 2t
pub exponent : (n : ℕ) → zadoff_chu n ≡ 2 * pss_t n
unfolding zadoff_chu pss_t
exponent n = pick (leb n 30)
  where
    pick : (b : Bool) → cond b (n * (n + 1)) ((n + 1) * (n + 2)) ≡ 2 * cond b (n * (n + 1) / 2) ((n + 1) * (n + 2) / 2)
    pick true = omega (arith, even n)
    pick false = omega (arith, even (n + 1))

-- THE LAW OF PHASES: u E = 2 I + 126 k with a whole k, so that −π u E/63 is −2πI/63 less k whole turns
pub phase-whole : (C n : ℕ) → pss_root (C % 3) * zadoff_chu n ≡ 2 * pss_phase C n + 126 * (pss_root (C % 3) * pss_t n / 63)
unfolding pss_phase
phase-whole C n = rw (exponent n) (whole (pss_root (C % 3)) (pss_t n))
  where
    whole : (u t : ℕ) → u * (2 * t) ≡ 2 * (u * t % 63) + 126 * (u * t / 63)
    whole u t = omega arith
