-- Sizes of n(n+1)/2, and what is made of it. Assumes nothing.
use Prim.Native.Nat.{ℕ, ◌+◌, ◌*◌, ◌/◌, ◌%◌, ◌≤◌, ◌<◌}
use mathlib.Core.Path.{◌≡◌, refl, ap, ◌∙◌}
use mathlib.Core.Bool.{Bool, true, false, cond}
use mathlib.Core.List.{[], ◌∷◌}
use native.Mathlib.Nat.{mul-le-mul}
use native.Mathlib.Omega.{arith}
use borrow.Author.Tests.{le-leb, lt-leb}
use lib.Dec.{leb, leb→le}
use Rattle.base.proofs.Computed.{every-at}
use Rattle.sync.specs.Pss.{pss_root, pss_t, pss_phase}
use Rattle.sync.specs.Sss.{q_prime, q_of, e_of, m0_of, m1_of}
use Rattle.sync.specs.Inner.{indices_of}
use Rattle.sync.specs.declared.Indices.{Indices}

pub product_le : (n k : ℕ) → n ≤ k → n * (n + 1) ≤ k * (k + 1)
product_le n k h = mul-le-mul h (omega arith)

triangle-le : (n k : ℕ) → n ≤ k → n * (n + 1) / 2 ≤ k * (k + 1) / 2
triangle-le n k h = omega (arith, product_le n k h)

-- ---- the primary signal
pub t-first : (i t : ℕ) → i ≤ 30 → t ≡ i * (i + 1) / 2 → t ≡ pss_t i
unfolding pss_t
t-first i t h e = rw (le-leb i 30 h) e

pub t-second : (i t : ℕ) → 30 < i → t ≡ (i + 1) * (i + 1 + 1) / 2 → t ≡ pss_t i
unfolding pss_t
t-second i t h e =
    let two : i + 1 + 1 ≡ i + 2 = omega arith in
    rw (lt-leb i 30 h) (e ∙ ap (λ (k : ℕ). (i + 1) * k / 2) two)

t-small : (i : ℕ) → i < 62 → pss_t i ≤ 1953
unfolding pss_t
t-small i h = pick (leb i 30)
  where
    pick : (b : Bool) → cond b (i * (i + 1) / 2) ((i + 1) * (i + 2) / 2) ≤ 1953
    pick true = omega (arith, triangle-le i 62 (omega arith))
    pick false = omega (arith, triangle-le (i + 1) 62 (omega arith))

root-small : (r : ℕ) → pss_root r ≤ 34
unfolding pss_root
root-small r = leb→le _ _ (every-at (λ (u : ℕ). leb u 34) 0 tt (25 ∷ 29 ∷ 34 ∷ []) tt r)

pub phase-fits : (C i u t : ℕ) → i < 62 → u ≡ pss_root (C % 3) → t ≡ pss_t i → u * t ≤ 66402
phase-fits C i u t h e f = rw (e, f) (mul-le-mul (root-small (C % 3)) (t-small i h))

pub phase-is : (C i u t : ℕ) → u ≡ pss_root (C % 3) → t ≡ pss_t i → u * t % 63 ≡ pss_phase C i
unfolding pss_phase
phase-is C i u t e f = rw (e, f) refl

-- ---- the indices of a group
pub indices-are : (d t u : ℕ) → t ≡ d / 30 * (d / 30 + 1) / 2 → u ≡ (d + t) / 30 * ((d + t) / 30 + 1) / 2
    → ◌≡◌ {A = Indices} (record { m0 = (d + u) % 31; m1 = ((d + u) % 31 + (d + u) / 31 + 1) % 31 }) (indices_of d)
unfolding indices_of m0_of m1_of e_of q_of q_prime
indices-are d t u e f =
    ap (λ (x : ℕ). record { m0 = (d + x) % 31; m1 = ((d + x) % 31 + (d + x) / 31 + 1) % 31 })
    (f ∙ ap (λ (x : ℕ). (d + x) / 30 * ((d + x) / 30 + 1) / 2) e)

pub indices-lt : (p : Indices) (d : ℕ) → p ≡ indices_of d → (p.m0 < 31) × (p.m1 < 31)
unfolding indices_of m0_of m1_of
indices-lt p d e =
    let h : p.m0 ≡ e_of d % 31 = ap (λ (q : Indices). q.m0) e in
    let k : p.m1 ≡ (e_of d % 31 + e_of d / 31 + 1) % 31 = ap (λ (q : Indices). q.m1) e in
    (omega arith, omega arith)
