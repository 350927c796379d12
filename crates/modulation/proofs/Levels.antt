-- THE LAW OF LEVELS, for every number of bits by one induction: the bits come back from their level. Assumes nothing.
use Prim.Native.Nat.{ℕ, zero, suc, ◌+◌, ◌-◌, ◌*◌, ◌^◌, ◌≤◌, ◌<◌}
use mathlib.Core.Path.{◌≡◌, refl, sym, ap, ap₂, ◌∙◌}
use mathlib.Core.List.{List, [], ◌∷◌}
use native.Mathlib.Nat.{not-suc-le-zero, pow-succ'}
use native.Mathlib.Omega.{arith}
use borrow.Author.Tests.{le-ltb}
use lib.Dec.{T}
use lib.ListN.{length}
use lib.IntN.{ℤ, pos, negsuc, neg_ℤ, nat_abs, ◌+ℤ◌, ◌-ℤ◌, +ℤ_assoc, +ℤ_idl, +ℤ_invr, neg_ℤ-neg_ℤ, neg_ℤ-+ℤ}
use Rattle.base.specs.Signs.{flip, below}
use Rattle.base.proofs.Signs.{flip-back, eq_z→eq, eq_z-refl}
use Rattle.modulation.specs.Symbols.{level}
use Rattle.modulation.specs.Demapping.{level_bits, is_level}

-- each is 0 or 1
unfoldable pub Bits : List ℕ → Type 0
Bits [] = Unit {0}
Bits (b ∷ bs) = (b ≤ 1) × Bits bs

-- z is above 0 and below n
data Above (n : ℕ) : ℤ → Type 0 where
  above : {k : ℕ} → suc k < n → Above n (pos (suc k))

above_of : (k n : ℕ) → 0 < k → k < n → Above n (pos k)
above_of zero n h l = absurd (not-suc-le-zero h)
above_of (suc k) n h l = above l

-- 2 ^ n less a level of n bits is above 0, and below 2 ^ (n + 1)
room : (m : ℕ) (z : ℤ) → nat_abs z < m → Above (2 * m) (pos m -ℤ z)
room m (pos zero) h = above_of (m + 0) (2 * m) (omega arith) (omega arith)
room m (pos (suc n)) h = rw (le-ltb m (suc n) (omega arith)) (above_of (m - suc n) (2 * m) (omega arith) (omega arith))
room m (negsuc n) h = above_of (m + suc n) (2 * m) (omega arith) (omega arith)

flip-small : (b : ℕ) {n : ℕ} {z : ℤ} → Above n z → nat_abs (flip b z) < n
flip-small zero (above h) = h
flip-small (suc b) (above h) = h

pub level-small : (bs : List ℕ) → nat_abs (level bs) < 2 ^ length bs
unfolding level
level-small [] = omega arith
level-small (b ∷ bs) = rw pow-succ' (flip-small b (room (2 ^ length bs) (level bs) (level-small bs)))

below_flip : (b : ℕ) {n : ℕ} {z : ℤ} → b ≤ 1 → Above n z → below (flip b z) ≡ b
below_flip zero h (above k) = refl
below_flip (suc b) h (above k) = omega arith

sub-sub : (a x : ℤ) → a -ℤ (a -ℤ x) ≡ x
sub-sub a x =
    ap (λ (y : ℤ). a +ℤ y) (neg_ℤ-+ℤ a (neg_ℤ x) ∙ ap (λ (y : ℤ). neg_ℤ a +ℤ y) (neg_ℤ-neg_ℤ x))
    ∙ sym (+ℤ_assoc a (neg_ℤ a) x) ∙ ap (λ (y : ℤ). y +ℤ x) (+ℤ_invr a) ∙ +ℤ_idl x

-- THE LAW
pub levels : (bs : List ℕ) → Bits bs → level_bits (length bs) (level bs) ≡ bs
unfolding level level_bits Bits
levels [] ok = refl
levels (b ∷ bs) ok =
    let m = pos (2 ^ length bs) in
    let z = m -ℤ level bs in
    let e = below_flip b ok.0 (room (2 ^ length bs) (level bs) (level-small bs)) in
    ap₂ (λ (x : ℕ) (xs : List ℕ). x ∷ xs) e
    (ap (level_bits (length bs)) (ap (λ (x : ℕ). m -ℤ flip x (flip b z)) e ∙ ap (λ (y : ℤ). m -ℤ y) (flip-back b z) ∙ sub-sub m (level bs))
    ∙ levels bs ok.1)

-- ---- the test: true for the level of any bits
pub is-level : (bs : List ℕ) → Bits bs → T (is_level (length bs) (level bs))
unfolding is_level
is-level bs ok = rw (levels bs ok) (eq_z-refl (level bs))

pub level-back : (n : ℕ) (z : ℤ) → T (is_level n z) → level (level_bits n z) ≡ z
unfolding is_level
level-back n z t = eq_z→eq (level (level_bits n z)) z t

pub bits-length : (n : ℕ) (z : ℤ) → length (level_bits n z) ≡ n
unfolding level_bits
bits-length zero z = refl
bits-length (suc n) z = ap suc (bits-length n _)

pub bits-bits : (n : ℕ) (z : ℤ) → Bits (level_bits n z)
unfolding level_bits Bits
bits-bits zero z = tt
bits-bits (suc n) (pos k) = (omega arith, bits-bits n _)
bits-bits (suc n) (negsuc k) = (omega arith, bits-bits n _)

-- ---- a level of some bits is not 0
flip-above : (b : ℕ) {n : ℕ} {z : ℤ} → Above n z → 0 < nat_abs (flip b z)
flip-above zero (above h) = omega arith
flip-above (suc b) (above h) = omega arith

pub level-nonzero : (n : ℕ) (z : ℤ) → 0 < n → T (is_level n z) → 0 < nat_abs z
unfolding level_bits level
level-nonzero zero z h t = absurd (omega arith)
level-nonzero (suc n) z h t =
    let bs = level_bits n (pos (2 ^ n) -ℤ flip (below z) z) in
    let e : nat_abs (flip (below z) (pos (2 ^ length bs) -ℤ level bs)) ≡ nat_abs z = ap nat_abs (level-back (suc n) z t) in
    omega (arith, flip-above (below z) (room (2 ^ length bs) (level bs) (level-small bs)))
