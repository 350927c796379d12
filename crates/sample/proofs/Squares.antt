-- Bounds on squares of fractions, carried from one way to write the fraction to another. Nothing here is about floats. Assumes nothing.
use mathlib.Core.Path.{◌≡◌, sym, ap, ◌∙◌}
use Prim.Native.Nat.{ℕ, ◌*◌, ◌^◌, ◌≤◌, ◌<◌}
use native.Mathlib.Nat.{
  pow-zero,
  pow-suc,
  one-mul,
  le_trans,
  le_of_eq,
  lt_of_lt_of_le,
  lt_of_le_of_lt,
  mul_assoc,
  mul_left_comm,
  mul_right_comm,
  mul-le-mul,
  mul-le-mul_left,
  mul-le-mul_right,
  mul-lt-mul_of_pos_right,
  mul-pos,
  le_of_mul-le-mul_right,
  lt_of_mul-lt-mul_right,
  eq_of_mul-eq-mul_right,
  two-mul,
}
use lib.Pow.{pow-add}

pub square : (n : ℕ) → n ^ 2 ≡ n * n
square n = pow-suc n 1 ∙ ap (λ (k : ℕ). k * n) (pow-suc n 0 ∙ ap (λ (k : ℕ). k * n) (pow-zero n) ∙ one-mul n)

pub double : (t : ℕ) → 2 ^ (2 * t) ≡ 2 ^ t * 2 ^ t
double t = rw (two-mul, pow-add)

-- x / P ≤ w / D, and K w² ≤ L D²
pub most-by : (K L x D w P : ℕ) → 0 < D → x * D ≤ w * P → K * (w * w) ≤ L * (D * D) → K * (x * x) ≤ L * (P * P)
most-by K L x D w P p h t =
    let a : K * (x * x) * (D * D) ≡ K * (x * D * (x * D)) = simp (mul_assoc, mul_left_comm) in
    let b : K * (w * P * (w * P)) ≡ K * (w * w) * (P * P) = simp (mul_assoc, mul_left_comm) in
    let c : L * (D * D) * (P * P) ≡ L * (P * P) * (D * D) = mul_right_comm L (D * D) (P * P) in
    le_of_mul-le-mul_right
    (le_trans (le_of_eq a) (le_trans (mul-le-mul_left K (mul-le-mul h h)) (le_trans (le_of_eq b) (le_trans (mul-le-mul_right (P * P) t) (le_of_eq c)))))
    (mul-pos p p)

-- x / P ≥ w / D, and K w² ≥ L D²
pub least_by : (K L x D w P : ℕ) → 0 < D → w * P ≤ x * D → L * (D * D) ≤ K * (w * w) → L * (P * P) ≤ K * (x * x)
least_by K L x D w P p h t =
    let a : K * (x * D * (x * D)) ≡ K * (x * x) * (D * D) = simp (mul_assoc, mul_left_comm) in
    let b : K * (w * w) * (P * P) ≡ K * (w * P * (w * P)) = simp (mul_assoc, mul_left_comm) in
    let c : L * (P * P) * (D * D) ≡ L * (D * D) * (P * P) = mul_right_comm L (P * P) (D * D) in
    le_of_mul-le-mul_right
    (le_trans (le_of_eq c) (le_trans (mul-le-mul_right (P * P) t) (le_trans (le_of_eq b) (le_trans (mul-le-mul_left K (mul-le-mul h h)) (le_of_eq a)))))
    (mul-pos p p)

-- x / D is a / P; where it is M / Q too, or below M / Q, so is a / P
pub same_by : (x D a P M Q : ℕ) → 0 < D → x * P ≡ a * D → x * Q ≡ M * D → a * Q ≡ M * P
same_by x D a P M Q p h k =
    eq_of_mul-eq-mul_right D p (a * Q) (M * P)
    (mul_right_comm a Q D ∙ ap (λ (n : ℕ). n * Q) (sym h) ∙ mul_right_comm x P Q ∙ ap (λ (n : ℕ). n * P) k ∙ mul_right_comm M D P)

pub less_by : (x D a P M Q : ℕ) → 0 < P → x * P ≡ a * D → x * Q < M * D → a * Q < M * P
less_by x D a P M Q p h k =
    lt_of_mul-lt-mul_right D
    (lt_of_le_of_lt (le_of_eq (mul_right_comm a Q D ∙ ap (λ (n : ℕ). n * Q) (sym h) ∙ mul_right_comm x P Q))
    (lt_of_lt_of_le (mul-lt-mul_of_pos_right k p) (le_of_eq (mul_right_comm M D P))))
