-- Numbers k * L + s, k by k and in each k the s below L: how many of them pass a test, column by column; and numbers of which one in z can
-- pass, by its number among these. Assumes nothing.
use Prim.Native.Nat.{ℕ, zero, suc, ◌+◌, ◌-◌, ◌*◌, ◌/◌, ◌%◌, ◌≤◌}
use mathlib.Core.Path.{◌≡◌, refl, sym, ap, ap₂, ◌∙◌}
use mathlib.Core.Bool.{Bool, cond, ◌&&◌}
use native.Mathlib.Nat.{suc-mul, zero-mul}
use native.Mathlib.Omega.{arith}
use lib.Dec.{eqb, ltb}
use borrow.Author.Tests.{lt-ltb, le-ltb, eqb-true, eqb-false}
use Rattle.base.specs.Choice.{indicator}
use Rattle.base.specs.Counts.{cnt, upwards}
use Rattle.base.specs.Sums.{sum_to}
use Rattle.base.proofs.Tests.{by-test}
use Rattle.base.proofs.Counts.{cnt-none, cnt-own, cnt-not, cnt-add}
use Rattle.base.proofs.Sums.{sum_same, sum-none, sum-add, sum-parts, cnt-sum}

-- the numbers of column s
abbrev pub column : (ℕ → Bool) → ℕ → ℕ → ℕ → Bool
column own L s k = own (k * L + s)

-- one number more
pub more : (own : ℕ → Bool) (n : ℕ) → cnt own n + indicator (own n) ≡ cnt own (suc n)
more own n = by-test (own n) (λ e. let z = cnt-own own n e in rw e (omega arith)) (λ e. let z = cnt-not own n e in rw e (omega arith))

by-columns : (own : ℕ → Bool) (L K : ℕ) → cnt own (K * L) ≡ sum_to L (λ s. cnt (column own L s) K)
by-columns own L zero = ap (cnt own) (zero-mul L) ∙ cnt-none own ∙ sym (sum-none L (λ s. cnt (column own L s) 0) (λ s l. cnt-none (column own L s)))
by-columns own L (suc K) =
    ap (cnt own) (suc-mul K L) ∙ cnt-add own (K * L) L
    ∙ ap₂ (λ (x y : ℕ). x + y) (by-columns own L K) (cnt-sum (λ (t : ℕ). own (K * L + t)) L)
    ∙ sum-add L (λ s. cnt (column own L s) K) (λ s. indicator (own (K * L + s)))
    ∙ sum_same L (λ s. cnt (column own L s) K + indicator (own (K * L + s))) (λ s. cnt (column own L s) (suc K)) (λ s l. more (column own L s) K)

-- THE COUNT below k * L + s, column by column: those of the columns below s have one row more
module _ (own : ℕ → Bool) (L k s : ℕ) (in-s : s ≤ L) where
  abbrev part : ℕ → ℕ
  part n = cond (ltb n s) (indicator (own (k * L + n))) 0

  last_row : cnt (λ (t : ℕ). own (k * L + t)) s ≡ sum_to L part
  last_row =
      let e : s + (L - s) ≡ L = omega arith in
      cnt-sum (λ (t : ℕ). own (k * L + t)) s
      ∙ sum_same s (λ n. indicator (own (k * L + n))) part (λ n l. rw (lt-ltb n s l) refl)
      ∙ (let z : sum_to s part ≡ sum_to s part + sum_to (L - s) (λ j. part (s + j)) =
      (let none = sum-none (L - s) (λ j. part (s + j)) (λ j l. rw (le-ltb (s + j) s (omega arith)) refl) in omega arith) in z)
      ∙ sym (sum-parts s (L - s) part) ∙ ap (λ (n : ℕ). sum_to n part) e

  one-row : (n : ℕ) → cnt (column own L n) k + part n ≡ cnt (column own L n) (k + indicator (ltb n s))
  one-row n =
      by-test (ltb n s)
      (λ e. let z : k + 1 ≡ suc k = omega arith in rw e (more (column own L n) k ∙ ap (cnt (column own L n)) (sym z)))
      (λ e. let z : k + 0 ≡ k = omega arith in let y : cnt (column own L n) k + 0 ≡ cnt (column own L n) k = omega arith in rw e (y ∙ ap (cnt (column own L n)) (sym z)))

  pub count-columns : cnt own (k * L + s) ≡ sum_to L (λ n. cnt (column own L n) (k + indicator (ltb n s)))
  count-columns =
      cnt-add own (k * L) s ∙ ap₂ (λ (x y : ℕ). x + y) (by-columns own L k) last_row
      ∙ sum-add L (λ n. cnt (column own L n) k) part
      ∙ sum_same L (λ n. cnt (column own L n) k + part n) (λ n. cnt (column own L n) (k + indicator (ltb n s))) (λ n l. one-row n)

-- one in z can pass: the first of each z. Below x there are x / z of them, rounded up
pub record Rounds (z : ℕ) : Type 0 where
  pub none : upwards z 0 ≡ 0
  pub hit : (x : ℕ) → x % z ≡ 0 → (upwards z x ≡ x / z) × (upwards z (suc x) ≡ suc (x / z))
  pub miss : (x : ℕ) → (x % z ≡ 0 → ⊥) → upwards z (suc x) ≡ upwards z x

-- those of which one in z can pass
abbrev pub spread : ℕ → (ℕ → Bool) → ℕ → Bool
spread z f k = eqb (k % z) 0 && f (k / z)

pub cnt-spread : {z : ℕ} → Rounds z → (f : ℕ → Bool) (x : ℕ) → cnt (spread z f) x ≡ cnt f (upwards z x)
cnt-spread {z = z} r f zero = cnt-none (spread z f) ∙ sym (ap (cnt f) r.none ∙ cnt-none f)
cnt-spread {z = z} r f (suc x) =
    sym (more (spread z f) x)
    ∙ by-test (eqb (x % z) 0)
    (λ e. let h = r.hit x (eqb-true (x % z) 0 e) in
    rw e (ap (λ (n : ℕ). n + indicator (f (x / z))) (cnt-spread r f x ∙ ap (cnt f) h.0) ∙ more f (x / z) ∙ ap (cnt f) (sym h.1)))
    (λ e. let y : cnt (spread z f) x + 0 ≡ cnt (spread z f) x = omega arith in
    rw e (y ∙ cnt-spread r f x ∙ ap (cnt f) (sym (r.miss x (eqb-false (x % z) 0 e)))))

-- counting those that pass f, and of these by their number those that pass g
pub cnt-through : (f g : ℕ → Bool) (n : ℕ) → cnt (λ (t : ℕ). f t && g (cnt f t)) n ≡ cnt g (cnt f n)
cnt-through f g zero = cnt-none (λ (t : ℕ). f t && g (cnt f t)) ∙ sym (ap (cnt g) (cnt-none f) ∙ cnt-none g)
cnt-through f g (suc n) =
    sym (more (λ (t : ℕ). f t && g (cnt f t)) n)
    ∙ by-test (f n)
    (λ e. rw e (ap (λ (m : ℕ). m + indicator (g (cnt f n))) (cnt-through f g n) ∙ more g (cnt f n) ∙ ap (cnt g) (sym (cnt-own f n e))))
    (λ e. let y : cnt (λ (t : ℕ). f t && g (cnt f t)) n + 0 ≡ cnt (λ (t : ℕ). f t && g (cnt f t)) n = omega arith in
    rw e (y ∙ cnt-through f g n ∙ ap (cnt g) (sym (cnt-not f n e))))
