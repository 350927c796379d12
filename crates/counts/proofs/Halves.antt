-- Half blocks of six subcarriers: a user's, the centre's, and how many of a user's lie outside the centre. Assumes nothing.
use Prim.Native.Nat.{ℕ, zero, suc, ◌+◌, ◌-◌, ◌*◌, ◌/◌, ◌≤◌, ◌<◌, min, max}
use mathlib.Core.Path.{◌≡◌, refl, ap, ◌∙◌}
use mathlib.Core.Bool.{Bool, true, false, not, ◌&&◌, and-true}
use native.Mathlib.Omega.{arith}
use lib.Dec.{leb, ltb}
use borrow.Author.Tests.{lt-ltb, le-leb, ltb-true, ltb-false, leb-true, leb-false}
use Rattle.base.proofs.Tests.{by-test, both, same_test}
use Rattle.plan.proofs.Listed.{and_left, and_right}
use Rattle.plan.specs.declared.Cell.{Cell}
use Rattle.plan.specs.declared.User.{User}
use Rattle.base.specs.Choice.{indicator}
use Rattle.layout.specs.Rules.{middle, centre}
use Rattle.layout.specs.Owners.{blocks_have}
use Rattle.base.specs.Sums.{sum_to}
use Rattle.counts.specs.Users.{halves}
use Rattle.base.proofs.Sums.{sum_same, sum-add}

-- a range whose ends are half blocks
range : (a b c d j k : ℕ) → ((a ≤ k) → (c ≤ j)) → ((c ≤ j) → (a ≤ k)) → ((k < b) → (j < d)) → ((j < d) → (k < b)) → leb a k && ltb k b ≡ leb c j && ltb j d
range a b c d j k f f' g g' =
    same_test _ _
    (λ h. both (le-leb c j (f (leb-true _ _ (and_left (leb a k) (ltb k b) h)))) (lt-ltb j d (g (ltb-true _ _ (and_right (leb a k) (ltb k b) h)))))
    (λ h. both (le-leb a k (f' (leb-true _ _ (and_left (leb c j) (ltb j d) h)))) (lt-ltb k b (g' (ltb-true _ _ (and_right (leb c j) (ltb j d) h)))))

abbrev pub within : ℕ → ℕ → ℕ → Bool
within a e b = leb a b && ltb b e

abbrev pub central : Cell → ℕ → Bool
central c b = leb c.blocks (b + 6) && ltb b (c.blocks + 6)

pub blocks-half : (u : User) (n k : ℕ) → blocks_have u n k ≡ within (2 * u.first) (2 * (u.first + u.count)) (k / 6)
unfolding blocks_have
blocks-half u n k = range (12 * u.first) (12 * (u.first + u.count)) (2 * u.first) (2 * (u.first + u.count)) (k / 6) k (λ h. omega arith) (λ h. omega arith) (λ h. omega arith) (λ h. omega arith)

pub centre-half : (c : Cell) (k : ℕ) → centre c k ≡ central c (k / 6)
unfolding middle
centre-half c k =
    let N = c.blocks in
    same_test _ _
    (λ h. let l : 6 * N ≤ k + 36 = leb-true _ _ (and_left (leb (6 * N) (k + 36)) (ltb k (6 * N + 36)) h) in
    let u : k < 6 * N + 36 = ltb-true _ _ (and_right (leb (6 * N) (k + 36)) (ltb k (6 * N + 36)) h) in
    both (le-leb N (k / 6 + 6) (omega arith)) (lt-ltb (k / 6) (N + 6) (omega arith)))
    (λ h. let l : N ≤ k / 6 + 6 = leb-true _ _ (and_left (leb N (k / 6 + 6)) (ltb (k / 6) (N + 6)) h) in
    let u : k / 6 < N + 6 = ltb-true _ _ (and_right (leb N (k / 6 + 6)) (ltb (k / 6) (N + 6)) h) in
    both (le-leb (6 * N) (k + 36) (omega arith)) (lt-ltb k (6 * N + 36) (omega arith)))

-- those of the half blocks below m
pub in-range : (a e m : ℕ) → sum_to m (λ b. indicator (within a e b)) ≡ min m e - a
unfolding sum_to
in-range a e zero = omega arith
in-range a e (suc m) =
    by-test (leb a m)
    (λ x. let i : a ≤ m = leb-true _ _ x in by-test (ltb m e)
    (λ y. let j : m < e = ltb-true _ _ y in rw (x, y) (omega (arith, in-range a e m)))
    (λ y. let j : e ≤ m = ltb-false _ _ y in rw (x, y) (omega (arith, in-range a e m))))
    (λ x. let i : m < a = leb-false _ _ x in rw x (omega (arith, in-range a e m)))

-- a lower end that is d below a
pub lowered : (a d e b : ℕ) → leb a (b + d) && ltb b e ≡ within (a - d) e b
lowered a d e b =
    ap (λ (x : Bool). x && ltb b e)
    (same_test _ _
    (λ h. let l : a ≤ b + d = leb-true _ _ h in le-leb (a - d) b (omega arith))
    (λ h. let l : a - d ≤ b = leb-true _ _ h in le-leb a (b + d) (omega arith)))

-- two ranges at once
overlap : (a e c d b : ℕ) → within a e b && within c d b ≡ within (max a c) (min e d) b
overlap a e c d b =
    same_test _ _
    (λ h. let x = and_left (within a e b) (within c d b) h in
    let y = and_right (within a e b) (within c d b) h in
    let i : a ≤ b = leb-true _ _ (and_left (leb a b) (ltb b e) x) in
    let j : b < e = ltb-true _ _ (and_right (leb a b) (ltb b e) x) in
    let k : c ≤ b = leb-true _ _ (and_left (leb c b) (ltb b d) y) in
    let l : b < d = ltb-true _ _ (and_right (leb c b) (ltb b d) y) in
    both (le-leb (max a c) b (omega arith)) (lt-ltb b (min e d) (omega arith)))
    (λ h. let i : max a c ≤ b = leb-true _ _ (and_left (leb (max a c) b) (ltb b (min e d)) h) in
    let j : b < min e d = ltb-true _ _ (and_right (leb (max a c) b) (ltb b (min e d)) h) in
    both (both (le-leb a b (omega arith)) (lt-ltb b e (omega arith))) (both (le-leb c b (omega arith)) (lt-ltb b d (omega arith))))

pub parted : (x y : Bool) → indicator (x && not y) + indicator (x && y) ≡ indicator x
parted true true = refl
parted true false = refl
parted false y = refl

pub away : (x y z : ℕ) → x + y ≡ z → x ≡ z - y
away x y z e = omega arith

-- a user's half blocks among the cell's
pub halves_are : (c : Cell) (first count : ℕ) (t : Bool) → first + count ≤ c.blocks
    → sum_to (2 * c.blocks) (λ b. indicator (within (2 * first) (2 * (first + count)) b && not (t && central c b))) ≡ halves c first count t
unfolding halves
halves_are c first count true l =
    let N = c.blocks in
    let a = 2 * first in
    let e = 2 * (first + count) in
    let i : min (2 * N) e - a ≡ 2 * count = omega arith in
    let j : min (2 * N) (min e (N + 6)) ≡ min e (N + 6) = omega arith in
    let both_ways : sum_to (2 * N) (λ b. indicator (within a e b && not (central c b))) + sum_to (2 * N) (λ b. indicator (within a e b && central c b)) ≡ 2 * count =
    sum-add (2 * N) _ _ ∙ sum_same (2 * N) _ (λ b. indicator (within a e b)) (λ b m. parted (within a e b) (central c b)) ∙ in-range a e (2 * N) ∙ i in
    let shared : sum_to (2 * N) (λ b. indicator (within a e b && central c b)) ≡ min e (N + 6) - max a (N - 6) =
    sum_same (2 * N) _ (λ b. indicator (within (max a (N - 6)) (min e (N + 6)) b))
    (λ b m. let q : within a e b && central c b ≡ within (max a (N - 6)) (min e (N + 6)) b = rw (lowered N 6 (N + 6) b) (overlap a e (N - 6) (N + 6) b) in ap indicator q)
    ∙ in-range (max a (N - 6)) (min e (N + 6)) (2 * N) ∙ ap (λ (x : ℕ). x - max a (N - 6)) j in
    away _ _ _ (rw (← shared) both_ways)
halves_are c first count false l =
    let N = c.blocks in
    let z : min (2 * N) (2 * (first + count)) - 2 * first ≡ 2 * count - 0 = omega arith in
    sum_same (2 * N) _ (λ b. indicator (within (2 * first) (2 * (first + count)) b)) (λ b m. ap indicator (and-true (within (2 * first) (2 * (first + count)) b)))
    ∙ in-range (2 * first) (2 * (first + count)) (2 * N) ∙ z

-- the centre's twelve
pub twelve : (c : Cell) → 6 ≤ c.blocks → sum_to (2 * c.blocks) (λ b. indicator (central c b)) ≡ 12
twelve c l =
    let N = c.blocks in
    let z : min (2 * N) (N + 6) - (N - 6) ≡ 12 = omega arith in
    sum_same (2 * N) _ _ (λ b m. ap indicator (lowered N 6 (N + 6) b)) ∙ in-range (N - 6) (N + 6) (2 * N) ∙ z

pub halves-most : (c : Cell) (first count : ℕ) (t : Bool) → halves c first count t ≤ 2 * count
unfolding halves
halves-most c first count t = omega arith
