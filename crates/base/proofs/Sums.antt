-- Sums: of equal, of constant and of bounded parts, two at a time, six at a time, and one sum within another. Assumes nothing.
use Rattle.std.specs.Prelude.{if◌then◌else◌}
use Prim.Native.Nat.{ℕ, zero, suc, ◌+◌, ◌*◌, ◌%◌, ◌≤◌, ◌<◌}
use mathlib.Core.Path.{◌≡◌, refl, sym, ap₂, ◌∙◌}
use mathlib.Core.Bool.{Bool, true, false, cond}
use mathlib.Core.List.{List, [], ◌∷◌, ◌++◌}
use native.Mathlib.Nat.{add-zero, add-suc, suc-mul, zero-mul, add-mul, not-suc-le-zero, mul-zero, mul-suc}
use native.Mathlib.Omega.{arith}
use lib.Dec.{eqb}
use borrow.Author.Tests.{ne_eqb, eqb-true, eqb-false}
use Rattle.base.specs.Choice.{indicator}
use Rattle.base.specs.Counts.{cnt}
use Rattle.base.proofs.Tests.{by-test}
use Rattle.base.specs.Sums.{sum_to, sum_of}

pub sum_same : (n : ℕ) (f g : ℕ → ℕ) → ((j : ℕ) → j < n → f j ≡ g j) → sum_to n f ≡ sum_to n g
unfolding sum_to
sum_same zero f g h = refl
sum_same (suc n) f g h = rw (h n (omega arith), sum_same n f g (λ j l. h j (omega arith))) refl

pub sum-const : (n v : ℕ) (f : ℕ → ℕ) → ((j : ℕ) → j < n → f j ≡ v) → sum_to n f ≡ n * v
unfolding sum_to
sum-const zero v f h = sym (zero-mul v)
sum-const (suc n) v f h = rw (h n (omega arith), sum-const n v f (λ j l. h j (omega arith)), suc-mul) refl

pub sum-none : (n : ℕ) (f : ℕ → ℕ) → ((j : ℕ) → j < n → f j ≡ 0) → sum_to n f ≡ 0
unfolding sum_to
sum-none zero f h = refl
sum-none (suc n) f h = omega (arith, sum-none n f (λ j l. h j (omega arith)), h n (omega arith))

pub sum-add : (n : ℕ) (f g : ℕ → ℕ) → sum_to n f + sum_to n g ≡ sum_to n (λ j. f j + g j)
unfolding sum_to
sum-add zero f g = refl
sum-add (suc n) f g = rw (← sum-add n f g) (omega arith)

-- each part times v
pub sum-times : (n v : ℕ) (f : ℕ → ℕ) → sum_to n (λ j. f j * v) ≡ sum_to n f * v
unfolding sum_to
sum-times zero v f = sym (zero-mul v)
sum-times (suc n) v f = rw (sum-times n v f, add-mul) refl

pub sum-even : (n : ℕ) (f : ℕ → ℕ) → ((j : ℕ) → j < n → f j % 2 ≡ 0) → sum_to n f % 2 ≡ 0
unfolding sum_to
sum-even zero f h = refl
sum-even (suc n) f h = omega (arith, h n (omega arith), sum-even n f (λ j l. h j (omega arith)))

pub sum-most : (n v : ℕ) (f : ℕ → ℕ) → ((j : ℕ) → j < n → f j ≤ v) → sum_to n f ≤ n * v
unfolding sum_to
sum-most zero v f h = rw zero-mul (omega arith)
sum-most (suc n) v f h = rw suc-mul (omega (arith, h n (omega arith), sum-most n v f (λ j l. h j (omega arith))))

pub sum-least : (n : ℕ) (f g : ℕ → ℕ) → ((j : ℕ) → j < n → f j ≤ g j) → sum_to n f ≤ sum_to n g
unfolding sum_to
sum-least zero f g h = omega arith
sum-least (suc n) f g h = omega (arith, h n (omega arith), sum-least n f g (λ j l. h j (omega arith)))

-- the first n numbers, and the m after them
pub sum-parts : (n m : ℕ) (f : ℕ → ℕ) → sum_to (n + m) f ≡ sum_to n f + sum_to m (λ j. f (n + j))
unfolding sum_to
sum-parts n zero f = rw add-zero (omega arith)
sum-parts n (suc m) f = rw (add-suc, sum-parts n m f) (omega arith)

-- a part is at most the sum
pub sum-part : (n : ℕ) (f : ℕ → ℕ) (j : ℕ) → j < n → f j ≤ sum_to n f
unfolding sum_to
sum-part zero f j l = absurd (not-suc-le-zero l)
sum-part (suc n) f j l =
    by-test (eqb j n)
    (λ e. rw (eqb-true j n e) (omega arith))
    (λ e. let z : (j ≡ n) → ⊥ = eqb-false j n e in omega (arith, sum-part n f j (omega arith)))

-- the sum of x over the one number that is k
pub sum_one : (k x n : ℕ) → k < n → sum_to n (λ m. if eqb k m then x else 0) ≡ x
unfolding sum_to
sum_one k x zero h = absurd (not-suc-le-zero h)
sum_one k x (suc n) h =
    by-test (eqb k n)
    (λ e. let q : k ≡ n = eqb-true k n e in rw e (omega (arith, sum-none n (λ m. if eqb k m then x else 0) (λ m l. rw (ne_eqb k m (λ d. omega arith)) refl))))
    (λ e. let q : k ≡ n → ⊥ = eqb-false k n e in rw e (omega (arith, sum_one k x n (omega arith))))

-- how many numbers pass a test
as_one : (b : Bool) → cond b 1 0 ≡ indicator b
as_one true = refl
as_one false = refl

pub cnt-sum : (f : ℕ → Bool) (n : ℕ) → cnt f n ≡ sum_to n (λ j. indicator (f j))
unfolding cnt sum_to
cnt-sum f zero = refl
cnt-sum f (suc n) = ap₂ ◌+◌ (cnt-sum f n) (as_one (f n))

-- z at a time
pub blocks : (z n : ℕ) (f : ℕ → ℕ) → sum_to (z * n) f ≡ sum_to n (λ b. sum_to z (λ r. f (z * b + r)))
unfolding sum_to
blocks z zero f = rw (mul-zero z) refl
blocks z (suc n) f = rw (mul-suc z n, sum-parts (z * n) z f, blocks z n f) refl

-- six at a time
abbrev pub six : (ℕ → ℕ) → ℕ → ℕ
six f b = f b + f (suc b) + f (suc (suc b)) + f (suc (suc (suc b))) + f (suc (suc (suc (suc b)))) + f (suc (suc (suc (suc (suc b)))))

pub sixes : (n : ℕ) (f : ℕ → ℕ) → sum_to (6 * n) f ≡ sum_to n (λ b. six f (6 * b))
unfolding sum_to
sixes zero f = refl
sixes (suc n) f =
    let z : 6 * suc n ≡ suc (suc (suc (suc (suc (suc (6 * n)))))) = omega arith in
    rw (z, sixes n f) (omega arith)

-- a sum over 6n places whose part at 6b + r is g b r
pub by-six : (n : ℕ) (f : ℕ → ℕ) (g : ℕ → ℕ → ℕ) → ((b r k : ℕ) → b < n → r < 6 → k ≡ 6 * b + r → f k ≡ g b r) → sum_to (6 * n) f ≡ sum_to n (λ b. six (g b) 0)
by-six n f g h =
    sixes n f
    ∙ sum_same n _ _
    (λ b l.
    rw (
      h b 0 (6 * b) l (omega arith) (omega arith),
      h b 1 (suc (6 * b)) l (omega arith) (omega arith),
      h b 2 (suc (suc (6 * b))) l (omega arith) (omega arith),
      h b 3 (suc (suc (suc (6 * b)))) l (omega arith) (omega arith),
      h b 4 (suc (suc (suc (suc (6 * b))))) l (omega arith) (omega arith),
      h b 5 (suc (suc (suc (suc (suc (6 * b)))))) l (omega arith) (omega arith),
    )
    refl)

-- ---- over a list
module _ {A : Type 0} where
  pub swap : (n : ℕ) (os : List A) (f : A → ℕ → ℕ) → sum_of os (λ o. sum_to n (f o)) ≡ sum_to n (λ j. sum_of os (λ o. f o j))
  unfolding sum_of
  swap n [] f = sym (sum-none n _ (λ j l. refl))
  swap n (o ∷ os) f = rw (swap n os f) (sum-add n (f o) (λ j. sum_of os (λ o. f o j)))

  pub list_same : (os : List A) (f g : A → ℕ) → ((o : A) → f o ≡ g o) → sum_of os f ≡ sum_of os g
  unfolding sum_of
  list_same [] f g h = refl
  list_same (o ∷ os) f g h = rw (h o, list_same os f g h) refl

  pub list-append : (os ps : List A) (f : A → ℕ) → sum_of (os ++ ps) f ≡ sum_of os f + sum_of ps f
  unfolding sum_of
  list-append [] ps f = omega arith
  list-append (o ∷ os) ps f = rw (list-append os ps f) (omega arith)
