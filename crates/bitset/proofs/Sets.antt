-- Who is a member: of a set with one number more, of a run, of two sets joined; what `meet` says. Assumes nothing.
use Prim.Native.Nat.{ℕ, ◌+◌, ◌-◌, ◌/◌, ◌%◌, ◌^◌, ◌≤◌, ◌<◌, min}
use mathlib.Core.Path.{◌≡◌, refl, sym, ap, ap₂, ◌∙◌}
use mathlib.Core.Bool.{Bool, true, false, ◌&&◌, ◌||◌, or-false}
use mathlib.Core.List.{List}
use native.Mathlib.Nat.{min-le_left, min-le_right, le-min, min-eq_left, min-eq_right}
use native.Mathlib.Omega.{arith}
use lib.Pow.{pow_pos, pow_mono, shl_exact}
use lib.Bits.{bit_and, bit_or, xor_lt, or_lt, and_le_r}
use lib.Dec.{eqb, leb, ltb}
use lib.ListN.{length, get_or}
use lib.Seq.{get_or-set_same, get_or-set_other}
use borrow.Author.Tests.{eq-eqb, ne_eqb, eqb-true, eqb-false, lt-ltb, le-leb, lt-leb, ltb-true, ltb-false, leb-true, leb-false}
use Rattle.base.proofs.Tests.{by-test, clash, both, same_test}
use Rattle.bitset.specs.Sets.{bit, member, shifted, added, ones_of, run_word, run_of, meet, joined, within, overlap, some_below}
use Rattle.bitset.proofs.Bits.{some_at, some_is, some_same, some_or, some-add, unlike, bit-or, bit-and, bit-xor, bit-zero, bit-pow, bit-ones, not-zero}

-- ---- as the code makes the words
pub shifted-is : (k : ℕ) → k < 64 → shifted k ≡ 2 ^ k
shifted-is k h = shl_exact 1 k 64 (omega arith) (omega arith) ∙ omega arith

pub ones_none : (n : ℕ) → n ≡ 0 → 0 ≡ ones_of n
unfolding ones_of
ones_none n e = rw e refl

pub shifted-some : (k : ℕ) → k < 64 → 1 ≤ shifted k
shifted-some k h = rw (shifted-is k h) (pow_pos k)

pub ones-part : (n : ℕ) → n < 64 → shifted n - 1 ≡ ones_of n
unfolding ones_of
ones-part n h = rw (shifted-is n h, min-eq_left {n = n} {m = 64} (omega arith)) refl

pub ones-all : (n : ℕ) → 64 ≤ n → 2 ^ 64 - 1 ≡ ones_of n
unfolding ones_of
ones-all n h = rw (min-eq_right {n = 64} {m = n} h) refl

-- ---- the members
pub in-none : (l : List ℕ) → ((i : ℕ) → get_or l i 0 ≡ 0) → (n : ℕ) → member l n ≡ false
in-none l h n = rw (h (n / 64)) (bit-zero (n % 64))

pub in-added : (l : List ℕ) (n m : ℕ) → n / 64 < length l → member (added l n) m ≡ member l m || eqb m n
in-added l n m h =
    let word : ℕ = bit_or (get_or l (n / 64) 0) (shifted (n % 64)) in
    by-test (eqb (m / 64) (n / 64))
    (λ t.
    let e : m / 64 ≡ n / 64 = eqb-true (m / 64) (n / 64) t in
    let same : eqb (m % 64) (n % 64) ≡ eqb m n =
    same_test _ _ (λ q. eq-eqb m n (omega (arith, eqb-true (m % 64) (n % 64) q))) (λ q. eq-eqb (m % 64) (n % 64) (omega (arith, eqb-true m n q))) in
    rw (e, get_or-set_same l (n / 64) word 0 h, bit-or (get_or l (n / 64) 0) (shifted (n % 64)) (m % 64))
    (rw (shifted-is (n % 64) (omega arith), bit-pow (n % 64) (m % 64), same) refl))
    (λ t.
    let d : m / 64 ≡ n / 64 → ⊥ = eqb-false (m / 64) (n / 64) t in
    rw (get_or-set_other l (n / 64) (m / 64) word 0 d, ne_eqb m n (λ z. d (ap (λ (x : ℕ). x / 64) z))) (sym (or-false _)))

-- a number below 128 is in word 0 or in word 1
by_word : (F : ℕ → ℕ → ℕ → Type 0) → ((i : ℕ) → i < 64 → F (0 + i) 0 i) → ((i : ℕ) → i < 64 → F (64 + i) 1 i) → (n : ℕ) → n < 128 → F n (n / 64) (n % 64)
by_word F p q n h =
    by-test (ltb n 64)
    (λ t.
    let l : n < 64 = ltb-true n 64 t in
    let w : n / 64 ≡ 0 = omega arith in
    let i : n % 64 ≡ n = omega arith in
    let e : 0 + n ≡ n = omega arith in
    rw (w, i) (rw e at (p n l)))
    (λ t.
    let l : 64 ≤ n = ltb-false n 64 t in
    let w : n / 64 ≡ 1 = omega arith in
    let i : n % 64 ≡ n - 64 = omega arith in
    let e : 64 + (n - 64) ≡ n = omega arith in
    rw (w, i) (rw e at (q (n - 64) (omega arith))))

pub in-joined : (a b : List ℕ) (n : ℕ) → n < 128 → member (joined a b) n ≡ member a n || member b n
in-joined a b =
    by_word (λ (n w i : ℕ). bit (get_or (joined a b) w 0) i ≡ bit (get_or a w 0) i || bit (get_or b w 0) i)
    (λ i l. bit-or (get_or a 0 0) (get_or b 0 0) i) (λ i l. bit-or (get_or a 1 0) (get_or b 1 0) i)

-- ---- a run
ones_bit : (n i : ℕ) → i < 64 → bit (ones_of n) i ≡ ltb i n
unfolding ones_of
ones_bit n i h =
    bit-ones (min n 64) i
    ∙ same_test (ltb i (min n 64)) (ltb i n)
    (λ t. lt-ltb i n (omega (arith, ltb-true i (min n 64) t, min-le_left n 64)))
    (λ t. lt-ltb i (min n 64) (le-min (ltb-true i n t) h))

-- the word from least on of the numbers below to, less those below from
run-word : (least first k i : ℕ) → i < 64 → bit (run_word least first k) i ≡ within first k (least + i)
run-word least first k i h =
    bit-xor (ones_of (first + k - least)) (ones_of (first - least)) i
    ∙ ap₂ unlike (ones_bit (first + k - least) i h ∙ from (first + k)) (ones_bit (first - least) i h ∙ from first)
    ∙ by-test (ltb (least + i) first)
    (λ t.
    let l : least + i < first = ltb-true (least + i) first t in
    rw (t, lt-ltb (least + i) (first + k) (omega arith), lt-leb first (least + i) l) refl)
    (λ t. rw (t, le-leb first (least + i) (ltb-false (least + i) first t)) (so (ltb (least + i) (first + k))))
  where
    from : (m : ℕ) → ltb i (m - least) ≡ ltb (least + i) m
    from m =
        same_test _ _
        (λ t. lt-ltb (least + i) m (omega (arith, ltb-true i (m - least) t)))
        (λ t. lt-ltb i (m - least) (omega (arith, ltb-true (least + i) m t)))

    so : (b : Bool) → unlike b false ≡ b
    so true = refl
    so false = refl

pub in-run : (first k n : ℕ) → n < 128 → member (run_of first k) n ≡ within first k n
in-run first k =
    by_word (λ (n w i : ℕ). bit (get_or (run_of first k) w 0) i ≡ within first k n) (run-word 0 first k) (run-word 64 first k)

ones-fit : (n : ℕ) → ones_of n < 2 ^ 64
unfolding ones_of
ones-fit n = let h : 2 ^ min n 64 ≤ 2 ^ 64 = pow_mono (min-le_right n 64) in omega (arith, pow_pos (min n 64))

-- ---- a number in common
abbrev common : List ℕ → List ℕ → ℕ → Bool
common a b n = member a n && member b n

abbrev pub Fits : List ℕ → Type 0
Fits l = (get_or l 0 0 < 2 ^ 64) × (get_or l 1 0 < 2 ^ 64)

pub run_fits : (first k : ℕ) → Fits (run_of first k)
run_fits first k =
    (xor_lt 64 _ _ (ones-fit (first + k - 0)) (ones-fit (first - 0)), xor_lt 64 _ _ (ones-fit (first + k - 64)) (ones-fit (first - 64)))

pub meet-some : (a b : List ℕ) → Fits b → meet a b ≡ some_below 128 (common a b)
meet-some a b f =
    let x : ℕ = bit_and (get_or a 0 0) (get_or b 0 0) in
    let y : ℕ = bit_and (get_or a 1 0) (get_or b 1 0) in
    let lx : x < 2 ^ 64 = omega (arith, and_le_r (get_or a 0 0) (get_or b 0 0), f.0) in
    let ly : y < 2 ^ 64 = omega (arith, and_le_r (get_or a 1 0) (get_or b 1 0), f.1) in
    not-zero 64 (bit_or x y) (or_lt 64 x y lx ly)
    ∙ some_same 64 _ (λ (i : ℕ). bit x i || bit y i) (λ i l. bit-or x y i)
    ∙ some_or 64 (bit x) (bit y)
    ∙ ap₂ (λ (s t : Bool). s || t) (some_same 64 _ _ low) (some_same 64 _ _ high)
    ∙ sym (some-add 64 64 (common a b))
  where
    low : (i : ℕ) → i < 64 → bit (bit_and (get_or a 0 0) (get_or b 0 0)) i ≡ common a b i
    low i l =
        let w : i / 64 ≡ 0 = omega arith in
        let e : i % 64 ≡ i = omega arith in
        bit-and (get_or a 0 0) (get_or b 0 0) i ∙ rw (w, e) refl

    high : (i : ℕ) → i < 64 → bit (bit_and (get_or a 1 0) (get_or b 1 0)) i ≡ common a b (64 + i)
    high i l =
        let w : (64 + i) / 64 ≡ 1 = omega arith in
        let e : (64 + i) % 64 ≡ i = omega arith in
        bit-and (get_or a 1 0) (get_or b 1 0) i ∙ rw (w, e) refl

-- ONE SET MORE: what meets the join, meets one of the two
pub meet-joined : (a b d : List ℕ) → Fits d → meet (joined a b) d ≡ meet a d || meet b d
meet-joined a b d f =
    meet-some (joined a b) d f
    ∙ some_same 128 _ (λ (n : ℕ). common a d n || common b d n)
    (λ n l. ap (λ (t : Bool). t && member d n) (in-joined a b n l) ∙ each (member a n) (member b n) (member d n))
    ∙ some_or 128 (common a d) (common b d)
    ∙ sym (ap₂ (λ (s t : Bool). s || t) (meet-some a d f) (meet-some b d f))
  where
    each : (s t u : Bool) → (s || t) && u ≡ s && u || t && u
    each true t true = refl
    each true true false = refl
    each true false false = refl
    each false t u = refl

parts : (a b : Bool) → a && b ≡ true → (a ≡ true) × (b ≡ true)
parts true b e = (refl, e)
parts false b e = clash {b = true} refl (sym e)

bounds : (a k n : ℕ) → within a k n ≡ true → (a ≤ n) × (n < a + k)
bounds a k n e = let s = parts (leb a n) (ltb n (a + k)) e in (leb-true a n s.0, ltb-true n (a + k) s.1)

inside : (a k n : ℕ) → a ≤ n → n < a + k → within a k n ≡ true
inside a k n p q = both (le-leb a n p) (lt-ltb n (a + k) q)

-- TWO RUNS that are not empty meet where they overlap
pub meet-runs : (a k b m : ℕ) → 1 ≤ k → a + k ≤ 128 → 1 ≤ m → meet (run_of b m) (run_of a k) ≡ overlap a k b m
meet-runs a k b m one most some =
    meet-some (run_of b m) (run_of a k) (run_fits a k)
    ∙ some_same 128 _ (λ (n : ℕ). within b m n && within a k n) (λ n l. ap₂ (λ (s t : Bool). s && t) (in-run b m n l) (in-run a k n l))
    ∙ same_test _ _ there back
  where
    there : some_below 128 (λ (n : ℕ). within b m n && within a k n) ≡ true → overlap a k b m ≡ true
    there t =
        let r = some_is 128 _ t in
        let s = parts (within b m r.0) (within a k r.0) r.2 in
        let p = bounds b m r.0 s.0 in
        let q = bounds a k r.0 s.1 in
        both (lt-ltb a (b + m) (omega (arith, p.1, q.0))) (lt-ltb b (a + k) (omega (arith, p.0, q.1)))

    back : overlap a k b m ≡ true → some_below 128 (λ (n : ℕ). within b m n && within a k n) ≡ true
    back t =
        let s = parts (ltb a (b + m)) (ltb b (a + k)) t in
        let p : a < b + m = ltb-true _ _ s.0 in
        let q : b < a + k = ltb-true _ _ s.1 in
        by-test (leb a b)
        (λ l. some_at 128 _ b (omega arith) (both (inside b m b (omega arith) (omega arith)) (inside a k b (leb-true a b l) q)))
        (λ l.
        let h : b < a = omega (arith, leb-false a b l) in
        some_at 128 _ a (omega arith) (both (inside b m a (omega arith) p) (inside a k a (omega arith) (omega arith))))
