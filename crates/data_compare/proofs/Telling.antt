-- WHAT BITS TELL: laws on masks, or and exclusive or that are 0, and on tests one after another. Assumes nothing.
use Prim.Native.Nat.{ℕ, zero, suc, ◌+◌, ◌-◌, ◌*◌, ◌/◌, ◌%◌, ◌^◌, ◌≤◌, ◌<◌, min}
use mathlib.Core.Path.{◌≡◌, refl, sym, ap, ap₂, ◌∙◌}
use native.Mathlib.Nat.{mod-lt, mod-eq_of_lt, zero-min, min-le_left}
use native.Mathlib.Decide.{dec_le, ℕ_discrete}
use native.Mathlib.Omega.{arith}
use lib.Arith.{bin_ind}
use lib.Bits.{bit_and, bit_or, and_step, and_block, and_le_r, and_mod, or_shr, or_mod, or_block, or_zero_r, or_self}
use lib.Pow.{pow_pos, split}
use Rattle.element_pairs.proofs.Puts.{or-none, none_or}
use Rattle.data_compare.specs.Tests.{Tells}

-- ---- a mask over an or
digit : (x y z : ℕ) → x < 2 → y < 2 → min (bit_or x y) z ≡ bit_or (min x z) (min y z)
digit zero y z l m = rw (zero-min z) refl
digit (suc zero) zero z l m = rw (zero-min z) (sym (or_zero_r (min 1 z)))
digit (suc zero) (suc zero) z l m = sym (or_self (min 1 z))
digit (suc zero) (suc (suc y)) z l m = absurd (omega arith)
digit (suc (suc x)) y z l m = absurd (omega arith)

and-or : (a b m : ℕ) → bit_and (bit_or a b) m ≡ bit_or (bit_and a m) (bit_and b m)
and-or =
    bin_ind (λ (a : ℕ). (b m : ℕ) → bit_and (bit_or a b) m ≡ bit_or (bit_and a m) (bit_and b m)) (λ b m. refl)
    (λ a ih b m.
    let la : a % 2 < 2 = omega arith in
    let lb : b % 2 < 2 = omega arith in
    and_step (bit_or a b) m
    ∙ ap₂ (λ (x y : ℕ). x * 2 + y) (ap (λ (x : ℕ). bit_and x (m / 2)) (or_shr a b 1) ∙ ih (b / 2) (m / 2))
    (ap (λ (x : ℕ). min x (m % 2)) (or_mod a b 1) ∙ digit (a % 2) (b % 2) (m % 2) la lb)
    ∙ sym
    (ap₂ bit_or (and_step a m) (and_step b m)
    ∙ or_block 1 (bit_and (a / 2) (m / 2)) (bit_and (b / 2) (m / 2)) (min (a % 2) (m % 2)) (min (b % 2) (m % 2)) (low (a % 2) (m % 2) la) (low (b % 2) (m % 2) lb)))
  where
    low : (x z : ℕ) → x < 2 → min x z < 2
    low x z l = omega (arith, min-le_left x z)

pub or-masked : (a b m : ℕ) → bit_and (bit_or a b) m ≡ 0 → (bit_and a m ≡ 0) × (bit_and b m ≡ 0)
or-masked a b m e = or-none (bit_and a m) (bit_and b m) (sym (and-or a b m) ∙ e)

pub masked-or : (a b m : ℕ) → bit_and a m ≡ 0 → bit_and b m ≡ 0 → bit_and (bit_or a b) m ≡ 0
masked-or a b m x y = and-or a b m ∙ none_or (bit_and a m) (bit_and b m) x y

-- ---- a mask that ends below 2 ^ k, and one in two parts
pub mask_low : (k v w m : ℕ) → m < 2 ^ k → v % 2 ^ k ≡ w % 2 ^ k → bit_and v m ≡ bit_and w m
mask_low k v w m l e = low v ∙ ap (λ (x : ℕ). bit_and x (m % 2 ^ k)) e ∙ sym (low w)
  where
    low : (x : ℕ) → bit_and x m ≡ bit_and (x % 2 ^ k) (m % 2 ^ k)
    low x = sym (mod-eq_of_lt (omega (arith, and_le_r x m))) ∙ and_mod x m k

pub mask-parts : (k v a b : ℕ) → a < 2 ^ k → bit_and v (a + b * 2 ^ k) ≡ bit_and (v / 2 ^ k) b * 2 ^ k + bit_and v a
mask-parts k v a b l =
    let e : a + b * 2 ^ k ≡ b * 2 ^ k + a = omega arith in
    let d : v % 2 ^ k % 2 ^ k ≡ v % 2 ^ k = mod-eq_of_lt (mod-lt v (pow_pos k)) in
    ap₂ bit_and (sym (split v k)) e ∙ and_block k (v / 2 ^ k) b (v % 2 ^ k) a (mod-lt v (pow_pos k)) l
    ∙ ap (λ (x : ℕ). bit_and (v / 2 ^ k) b * 2 ^ k + x) (mask_low k (v % 2 ^ k) v a l d)

-- ---- tests
pub tells_none : {A : ℕ → Type 0} → Tells 0 0 A
tells_none = record { right = λ e i l. absurd (omega arith); none = λ h. refl }

pub tells_as : {r n : ℕ} {A B : ℕ → Type 0} → ((i : ℕ) → i < n → A i → B i) → ((i : ℕ) → i < n → B i → A i) → Tells r n A → Tells r n B
tells_as f b t = record { right = λ e i l. f i l (t.right e i l); none = λ h. t.none (λ i l. b i l (h i l)) }

pub tells_more :
    {r x n : ℕ} {A : ℕ → Type 0} → (x ≡ 0 → (r ≡ 0) × A n) → (r ≡ 0 → A n → x ≡ 0) → Tells r n A → Tells x (n + 1) A
tells_more {r} {x} {n} {A} apart join t =
    record { right = λ e i l. pick (apart e) i l (ℕ_discrete i n); none = λ h. join (t.none (λ i l. h i (omega arith))) (h n (omega arith)) }
  where
    pick : (r ≡ 0) × A n → (i : ℕ) → i < n + 1 → Dec (i ≡ n) → A i
    pick (a, b) i l (yes d) = rw d b
    pick (a, b) i l (no d) = t.right a i (omega arith)

-- one test more, or m of them, by an or
pub tells-or-one : {r s n : ℕ} {A : ℕ → Type 0} → (s ≡ 0 → A n) → (A n → s ≡ 0) → Tells r n A → Tells (bit_or r s) (n + 1) A
tells-or-one {r} {s} f b t = tells_more (λ e. let z = or-none r s e in (z.0, f z.1)) (λ e a. none_or r s e (b a)) t

pub tells-or : {r s n m : ℕ} {A : ℕ → Type 0} → Tells r n A → Tells s m (λ (i : ℕ). A (n + i)) → Tells (bit_or r s) (n + m) A
tells-or {r} {s} {n} {m} {A} t w =
    record {
      right = λ e i l. pick (or-none r s e) i l (dec_le n i);
      none = λ h. none_or r s (t.none (λ i l. h i (omega arith))) (w.none (λ i l. h (n + i) (omega arith)));
    }
  where
    pick : (r ≡ 0) × (s ≡ 0) → (i : ℕ) → i < n + m → Dec (n ≤ i) → A i
    pick (a, b) i l (yes d) = let e : n + (i - n) ≡ i = omega arith in rw e at (w.right b (i - n) (omega arith))
    pick (a, b) i l (no d) = t.right a i (omega arith)

-- tests of pairs as tests of both
pub tells_both :
    {r m : ℕ} {A B : ℕ → Type 0}
    → ((i : ℕ) → i < m → A i → B (2 * i) × B (2 * i + 1)) → ((i : ℕ) → i < m → B (2 * i) → B (2 * i + 1) → A i) → Tells r m A
    → Tells r (2 * m) B
tells_both {r} {m} {A} {B} f b t =
    record { right = λ e k l. pick e k l (ℕ_discrete (k % 2) 0); none = λ h. t.none (λ i l. b i l (h (2 * i) (omega arith)) (h (2 * i + 1) (omega arith))) }
  where
    pick : r ≡ 0 → (k : ℕ) → k < 2 * m → Dec (k % 2 ≡ 0) → B k
    pick e k l (yes d) = let z : 2 * (k / 2) ≡ k = omega arith in let s : k / 2 < m = omega arith in rw z at (f (k / 2) s (t.right e (k / 2) s)).0
    pick e k l (no d) = let z : 2 * (k / 2) + 1 ≡ k = omega arith in let s : k / 2 < m = omega arith in rw z at (f (k / 2) s (t.right e (k / 2) s)).1
