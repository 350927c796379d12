-- THE FORMS OF A ROW: where the places of each stand, by a computed test of its six bits; in pairs, and between holes. Assumes nothing.
use Prim.Native.Nat.{ℕ, ◌+◌, ◌-◌, ◌*◌, ◌/◌, ◌%◌, ◌≤◌, ◌<◌}
use mathlib.Core.Path.{◌≡◌, refl, sym, ap, ◌∙◌}
use mathlib.Core.Bool.{◌&&◌}
use native.Mathlib.Nat.{mod-lt}
use native.Mathlib.Omega.{arith}
use lib.Dec.{T, eqb, eqb→eq}
use lib.Ieee.Fits.{and_l, and_r}
use Rattle.base.specs.Counts.{cnt, nth}
use Rattle.base.proofs.Computed.{all_below, below_at}
use Rattle.walk.specs.declared.Holes.{Holes}
use Rattle.walk.specs.Runs.{bit_of, open_count, place_at}
use Rattle.walk.specs.Forms.{Holed, Paired, HolesOf, holes_with}
use Rattle.walk.specs.Forms.{PairForm, all-six, pairs-left, pairs-right, pairs-apart, SingleForm, paired, hole-0, hole-1, hole-2, hole-3, hole-4, hole-5}

-- c of six are open, and the x-th of them is f x
abbrev pub Opens : ℕ → ℕ → (ℕ → ℕ) → Type 0
Opens mask c f = T (eqb (open_count mask) c && all_below (λ (x : ℕ). eqb (nth (bit_of mask) 6 x) (f x)) c)

module _ (mask c : ℕ) (f : ℕ → ℕ) (test : Opens mask c f) where
  opens-count : open_count mask ≡ c
  opens-count = eqb→eq _ _ (and_l (eqb (open_count mask) c) _ test)

  opens_at : 0 < c → (k : ℕ) → place_at mask k ≡ 6 * (k / c) + f (k % c)
  unfolding place_at
  opens_at some k =
      rw opens-count
      (ap (λ (x : ℕ). 6 * (k / c) + x)
      (eqb→eq _ _ (below_at (λ (x : ℕ). eqb (nth (bit_of mask) 6 x) (f x)) c (and_r (eqb (open_count mask) c) _ test) (k % c) (mod-lt k some))))

-- ---- holes: none, two of six, one of six
abbrev between : ℕ → ℕ → ℕ → ℕ
between lead each x = x + (x + (each - lead)) / each

pub two-holes : (mask lead : ℕ) → lead ≤ 2 → Opens mask 4 (between lead 2) → Holed mask lead 2
two-holes mask lead few test =
    record { early = few; some = omega arith; place = λ k. opens_at mask 4 (between lead 2) test (omega arith) k ∙ (omega arith) }

pub one-hole : (mask lead : ℕ) → lead ≤ 5 → Opens mask 5 (between lead 5) → Holed mask lead 5
one-hole mask lead few test =
    record { early = few; some = omega arith; place = λ k. opens_at mask 5 (between lead 5) test (omega arith) k ∙ (omega arith) }

pub place-63 : (k : ℕ) → place_at 63 k ≡ k
unfolding open_count nth cnt bit_of
place-63 k = opens_at 63 6 (λ (x : ℕ). x) tt (omega arith) k ∙ (omega arith)

-- ---- pairs, in the four forms with an even number of places
pub six-pairs : {mask : ℕ} → mask ≡ 63 → Paired mask 0 2 1 3
unfolding open_count cnt bit_of
six-pairs e = rw e (record { even = λ i. place-63 (2 * i) ∙ (omega arith); odd = λ i. place-63 (2 * i + 1) ∙ (omega arith); each = refl })

-- two holes, three apart, with `lead` places before the first
four-pairs :
    {mask : ℕ} (lead off gap : ℕ) → Holed mask lead 2 → open_count mask ≡ 4 → ((i : ℕ) → between lead 2 (2 * i) ≡ off + 3 * i)
    → ((i : ℕ) → between lead 2 (2 * i + 1) ≡ off + 3 * i + gap) → Paired mask off 3 gap 2
four-pairs lead off gap h e a b = record { even = λ i. h.place (2 * i) ∙ a i; odd = λ i. h.place (2 * i + 1) ∙ b i; each = e }

pub left-pairs : {mask : ℕ} → mask ≡ 27 → Paired mask 0 3 1 2
unfolding open_count nth cnt bit_of
left-pairs e = rw e (four-pairs 2 0 1 (two-holes 27 2 (omega arith) tt) refl (λ i. omega arith) (λ i. omega arith))

pub right-pairs : {mask : ℕ} → mask ≡ 54 → Paired mask 1 3 1 2
unfolding open_count nth cnt bit_of
right-pairs e = rw e (four-pairs 0 1 1 (two-holes 54 0 (omega arith) tt) refl (λ i. omega arith) (λ i. omega arith))

pub apart-pairs : {mask : ℕ} → mask ≡ 45 → Paired mask 0 3 2 2
unfolding open_count nth cnt bit_of
apart-pairs e = rw e (four-pairs 1 0 2 (two-holes 45 1 (omega arith) tt) refl (λ i. omega arith) (λ i. omega arith))

pub form-last : {mask : ℕ} → PairForm mask → (mask ≡ 63 → ⊥) → (mask ≡ 27 → ⊥) → (mask ≡ 54 → ⊥) → mask ≡ 45
form-last all-six a b c = absurd (a refl)
form-last pairs-left a b c = absurd (b refl)
form-last pairs-right a b c = absurd (c refl)
form-last pairs-apart a b c = refl

-- ---- the forms on one port, in the code's terms
pub no-hole : {mask : ℕ} → mask ≡ 63 → HolesOf mask (holes_with 0 0 6)
unfolding open_count cnt bit_of
no-hole e = rw e (record { count = refl; most = omega arith; whole = λ z. refl; holed = λ z. absurd (z refl) })

holes-made : (mask lead each count : ℕ) → count ≡ open_count mask → count ≤ 6 → Holed mask lead each → HolesOf mask (holes_with lead each count)
holes-made mask lead each count e l h = record { count = e; most = l; whole = λ z. absurd (omega (arith, h.some)); holed = λ z. h }

pub holes-two :
    (form lead : ℕ) → lead ≤ 2 → Opens form 4 (between lead 2) → {mask : ℕ} {r : Holes} → mask ≡ form → r ≡ holes_with lead 2 4 → HolesOf mask r
holes-two form lead few test e is =
    rw (e, is) (holes-made form lead 2 4 (sym (opens-count form 4 (between lead 2) test)) (omega arith) (two-holes form lead few test))

pub holes-one :
    (form lead : ℕ) → lead ≤ 5 → Opens form 5 (between lead 5) → {mask : ℕ} {r : Holes} → mask ≡ form → r ≡ holes_with lead 5 5 → HolesOf mask r
holes-one form lead few test e is =
    rw (e, is) (holes-made form lead 5 5 (sym (opens-count form 5 (between lead 5) test)) (omega arith) (one-hole form lead few test))

pub single-last :
    {mask : ℕ} → SingleForm mask → (mask ≡ 63 → ⊥) → (mask ≡ 27 → ⊥) → (mask ≡ 54 → ⊥) → (mask ≡ 45 → ⊥) → (mask ≡ 62 → ⊥) → (mask ≡ 61 → ⊥)
    → (mask ≡ 59 → ⊥) → (mask ≡ 55 → ⊥) → (mask ≡ 47 → ⊥) → mask ≡ 31
single-last (paired all-six) a b c d e f g h i = absurd (a refl)
single-last (paired pairs-left) a b c d e f g h i = absurd (b refl)
single-last (paired pairs-right) a b c d e f g h i = absurd (c refl)
single-last (paired pairs-apart) a b c d e f g h i = absurd (d refl)
single-last hole-0 a b c d e f g h i = absurd (e refl)
single-last hole-1 a b c d e f g h i = absurd (f refl)
single-last hole-2 a b c d e f g h i = absurd (g refl)
single-last hole-3 a b c d e f g h i = absurd (h refl)
single-last hole-4 a b c d e f g h i = absurd (i refl)
single-last hole-5 a b c d e f g h i = refl

pub single-small : {mask : ℕ} → SingleForm mask → mask < 64
single-small (paired all-six) = omega arith
single-small (paired pairs-left) = omega arith
single-small (paired pairs-right) = omega arith
single-small (paired pairs-apart) = omega arith
single-small hole-0 = omega arith
single-small hole-1 = omega arith
single-small hole-2 = omega arith
single-small hole-3 = omega arith
single-small hole-4 = omega arith
single-small hole-5 = omega arith
