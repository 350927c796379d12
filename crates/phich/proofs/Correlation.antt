-- Products of pairs and totals are additive, and a sign comes out of them. Assumes nothing.
use Rattle.std.proofs.Common.{◌≡◌, ℕ, zero, suc, ◌<◌, ℤ, pos, ◌+ℤ◌, sym, refl, ap, ◌∙◌, ap₂, arith}
use Rattle.base.specs.declared.Pair.{Pair}
use Rattle.base.specs.Signs.{flip, by}
use Rattle.base.specs.Pairs.{nil, plus, flipped}
use Rattle.base.proofs.Pairs.{flipped-back}
use Rattle.base.proofs.Signs.{by-add, by_zero, by-flip, by-flipped, flip-add, flip-zero, four}
use Rattle.phich.specs.Recovery.{dot, total}

-- ---- products
pub dot-plus : (s p q : Pair) → dot s (plus p q) ≡ dot s p +ℤ dot s q
dot-plus s p q =
    ap₂ (λ (x y : ℤ). x +ℤ y) (by-add s.re p.re q.re) (by-add s.im p.im q.im)
    ∙ four (by s.re p.re) (by s.re q.re) (by s.im p.im) (by s.im q.im)

pub dot-nil : (s : Pair) → dot s nil ≡ pos 0
dot-nil s = ap₂ (λ (x y : ℤ). x +ℤ y) (by_zero s.re) (by_zero s.im)

pub dot-flip : (b : ℕ) (s p : Pair) → dot s (flipped b p) ≡ flip b (dot s p)
dot-flip b s p =
    ap₂ (λ (x y : ℤ). x +ℤ y) (by-flip b s.re p.re) (by-flip b s.im p.im)
    ∙ sym (flip-add b (by s.re p.re) (by s.im p.im))

-- both flipped
pub dot-flipped : (b : ℕ) (s p : Pair) → dot (flipped b s) (flipped b p) ≡ dot s p
dot-flipped b s p = ap₂ (λ (x y : ℤ). x +ℤ y) (by-flipped b s.re p.re) (by-flipped b s.im p.im)

-- the first one flipped
pub flipped-dot : (b : ℕ) (s p : Pair) → dot (flipped b s) p ≡ flip b (dot s p)
flipped-dot b s p = ap (dot (flipped b s)) (sym (flipped-back b p)) ∙ dot-flipped b s (flipped b p) ∙ dot-flip b s p

-- ---- totals
pub total-same : (n : ℕ) (f g : ℕ → ℤ) → ((i : ℕ) → i < n → f i ≡ g i) → total n f ≡ total n g
unfolding total
total-same zero f g h = refl
total-same (suc n) f g h = ap₂ (λ (x y : ℤ). x +ℤ y) (total-same n f g (λ i l. h i (omega arith))) (h n (omega arith))

pub total-add : (n : ℕ) (f g : ℕ → ℤ) → total n (λ i. f i +ℤ g i) ≡ total n f +ℤ total n g
unfolding total
total-add zero f g = refl
total-add (suc n) f g = ap (λ (x : ℤ). x +ℤ (f n +ℤ g n)) (total-add n f g) ∙ four (total n f) (total n g) (f n) (g n)

pub total-flip : (n b : ℕ) (f : ℕ → ℤ) → total n (λ i. flip b (f i)) ≡ flip b (total n f)
unfolding total
total-flip zero b f = sym (flip-zero b)
total-flip (suc n) b f = ap (λ (x : ℤ). x +ℤ flip b (f n)) (total-flip n b f) ∙ sym (flip-add b (total n f) (f n))

pub total-zero : (n : ℕ) → total n (λ i. pos 0) ≡ pos 0
unfolding total
total-zero zero = refl
total-zero (suc n) = ap (λ (x : ℤ). x +ℤ pos 0) (total-zero n)
