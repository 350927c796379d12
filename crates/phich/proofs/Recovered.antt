-- THE LAW OF SPREADING, for both lengths: the sums of a unit, along one of its HIs, are that HI's bit as a sign times 2 l.
-- Assumes nothing.
use Rattle.std.proofs.Common.{◌≡◌, ℕ, zero, suc, ◌+◌, ◌*◌, ◌<◌, ◌≤◌, List, [], ◌∷◌, length, ℤ, pos, ◌+ℤ◌, sym, refl, ap, ◌∙◌, subst, ap₂, le_of_suc-le-suc, not-suc-le-zero, add-zero, arith}
use lib.IntN.{+ℤ_idl, +ℤ_idr}
use Rattle.base.specs.Signs.{flip, below}
use Rattle.base.proofs.Signs.{flip-zero}
use Rattle.plan.specs.declared.Hi.{Hi}
use Rattle.phich.specs.His.{hi_number, Fresh, Distinct}
use Rattle.phich.specs.Spreading.{Length}
use Rattle.phich.specs.Units.{mapping_unit, sum_at, Within}
use Rattle.phich.specs.Recovery.{along}
use Rattle.phich.proofs.Along.{along-nil, along-sum, apart, square}

-- ---- g is HI number n of hs, whose first is number k
pub data Stands : List Hi → ℕ → Hi → ℕ → Type 0 where
  here : {h : Hi} {hs : List Hi} {k : ℕ} → Stands (h ∷ hs) k h k
  later : {x g : Hi} {hs : List Hi} {k n : ℕ} → Stands hs (suc k) g n → Stands (x ∷ hs) k g n

pub stands : (hs : List Hi) (k n : ℕ) → n < length hs → Stands hs k (hi_number hs n) (k + n)
stands [] k n h = absurd (not-suc-le-zero h)
stands (g ∷ hs) k zero h = rw add-zero here
stands (g ∷ hs) k (suc n) h =
    let e : suc k + n ≡ k + suc n = omega arith in
    later (subst (λ (i : ℕ). Stands hs (suc k) (hi_number hs n) i) e (stands hs (suc k) n (le_of_suc-le-suc h)))

fresh-apart : {hs : List Hi} {k n : ℕ} {g : Hi} (x : Hi) → Fresh x hs → Stands hs k g n → g ≡ x → ⊥
unfolding Fresh
fresh-apart x f here e = f.0 (sym e)
fresh-apart x f (later s) e = fresh-apart x f.1 s e

within-at : {hs : List Hi} {k n : ℕ} {g : Hi} (l : ℕ) → Within l hs → Stands hs k g n → g.sequence < 2 * l
unfolding Within
within-at l w here = w.0
within-at l w (later s) = within-at l w.1 s

module _ (l : ℕ) (ok : Length l) (c : ℕ → ℕ) where
  -- no HI of the list is g: nothing along g
  none-along : (g : Hi) (wg : g.sequence < 2 * l) (bit : ℕ → ℕ) (hs : List Hi) (k : ℕ) → Within l hs → Fresh g hs → along l c g (λ i. sum_at l c (mapping_unit l g) bit i hs k) ≡ pos 0
  unfolding Within Fresh sum_at
  none-along g wg bit [] k w f = along-nil l c g
  none-along g wg bit (h ∷ hs) k w f =
      along-sum l c g (mapping_unit l g) bit h hs k
      ∙ ap₂ (λ (x y : ℤ). flip (bit k) x +ℤ y) (apart l ok c g h wg w.0 f.0) (none-along g wg bit hs (suc k) w.1 f.1)
      ∙ ap (λ (x : ℤ). x +ℤ pos 0) (flip-zero (bit k))

  -- g is number n: its bit, times the square
  one_along : {hs : List Hi} {k n : ℕ} {g : Hi} (bit : ℕ → ℕ) → Within l hs → Distinct hs → Stands hs k g n → along l c g (λ i. sum_at l c (mapping_unit l g) bit i hs k) ≡ flip (bit n) (pos (2 * l))
  unfolding Within Distinct
  one_along {g = g} bit w d (here {hs = hs} {k = k}) =
      along-sum l c g (mapping_unit l g) bit g hs k
      ∙ ap₂ (λ (x y : ℤ). flip (bit k) x +ℤ y) (square l ok c g w.0) (none-along g w.0 bit hs (suc k) w.1 d.0)
      ∙ +ℤ_idr (flip (bit k) (pos (2 * l)))
  one_along {n = n} {g = g} bit w d (later {x = x} {hs = hs} {k = k} s) =
      along-sum l c g (mapping_unit l g) bit x hs k
      ∙ ap₂ (λ (x y : ℤ). flip (bit k) x +ℤ y) (apart l ok c g x (within-at l w.1 s) w.0 (fresh-apart x d.0 s)) (one_along bit w.1 d.1 s)
      ∙ ap (λ (x : ℤ). x +ℤ flip (bit n) (pos (2 * l))) (flip-zero (bit k))
      ∙ +ℤ_idl (flip (bit n) (pos (2 * l)))

below_flip : (b n : ℕ) → b ≤ 1 → 0 < n → below (flip b (pos n)) ≡ b
below_flip b zero hb hn = absurd (not-suc-le-zero hn)
below_flip zero (suc n) hb hn = refl
below_flip (suc b) (suc n) hb hn = omega arith

-- the law, read as a bit
pub below-along :
    (l : ℕ) (ok : Length l) (c : ℕ → ℕ) (hs : List Hi) (n : ℕ) → Within l hs → Distinct hs → (bit : ℕ → ℕ) → bit n ≤ 1 → n < length hs → below
    (along l c (hi_number hs n) (λ i. sum_at l c (mapping_unit l (hi_number hs n)) bit i hs 0)) ≡ bit n
below-along l ok c hs n w d bit b r =
    let e : 0 + n ≡ n = omega arith in
    ap below (one_along l ok c bit w d (subst (λ (i : ℕ). Stands hs 0 (hi_number hs n) i) e (stands hs 0 n r)))
    ∙ below_flip (bit n) (2 * l) b (omega arith)
