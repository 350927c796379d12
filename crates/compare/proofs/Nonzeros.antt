-- Laws of the bytes that are not 0, counted byte by byte and part by part. Assumes nothing.
use Prim.Native.Nat.{ℕ, zero, suc, ◌+◌, ◌-◌, ◌*◌, ◌≤◌, ◌<◌}
use mathlib.Core.Path.{◌≡◌, refl, sym, ap, ◌∙◌}
use mathlib.Core.List.{List, [], ◌∷◌, ◌++◌}
use Rattle.std.proofs.Common.{add-one}
use native.Mathlib.Nat.{suc-mul}
use native.Mathlib.Omega.{arith}
use lib.ListN.{length, get_or, take, drop, take-append-drop, length-take, drop_of_length-le}
use lib.Seq.{drop-cons, drop-drop}
use Rattle.std.specs.Simd.{first_chunks}
use Rattle.compare.specs.Comparing.{nonzero, nonzeros}
use Rattle.compare.proofs.Comparing.{nonzero-one, nonzero-none, nonzero-le}

marks-append : (a b : List ℕ) → nonzeros (a ++ b) ≡ nonzeros a + nonzeros b
unfolding nonzeros
marks-append [] b = omega arith
marks-append (x ∷ a) b = omega (arith, marks-append a b)

marks-most : (l : List ℕ) → nonzeros l ≤ length l
unfolding nonzeros
marks-most [] = omega arith
marks-most (x ∷ l) = omega (arith, marks-most l, nonzero-le x)

pub part-few : (l : List ℕ) (i e n : ℕ) → e ≤ i + n → length (take (e - i) (drop i l)) ≤ n
part-few l i e n h = omega (arith, length-take (e - i) (drop i l))

-- ---- n bytes that are not 0 before byte i
pub record Count (l : List ℕ) (i n : ℕ) : Type 0 where
  pub inside : i ≤ length l
  pub is : n + nonzeros (drop i l) ≡ nonzeros l

pub count_none : (l : List ℕ) → Count l 0 0
count_none l = record { inside = omega arith; is = omega arith }

module _ {l : List ℕ} {i n : ℕ} (c : Count l i n) where
  -- one byte more
  next-byte : i < length l → nonzeros (drop i l) ≡ nonzero (get_or l i 0) + nonzeros (drop (i + 1) l)
  unfolding nonzeros
  next-byte h = let e : i + 1 ≡ suc i = omega arith in rw (e, drop-cons l i 0 h) refl

  pub count-one : i < length l → (get_or l i 0 ≡ 0 → ⊥) → Count l (i + 1) (n + 1)
  count-one h z = record { inside = omega arith; is = omega (arith, next-byte h, nonzero-one (get_or l i 0) z) }

  pub count-zero : i < length l → get_or l i 0 ≡ 0 → Count l (i + 1) n
  count-zero h z = record { inside = omega arith; is = omega (arith, next-byte h, nonzero-none (get_or l i 0) z) }

  -- the bytes up to e, p by a u8 and w by a usize
  pub count-part : (e : ℕ) {p w : ℕ} → i ≤ e → e ≤ length l → p ≡ nonzeros (take (e - i) (drop i l)) → w ≡ p → Count l e (n + w)
  count-part e {p} {w} h k ep ew =
      let part = take (e - i) (drop i l) in
      let q : i + (e - i) ≡ e = omega arith in
      let s : nonzeros (drop i l) ≡ nonzeros part + nonzeros (drop e l) =
      ap nonzeros (sym (take-append-drop (e - i) (drop i l))) ∙ marks-append part (drop (e - i) (drop i l))
      ∙ ap (λ (d : List ℕ). nonzeros part + nonzeros d) (drop-drop (e - i) i l ∙ ap (λ (k : ℕ). drop k l) q) in
      record { inside = k; is = omega arith }

  -- the rest
  pub count-rest : {r : List ℕ} {p w : ℕ} → r ≡ drop i l → p ≡ nonzeros r → w ≡ p → n + w ≡ nonzeros l
  count-rest e ep ew = omega (arith, c.is, ew, ep ∙ ap nonzeros e)

  pub count-all : length l ≤ i → n ≡ nonzeros l
  unfolding nonzeros
  count-all h = let s : nonzeros (drop i l) ≡ 0 = ap nonzeros (drop_of_length-le l h) in omega (arith, c.is)

  pub count_most : n ≤ length l
  count_most = omega (arith, marks-most l)

-- ---- parts of m bytes
part-at : (m j i : ℕ) (l d : List ℕ) → i < j → get_or (first_chunks m j l) i d ≡ take m (drop (i * m) l)
part-at m zero i l d h = absurd (omega arith)
part-at m (suc j) zero l d h = let e : 0 * m ≡ 0 = omega arith in rw e refl
part-at m (suc j) (suc i) l d h =
    let e : m + i * m ≡ suc i * m = omega (arith, suc-mul i m) in
    part-at m j i (drop m l) d (omega arith) ∙ ap (take m) (drop-drop (i * m) m l ∙ ap (λ (k : ℕ). drop k l) e)

-- one part more
pub count-next :
    (m i : ℕ) {n : ℕ} {l : List ℕ} (j : ℕ) {ps : List (List ℕ)} (d : List ℕ) {p w : ℕ} → Count l (i * m) n → ps ≡ first_chunks m j l → i < j → (i + 1) * m ≤ length l
    → p ≡ nonzeros (get_or ps i d) → w ≡ p → Count l ((i + 1) * m) (n + w)
count-next m i {l = l} j d c es h k ep ew =
    let e : (i + 1) * m - i * m ≡ m = omega (arith, suc-mul i m, ap (λ (x : ℕ). x * m) (add-one i)) in
    count-part c ((i + 1) * m) (omega arith) k
    (ep ∙ ap nonzeros (ap (λ (x : List (List ℕ)). get_or x i d) es ∙ part-at m j i l d h ∙ ap (λ (x : ℕ). take x (drop (i * m) l)) (sym e))) ew
