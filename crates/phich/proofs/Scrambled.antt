-- Scrambling distributes over sums: the twelve sums of a unit are those of one quad, each flipped by the scrambling bit of its place, which is the
-- same for both groups of a unit. So they come from the bytes of the unit's quad. Assumes nothing.
use Rattle.std.proofs.Common.{◌≡◌, ℕ, suc, ◌+◌, ◌-◌, ◌*◌, ◌/◌, ◌%◌, ◌<◌, Bool, true, false, cond, ◌&&◌, eqb, ltb, leb}
use Rattle.std.proofs.Common.{List, [], ◌∷◌, length, get_or, take, drop, sym, ap, ◌∙◌, subst, ap₂, mod-lt, arith, length-drop, length-take-le, get_or-drop, get_or-take}
use Rattle.base.specs.declared.Pair.{Pair}
use Rattle.base.specs.Bytes.{signed_of}
use Rattle.base.specs.Pairs.{nil, plus, flipped, Small}
use Rattle.base.proofs.Pairs.{pair-of, flipped-nil}
use Rattle.base.proofs.Signs.{flip-add}
use Rattle.plan.specs.declared.Hi.{Hi}
use Rattle.phich.specs.His.{Distinct}
use Rattle.phich.specs.Spreading.{Length, sign_at, plain_chip}
use Rattle.phich.specs.Units.{mapping_unit, first_place, part_at, added_at, sum_at, mapping_unit_sums, Within}
use Rattle.phich.specs.Loops.{chip_of, unscrambled, residue, quad_sum, QuadSums, levels_at, Levels, scrambled_sums}
use Rattle.phich.proofs.Chips.{table-agree}
use Rattle.phich.proofs.Few.{few}
use Rattle.phich.proofs.Lengths.{chip-lt}
use Rattle.phich.proofs.Parts.{wave_at, part-wave}
use Rattle.phich.proofs.Residues.{residue-back}
use Rattle.phich.proofs.Units.{sum-small, agreed}

flipped-plus : (b : ℕ) (p q : Pair) → flipped b (plus p q) ≡ plus (flipped b p) (flipped b q)
flipped-plus b p q = pair-of (flip-add b p.re q.re) (flip-add b p.im q.im)

module _ (l : ℕ) (ok : Length l) (c : ℕ → ℕ) where
  -- the wave is that of the place's place in its quad
  same-wave : (f q i : ℕ) → wave_at l f q i ≡ wave_at l f q (i % 4)
  unfolding wave_at
  same-wave f q i =
      let e : i % 4 ≡ i % 4 % 4 = omega arith in
      ap (λ (t : ℕ). cond (leb f t && ltb t (f + l)) (plain_chip (sign_at l q (t - f))) nil) e

  part-flipped : (h : Hi) (b i : ℕ) → part_at l c h b i ≡ flipped (c (chip_of l i)) (part_at l unscrambled h b (i % 4))
  part-flipped h b i =
      part-wave l ok c h b i
      ∙ ap (λ (p : Pair). flipped (c (chip_of l i)) (flipped b p)) (same-wave (first_place l h) h.sequence i)
      ∙ ap (flipped (c (chip_of l i))) (sym (part-wave l ok unscrambled h b (i % 4)))

  added-flipped : (m : ℕ) (h : Hi) (b i : ℕ) → added_at l c m h b i ≡ flipped (c (chip_of l i)) (added_at l unscrambled m h b (i % 4))
  unfolding added_at
  added-flipped m h b i = pick (eqb (mapping_unit l h) m)
    where
      pick : (t : Bool) → cond t (part_at l c h b i) nil ≡ flipped (c (chip_of l i)) (cond t (part_at l unscrambled h b (i % 4)) nil)
      pick true = part-flipped h b i
      pick false = sym (flipped-nil (c (chip_of l i)))

  -- THE LAW
  sum-flipped : (m : ℕ) (bit : ℕ → ℕ) (i : ℕ) (hs : List Hi) (k : ℕ) → sum_at l c m bit i hs k ≡ flipped (c (chip_of l i)) (sum_at l unscrambled m bit (i % 4) hs k)
  unfolding sum_at
  sum-flipped m bit i [] k = sym (flipped-nil (c (chip_of l i)))
  sum-flipped m bit i (h ∷ hs) k =
      ap₂ plus (added-flipped m h (bit k) i) (sum-flipped m bit i hs (suc k))
      ∙ sym (flipped-plus (c (chip_of l i)) (added_at l unscrambled m h (bit k) (i % 4)) (sum_at l unscrambled m bit (i % 4) hs (suc k)))

-- ---- the eight bytes of unit m
pub part-is : (m : ℕ) (s : List ℕ) → take (8 * m + 8 - 8 * m) (drop (8 * m) s) ≡ take 8 (drop (8 * m) s)
part-is m s = let e : 8 * m + 8 - 8 * m ≡ 8 = omega arith in ap (λ (n : ℕ). take n (drop (8 * m) s)) e

module _ {l : ℕ} {bit : ℕ → ℕ} {hs : List Hi} {s : List ℕ} (q : QuadSums l bit hs s) (ok : Length l) (w : Within l hs) (d : Distinct hs) (m : ℕ) (in-m : m < 25) where
  abbrev part : List ℕ
  part = take 8 (drop (8 * m) s)

  byte_at : (j : ℕ) → j < 8 → get_or part j 0 ≡ get_or s (8 * m + j) 0
  byte_at j r = get_or-take 8 (drop (8 * m) s) j 0 r ∙ get_or-drop (8 * m) s j 0

  eight : (n : ℕ) → Small 8 (sum_at l unscrambled m bit n hs 0)
  eight n = let t = sum-small l unscrambled m n bit hs 0 in let f = few l ok m hs w d in (omega (arith, t.0, f), omega (arith, t.1, f))

  quad_is : (i : ℕ) → i < 4 → quad_sum l bit hs (4 * m + i) ≡ sum_at l unscrambled m bit i hs 0
  unfolding quad_sum
  quad_is i r =
      let u : (4 * m + i) / 4 ≡ m = omega arith in
      let v : (4 * m + i) % 4 ≡ i = omega arith in
      ap₂ (λ (x y : ℕ). sum_at l unscrambled x bit y hs 0) u v

  levels-are : (i : ℕ) → i < 4 → levels_at part i ≡ sum_at l unscrambled m bit i hs 0
  levels-are i r =
      let h = q.sums (4 * m + i) (omega arith) in
      let e : 8 * m + 2 * i ≡ 2 * (4 * m + i) = omega arith in
      let o : 8 * m + (2 * i + 1) ≡ 2 * (4 * m + i) + 1 = omega arith in
      let t = eight i in
      let is = quad_is i r in
      pair-of
      (ap signed_of (byte_at (2 * i) (omega arith) ∙ ap (λ (k : ℕ). get_or s k 0) e ∙ h.re ∙ ap (λ (p : Pair). residue p.re) is) ∙ residue-back _ (omega (arith, t.0)))
      (ap signed_of (byte_at (2 * i + 1) (omega arith) ∙ ap (λ (k : ℕ). get_or s k 0) o ∙ h.im ∙ ap (λ (p : Pair). residue p.im) is) ∙ residue-back _ (omega (arith, t.1)))

  pub unit-levels : Levels 8 part
  unit-levels =
      record {
        size = length-take-le 8 (drop (8 * m) s) (omega (arith, length-drop (8 * m) s, q.size));
        small = λ i r. subst (λ (p : Pair). Small 8 p) (sym (levels-are i r)) (eight i);
      }

  -- THE LAW: the sums that the bytes give are those of the unit
  pub unit-scrambled : (c : ℕ → ℕ) → scrambled_sums l c part ≡ mapping_unit_sums l c m bit hs
  unfolding scrambled_sums mapping_unit_sums
  unit-scrambled c =
      table-agree nil 12 _ _ (λ i r.
      ap (flipped (c (chip_of l i))) (levels-are (i % 4) (omega arith)) ∙ sym (sum-flipped l ok c m bit i hs 0))

-- ---- the same bits make the same sums
pub quads-same : {l : ℕ} {bit bit' : ℕ → ℕ} {hs : List Hi} {s : List ℕ} → ((n : ℕ) → n < length hs → bit n ≡ bit' n) → QuadSums l bit hs s → QuadSums l bit' hs s
unfolding quad_sum
quads-same {l = l} {bit = bit} {bit' = bit'} {hs = hs} same q =
    record {
      size = q.size;
      sums = λ y r.
          rw (← agreed l unscrambled (y / 4) bit bit' (y % 4) hs 0 (λ n k u. let z : 0 + n ≡ n = omega arith in rw z (same n k))) (q.sums y r);
    }

-- ---- from a word's bits to the sequence they are of
pub scrambled-chips : (l : ℕ) → Length l → (c c' : ℕ → ℕ) → ((e : ℕ) → e < 12 → c e ≡ c' e) → (part : List ℕ) → scrambled_sums l c part ≡ scrambled_sums l c' part
unfolding scrambled_sums
scrambled-chips l ok c c' same part =
    table-agree nil 12 _ _ (λ i r. ap (λ (x : ℕ). flipped x (levels_at part (i % 4))) (same (chip_of l i) (chip-lt l ok i (i % 4 % l) r (mod-lt (i % 4) ok.0))))
