-- Used before: the tables of pairs, RNTIs and blocks, from the first HI or USER to the next. Assumes nothing.
use Prim.Native.Nat.{ℕ, zero, suc, ◌/◌, ◌≤◌, ◌<◌}
use mathlib.Core.Path.{◌≡◌, refl, sym, ap, ◌∙◌}
use mathlib.Core.Bool.{Bool, true, false, not, ◌&&◌, ◌||◌, or_assoc}
use mathlib.Core.List.{List, [], ◌∷◌, ◌++◌}
use native.Mathlib.Nat.{not-suc-le-zero, le_of_suc-le-suc}
use native.Mathlib.Omega.{arith}
use lib.Dec.{eqb}
use lib.ListN.{length, get_or, set, replicate}
use borrow.Author.Tests.{eq-eqb, ne_eqb, eqb-true}
use Rattle.base.proofs.Tests.{both, same_test}
use Rattle.bitset.specs.Sets.{member, added, meet, joined}
use Rattle.bitset.proofs.Sets.{in-none, in-added, run_fits, meet-joined, meet-runs}
use Rattle.plan.specs.Lists.{one_of, none_of}
use Rattle.plan.specs.Fields.{same_pair}
use Rattle.plan.specs.Finding.{same_rnti, shares_block}
use Rattle.plan.specs.Loops.{UsedBefore, pair_of, PairsUsed, blocks_of, UsersUsed}
use Rattle.plan.specs.Valid.{CellIn, HiIn, UserIn}
use Rattle.plan.specs.declared.Cell.{Cell}
use Rattle.plan.specs.declared.Hi.{Hi}
use Rattle.plan.specs.declared.User.{User}
use Rattle.plan.proofs.Listed.{and_left, and_right, none-snoc}
use Rattle.plan.proofs.Counts.{blocks-most, groups-most, sequences-most}

-- ---- THE ONE LAW: nothing is used before the first; one more, x, uses what it asks for
module _ {Q A : Type 0} {D : Q → Type 0} {asks : Q → A → Bool} where
  used-none : (used : Q → Bool) → ((q : Q) → D q → used q ≡ false) → UsedBefore D asks used []
  unfolding none_of
  used-none used h = record { at = λ q d. sym (ap not (h q d)) }

  used-more : {used : Q → Bool} {xs : List A} → UsedBefore D asks used xs → (x : A) (now : Q → Bool) →
      ((q : Q) → D q → now q ≡ used q || asks q x) → UsedBefore D asks now (xs ++ (x ∷ []))
  used-more {used} {xs} s x now h =
      record {
        at = λ q d. none-snoc (asks q) xs x ∙ ap (λ (t : Bool). t && not (asks q x)) (s.at q d) ∙ neither (used q) (asks q x) ∙ ap not (sym (h q d));
      }
    where
      neither : (a b : Bool) → not a && not b ≡ not (a || b)
      neither true b = refl
      neither false b = refl

pub zeros : (k i : ℕ) → ◌≡◌ {A = ℕ} (get_or (replicate k 0) i 0) 0
zeros zero i = refl
zeros (suc k) zero = refl
zeros (suc k) (suc i) = zeros k i

-- ---- pairs
module _ (c : Cell) (ci : CellIn c) (h : Hi) (i : HiIn c h) where
  pub pair-word : pair_of h / 64 < 7
  pair-word = omega (arith, i.group, i.sequence, groups-most c ci, sequences-most c ci)

  same_numbers : (e : Hi) → HiIn c e → eqb (pair_of e) (pair_of h) ≡ same_pair e h
  unfolding same_pair
  same_numbers e j =
      let a : h.sequence < 8 = omega (arith, i.sequence, sequences-most c ci) in
      let b : e.sequence < 8 = omega (arith, j.sequence, sequences-most c ci) in
      same_test _ _
      (λ t.
      let p : pair_of e ≡ pair_of h = eqb-true (pair_of e) (pair_of h) t in
      both (eq-eqb e.group h.group (omega arith)) (eq-eqb e.sequence h.sequence (omega arith)))
      (λ t.
      let g : e.group ≡ h.group = eqb-true _ _ (and_left _ _ t) in
      let s : e.sequence ≡ h.sequence = eqb-true _ _ (and_right (eqb e.group h.group) _ t) in
      eq-eqb (pair_of e) (pair_of h) (omega arith))

  pub pairs-more : (pairs : List ℕ) {hs : List Hi} → length pairs ≡ 7 → PairsUsed c pairs hs → PairsUsed c (added pairs (pair_of h)) (hs ++ (h ∷ []))
  pairs-more pairs n s =
      used-more s h (λ (e : Hi). member (added pairs (pair_of h)) (pair_of e))
      (λ e j. in-added pairs (pair_of h) (pair_of e) (omega (arith, pair-word)) ∙ ap (λ (t : Bool). member pairs (pair_of e) || t) (same_numbers e j))

pub pairs-none : (c : Cell) → PairsUsed c (replicate 7 0) []
pairs-none c = used-none (λ (h : Hi). member (replicate 7 0) (pair_of h)) (λ h i. in-none (replicate 7 0) (zeros 7) (pair_of h))

-- ---- RNTIs: a place that no user has taken holds 0, which is no RNTI
no-rnti : (k n : ℕ) → 1 ≤ n → one_of n (replicate k 0) ≡ false
unfolding one_of
no-rnti zero n h = refl
no-rnti (suc k) n h = rw (ne_eqb n 0 (λ z. omega arith)) (no-rnti k n h)

set_free : (l : List ℕ) (i r n : ℕ) → 1 ≤ n → i < length l → get_or l i 0 ≡ 0 → one_of n (set l i r) ≡ one_of n l || eqb n r
unfolding one_of
set_free [] i r n h l e = absurd (not-suc-le-zero l)
set_free (x ∷ xs) zero r n h l e = rw (e, ne_eqb n 0 (λ z. omega arith)) (swap (eqb n r) (one_of n xs))
  where
    swap : (a b : Bool) → a || b ≡ b || a
    swap true true = refl
    swap true false = refl
    swap false true = refl
    swap false false = refl
set_free (x ∷ xs) (suc i) r n h l e = rw (set_free xs i r n h (le_of_suc-le-suc l) e) (sym (or_assoc (eqb n x) (one_of n xs) (eqb n r)))

-- ---- users
pub users-none : (c : Cell) → UsersUsed c (replicate 104 0) (replicate 2 0) []
users-none c =
    record {
      of-rntis = used-none (λ (u : User). one_of u.rnti (replicate 104 0)) (λ u i. no-rnti 104 u.rnti i.rnti);
      of_blocks = used-none (λ (u : User). meet (replicate 2 0) (blocks_of u)) (λ u i. refl);
    }

module _ (c : Cell) (ci : CellIn c) (u : User) (i : UserIn c u) (rntis blocks : List ℕ) {us : List User} where
  pub users-more : UsersUsed c rntis blocks us → (m : ℕ) → m < length rntis → get_or rntis m 0 ≡ 0 →
      UsersUsed c (set rntis m u.rnti) (joined blocks (blocks_of u)) (us ++ (u ∷ []))
  unfolding same_rnti shares_block
  users-more s m l free =
      record {
        of-rntis =
            used-more s.of-rntis u (λ (v : User). one_of v.rnti (set rntis m u.rnti))
            (λ v j. set_free rntis m u.rnti v.rnti j.rnti l free);
        of_blocks =
            used-more s.of_blocks u (λ (v : User). meet (joined blocks (blocks_of u)) (blocks_of v))
            (λ v j.
            meet-joined blocks (blocks_of u) (blocks_of v) (run_fits v.first v.count)
            ∙ ap (λ (t : Bool). meet blocks (blocks_of v) || t)
            (meet-runs v.first v.count u.first u.count j.some (omega (arith, j.last, blocks-most c ci)) i.some));
      }
