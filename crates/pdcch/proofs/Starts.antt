-- The groups that start in a block of twelve subcarriers, in the order of 6.8.5: their entries as the code lists them, that there are at most
-- twelve, and that every block has the same. Assumes six blocks to a hundred and one control symbol to four.
use Prim.Native.Nat.{ℕ, suc, ◌+◌, ◌-◌, ◌*◌, ◌/◌, ◌%◌, ◌≤◌, ◌<◌}
use mathlib.Core.Path.{◌≡◌, refl, sym, ap, ◌∙◌}
use mathlib.Core.Bool.{true, false}
use mathlib.Core.List.{List}
use native.Mathlib.Nat.{suc-mul, not-suc-le-zero}
use native.Mathlib.Decide.{dec_le, ℕ_discrete}
use native.Mathlib.Omega.{arith}
use lib.Dec.{eqb, ltb}
use lib.ListN.{length, get_or, set, length-set}
use lib.Seq.{get_or-set_same, get_or-set_other}
use borrow.Author.Tests.{eq-eqb, ne_eqb, le-ltb}
use Rattle.base.specs.Choice.{indicator}
use Rattle.base.specs.Counts.{cnt}
use Rattle.base.proofs.Sums.{sum-most}
use Rattle.base.proofs.Tests.{by-test, clash}
use Rattle.base.proofs.Rows.{at-div, at-mod, row_inside}
use Rattle.base.proofs.Counts.{cnt-none, cnt-own, cnt-not, cnt-same, cnt-skip, cnt-le, cnt-lt}
use Rattle.base.proofs.Columns.{column, count-columns}
use Rattle.plan.specs.Fields.{group_size, symbol_groups}
use Rattle.plan.specs.Valid.{CellIn}
use Rattle.plan.specs.declared.Cell.{Cell}
use Rattle.plan.proofs.Counts.{blocks-least, blocks-most}
use Rattle.layout.specs.Rules.{element_group}
use Rattle.layout.specs.Owners.{carriers}
use Rattle.layout.proofs.GroupShape.{by_size, else-six, group-below}
use Rattle.places.specs.Places.{place_number}
use Rattle.places.specs.Quads.{quad_place}
use Rattle.places.proofs.Quads.{place-below}
use Rattle.pdcch.specs.Groups.{entry_of}
use Rattle.pdcch.specs.Walk.{starts_at, entry_at, start_list, start_count, StartsTo}

-- ---- an entry, as the code works it out: x is the number of the group's first place
module _ (c : Cell) (s t : ℕ) {x z : ℕ} (ez : z ≡ group_size c s) (ex : x ≡ place_number c s (quad_place c s t 0)) where
  pub entry-of-four : z ≡ 4 → 2 * x + 1 ≡ entry_of c s t
  unfolding entry_of
  entry-of-four e = rw (eq-eqb (group_size c s) 4 (sym ez ∙ e)) (omega arith)

  pub entry-of-six : (z ≡ 4 → ⊥) → 2 * x ≡ entry_of c s t
  unfolding entry_of
  entry-of-six n = rw (ne_eqb (group_size c s) 4 (λ d. n (ez ∙ d))) (omega arith)

pub place-few : (c : Cell) → CellIn c → (s t : ℕ) → s < 4 → t < symbol_groups c s → place_number c s (quad_place c s t 0) < 4800
place-few c ok s t l in-t =
    omega (arith, row_inside s 4 (carriers c) (suc (quad_place c s t 0)) l (place-below c s t in-t 0 (omega arith)), blocks-most c ok)

-- ---- group k / z of symbol s, where k is a subcarrier of block 0
module _ (c : Cell) (ok : CellIn c) (k s : ℕ) (in-k : k < 12) {z : ℕ} (ez : z ≡ group_size c s) where
  block-group : k / group_size c s < symbol_groups c s
  unfolding element_group
  block-group = group-below c s k (omega (arith, blocks-least c ok))

  pub group-of-four : z ≡ 4 → k / 4 < symbol_groups c s
  group-of-four e = omega (arith, block-group, ap (λ (y : ℕ). k / y) (sym ez ∙ e))

  pub group-of-six : (z ≡ 4 → ⊥) → k / 6 < symbol_groups c s
  group-of-six n = omega (arith, block-group, ap (λ (y : ℕ). k / y) (else-six c s (λ d. n (ez ∙ d))))

-- ---- what a turn of the code gives
module _ (c : Cell) (k s n : ℕ) (starts : List ℕ) where
  abbrev Gives : ℕ → List ℕ → Type 0
  Gives m list = (m ≡ start_count c k s n) × (list ≡ start_list c k s n starts)

  none-by : (k % group_size c s ≡ 0 → ⊥) → Gives n starts
  unfolding start_count start_list
  none-by d = rw (ne_eqb (k % group_size c s) 0 d) (refl, refl)

  one-by : k % group_size c s ≡ 0 → {v : ℕ} → v ≡ entry_of c s (k / group_size c s) → Gives (n + 1) (set starts n v)
  unfolding start_count start_list
  one-by d ev = rw (eq-eqb (k % group_size c s) 0 d) (refl, ap (set starts n) ev)

  module _ {z : ℕ} (ez : z ≡ group_size c s) where
    pub none_of_four : z ≡ 4 → (k % 4 ≡ 0 → ⊥) → Gives n starts
    none_of_four e d = none-by (λ h. d (ap (λ (y : ℕ). k % y) (sym (sym ez ∙ e)) ∙ h))

    pub one-of-four : z ≡ 4 → k % 4 ≡ 0 → {x : ℕ} → x ≡ place_number c s (quad_place c s (k / 4) 0) → Gives (n + 1) (set starts n (2 * x + 1))
    one-of-four e d ex =
        let y : group_size c s ≡ 4 = sym ez ∙ e in
        one-by (ap (λ (w : ℕ). k % w) y ∙ d) (entry-of-four c s (k / 4) ez ex e ∙ ap (λ (w : ℕ). entry_of c s (k / w)) (sym y))

    pub none-of-six : (z ≡ 4 → ⊥) → (k % 6 ≡ 0 → ⊥) → Gives n starts
    none-of-six e d = none-by (λ h. d (ap (λ (y : ℕ). k % y) (sym (else-six c s (λ w. e (ez ∙ w)))) ∙ h))

    pub one-of-six : (z ≡ 4 → ⊥) → k % 6 ≡ 0 → {x : ℕ} → x ≡ place_number c s (quad_place c s (k / 6) 0) → Gives (n + 1) (set starts n (2 * x))
    one-of-six e d ex =
        let y : group_size c s ≡ 6 = else-six c s (λ w. e (ez ∙ w)) in
        one-by (ap (λ (w : ℕ). k % w) y ∙ d) (entry-of-six c s (k / 6) ez ex e ∙ ap (λ (w : ℕ). entry_of c s (k / w)) (sym y))

-- ---- the list of those that start below x
module _ (c : Cell) (L : ℕ) where
  at-start : (k s : ℕ) → s < L → starts_at c L (k * L + s) ≡ eqb (k % group_size c s) 0
  unfolding starts_at
  at-start k s h = rw (at-mod k L s h, at-div k L s h) refl

  at_entry : (k s : ℕ) → s < L → entry_at c L (k * L + s) ≡ entry_of c s (k / group_size c s)
  unfolding entry_at
  at_entry k s h = rw (at-mod k L s h, at-div k L s h) refl

  pub starts_none : {x : ℕ} {starts : List ℕ} → x ≡ 0 → length starts ≡ 16 → StartsTo c L x 0 starts
  starts_none e size =
      record {
        size = size;
        count = sym (ap (cnt (starts_at c L)) e ∙ cnt-none (starts_at c L));
        entry = λ y l s. absurd (not-suc-le-zero (rw e at l));
      }

  module _ (x n : ℕ) (starts : List ℕ) (k : StartsTo c L x n starts) where
    last_or : (P : ℕ → Type 0) → ((y : ℕ) → y < x → P y) → P x → (y : ℕ) → y < x + 1 → P y
    last_or P p q y l = go (ℕ_discrete y x)
      where
        go : Dec (y ≡ x) → P y
        go (yes e) = rw e q
        go (no d) = p y (omega arith)

    -- none starts at x
    starts-same : starts_at c L x ≡ false → StartsTo c L (x + 1) n starts
    starts-same e =
        let z : suc x ≡ x + 1 = omega arith in
        record {
          size = k.size;
          count = k.count ∙ sym (sym (ap (cnt (starts_at c L)) z) ∙ cnt-not (starts_at c L) x e);
          entry = last_or (λ (y : ℕ). starts_at c L y ≡ true → get_or starts (cnt (starts_at c L) y) 0 ≡ entry_at c L y) k.entry (λ s. clash s e);
        }

    -- one does
    starts-one : starts_at c L x ≡ true → n < 16 → {v : ℕ} → v ≡ entry_at c L x → StartsTo c L (x + 1) (n + 1) (set starts n v)
    starts-one e l {v = v} ev =
        let z : suc x ≡ x + 1 = omega arith in
        let w : length (set starts n v) ≡ length starts = simp length-set in
        record {
          size = w ∙ k.size;
          count = omega (arith, k.count, sym (ap (cnt (starts_at c L)) z) ∙ cnt-own (starts_at c L) x e);
          entry = last_or (λ (y : ℕ). starts_at c L y ≡ true → get_or (set starts n v) (cnt (starts_at c L) y) 0 ≡ entry_at c L y)
              (λ y a s. get_or-set_other starts n (cnt (starts_at c L) y) v 0 (λ d. before y a s d) ∙ k.entry y a s)
              (λ s. ap (λ (j : ℕ). get_or (set starts n v) j 0) (sym k.count) ∙ get_or-set_same starts n v 0 (omega (arith, k.size)) ∙ ev);
        }
      where
        before : (y : ℕ) → y < x → starts_at c L y ≡ true → cnt (starts_at c L) y ≡ n → ⊥
        before y a s d = omega (arith, cnt-lt (starts_at c L) y x s a, k.count)

  pub starts-next :
      (k s n : ℕ) (starts : List ℕ) → s < L → n < 16 → StartsTo c L (k * L + s) n starts
      → {m : ℕ} {list : List ℕ} → m ≡ start_count c k s n → list ≡ start_list c k s n starts → StartsTo c L (k * L + s + 1) m list
  unfolding start_count start_list
  starts-next k s n starts l few h em el =
      by-test (eqb (k % group_size c s) 0)
      (λ t.
      let one = starts-one (k * L + s) n starts h (at-start k s l ∙ t) few {v = entry_of c s (k / group_size c s)} (sym (at_entry k s l)) in
      rw (rw t at em, rw t at el) one)
      (λ t. rw (rw t at em, rw t at el) (starts-same (k * L + s) n starts h (at-start k s l ∙ t)))

  -- no group starts at an odd subcarrier
  odd-none : (k : ℕ) → k % 2 ≡ 1 → (y : ℕ) → k * L ≤ y → y < k * L + L → starts_at c L y ≡ false
  odd-none k o y a b =
      let e : k * L + (y - k * L) ≡ y = omega arith in
      let l : y - k * L < L = omega arith in
      ap (starts_at c L) (sym e) ∙ at-start k (y - k * L) l
      ∙ ne_eqb (k % group_size c (y - k * L)) 0 (by_size (λ (z : ℕ). k % z ≡ 0 → ⊥) c (y - k * L) (λ d. omega arith) (λ d. omega arith))

  starts-skip : (k n : ℕ) (starts : List ℕ) → k % 2 ≡ 1 → StartsTo c L (k * L) n starts → StartsTo c L (k * L + L) n starts
  starts-skip k n starts o h =
      record {
        size = h.size;
        count = h.count ∙ sym (cnt-skip (starts_at c L) (k * L) L (odd-none k o));
        entry = λ y l s. go (dec_le (suc y) (k * L)) l s;
      }
    where
      go : {y : ℕ} → Dec (suc y ≤ k * L) → y < k * L + L → starts_at c L y ≡ true → get_or starts (cnt (starts_at c L) y) 0 ≡ entry_at c L y
      go {y} (yes a) l s = h.entry y a s
      go {y} (no a) l s = clash s (odd-none k o y (omega arith) l)

module _ (c : Cell) (L : ℕ) where
  row_on : (k : ℕ) → k * L + L ≡ (k + 1) * L
  row_on k = let z : suc k ≡ k + 1 = omega arith in omega (arith, suc-mul k L, ap (λ (x : ℕ). x * L) z)

  -- at most three a symbol
  in-symbol : (s : ℕ) → s < L → cnt (column (starts_at c L) L s) 12 ≤ 3
  unfolding cnt
  in-symbol s l =
      let e : cnt (column (starts_at c L) L s) 12 ≡ cnt (λ (k : ℕ). eqb (k % group_size c s) 0) 12 =
      cnt-same (column (starts_at c L) L s) (λ (k : ℕ). eqb (k % group_size c s) 0) 12 (λ k h. at-start c L k s l) in
      let m : cnt (λ (k : ℕ). eqb (k % group_size c s) 0) 12 ≤ 3 = by_size (λ (z : ℕ). cnt (λ (k : ℕ). eqb (k % z) 0) 12 ≤ 3) c s (omega arith) (omega arith) in
      omega arith

  pub all-few : cnt (starts_at c L) (12 * L) ≤ 3 * L
  all-few =
      let z : 12 * L + 0 ≡ 12 * L = omega arith in
      omega (
        arith,
        ap (cnt (starts_at c L)) (sym z) ∙ count-columns (starts_at c L) L 12 0 (omega arith),
        sum-most L 3 (λ n. cnt (column (starts_at c L) L n) (12 + indicator (ltb n 0))) (λ s l. rw (le-ltb s 0 (omega arith)) (in-symbol s l)),
      )

  -- the next symbol
  module _ (few : L ≤ 4) (k s n : ℕ) (starts : List ℕ) (in-k : k < 12) (in-s : s < L) (h : StartsTo c L (k * L + s) n starts) where
    pub starts-room : n < 16
    starts-room =
        omega (arith, h.count, all-few, cnt-le (starts_at c L) (k * L + s) (12 * L) (omega (arith, row_inside k 12 L s in-k (omega arith))))

    pub starts-on : {m : ℕ} {list : List ℕ} → m ≡ start_count c k s n → list ≡ start_list c k s n starts → StartsTo c L (k * L + (s + 1)) m list
    starts-on em el =
        let e : k * L + s + 1 ≡ k * L + (s + 1) = omega arith in
        rw e at (starts-next c L k s n starts in-s starts-room h em el)

  -- all of them
  pub starts-all : (k s n : ℕ) (starts : List ℕ) → StartsTo c L (k * L + s) n starts → s ≡ L → StartsTo c L (k * L + L) n starts
  starts-all k s n starts h e = rw e at h

  -- the next even subcarrier
  pub starts-over : (half n : ℕ) (starts : List ℕ) → StartsTo c L (2 * half * L + L) n starts → StartsTo c L (2 * (half + 1) * L) n starts
  starts-over half n starts h =
      let a : 2 * half * L + L ≡ (2 * half + 1) * L = row_on (2 * half) in
      let z : 2 * half + 1 + 1 ≡ 2 * (half + 1) = omega arith in
      let b : (2 * half + 1) * L + L ≡ 2 * (half + 1) * L = row_on (2 * half + 1) ∙ ap (λ (x : ℕ). x * L) z in
      rw b at (starts-skip c L (2 * half + 1) n starts (omega arith) (rw a at h))

  pub starts-end : (half n : ℕ) (starts : List ℕ) → StartsTo c L (2 * half * L) n starts → half ≡ 6 → StartsTo c L (12 * L) n starts
  starts-end half n starts h e = rw e at h
