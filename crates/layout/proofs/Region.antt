-- THE LAW OF NUMBERS: number and group of the control region undo each other on the vacant groups, and how many come before a group, symbol by
-- symbol. Assumes six blocks and at most twelve sixths where it counts.
use Prim.Native.Nat.{ℕ, zero, suc, ◌+◌, ◌-◌, ◌*◌, ◌/◌, ◌%◌, ◌≤◌, ◌<◌}
use mathlib.Core.Path.{◌≡◌, refl, sym, ap, ◌∙◌}
use mathlib.Core.Bool.{Bool, true, ◌&&◌}
use native.Mathlib.Nat.{mod-lt, div-add-mod', div-lt_iff_lt-mul, mul-div_cancel, mul-mod_left}
use native.Mathlib.Omega.{arith}
use lib.Dec.{eqb, ltb}
use borrow.Author.Tests.{le-ltb, eqb-true}
use Rattle.base.specs.Choice.{indicator}
use Rattle.base.specs.Counts.{cnt, upwards}
use Rattle.base.specs.Sums.{sum_to}
use Rattle.base.proofs.Rows.{at-div, at-mod, row_inside}
use Rattle.base.proofs.Counts.{Nth, cnt-same, cnt-lt, nth-is, nth_of}
use Rattle.base.proofs.Sums.{sum_same, sum-add, sum_one}
use Rattle.base.proofs.Columns.{Rounds, column, spread, count-columns, cnt-spread}
use Rattle.plan.specs.declared.Cell.{Cell}
use Rattle.plan.proofs.Listed.{and_left, and_right}
use Rattle.plan.specs.Fields.{mapping_units, group_size, symbol_groups, groups_below}
use Rattle.layout.specs.Rules.{quad_symbol, groups_left}
use Rattle.layout.specs.Region.{is_vacant, vacant_at, region_number, region_place, region_symbol, region_group}
use Rattle.layout.specs.Chain.{vacant_below, vacant_before}
use Rattle.layout.proofs.GroupShape.{by_size, first-groups}
use Rattle.layout.proofs.Groups.{left-first, left-later}
use Rattle.layout.proofs.Vacant.{vacant-below, share, vacant-all}

-- ---- sizes of groups
module _ (c : Cell) (s : ℕ) where
  some_size : 0 < group_size c s
  some_size = by_size (λ (z : ℕ). 0 < z) c s (omega arith) (omega arith)

  whole : symbol_groups c s * group_size c s ≡ 12 * c.blocks
  unfolding symbol_groups
  whole = by_size (λ (z : ℕ). 12 * c.blocks / z * z ≡ 12 * c.blocks) c s (omega arith) (omega arith)

  rounds : Rounds (group_size c s)
  rounds =
      by_size Rounds c s
      (record { none = refl; hit = λ x e. (omega arith, omega arith); miss = λ x e. omega arith })
      (record { none = refl; hit = λ x e. (omega arith, omega arith); miss = λ x e. omega arith })

  -- groups that start below x are the symbol's
  pub starts-few : (x : ℕ) → x ≤ 12 * c.blocks → upwards (group_size c s) x ≤ symbol_groups c s
  unfolding symbol_groups
  starts-few x l = by_size (λ (z : ℕ). upwards z x ≤ 12 * c.blocks / z) c s (omega arith) (omega arith)

  pub starts-all : upwards (group_size c s) (12 * c.blocks) ≡ symbol_groups c s
  unfolding symbol_groups
  starts-all = by_size (λ (z : ℕ). upwards z (12 * c.blocks) ≡ 12 * c.blocks / z) c s (omega arith) (omega arith)

-- a group starts in its symbol
pub group-start : (c : Cell) (s t : ℕ) → t < symbol_groups c s → t * group_size c s < 12 * c.blocks
group-start c s t h =
    let a : t * group_size c s + group_size c s ≤ symbol_groups c s * group_size c s = row_inside t (symbol_groups c s) (group_size c s) (group_size c s) h (omega arith) in
    omega (arith, some_size c s, whole c s)

module _ (c : Cell) (L : ℕ) where
  -- symbol s is a column of the numbers
  in-column : (s k : ℕ) → s < L → column (vacant_at c L) L s k ≡ spread (group_size c s) (is_vacant c s) k
  unfolding vacant_at
  in-column s k h = rw (at-mod k L s h, at-div k L s h) refl

  -- ---- group t of symbol s at its number
  module _ (s t : ℕ) (in-s : s < L) where
    pub at-group : vacant_at c L (t * group_size c s * L + s) ≡ is_vacant c s t
    at-group = in-column s (t * group_size c s) in-s ∙ rw (mul-mod_left t (group_size c s), mul-div_cancel t (some_size c s)) refl

    pub group-inside : t < symbol_groups c s → t * group_size c s * L + s < 12 * c.blocks * L
    group-inside h =
        omega (arith, row_inside (t * group_size c s) (12 * c.blocks) L (suc s) (group-start c s t h) in-s)

  -- how many there are
  abbrev pub total : ℕ
  total = cnt (vacant_at c L) (12 * c.blocks * L)

  module _ (s t : ℕ) (in-s : s < L) (in-t : t < symbol_groups c s) (free : is_vacant c s t ≡ true) where
    passes : vacant_at c L (t * group_size c s * L + s) ≡ true
    passes = at-group s t in-s ∙ free

    place_of : region_place c L (region_number c L s t) ≡ t * group_size c s * L + s
    unfolding region_place region_number
    place_of = nth_of (vacant_at c L) (12 * c.blocks * L) (t * group_size c s * L + s) passes (group-inside s t in-s in-t)

    pub number_in : region_number c L s t < total
    unfolding region_number
    number_in = cnt-lt (vacant_at c L) (t * group_size c s * L + s) (12 * c.blocks * L) passes (group-inside s t in-s in-t)

    pub symbol-again : region_symbol c L (region_number c L s t) ≡ s
    unfolding region_symbol
    symbol-again = ap (λ (x : ℕ). x % L) place_of ∙ at-mod (t * group_size c s) L s in-s

    pub group-again : region_group c L (region_number c L s t) ≡ t
    unfolding region_group
    group-again = rw (symbol-again, place_of, at-div (t * group_size c s) L s in-s) (mul-div_cancel t (some_size c s))

  -- ---- the group of number n
  module _ (some : 0 < L) (n : ℕ) (in-n : n < total) where
    abbrev x : ℕ
    x = region_place c L n

    is-nth : Nth (vacant_at c L) (12 * c.blocks * L) n (region_place c L n)
    unfolding region_place
    is-nth = nth-is (vacant_at c L) (12 * c.blocks * L) n in-n

    pub symbol-in : region_symbol c L n < L
    unfolding region_symbol
    symbol-in = mod-lt x some

    abbrev z : ℕ
    z = group_size c (region_symbol c L n)

    abbrev starts : Bool
    starts = eqb (x / L % z) 0

    parts : starts && is_vacant c (region_symbol c L n) (x / L / z) ≡ true
    unfolding vacant_at region_symbol
    parts = is-nth.0

    pub group-vacant : is_vacant c (region_symbol c L n) (region_group c L n) ≡ true
    unfolding region_group
    group-vacant = and_right starts (is_vacant c (region_symbol c L n) (x / L / z)) parts

    start_of : region_group c L n * z ≡ x / L
    unfolding region_group
    start_of = omega (arith, div-add-mod' (x / L) z, eqb-true (x / L % z) 0 (and_left starts (is_vacant c (region_symbol c L n) (x / L / z)) parts))

    pub group-in : region_group c L n < symbol_groups c (region_symbol c L n)
    unfolding region_group
    group-in =
        let a : x / L < 12 * c.blocks = (div-lt_iff_lt-mul some).1 is-nth.1 in
        (div-lt_iff_lt-mul (some_size c (region_symbol c L n))).1 (omega (arith, whole c (region_symbol c L n)))

    place-again : region_group c L n * z * L + region_symbol c L n ≡ x
    unfolding region_symbol
    place-again = ap (λ (y : ℕ). y * L + x % L) start_of ∙ div-add-mod' x L

    pub number-back : region_number c L (region_symbol c L n) (region_group c L n) ≡ n
    unfolding region_number
    number-back = ap (cnt (vacant_at c L)) place-again ∙ is-nth.2

  -- ---- THE COUNT before subcarrier k of symbol s, symbol by symbol
  module _ (few : c.sixths ≤ 12) (big : 6 ≤ c.blocks) (k s : ℕ) (in-s : s ≤ L) (room : (n : ℕ) → k + indicator (ltb n s) ≤ 12 * c.blocks) where
    symbol-count : (n : ℕ) → n < L → cnt (column (vacant_at c L) L n) (k + indicator (ltb n s)) ≡ vacant_below c n (upwards (group_size c n) (k + indicator (ltb n s)))
    symbol-count n h =
        let y = k + indicator (ltb n s) in
        cnt-same (column (vacant_at c L) L n) (spread (group_size c n) (is_vacant c n)) y (λ j l. in-column n j h)
        ∙ cnt-spread (rounds c n) (is_vacant c n) y ∙ vacant-below c few big n (upwards (group_size c n) y) (starts-few c n y (room n))

    pub count-before : cnt (vacant_at c L) (k * L + s) ≡ vacant_before c L k s
    unfolding vacant_before
    count-before =
        count-columns (vacant_at c L) L k s in-s
        ∙ sum_same L (λ n. cnt (column (vacant_at c L) L n) (k + indicator (ltb n s))) (λ n. vacant_below c n (upwards (group_size c n) (k + indicator (ltb n s)))) symbol-count

-- ---- R: all of the region, whose L symbols have PCFICH's groups and every unit's quads
module _ (c : Cell) (few : c.sixths ≤ 12) (big : 6 ≤ c.blocks) (L : ℕ) (some : 0 < L) (quads : (i : ℕ) → i < 3 → quad_symbol c i < L) where
  abbrev M : ℕ
  M = mapping_units c

  left-sum : (n : ℕ) → sum_to (suc n) (groups_left c) + 4 ≡ groups_below c (suc n)
  unfolding sum_to groups_below
  left-sum zero = omega (arith, left-first c big, first-groups c)
  left-sum (suc n) = omega (arith, left-sum n, left-later c (suc n) (omega arith))

  shares : sum_to L (λ s. share c few big 0 s + share c few big 1 s + share c few big 2 s) ≡ 3 * M
  shares =
      let a = sum_one (quad_symbol c 0) M L (quads 0 (omega arith)) in
      let b = sum_one (quad_symbol c 1) M L (quads 1 (omega arith)) in
      let d = sum_one (quad_symbol c 2) M L (quads 2 (omega arith)) in
      let p = sum-add L (share c few big 0) (share c few big 1) in
      let q = sum-add L (λ s. share c few big 0 s + share c few big 1 s) (share c few big 2) in
      omega arith

  abbrev vacants : ℕ → ℕ
  vacants s = vacant_below c s (symbol_groups c s)

  total-sum : total c L ≡ sum_to L vacants
  unfolding vacant_before
  total-sum =
      let y : 12 * c.blocks * L + 0 ≡ 12 * c.blocks * L = omega arith in
      ap (cnt (vacant_at c L)) (sym y)
      ∙ count-before c L few big (12 * c.blocks) 0 (omega arith) (λ n. rw (le-ltb n 0 (omega arith)) (omega arith))
      ∙ sum_same L (λ n. vacant_below c n (upwards (group_size c n) (12 * c.blocks + indicator (ltb n 0)))) vacants (λ n l. ap (vacant_below c n) (starts n))
    where
      starts : (n : ℕ) → upwards (group_size c n) (12 * c.blocks + indicator (ltb n 0)) ≡ symbol_groups c n
      starts n = let z : 12 * c.blocks + 0 ≡ 12 * c.blocks = omega arith in rw (le-ltb n 0 (omega arith)) (ap (upwards (group_size c n)) z ∙ starts-all c n)

  -- THE COUNT of the region's vacant groups
  pub region-total : total c L ≡ groups_below c L - 4 - 3 * M
  region-total =
      let z : suc (L - 1) ≡ L = omega arith in
      let a : sum_to L (groups_left c) + 4 ≡ groups_below c L = rw z at (left-sum (L - 1)) in
      let s : sum_to L vacants + 3 * M ≡ sum_to L (groups_left c) =
      ap (λ (x : ℕ). sum_to L vacants + x) (sym shares) ∙ sum-add L vacants (λ s. share c few big 0 s + share c few big 1 s + share c few big 2 s)
      ∙ sum_same L (λ s. vacants s + (share c few big 0 s + share c few big 1 s + share c few big 2 s)) (groups_left c) (λ s l. vacant-all c few big s) in
      let t = total-sum in
      omega arith
