-- The groups of the region in the order of 6.8.5: in every block of twelve subcarriers the same start, and of all of them the vacant ones have
-- the numbers 0, 1, .. in this order. Assumes one control symbol or more.
use Prim.Native.Nat.{ℕ, zero, suc, ◌+◌, ◌*◌, ◌/◌, ◌%◌, ◌≤◌, ◌<◌}
use mathlib.Core.Path.{◌≡◌, refl, sym, ap, ◌∙◌}
use mathlib.Core.Bool.{Bool, true, false, not, ◌&&◌}
use mathlib.Core.List.{List}
use native.Mathlib.Nat.{suc-mul, zero-mul, add-mul, mul-add-div_right, mul-add-mod_self_right, mod-lt, div-lt_iff_lt-mul, mul-le-mul_right}
use native.Mathlib.Omega.{arith}
use lib.Dec.{eqb}
use Rattle.base.specs.Counts.{cnt, nth}
use Rattle.base.proofs.Tests.{by-test, both}
use Rattle.base.proofs.Counts.{cnt-none, cnt-own, cnt-not, cnt-add, cnt-same, cnt-lt, nth_of}
use Rattle.base.proofs.Columns.{cnt-through}
use Rattle.bitset.specs.Sets.{member}
use Rattle.plan.specs.Fields.{group_size, symbol_groups}
use Rattle.plan.specs.declared.Cell.{Cell}
use Rattle.layout.specs.Owners.{carriers}
use Rattle.layout.specs.Region.{vacant_at, region_place, region_symbol, region_group}
use Rattle.layout.proofs.GroupShape.{by_size}
use Rattle.pdcch.specs.Groups.{entry_of}
use Rattle.pdcch.specs.Walk.{TakenSet, starts_at, entry_at, free_at, free_before}
use Rattle.pdcch.proofs.Entries.{entry-spot, group-in, entry-on, entry-small}

-- ---- of those that pass f, in ascending order, the ones that pass v too
module _ (f v : ℕ → Bool) (T : ℕ) where
  abbrev both-pass : ℕ → Bool
  both-pass x = f x && v x

  abbrev jth : ℕ → Bool
  jth j = v (nth f T j)

  passed-through : (y : ℕ) → y ≤ T → cnt both-pass y ≡ cnt jth (cnt f y)
  passed-through y l =
      cnt-same both-pass (λ (x : ℕ). f x && jth (cnt f x)) y
      (λ x h. by-test (f x) (λ e. rw e (ap v (sym (nth_of f T x e (omega arith))))) (λ e. rw e refl))
      ∙ cnt-through f jth y

-- ---- blocks of twelve subcarriers
module _ (c : Cell) (L : ℕ) (some : 0 < L) where
  abbrev f : ℕ → Bool
  f = starts_at c L

  -- how many start in a block
  abbrev G : ℕ
  G = cnt (starts_at c L) (12 * L)

  abbrev T : ℕ
  T = 12 * c.blocks * L

  -- x of block 0, b blocks on
  abbrev on : ℕ → ℕ → ℕ
  on b x = 12 * b * L + x

  on-next : (b x : ℕ) → on (suc b) x ≡ 12 * L + on b x
  on-next b x =
      let e : 12 * suc b ≡ 12 + 12 * b = omega arith in
      omega (arith, ap (λ (y : ℕ). y * L) e, add-mul 12 (12 * b) L)

  pub start-on : (b x : ℕ) → f (on b x) ≡ f x
  unfolding starts_at
  start-on b x =
      rw (mul-add-div_right some (12 * b) x, mul-add-mod_self_right (12 * b) L x)
      (ap (λ (y : ℕ). eqb y 0) (by_size (λ (z : ℕ). (12 * b + x / L) % z ≡ x / L % z) c (x % L) (omega arith) (omega arith)))

  start-next : (x : ℕ) → f (12 * L + x) ≡ f x
  start-next x = let e : 12 * 1 * L + x ≡ 12 * L + x = refl in ap f (sym e) ∙ start-on 1 x

  -- THE COUNT, block by block
  pub count-on : (b x : ℕ) → cnt f (on b x) ≡ b * G + cnt f x
  count-on zero x =
      let e : on 0 x ≡ x = omega (arith, zero-mul L) in
      omega (arith, ap (cnt f) e, zero-mul G)
  count-on (suc b) x =
      omega (
        arith,
        ap (cnt f) (on-next b x) ∙ cnt-add f (12 * L) (on b x),
        cnt-same (λ (t : ℕ). f (12 * L + t)) f (on b x) (λ t l. start-next t),
        count-on b x,
        suc-mul b G,
      )

  pub on-inside : (b x : ℕ) → b < c.blocks → x < 12 * L → on b x < T
  on-inside b x l h =
      let e : 12 * b + 12 ≤ 12 * c.blocks = omega arith in
      omega (arith, mul-le-mul_right L e, add-mul (12 * b) 12 L)

  all-starts : cnt f T ≡ c.blocks * G
  all-starts =
      let e : on c.blocks 0 ≡ T = omega arith in
      omega (arith, ap (cnt f) e, count-on c.blocks 0, cnt-none f)

  pub entry-at : (b x : ℕ) → b < c.blocks → x < 12 * L → entry_at c L (on b x) ≡ entry_at c L x + 24 * b
  unfolding entry_at
  entry-at b x l h =
      rw (mul-add-div_right some (12 * b) x, mul-add-mod_self_right (12 * b) L x)
      (entry-on c (x % L) b (x / L) ((div-lt_iff_lt-mul some).1 h) l)

  -- ---- at x, where a group starts
  module _ (x : ℕ) (in-x : x < T) (starts : starts_at c L x ≡ true) where
    abbrev s : ℕ
    s = x % L

    abbrev t : ℕ
    t = x / L / group_size c (x % L)

    in-t : t < symbol_groups c s
    in-t = group-in c s (x / L) ((div-lt_iff_lt-mul some).1 in-x)

    pub small_at : L * carriers c ≤ 3600 → entry_at c L x < 7201
    unfolding entry_at
    small_at few = entry-small c s t in-t (mod-lt x some) few

    pub free-member : (taken : List ℕ) → TakenSet c taken → member taken (entry_at c L x / 4) ≡ not (free_at c L x)
    unfolding entry_at free_at
    free-member taken k = ap (member taken) (entry-spot c s t in-t) ∙ k.members s t in-t

    vacant-is : (y : ℕ) → vacant_at c L y ≡ starts_at c L y && free_at c L y
    unfolding vacant_at starts_at free_at
    vacant-is y = refl

    abbrev n : ℕ
    n = free_before c L (cnt (starts_at c L) x)

    number_is : cnt (vacant_at c L) x ≡ n
    unfolding free_before
    number_is = cnt-same (vacant_at c L) (λ (y : ℕ). f y && free_at c L y) x (λ y l. vacant-is y) ∙ passed-through f (free_at c L) T x (omega arith)

    here : free_at c L (nth (starts_at c L) T (cnt (starts_at c L) x)) ≡ free_at c L x
    here = ap (free_at c L) (nth_of f T x starts in-x)

    module _ (free : free_at c L x ≡ true) where
      vacant : vacant_at c L x ≡ true
      vacant = vacant-is x ∙ both starts free

      place_is : region_place c L n ≡ x
      unfolding region_place
      place_is = ap (nth (vacant_at c L) T) (sym number_is) ∙ nth_of (vacant_at c L) T x vacant in-x

      pub free-entry : entry_of c (region_symbol c L n) (region_group c L n) ≡ entry_at c L x
      unfolding region_symbol region_group entry_at
      free-entry = ap (λ (y : ℕ). entry_of c (y % L) (y / L / group_size c (y % L))) place_is

      pub free-below : n < cnt (vacant_at c L) T
      free-below = omega (arith, number_is, cnt-lt (vacant_at c L) x T vacant in-x)

      pub free-next : free_before c L (suc (cnt (starts_at c L) x)) ≡ suc n
      unfolding free_before
      free-next = cnt-own (λ (i : ℕ). free_at c L (nth f T i)) (cnt f x) (here ∙ free)

    pub taken_next : free_at c L x ≡ false → free_before c L (suc (cnt (starts_at c L) x)) ≡ n
    unfolding free_before
    taken_next e = cnt-not (λ (i : ℕ). free_at c L (nth f T i)) (cnt f x) (here ∙ e)

  pub free_all : free_before c L (c.blocks * G) ≡ cnt (vacant_at c L) T
  unfolding free_before vacant_at starts_at free_at
  free_all = ap (free_before c L) (sym all-starts) ∙ sym (passed-through f (free_at c L) T T (omega arith))

  pub free-none : free_before c L 0 ≡ 0
  unfolding free_before
  free-none = cnt-none (λ (i : ℕ). free_at c L (nth f T i))
