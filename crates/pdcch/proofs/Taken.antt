-- The set of the groups that PCFICH and PHICH have: the numbers of different groups differ, and once all are marked, the members are just the
-- groups that are not vacant. Assumes six blocks to a hundred.
use Prim.Native.Nat.{ℕ, zero, suc, ◌+◌, ◌*◌, ◌/◌, ◌%◌, ◌≤◌, ◌<◌}
use mathlib.Core.Path.{◌≡◌, refl, sym, ap, ap₂, ◌∙◌}
use mathlib.Core.Bool.{Bool, true, false, not, ◌&&◌, ◌||◌, or-false}
use mathlib.Core.List.{List}
use native.Mathlib.Nat.{mod-lt, mod_self, mod-mod, mod-eq_of_lt, mod-add-mod, mul-le-mul}
use native.Mathlib.Numerals.{add-one}
use native.Mathlib.Omega.{arith}
use lib.Dec.{eqb}
use lib.ListN.{length, get_or, replicate, length-set}
use borrow.Author.Tests.{eq-eqb, ne_eqb, lt-ltb, eqb-true, eqb-false}
use Rattle.base.specs.Counts.{some_of}
use Rattle.base.proofs.Tests.{by-test, both, same_test}
use Rattle.base.proofs.Rows.{at-div, at-mod, row_inside}
use Rattle.bitset.specs.Sets.{member, added}
use Rattle.bitset.proofs.Sets.{in-none, in-added}
use Rattle.plan.specs.Fields.{mapping_units, group_size, symbol_groups}
use Rattle.plan.specs.Valid.{CellIn}
use Rattle.plan.specs.declared.Cell.{Cell}
use Rattle.plan.proofs.Listed.{and_left, and_right}
use Rattle.plan.proofs.Counts.{blocks-least, blocks-most}
use Rattle.layout.specs.Rules.{format_group, is_format, format_has, is_left, quad_symbol, groups_left, start_number, quad_number, quad_group, quad_has, mapping_unit_has}
use Rattle.layout.specs.Region.{is_vacant}
use Rattle.layout.proofs.GroupShape.{by_size, first-groups, quad-low}
use Rattle.layout.proofs.Groups.{format_small, left-most, left-some}
use Rattle.layout.proofs.Units.{unit-small}
use Rattle.places.specs.Steps.{left_of}
use Rattle.places.proofs.Inserted.{unit-inserted, unit-later}
use Rattle.pdcch.specs.Walk.{spot_of, MarkedBy, group_of, ring_spot, TakenSet}

-- ---- around a ring, and the group of a number, as the code finds them
pub around-end : (n h : ℕ) → n + 1 ≡ h → 0 ≡ (n + 1) % h
around-end n h e = rw e (sym (mod_self h))

pub around-on : (n h : ℕ) → n < h → (n + 1 ≡ h → ⊥) → n + 1 ≡ (n + 1) % h
around-on n h l d = sym (mod-eq_of_lt (omega arith))

pub ring-next : (n₀ m h : ℕ) {n r : ℕ} → n ≡ (n₀ + m) % h → r ≡ (n + 1) % h → r ≡ (n₀ + (m + 1)) % h
ring-next n₀ m h e er =
    let z : n₀ + m + 1 ≡ n₀ + (m + 1) = omega arith in
    er ∙ ap (λ (x : ℕ). (x + 1) % h) e ∙ mod-add-mod (n₀ + m) h 1 ∙ ap (λ (x : ℕ). x % h) z

pub group-first : (s a b d e n : ℕ) {r : ℕ} → s ≡ 0 → r ≡ left_of a b d e n → r ≡ group_of s a b d e n
unfolding group_of
group-first s a b d e n z er = rw (eq-eqb s 0 z) er

pub group-later : (s a b d e n : ℕ) → (s ≡ 0 → ⊥) → n ≡ group_of s a b d e n
unfolding group_of
group-later s a b d e n z = rw (ne_eqb s 0 z) refl

-- ---- an empty set, one number more, and none
zeros : (n i : ℕ) → get_or {A = ℕ} (replicate n 0) i 0 ≡ 0
zeros zero i = refl
zeros (suc n) zero = refl
zeros (suc n) (suc i) = zeros n i

pub empty-set : (n x : ℕ) → member (replicate n 0) x ≡ false
empty-set n x = in-none (replicate n 0) (zeros n) x

pub marked-none : {spot : ℕ → ℕ} (taken : List ℕ) → length taken ≡ 32 → MarkedBy spot 0 taken taken
marked-none taken size = record { size = size; members = λ x. sym (or-false (member taken x)) }

or-on : (a b d : Bool) → (a || b) || d ≡ a || (b || d)
or-on true b d = refl
or-on false b d = refl

pub marked_more : {spot : ℕ → ℕ} {n : ℕ} (was taken : List ℕ) (x : ℕ) {next : List ℕ} → MarkedBy spot n was taken → x < 2048 → x ≡ spot n → next ≡ added taken x → MarkedBy spot (n + 1) was next
marked_more {spot = spot} {n = n} was taken x {next = next} k l ex en =
    let w : x / 64 < length taken = omega (arith, k.size) in
    let on : (y : ℕ) → member next y ≡ member was y || (some_of (λ (j : ℕ). eqb y (spot j)) n || eqb y (spot n)) =
    (λ y. ap (λ (t : List ℕ). member t y) en ∙ in-added taken x y w ∙ ap₂ (λ (a b : Bool). a || b) (k.members y) (ap (λ (z : ℕ). eqb y z) ex)
    ∙ or-on (member was y) (some_of (λ (j : ℕ). eqb y (spot j)) n) (eqb y (spot n))) in
    let same : length (added taken x) ≡ length taken = simp length-set in
    rw (add-one n) (record { size = ap length en ∙ same ∙ k.size; members = on })

some-test : (f g : ℕ → Bool) (n : ℕ) → ((m : ℕ) → f m ≡ g m) → some_of f n ≡ some_of g n
some-test f g zero h = refl
some-test f g (suc n) h = ap₂ (λ (a b : Bool). a || b) (some-test f g n h) (h n)

pub marked-as : {f g : ℕ → ℕ} {n m : ℕ} (was taken : List ℕ) → MarkedBy f n was taken → n ≡ m → ((j : ℕ) → f j ≡ g j) → MarkedBy g m was taken
marked-as {f = f} {g = g} {n = n} was taken k e h =
    let same : (x : ℕ) → some_of (λ (j : ℕ). eqb x (f j)) n ≡ some_of (λ (j : ℕ). eqb x (g j)) n =
    (λ x. some-test (λ (j : ℕ). eqb x (f j)) (λ (j : ℕ). eqb x (g j)) n (λ j. ap (λ (y : ℕ). eqb x y) (h j))) in
    rw (← e) (record { size = k.size; members = λ x. k.members x ∙ ap (λ (b : Bool). member was x || b) (same x) })

-- ---- the numbers of groups
module _ (c : Cell) where
  abbrev W : ℕ
  W = 6 * c.blocks

  spot-row : (s t : ℕ) → t < symbol_groups c s → group_size c s / 2 * t < W
  unfolding symbol_groups
  spot-row s t = by_size (λ (z : ℕ). t < 12 * c.blocks / z → z / 2 * t < W) c s (λ l. omega arith) (λ l. omega arith)

  pub spot-small : (s t : ℕ) → s < 3 → t < symbol_groups c s → c.blocks ≤ 100 → spot_of c s t < 2048
  spot-small s t l u few = omega (arith, row_inside s 3 W (suc (group_size c s / 2 * t)) l (spot-row s t u))

  module _ (s t p q : ℕ) (in-t : t < symbol_groups c s) (in-q : q < symbol_groups c p) where
    spot-apart : spot_of c s t ≡ spot_of c p q → (s ≡ p) × (t ≡ q)
    spot-apart e =
        let es : s ≡ p = sym (at-div s W (group_size c s / 2 * t) (spot-row s t in-t)) ∙ ap (λ (x : ℕ). x / W) e ∙ at-div p W (group_size c p / 2 * q) (spot-row p q in-q) in
        let et : group_size c s / 2 * t ≡ group_size c p / 2 * q =
        sym (at-mod s W (group_size c s / 2 * t) (spot-row s t in-t)) ∙ ap (λ (x : ℕ). x % W) e ∙ at-mod p W (group_size c p / 2 * q) (spot-row p q in-q) in
        (es, by_size (λ (z : ℕ). z / 2 * t ≡ z / 2 * q → t ≡ q) c s (λ u. omega arith) (λ u. omega arith) (et ∙ ap (λ (x : ℕ). group_size c x / 2 * q) (sym es)))

    -- THE LAW OF NUMBERS
    pub spot-same : eqb (spot_of c s t) (spot_of c p q) ≡ eqb s p && eqb t q
    spot-same =
        same_test _ _
        (λ e. let a = spot-apart (eqb-true _ _ e) in both (eq-eqb s p a.0) (eq-eqb t q a.1))
        (λ e. let es = eqb-true s p (and_left (eqb s p) (eqb t q) e) in let et = eqb-true t q (and_right (eqb s p) (eqb t q) e) in eq-eqb _ _ (ap₂ (spot_of c) es et))

-- ---- PHICH's quads i, unit by unit around the ring: the code's values are those of the definitions
pub record RingOf (c : Cell) (i s a b d e w z h f : ℕ) : Type 0 where
  pub cell : CellIn c
  pub symbol : s ≡ quad_symbol c i
  pub first : a ≡ format_group c 0
  pub second : b ≡ format_group c 1
  pub third : d ≡ format_group c 2
  pub fourth : e ≡ format_group c 3
  pub width : w ≡ c.blocks
  pub size : z ≡ group_size c s
  pub left : h ≡ groups_left c s
  pub start : f ≡ start_number c s

module _ {c : Cell} {i s a b d e w z h f : ℕ} (k : RingOf c i s a b d e w z h f) where
  abbrev n₀ : ℕ
  n₀ = (f + i * h / 3) % h

  big : 6 ≤ c.blocks
  big = blocks-least c k.cell

  left_here : h ≡ groups_left c (quad_symbol c i)
  left_here = k.left ∙ ap (groups_left c) k.symbol

  pub ring-some : 0 < h
  ring-some = omega (arith, k.left, left-some c big s)

  pub ring-few : h ≤ 300
  ring-few = omega (arith, k.left, left-most c big s, blocks-most c k.cell)

  pub ring-start : n₀ ≡ (n₀ + 0) % h
  ring-start = let z : n₀ ≡ n₀ + 0 = omega arith in sym (mod-mod (f + i * h / 3) h) ∙ ap (λ (x : ℕ). x % h) z

  pub ring-below : (m : ℕ) {n : ℕ} → n ≡ (n₀ + m) % h → n < h
  ring-below m e = omega (arith, mod-lt (n₀ + m) ring-some)

  pub ring-here : (m : ℕ) {n g : ℕ} → n ≡ (n₀ + m) % h → g ≡ group_of s a b d e n → s * (6 * w) + z / 2 * g ≡ ring_spot (s * (6 * w)) (z / 2) s a b d e h n₀ m
  ring-here m en eg = ap (λ (x : ℕ). s * (6 * w) + z / 2 * x) (eg ∙ ap (group_of s a b d e) en)

  number_at : (m : ℕ) → (n₀ + m) % h ≡ quad_number c m i
  unfolding quad_number
  number_at m =
      let x : f + i * h / 3 + m ≡ f + m + i * h / 3 = omega arith in
      mod-add-mod (f + i * h / 3) h m ∙ ap (λ (y : ℕ). y % h) x
      ∙ ap₂ (λ (x y : ℕ). (x + m + i * y / 3) % y) (k.start ∙ ap (start_number c) k.symbol) left_here

  group_at : (m : ℕ) → group_of s a b d e ((n₀ + m) % h) ≡ quad_group c m i
  unfolding group_of
  group_at m =
      rw (number_at m, k.first, k.second, k.third, k.fourth)
      (by-test (eqb s 0)
      (λ t. let y : quad_symbol c i ≡ 0 = sym k.symbol ∙ eqb-true s 0 t in rw t (unit-inserted c big m i y))
      (λ t. let n : s ≡ 0 → ⊥ = eqb-false s 0 t in let y : 0 < quad_symbol c i = omega (arith, k.symbol) in rw t (unit-later c big m i y)))

  pub ring-spot : (m : ℕ) → ring_spot (s * (6 * w)) (z / 2) s a b d e h n₀ m ≡ spot_of c (quad_symbol c i) (quad_group c m i)
  ring-spot m =
      rw (group_at m, k.width)
      (ap₂ (λ (x y : ℕ). x * (6 * c.blocks) + y / 2 * quad_group c m i) k.symbol (k.size ∙ ap (group_size c) k.symbol))

  pub ring-small : i < 3 → (m : ℕ) → ring_spot (s * (6 * w)) (z / 2) s a b d e h n₀ m < 2048
  ring-small l m = omega (arith, ring-spot m, spot-small c (quad_symbol c i) (quad_group c m i) (omega (arith, quad-low c i)) (unit-small c big m i) (blocks-most c k.cell))

pub rows-small : (c : Cell) → CellIn c → (i : ℕ) → i < 3 → {s w : ℕ} → s ≡ quad_symbol c i → w ≡ c.blocks → s * (6 * w) ≤ 2 * 600
rows-small c ok i l {s = s} {w = w} es ew =
    let a : s ≤ 2 = omega (arith, quad-low c i) in
    let b : 6 * w ≤ 600 = omega (arith, blocks-most c ok) in
    mul-le-mul a b

-- ---- PCFICH's group i of symbol 0
module _ (c : Cell) (ok : CellIn c) (i : ℕ) where
  format-in : format_group c i < symbol_groups c 0
  format-in = omega (arith, format_small c (blocks-least c ok) i, first-groups c)

  pub format-spot : {g : ℕ} → g ≡ format_group c i → 3 * g ≡ spot_of c 0 (format_group c i)
  unfolding group_size
  format-spot e = let g = format_group c i in omega (arith, e)

  pub format-few : {g : ℕ} → g ≡ format_group c i → g < 200
  format-few e = omega (arith, e, format_small c (blocks-least c ok) i, blocks-most c ok)

-- ---- all of them
-- the numbers of the units' quads i
abbrev quad_spot : Cell → ℕ → ℕ → ℕ
quad_spot c i m = spot_of c (quad_symbol c i) (quad_group c m i)

formats-or : (z f g h i : Bool) → ((((false || (z && f)) || (z && g)) || (z && h)) || (z && i)) ≡ z && (f || g || h || i)
formats-or true f g h i = refl
formats-or false f g h i = refl

mixed : (p q r a b d : Bool) → ((p || q) || r) || ((a || b) || d) ≡ ((p || a) || (q || b)) || (r || d)
mixed true q r a b d = refl
mixed false true r true b d = refl
mixed false true r false b d = refl
mixed false false true true b d = refl
mixed false false true false true d = refl
mixed false false true false false d = refl
mixed false false false a b d = refl

some-three : (a b d : ℕ → Bool) (n : ℕ) → (some_of a n || some_of b n) || some_of d n ≡ some_of (λ (m : ℕ). (a m || b m) || d m) n
some-three a b d zero = refl
some-three a b d (suc n) = sym (mixed (some_of a n) (some_of b n) (some_of d n) (a n) (b n) (d n)) ∙ ap (λ (x : Bool). x || ((a n || b n) || d n)) (some-three a b d n)

-- a group that is not vacant is PCFICH's or some unit's
taken-or : (a b : Bool) → not (true && not a && not b) ≡ a || b
taken-or true b = refl
taken-or false true = refl
taken-or false false = refl

taken-rule : (c : Cell) (s t : ℕ) → t < symbol_groups c s → not (is_vacant c s t) ≡ format_has c s t || some_of (λ (m : ℕ). mapping_unit_has c m s t) (mapping_units c)
unfolding is_vacant is_left
taken-rule c s t l = rw (lt-ltb t (symbol_groups c s) l) (taken-or (format_has c s t) (some_of (λ (m : ℕ). mapping_unit_has c m s t) (mapping_units c)))

module _ (c : Cell) (ok : CellIn c) (t₀ t₁ t₂ t₃ t₄ t₅ t₆ t₇ : List ℕ) (none : (x : ℕ) → member t₀ x ≡ false) where
  abbrev M : ℕ
  M = mapping_units c

  abbrev Format : ℕ → List ℕ → List ℕ → Type 0
  Format i = MarkedBy (λ (m : ℕ). spot_of c 0 (format_group c i)) 1

  abbrev Quads : ℕ → List ℕ → List ℕ → Type 0
  Quads i = MarkedBy (quad_spot c i) M

  module _ (s t : ℕ) (in-t : t < symbol_groups c s) where
    format-member : (i : ℕ) (was now : List ℕ) → Format i was now → member now (spot_of c s t) ≡ member was (spot_of c s t) || (eqb s 0 && eqb t (format_group c i))
    format-member i was now k = k.members (spot_of c s t) ∙ ap (λ (b : Bool). member was (spot_of c s t) || b) (spot-same c s t 0 (format_group c i) in-t (format-in c ok i))

    quads-member : (i : ℕ) (was now : List ℕ) → Quads i was now → member now (spot_of c s t) ≡ member was (spot_of c s t) || some_of (λ (m : ℕ). quad_has c m s t i) M
    unfolding quad_has
    quads-member i was now k =
        k.members (spot_of c s t)
        ∙ ap (λ (b : Bool). member was (spot_of c s t) || b)
        (some-test (λ (m : ℕ). eqb (spot_of c s t) (quad_spot c i m)) (λ (m : ℕ). eqb s (quad_symbol c i) && eqb t (quad_group c m i)) M
        (λ m. spot-same c s t (quad_symbol c i) (quad_group c m i) in-t (unit-small c (blocks-least c ok) m i)))

    formats-all : Format 0 t₀ t₁ → Format 1 t₁ t₂ → Format 2 t₂ t₃ → Format 3 t₃ t₄ → member t₄ (spot_of c s t) ≡ format_has c s t
    unfolding format_has is_format
    formats-all k₁ k₂ k₃ k₄ =
        rw (format-member 3 t₃ t₄ k₄, format-member 2 t₂ t₃ k₃, format-member 1 t₁ t₂ k₂, format-member 0 t₀ t₁ k₁, none (spot_of c s t))
        (formats-or (eqb s 0) (eqb t (format_group c 0)) (eqb t (format_group c 1)) (eqb t (format_group c 2)) (eqb t (format_group c 3)))

    units-all : Quads 0 t₄ t₅ → Quads 1 t₅ t₆ → Quads 2 t₆ t₇ → member t₇ (spot_of c s t) ≡ member t₄ (spot_of c s t) || some_of (λ (m : ℕ). mapping_unit_has c m s t) M
    unfolding mapping_unit_has
    units-all k₅ k₆ k₇ =
        rw (quads-member 2 t₆ t₇ k₇, quads-member 1 t₅ t₆ k₆, quads-member 0 t₄ t₅ k₅)
        (regroup (member t₄ (spot_of c s t)) (q 0) (q 1) (q 2) ∙ ap (λ (b : Bool). member t₄ (spot_of c s t) || b) (some-three (has 0) (has 1) (has 2) M))
      where
        has : ℕ → ℕ → Bool
        has i m = quad_has c m s t i

        q : ℕ → Bool
        q i = some_of (λ (m : ℕ). quad_has c m s t i) M

        regroup : (a x y z : Bool) → ((a || x) || y) || z ≡ a || ((x || y) || z)
        regroup true x y z = refl
        regroup false x y z = refl

  -- THE LAW OF THE SET
  pub taken-all : Format 0 t₀ t₁ → Format 1 t₁ t₂ → Format 2 t₂ t₃ → Format 3 t₃ t₄ → Quads 0 t₄ t₅ → Quads 1 t₅ t₆ → Quads 2 t₆ t₇ → TakenSet c t₇
  taken-all k₁ k₂ k₃ k₄ k₅ k₆ k₇ =
      record {
        size = k₇.size;
        members = λ s t l.
            units-all s t l k₅ k₆ k₇ ∙ ap (λ (b : Bool). b || some_of (λ (m : ℕ). mapping_unit_has c m s t) M) (formats-all s t l k₁ k₂ k₃ k₄) ∙ sym (taken-rule c s t l);
      }
