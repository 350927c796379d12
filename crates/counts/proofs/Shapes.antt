-- THE LAW OF THE SHAPE: a user's count by products with two numbers of each slot is the sum over the symbols. Then the shape's ranges,
-- and the laws of the functions that make and use it. Assumes nothing.
use Rattle.std.specs.Prelude.{if◌then◌else◌}
use Prim.Native.Nat.{ℕ, ◌+◌, ◌-◌, ◌*◌, ◌≤◌, ◌<◌}
use mathlib.Core.Path.{◌≡◌, refl, sym, ap, ap₂, ◌∙◌}
use mathlib.Core.Bool.{Bool, true, false}
use native.Mathlib.Nat.{zero-add, mul-add, mul-le-mul}
use native.Mathlib.Numerals.{add-one}
use native.Mathlib.Omega.{arith}
use lib.Dec.{ltb}
use borrow.Author.Tests.{lt-ltb, le-ltb}
use Rattle.base.proofs.Tests.{on-if}
use Rattle.plan.specs.declared.Cell.{Cell}
use Rattle.plan.specs.declared.Frame.{Frame}
use Rattle.plan.specs.declared.User.{User}
use Rattle.layout.specs.Rules.{slot_length}
use Rattle.plan.specs.Fields.{control_symbols}
use Rattle.layout.proofs.Pilot.{slot-length}
use Rattle.counts.specs.declared.SlotShape.{SlotShape}
use Rattle.counts.specs.declared.Shape.{Shape}
use Rattle.base.specs.Sums.{sum_to}
use Rattle.counts.specs.Users.{signals, taken, centre_halves, halves, row_elements, user_elements}
use Rattle.counts.specs.Shape.{row_places, centre_places, slot_shape, shape_of, slot_count, count_by, SlotIn, ShapeIn}
use Rattle.base.proofs.Sums.{sum_same, sum-add, sum-times, sum-most, sum-least, sum-parts}
use Rattle.counts.proofs.Halves.{away}

-- ---- a symbol: the user's places, and those that the centre keeps from it, v in each half block
split :
    (early t : Bool) (v x y : ℕ) → x ≤ y
    → (if early then 0 else v * (y - (if t then x else 0))) + (if t then (if early then 0 else v) else 0) * x ≡ (if early then 0 else v) * y
split true true v x y l = omega arith
split true false v x y l = omega arith
split false true v x y l = let z : y - x + x ≡ y = omega arith in sym (mul-add v (y - x) x) ∙ ap (λ (n : ℕ). v * n) z
split false false v x y l = let z : y - 0 ≡ y = omega arith in rw z (omega arith)

module _ (c : Cell) (f : Frame) (first count : ℕ) where
  row-split : (s : ℕ) → row_elements c f first count s + centre_places c f s * centre_halves c first count ≡ row_places c f s * (2 * count)
  unfolding row_elements row_places centre_places halves
  row-split s = split (ltb s (control_symbols c f)) (taken c f s) (6 - signals c c.ports s) (centre_halves c first count) (2 * count) (omega arith)

  -- a slot
  slot_is : (start : ℕ) → slot_count c (slot_shape c f start) first count ≡ sum_to (slot_length c) (λ l. row_elements c f first count (start + l))
  unfolding slot_count slot_shape
  slot_is start =
      let n = slot_length c in
      let x = centre_halves c first count in
      sym (away _ _ _
      (ap (λ (y : ℕ). sum_to n (λ l. row_elements c f first count (start + l)) + y) (sym (sum-times n x (λ l. centre_places c f (start + l))))
      ∙ sum-add n (λ l. row_elements c f first count (start + l)) (λ l. centre_places c f (start + l) * x)
      ∙ sum_same n _ _ (λ l m. row-split (start + l))
      ∙ sum-times n (2 * count) (λ l. row_places c f (start + l))))

-- THE LAW
pub count-is : (c : Cell) (f : Frame) (u : User) (x : Shape) → x ≡ shape_of c f → count_by c x u ≡ user_elements c f u.first u.count
unfolding count_by shape_of user_elements
count-is c f u x e =
    let L = slot_length c in
    let z : 2 * L ≡ L + L = omega arith in
    rw (e, z)
    (ap₂ (λ (a b : ℕ). a + b) (simp zero-add at (slot_is c f u.first u.count 0)) (slot_is c f u.first u.count L)
    ∙ sym (sum-parts L L (row_elements c f u.first u.count)))

-- ---- the ranges
module _ (c : Cell) (f : Frame) where
  row-most : (s : ℕ) → row_places c f s ≤ 6
  unfolding row_places
  row-most s = on-if (λ (n : ℕ). n ≤ 6) (ltb s (control_symbols c f)) (λ e. omega arith) (λ e. omega arith)

  centre-part : (s : ℕ) → centre_places c f s ≤ row_places c f s
  unfolding centre_places
  centre-part s = on-if (λ (n : ℕ). n ≤ row_places c f s) (taken c f s) (λ e. omega arith) (λ e. omega arith)

  rows-most : (start n : ℕ) → sum_to n (λ l. row_places c f (start + l)) ≤ n * 6
  rows-most start n = sum-most n 6 _ (λ l m. row-most (start + l))

  rows-part : (start n : ℕ) → sum_to n (λ l. centre_places c f (start + l)) ≤ sum_to n (λ l. row_places c f (start + l))
  rows-part start n = sum-least n _ _ (λ l m. centre-part (start + l))

  slot-in : (start : ℕ) → SlotIn (slot_shape c f start)
  unfolding slot_shape
  slot-in start =
      let h = slot-length c in
      record { most = omega (arith, rows-most start (slot_length c)); part = rows-part start (slot_length c) }

  pub shape-in : (x : Shape) → x ≡ shape_of c f → ShapeIn x
  unfolding shape_of
  shape-in x e = rw e (record { even = slot-in 0; odd = slot-in (slot_length c) })

  -- ---- row_places, centre_places
  module _ (s : ℕ) where
    pub row-early : (n : ℕ) → n ≡ control_symbols c f → s < n → 0 ≡ row_places c f s
    unfolding row_places
    row-early n e l = rw (← e, lt-ltb s n l) refl

    pub row-late : (n v : ℕ) → n ≡ control_symbols c f → n ≤ s → v ≡ 6 - signals c c.ports s → v ≡ row_places c f s
    unfolding row_places
    row-late n v e l ev = rw (← e, le-ltb s n l) ev

    pub centre-taken : (t : Bool) (v : ℕ) → t ≡ taken c f s → t ≡ true → v ≡ row_places c f s → v ≡ centre_places c f s
    unfolding centre_places
    centre-taken t v et y e = rw (← et, y) e

    pub centre-free : (t : Bool) → t ≡ taken c f s → t ≡ false → 0 ≡ centre_places c f s
    unfolding centre_places
    centre-free t et y = rw (← et, y) refl

  -- ---- slot_shape: the sums over the first l symbols of the slot
  pub record Summed (start whole centre l : ℕ) : Type 0 where
    pub inside : l ≤ slot_length c
    pub wholes : whole ≡ sum_to l (λ j. row_places c f (start + j))
    pub centres : centre ≡ sum_to l (λ j. centre_places c f (start + j))

  module _ (start : ℕ) where
    pub summed-first : Summed start 0 0 0
    unfolding sum_to
    summed-first = record { inside = omega arith; wholes = refl; centres = refl }

    module _ {whole centre l : ℕ} (so : Summed start whole centre l) where
      pub whole_room : (v : ℕ) → v ≡ row_places c f (start + l) → whole + v ≤ 48
      whole_room v e = let h = slot-length c in omega (arith, rows-most start l, row-most (start + l))

      pub centre-room : (w : ℕ) → w ≡ centre_places c f (start + l) → centre + w ≤ 48
      centre-room w e = let h = slot-length c in omega (arith, rows-most start l, rows-part start l, row-most (start + l), centre-part (start + l))

      pub summed-next :
          (v w : ℕ) → l < slot_length c → v ≡ row_places c f (start + l) → w ≡ centre_places c f (start + l) → Summed start (whole + v) (centre + w) (l + 1)
      unfolding sum_to
      summed-next v w h ev ew =
          record { inside = omega arith; wholes = rw (add-one, ev, so.wholes) refl; centres = rw (add-one, ew, so.centres) refl }

      pub summed-end : slot_length c ≤ l → ◌≡◌ {A = SlotShape} (record { whole = whole; centre = centre }) (slot_shape c f start)
      unfolding slot_shape
      summed-end h = let z : slot_length c ≡ l = omega arith in rw (z, so.wholes, so.centres) refl

-- ---- slot_count: no product wraps, and the difference is none below 0
module _ (c : Cell) (x : SlotShape) (h : SlotIn x) (first count : ℕ) (fits : count ≤ 255) where
  pub whole-most : x.whole * (2 * count) ≤ 21420
  whole-most = mul-le-mul {n₂ = 42} {m₂ = 510} h.most (omega arith)

  module _ (n : ℕ) (en : n ≡ centre_halves c first count) where
    pub centre-least : x.centre * n ≤ x.whole * (2 * count)
    centre-least = mul-le-mul {n₂ = x.whole} {m₂ = 2 * count} h.part (omega arith)

    pub slot-found : x.whole * (2 * count) - x.centre * n ≡ slot_count c x first count
    unfolding slot_count
    slot-found = rw en refl

  pub slot-most : slot_count c x first count ≤ 21420
  unfolding slot_count
  slot-most = omega (arith, whole-most)

-- ---- user_count
module _ (c : Cell) (x : Shape) (h : ShapeIn x) (u : User) (fits : u.count ≤ 255) where
  pub count_most : count_by c x u ≤ 42840
  unfolding count_by
  count_most =
      omega (arith, slot-most c x.even h.even u.first u.count fits, slot-most c x.odd h.odd u.first u.count fits)

  pub count-found : (a b : ℕ) → a ≡ slot_count c x.even u.first u.count → b ≡ slot_count c x.odd u.first u.count → a + b ≡ count_by c x u
  unfolding count_by
  count-found a b ea eb = rw (ea, eb) refl

-- ---- shape_of
pub shape-found :
    (c : Cell) (f : Frame) (L : ℕ) (a b : SlotShape) → L ≡ slot_length c → a ≡ slot_shape c f 0 → b ≡ slot_shape c f L
    → ◌≡◌ {A = Shape} (record { even = a; odd = b }) (shape_of c f)
unfolding shape_of
shape-found c f L a b e ea eb = rw (ea, eb, e) refl
