-- For the inner contracts only: a user's count by products with two numbers of each slot. proofs/Shapes.antt: it is the count over the
-- symbols.
use Rattle.std.specs.Prelude.{if◌then◌else◌, ℕ, ◌+◌, ◌-◌, ◌*◌, ◌≤◌, ltb}
use Rattle.plan.specs.declared.Cell.{Cell}
use Rattle.plan.specs.declared.Frame.{Frame}
use Rattle.plan.specs.declared.User.{User}
use Rattle.layout.specs.Rules.{slot_length}
use Rattle.plan.specs.Fields.{control_symbols}
use Rattle.counts.specs.declared.SlotShape.{SlotShape}
use Rattle.counts.specs.declared.Shape.{Shape}
use Rattle.base.specs.Sums.{sum_to}
use Rattle.counts.specs.Users.{signals, taken, centre_halves}

-- the places of six subcarriers in symbol s that users can have, and the same of a symbol whose centre is taken
unfoldable pub row_places : Cell → Frame → ℕ → ℕ
row_places c f s = if ltb s (control_symbols c f) then 0 else 6 - signals c c.ports s

unfoldable pub centre_places : Cell → Frame → ℕ → ℕ
centre_places c f s = if taken c f s then row_places c f s else 0

-- the sums of both over the slot whose first symbol is `start`
unfoldable pub slot_shape : Cell → Frame → ℕ → SlotShape
slot_shape c f start =
    record { whole = sum_to (slot_length c) (λ l. row_places c f (start + l)); centre = sum_to (slot_length c) (λ l. centre_places c f (start + l)) }

unfoldable pub shape_of : Cell → Frame → Shape
shape_of c f = record { even = slot_shape c f 0; odd = slot_shape c f (slot_length c) }

-- a user's places in a slot, and its count
unfoldable pub slot_count : Cell → SlotShape → ℕ → ℕ → ℕ
slot_count c x first count = x.whole * (2 * count) - x.centre * centre_halves c first count

unfoldable pub count_by : Cell → Shape → User → ℕ
count_by c x u = slot_count c x.even u.first u.count + slot_count c x.odd u.first u.count

-- the ranges: six places in each of at most seven symbols
pub record SlotIn (x : SlotShape) : Type 0 where
  pub most : x.whole ≤ 42
  pub part : x.centre ≤ x.whole

pub record ShapeIn (x : Shape) : Type 0 where
  pub even : SlotIn x.even
  pub odd : SlotIn x.odd
