-- The two areas as the code makes them. Assumes nothing.
use Prim.Native.Nat.{ℕ, ◌+◌, ◌-◌, ◌*◌}
use mathlib.Core.Path.{◌≡◌, refl}
use mathlib.Core.Bool.{true, false}
use Rattle.plan.specs.declared.Cell.{Cell}
use Rattle.plan.specs.declared.Frame.{Frame}
use Rattle.plan.specs.declared.User.{User}
use Rattle.plan.specs.Fields.{control_symbols}
use Rattle.layout.specs.Owners.{symbols}
use Rattle.layout.specs.Rules.{slot_length}
use Rattle.areas.specs.declared.Area.{Area}
use Rattle.areas.specs.Areas.{pbch_area, user_area}

module _ (c : Cell) (f : Frame) where
  pub pbch-made :
      (slot : ℕ) → slot ≡ slot_length c → (n : ℕ) → n ≡ c.blocks
      → ◌≡◌ {A = Area} (record { cell = c; frame = f; first = slot; last = slot + 4; from = n - 6; to = n + 6; signals = 4; leaves = false }) (pbch_area c f)
  pbch-made slot d n e = rw (d, e) refl

  pub user-made :
      {rows : ℕ} → rows ≡ symbols c → (u : User) (start first count : ℕ) → start ≡ control_symbols c f → first ≡ u.first → count ≡ u.count
      → ◌≡◌ {A = Area} (record { cell = c; frame = f; first = start; last = rows; from = 2 * first; to = 2 * (first + count); signals = c.ports; leaves = true }) (user_area c f u)
  user-made b u start first count d e g = rw (b, d, e, g) refl
