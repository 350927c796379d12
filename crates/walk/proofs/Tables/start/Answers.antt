-- The cursor at the first row.
use mathlib.Core.Path.{ap}
use Rattle.walk.specs.declared.Cursor.{Cursor}
use Prim.Native.Nat.{ℕ}
use Rattle.walk.proofs.Tables.start.Goals as goal

pub returns : goal.returns
returns c = ap {B = Cursor} (λ (x : ℕ). record { s = 0; i = x }) c.byte.ensures.0
