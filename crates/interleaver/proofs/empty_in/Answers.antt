-- The test as a number. Assumes nothing.
use Prim.Native.Nat.{ℕ, ◌≤◌}
use mathlib.Core.Path.{◌≡◌, refl, ap, ◌∙◌}
use mathlib.Core.Bool.{Bool, true, false, cond}
use native.Mathlib.Omega.{arith}
use lib.Dec.{ltb}
use mir.Val.{bool_byte}
use Rattle.interleaver.specs.Cursor.{empty_in}
use Rattle.interleaver.proofs.empty_in.Goals as goal

flag : (b : Bool) → (bool_byte b ≡ cond b 1 0) × (bool_byte b ≤ 1)
flag true = (refl, omega arith)
flag false = (refl, omega arith)

pub returns : goal.returns
unfolding empty_in
returns c =
    let f = flag (ltb c.column_at.result c.args.empty) in
    (c.from.ensures ∙ f.0 ∙ ap (λ (x : ℕ). cond {A = ℕ} (ltb x c.args.empty) 1 0) c.column_at.ensures.0, omega (arith, c.from.ensures, f.1))
