-- A check that has no plan has the refusal that `refusal_in` gives. Assumes nothing.
use Prim.Native.Nat.{ℕ}
use mathlib.Core.Path.{◌≡◌, refl, sym, ap, ◌∙◌}
use native.Mathlib.Omega.{arith}
use denote.Enum.Declared.{tag_of}
use Rattle.std.specs.declared.result.Result.{Result}
use Rattle.std.specs.declared.result.Result.TheVariants.{Ok as accepted, Err as refused}
use Rattle.std.specs.contracts.result.Result.{the_type}
use Rattle.plan.specs.Check.{refusal_of}
use Rattle.plan.specs.declared.Plan.{Plan}
use Rattle.plan.specs.declared.Refusal.{Refusal}
use Rattle.plan.specs.contracts.Plan.{the_row as plan_row}
use Rattle.plan.specs.contracts.Refusal.{the_row as refusal_row}

pub refused-is : {a : Result Plan Refusal} {r : Refusal} → tag_of (the_type plan_row refusal_row) a ≡ 1 → r ≡ refusal_of a → a ≡ refused r
refused-is {a = accepted p} h e = let k : 0 ≡ 1 = h in absurd (omega (arith, k))
refused-is {a = refused x} h e = ap refused (sym e)
