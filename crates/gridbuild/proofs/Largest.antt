-- No accepted plan has a larger grid than 100 blocks, 14 symbols and four ports make. Assumes nothing.
use Prim.Native.Nat.{ℕ, ◌*◌, ◌≤◌}
use mathlib.Core.Path.{◌≡◌, refl, sym, ap, ◌∙◌}
use mathlib.Core.List.{List}
use native.Mathlib.Nat.{mul-le-mul}
use native.Mathlib.Omega.{arith}
use lib.ListN.{length, take}
use lib.Seq.{length-take-le}
use Rattle.std.specs.declared.result.Result.{Result}
use Rattle.std.specs.declared.result.Result.TheVariants.{Ok as accepted, Ok, Err as refused}
use Rattle.plan.specs.Answers.{Answer, given}
use Rattle.plan.specs.Check.{check_of, number_answer}
use Rattle.plan.specs.declared.Plan.{Plan}
use Rattle.plan.specs.declared.Refusal.{Refusal}
use Rattle.plan.proofs.Answers.{no_number}
use Rattle.plan.proofs.Valid.{valid}
use Rattle.plan.proofs.Counts.{blocks-most, ports-most}
use Rattle.layout.specs.Owners.{symbols}
use Rattle.payload.specs.Payload.{grid_length}
use Rattle.layout.proofs.Pilot.{symbols-most}
use Rattle.mapper.specs.Calls.{answer_with, grid_length_of}

grid-product-most : (n s q : ℕ) → n ≤ 100 → s ≤ 14 → q ≤ 4 → 36 * n * s * q ≤ 201600
grid-product-most n s q hn hs hq =
    mul-le-mul {n₂ = 50400} {m₂ = 4} (mul-le-mul {n₂ = 3600} {m₂ = 14} (omega arith) hs) hq

module _ (w : List ℕ) where
  grid-most : (p : Plan) → check_of w ≡ accepted p → grid_length p ≤ 201600
  unfolding grid_length
  grid-most p e =
      let v = (valid w p e).cell in
      grid-product-most p.cell.blocks (symbols p.cell) p.cell.ports (blocks-most p.cell v) (symbols-most p.cell) (ports-most p.cell v)

  grid-within : (n : ℕ) (a : Result Plan Refusal) → check_of w ≡ a → given n ≡ answer_with grid_length a → n ≤ 201600
  grid-within n (accepted p) e q = omega (arith, ap (λ (x : Answer). x.value) q, grid-most p e)
  grid-within n (refused r) e q = no_number (sym q)

  module _ (found : Result ℕ Refusal) (e : number_answer found ≡ grid_length_of w) (n : ℕ) (is : found ≡ Ok n) where
    pub grid-largest : n ≤ 201600
    unfolding grid_length_of
    grid-largest = grid-within n (check_of w) refl (ap number_answer (sym is) ∙ e)

    pub grid-part-length : (buffer : List ℕ) → 201600 ≤ length buffer → n ≡ length (take n buffer)
    grid-part-length buffer h = sym (length-take-le n buffer (omega (arith, grid-largest)))
