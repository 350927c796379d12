-- What the promises cite: what read answers and what it leaves in the payload, for any plan bytes w, grid and payload. Document 01,
-- Refusals: the plan's refusal, then 10, 11 and "13 grid made by no payload (read only)"; "A refusal returns its number .. and buffers
-- stay. Build and read return the count of user elements, ports not multiplied; read fills the payload, spare bits zero".
use Rattle.std.specs.Prelude.{ℕ, ◌<◌, ◌≡◌, ◌↔◌, ◌⊎◌, List, length, Result, Err, Err as refused, Ok, Ok as accepted}
use Rattle.plan.specs.Lists.{Every}
use Rattle.plan.specs.Answers.{Answer, given, refused_by}
use Rattle.plan.specs.Check.{check_of, refused_as}
use Rattle.plan.specs.declared.Refusal.{Refusal}
use Rattle.plan.specs.declared.Refusal.TheVariants.{NoPayload}
use Rattle.plan.specs.declared.Plan.{Plan}
use Rattle.payload.specs.Payload.{grid_length, payload_length, unless_lengths, AcceptedPayload}
use Rattle.subframe.specs.Grid.{grid_of}
use Rattle.build.specs.Build.{pdsch_elements}

-- a payload is bytes
abbrev pub Bytes : List ℕ → Type 0
Bytes payload = Every (λ (b : ℕ). b < 256) payload

-- DEMAND 2: "With an accepted plan and buffers of its lengths, reading returns the payload from which building makes that grid, and
-- refuses the grid exactly when no accepted payload makes it." What the answer a, in document 01's numbers, and the payload after it
-- mean under an accepted plan p; `before` is the payload at entry
pub record ReadUnder (w : List ℕ) (p : Plan) (grid before : List ℕ) (a : Answer) (after : List ℕ) : Type 0 where
  -- 10, then 11, then the count of user elements or 13
  pub answer :
      (a ≡ unless_lengths refused_as w p grid before (given (pdsch_elements w p))) ⊎ (a ≡ unless_lengths refused_as w p grid before (refused_as NoPayload))
  -- 13 exactly when no accepted payload makes the grid
  pub none :
      length grid ≡ grid_length p → length before ≡ payload_length w p
      → (a ≡ refused_as NoPayload) ↔ ((payload : List ℕ) → Bytes payload → AcceptedPayload w p payload → grid_of w p payload ≡ grid → ⊥)
  -- the payload returned is accepted, and builds that very grid
  pub returned : (n : ℕ) → a ≡ given n → AcceptedPayload w p after × (grid_of w p after ≡ grid)
  -- what build wrote is read back
  pub back :
      (payload : List ℕ) → Bytes payload → AcceptedPayload w p payload → grid_of w p payload ≡ grid
      → length before ≡ payload_length w p → (a ≡ given (pdsch_elements w p)) × (after ≡ payload)

-- THE PROMISE, for every input. proofs/Once.antt: no two answers meet it, and the equation (Equation.antt) gives the one that does
pub record Reads (w grid before : List ℕ) (a : Answer) (after : List ℕ) : Type 0 where
  pub first : (r : Refusal) → check_of w ≡ refused r → a ≡ refused_as r
  pub under : (p : Plan) → check_of w ≡ accepted p → ReadUnder w p grid before a after
  -- "buffers stay"
  pub kept : (n : ℕ) → a ≡ refused_by n → after ≡ before
