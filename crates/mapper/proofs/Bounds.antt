-- Lengths and counts of accepted plans are small, so that an i64 holds them. Assumes nothing.
use Rattle.std.specs.Prelude.{if◌then◌else◌, Result, Err, Err as refused, Ok, Ok as accepted}
use Prim.Native.Nat.{ℕ, ◌^◌, ◌≤◌, ◌<◌}
use mathlib.Core.Path.{◌≡◌, refl, sym, ap, ◌∙◌}
use mathlib.Core.Bool.{Bool, true, false}
use mathlib.Core.Logic.{◌⊎◌, inl, inr}
use mathlib.Core.List.{List}
use native.Mathlib.Nat.{mul-le-mul}
use native.Mathlib.Omega.{arith}
use borrow.Author.Tests.{ltb-true}
use lib.Dec.{eqb, ltb}
use lib.ListN.{length}
use Rattle.base.proofs.Tests.{by-test}
use Rattle.plan.specs.Answers.{Answer, given, refused_by}
use Rattle.plan.specs.Check.{refusal_number, check_of, refused_as, unless_refused, number_answer}
use Rattle.plan.specs.declared.Plan.{Plan}
use Rattle.plan.specs.declared.Refusal.{Refusal}
use Rattle.plan.specs.declared.Refusal.TheVariants.{Unreadable, Order, CellField, FrameField, HiField, UserField, Used, ShortRegion}
use Rattle.plan.specs.declared.Refusal.TheVariants.{Outside, NoElement, GridLength, PayloadLength, SpareBit, NoPayload}
use Rattle.plan.proofs.Answers.{no_number}
use Rattle.plan.proofs.Valid.{valid}
use Rattle.plan.proofs.Counts.{blocks-most, ports-most}
use Rattle.layout.specs.Owners.{symbols, carriers}
use Rattle.counts.specs.Counts.{kinds, kind_count}
use Rattle.counts.proofs.AddUp.{kinds-add-up}
use Rattle.base.proofs.Sums.{sum-part}
use Rattle.payload.specs.Payload.{grid_length, payload_length, spare_clear, unless_lengths, unless_buffers}
use Rattle.layout.proofs.Pilot.{symbols-most}
use Rattle.payload.proofs.Lengths.{grid-most, length-room, length_found}
use Rattle.build.specs.Build.{pdsch_elements, built_of}
use Rattle.read.specs.Read.{ReadUnder, Reads}
use Rattle.mapper.specs.Calls.{answer_with, grid_length_of, payload_length_of, kind_elements, kind_count_of}
use Rattle.mapper.specs.Sizes.{Small}

-- ---- an accepted plan's numbers
module _ (w : List ℕ) (p : Plan) (e : check_of w ≡ accepted p) where
  pub grid-small : grid_length p < 2 ^ 63
  unfolding grid_length
  grid-small =
      let v = (valid w p e).cell in
      omega (arith, grid-most p.cell.blocks (symbols p.cell) p.cell.ports (omega (arith, blocks-most p.cell v)) (symbols-most p.cell) (omega (arith, ports-most p.cell v)))

  pub payload-small : length w < 2 ^ 64 → payload_length w p < 2 ^ 63
  payload-small h = omega (arith, length-room w p e _ _ refl refl, length_found w p e _ _ refl refl)

  pub kind-small : (j : ℕ) → j < kinds → kind_count w p j ≤ 16800
  kind-small j h =
      let most = mul-le-mul {n₁ = carriers p.cell} {m₁ = symbols p.cell} {n₂ = 1200} {m₂ = 14} (omega (arith, blocks-most p.cell (valid w p e).cell)) (symbols-most p.cell) in
      omega (arith, sum-part kinds (kind_count w p) j h, kinds-add-up w p e, most)

  elements-small : (j : ℕ) → kind_elements w j p < 2 ^ 63
  elements-small j = pick (ltb j kinds) refl
    where
      pick : (t : Bool) → ltb j kinds ≡ t → (if t then kind_count w p j else 0) < 2 ^ 63
      pick true h = omega (arith, kind-small j (ltb-true j kinds h))
      pick false h = omega arith

refusal-small : (r : Refusal) → refusal_number r ≤ 16800
refusal-small Unreadable = omega arith
refusal-small Order = omega arith
refusal-small CellField = omega arith
refusal-small FrameField = omega arith
refusal-small HiField = omega arith
refusal-small UserField = omega arith
refusal-small Used = omega arith
refusal-small Outside = omega arith
refusal-small NoElement = omega arith
refusal-small GridLength = omega arith
refusal-small PayloadLength = omega arith
refusal-small SpareBit = omega arith
refusal-small NoPayload = omega arith
refusal-small ShortRegion = omega arith

-- ---- and those of the calls
numbered-small : (f : Plan → ℕ) (a : Result Plan Refusal) → ((p : Plan) → a ≡ accepted p → f p < 2 ^ 63) → (n : Result ℕ Refusal) → number_answer n ≡ answer_with f a → Small n
numbered-small f (accepted p) h (Ok n) e = omega (arith, ap (λ (x : Answer). x.value) e, h p refl)
numbered-small f (refused r) h (Ok n) e = no_number (sym e)
numbered-small f a h (Err x) e = tt

module _ (w : List ℕ) (n : Result ℕ Refusal) where
  small_of : (f : Plan → ℕ) → number_answer n ≡ answer_with f (check_of w) → ((p : Plan) → check_of w ≡ accepted p → f p < 2 ^ 63) → Small n
  small_of f e h = numbered-small f (check_of w) h n e

  pub grid-fits : number_answer n ≡ grid_length_of w → Small n
  unfolding grid_length_of
  grid-fits e = small_of grid_length e (grid-small w)

  pub payload-fits : length w < 2 ^ 64 → number_answer n ≡ payload_length_of w → Small n
  unfolding payload_length_of
  payload-fits h e = small_of (payload_length w) e (λ p q. payload-small w p q h)

  pub count_fits : (kind : ℕ) → number_answer n ≡ kind_count_of w kind → Small n
  unfolding kind_count_of
  count_fits kind e = small_of (kind_elements w kind) e (λ p q. elements-small w p q kind)

-- ---- the answers of build and read
module _ (w payload grid : List ℕ) where
  built-from : (a : Result Plan Refusal) → check_of w ≡ a
      → (unless_refused refused_as (λ (p : Plan). unless_buffers refused_as w p grid payload (given (pdsch_elements w p))) a).value ≤ 16800
  unfolding unless_buffers unless_lengths
  built-from (accepted p) e =
      by-test (eqb (length grid) (grid_length p))
      (λ a. by-test (eqb (length payload) (payload_length w p))
      (λ b. by-test (spare_clear w p payload) (λ d. rw (a, b, d) (kind-small w p e 6 (omega arith))) (λ d. rw (a, b, d) (omega arith)))
      (λ b. rw (a, b) (omega arith)))
      (λ a. rw a (omega arith))
  built-from (refused r) e = refusal-small r

  pub built-fits : (b : Result ℕ Refusal) → number_answer b ≡ built_of w payload grid → (n : ℕ) → b ≡ Ok n → n < 2 ^ 63
  unfolding built_of
  built-fits b e n q = omega (arith, ap (λ (a : Answer). a.value) (ap number_answer (sym q) ∙ e), built-from (check_of w) refl)

  lengths-small : (p : Plan) (a : Answer) → a.value ≤ 16800 → (unless_lengths refused_as w p grid payload a).value ≤ 16800
  unfolding unless_lengths
  lengths-small p a h =
      by-test (eqb (length grid) (grid_length p))
      (λ x. by-test (eqb (length payload) (payload_length w p)) (λ y. rw (x, y) h) (λ y. rw (x, y) (omega arith)))
      (λ x. rw x (omega arith))

  read_under : (p : Plan) → check_of w ≡ accepted p → {a : Answer} {after : List ℕ} → ReadUnder w p grid payload a after → a.value ≤ 16800
  read_under p ok h = pick h.answer
    where
      pick : {a : Answer} → (a ≡ unless_lengths refused_as w p grid payload (given (pdsch_elements w p))) ⊎ (a ≡ unless_lengths refused_as w p grid payload (refused_by 13)) → a.value ≤ 16800
      pick (inl e) = rw e (lengths-small p (given (pdsch_elements w p)) (kind-small w p ok 6 (omega arith)))
      pick (inr e) = rw e (lengths-small p (refused_by 13) (omega arith))

  read_small : {after : List ℕ} (a : Answer) → Reads w grid payload a after → a.value ≤ 16800
  read_small a h = pick (check_of w) refl
    where
      pick : (x : Result Plan Refusal) → check_of w ≡ x → a.value ≤ 16800
      pick (accepted p) e = read_under p e (h.under p e)
      pick (refused r) e = rw (h.first r e) (refusal-small r)

  pub read_fits : {after : List ℕ} (b : Result ℕ Refusal) → Reads w grid payload (number_answer b) after → (n : ℕ) → b ≡ Ok n → n < 2 ^ 63
  read_fits b h n q = omega (arith, ap (λ (a : Answer). a.value) (ap number_answer (sym q)), read_small (number_answer b) h)
