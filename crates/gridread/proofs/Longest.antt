-- No accepted plan has a payload of more than 17,000 bytes. Assumes nothing.
use Rattle.std.specs.Prelude.{if◌then◌else◌, Result, Err as refused, Ok, Ok as accepted}
use Prim.Native.Nat.{ℕ, ◌+◌, ◌*◌, ◌≤◌}
use mathlib.Core.Path.{◌≡◌, refl, sym, ap, ◌∙◌}
use mathlib.Core.Bool.{Bool, true, false}
use mathlib.Core.List.{List, [], ◌∷◌}
use native.Mathlib.Omega.{arith}
use lib.Dec.{eqb}
use lib.ListN.{length, take}
use lib.Seq.{length-take-le}
use Rattle.plan.specs.Lists.{Every}
use Rattle.plan.specs.Answers.{Answer, given}
use Rattle.plan.specs.Check.{check_of, number_answer}
use Rattle.plan.specs.CommandLists.{users_of}
use Rattle.plan.specs.Valid.{UserIn}
use Rattle.plan.specs.declared.Cell.{Cell}
use Rattle.plan.specs.declared.Frame.{Frame}
use Rattle.plan.specs.declared.User.{User}
use Rattle.plan.specs.declared.Plan.{Plan}
use Rattle.plan.specs.declared.Refusal.{Refusal}
use Rattle.plan.proofs.Answers.{no_number}
use Rattle.plan.proofs.Valid.{valid}
use Rattle.plan.proofs.Counts.{his-most, users-most}
use Rattle.base.specs.Sums.{sum_of}
use Rattle.counts.specs.Users.{all_elements}
use Rattle.counts.proofs.UserSizes.{users-few}
use Rattle.payload.specs.Sections.{bytes_of}
use Rattle.payload.specs.Payload.{pbch_bit_count, heads, payload_length}
use Rattle.payload.specs.Loops.{computed_sections}
use Rattle.payload.proofs.Sections.{sections-computed}
use Rattle.payload.proofs.Lengths.{bits_most}
use Rattle.mapper.specs.Calls.{answer_with, payload_length_of}

-- ---- sections: at most 480 bits for PBCH, eight for each element of a user, and less than a byte of spare bits each
broadcast-most : (c : Cell) (f : Frame) → pbch_bit_count c f ≤ 480
unfolding pbch_bit_count
broadcast-most c f = pick (eqb f.subframe 0) (eqb c.prefix 1)
  where
    pick : (t u : Bool) → (if t then (if u then 432 else 480) else 0) ≤ 480
    pick true true = omega arith
    pick true false = omega arith
    pick false u = omega arith

users-bytes-most : (c : Cell) (f : Frame) (us : List User) → Every (UserIn c) us → 8 * bytes_of (computed_sections c f us) ≤ 8 * all_elements c f us + 7 * length us
unfolding computed_sections bytes_of all_elements sum_of
users-bytes-most c f [] h = omega arith
users-bytes-most c f (u ∷ us) h = omega (arith, bits_most c f u h.0, users-bytes-most c f us h.1)

-- ---- the payload
module _ (w : List ℕ) where
  payload-most : (p : Plan) → check_of w ≡ accepted p → payload_length w p ≤ 17000
  unfolding payload_length heads bytes_of
  payload-most p e =
      omega (
        arith,
        ap bytes_of (sections-computed w p e),
        broadcast-most p.cell p.frame,
        his-most w p e,
        users-bytes-most p.cell p.frame (users_of w p) (valid w p e).users,
        users-few w p e,
        (valid w p e).users-count,
        users-most w p e,
      )

  payload-within : (n : ℕ) (a : Result Plan Refusal) → check_of w ≡ a → given n ≡ answer_with (payload_length w) a → n ≤ 17000
  payload-within n (accepted p) e q = omega (arith, ap (λ (x : Answer). x.value) q, payload-most p e)
  payload-within n (refused r) e q = no_number (sym q)

  module _ (found : Result ℕ Refusal) (e : number_answer found ≡ payload_length_of w) (n : ℕ) (is : found ≡ Ok n) where
    pub payload-longest : n ≤ 17000
    unfolding payload_length_of
    payload-longest = payload-within n (check_of w) refl (ap number_answer (sym is) ∙ e)

    pub payload-part-length : (buffer : List ℕ) → 17000 ≤ length buffer → n ≡ length (take n buffer)
    payload-part-length buffer h = sym (length-take-le n buffer (omega (arith, payload-longest)))
