-- Each section as a part of the payload's slice: its bits are its owner's. Assumes nothing beyond the plan check's answer.
use Prim.Native.Nat.{ℕ, zero, suc, ◌+◌, ◌-◌, ◌*◌, ◌/◌, ◌%◌, ◌^◌, ◌≤◌, ◌<◌}
use mathlib.Core.Path.{◌≡◌, sym, ap, ap₂, ◌∙◌}
use mathlib.Core.List.{List, [], ◌∷◌}
use native.Mathlib.Omega.{arith}
use lib.ListN.{length, get_or, take, drop}
use lib.Seq.{get_or-take, get_or-drop, drop-cons}
use Rattle.std.specs.declared.result.Result.TheVariants.{Ok as accepted}
use Rattle.base.specs.Bits.{bit_at}
use Rattle.plan.specs.Check.{check_of}
use Rattle.plan.specs.Commands.{user_of}
use Rattle.plan.specs.CommandLists.{next_of, users_from, users_of, nth_user}
use Rattle.plan.specs.Valid.{UserIn}
use Rattle.plan.specs.declared.User.{User}
use Rattle.plan.specs.declared.Plan.{Plan}
use Rattle.plan.proofs.CommandLists.{commands-next}
use Rattle.plan.proofs.Listed.{every-at}
use Rattle.plan.proofs.Valid.{valid}
use Rattle.layout.specs.declared.Owner.TheVariants.{Pbch, User as UserOf}
use Rattle.counts.specs.Counts.{count_of}
use Rattle.payload.specs.Sections.{section_bytes, bytes_of, start_of, section_bits}
use Rattle.payload.specs.Payload.{pbch_bit_count, user_bit_count, heads, sections, payload_length, users_start}
use Rattle.payload.specs.Bits.{owner_bits}
use Rattle.payload.specs.Loops.{computed_bit_count}
use Rattle.payload.proofs.Sections.{span-length, span-at, hi_at, Users, length-is, user_start, user-start, user-start-next, user-bits-at, bits-computed}
use Rattle.subframe.specs.Elements.{owner_bit, hi_bit}
use Rattle.subframe.proofs.OwnerBits.{pbch-size}
use Rattle.schedule.specs.Cursor.{From}

-- bit n of a part that starts at byte a
pub bit-slice : (s : List ℕ) (a m n : ℕ) → n / 8 < m → bit_at (take m (drop a s)) n ≡ bit_at s (8 * a + n)
unfolding bit_at
bit-slice s a m n l =
    let d : a + n / 8 ≡ (8 * a + n) / 8 = omega arith in
    let r : n % 8 ≡ (8 * a + n) % 8 = omega arith in
    ap (λ (x : ℕ). x / 2 ^ (7 - n % 8) % 2) (get_or-take m (drop a s) (n / 8) 0 l ∙ get_or-drop a s (n / 8) 0)
    ∙ ap₂ (λ (x y : ℕ). get_or s x 0 / 2 ^ (7 - y) % 2) d r

-- the users from number i on, which stand from position `at` on: the first of them, and the others
first_of : {A : Type 0} → A → List A → A
first_of d [] = d
first_of d (x ∷ xs) = x

others : {A : Type 0} → List A → List A
others [] = []
others (x ∷ xs) = xs

pub from_first : (w : List ℕ) (p : Plan) → From w p p.users.at 0
unfolding users_of
from_first w p = let e : p.users.count - 0 ≡ p.users.count = omega arith in ap (users_from (drop p.users.at w)) e

module _ (w : List ℕ) (p : Plan) (at i : ℕ) (f : From w p at i) (in-i : i < length (users_of w p)) (more : i < p.users.count) where
  split : users_from (drop at w) (p.users.count - i) ≡ user_of (drop at w) ∷ users_from (drop (next_of w at) w) (p.users.count - (i + 1))
  split =
      let e : p.users.count - i ≡ suc (p.users.count - (i + 1)) = omega arith in
      ap (users_from (drop at w)) e ∙ commands-next user_of w at (p.users.count - (i + 1))

  cut : (d : User) → user_of (drop at w) ∷ users_from (drop (next_of w at) w) (p.users.count - (i + 1)) ≡ get_or (users_of w p) i d ∷ drop (suc i) (users_of w p)
  cut d = sym split ∙ f ∙ drop-cons (users_of w p) i d in-i

  pub from-user : user_of (drop at w) ≡ nth_user w p i
  unfolding nth_user first_of
  from-user = let d : User = record { rnti = 0; order = 0; first = 0; count = 0 } in ap (first_of d) (cut d)

  pub from_next : From w p (next_of w at) (i + 1)
  unfolding others
  from_next =
      let d : User = record { rnti = 0; order = 0; first = 0; count = 0 } in
      let e : suc i ≡ i + 1 = omega arith in
      ap others (cut d) ∙ ap (λ (n : ℕ). drop n (users_of w p)) e

start-le : (ns : List ℕ) (i : ℕ) → start_of ns i ≤ bytes_of ns
unfolding start_of bytes_of
start-le [] zero = omega arith
start-le [] (suc i) = omega arith
start-le (n ∷ ns) zero = omega arith
start-le (n ∷ ns) (suc i) = omega (arith, start-le ns i)

module _ (w : List ℕ) (p : Plan) (ok : check_of w ≡ accepted p) (payload : List ℕ) where
  pub start-room : (i : ℕ) → user_start w p i ≤ payload_length w p
  start-room i = omega (arith, user-start w p i, length-is w p, start-le (Users w p) i)

  module _ (i : ℕ) (in-i : i < length (users_of w p)) where
    pub user-valid : UserIn p.cell (nth_user w p i)
    unfolding nth_user
    user-valid = every-at (UserIn p.cell) _ (users_of w p) i (valid w p ok).users in-i

    pub start-next : user_start w p (i + 1) ≡ user_start w p i + section_bytes (user_bit_count w p i)
    start-next = let e : i + 1 ≡ suc i = omega arith in ap (user_start w p) e ∙ user-start-next w p i in-i

    -- the end of the user's section, as the code computes it
    pub section-end : (v : User) (start end : ℕ) → v ≡ nth_user w p i → end ≡ start + section_bytes (computed_bit_count p.cell p.frame v) → end ≡ start + section_bytes (user_bit_count w p i)
    section-end v start end ev ee =
        ee ∙ ap (λ (n : ℕ). start + section_bytes n) (ap (computed_bit_count p.cell p.frame) ev ∙ sym (bits-computed w p ok i in-i))

    pub user-slice :
        (start end : ℕ) → start ≡ user_start w p i → end ≡ start + section_bytes (user_bit_count w p i)
        → (n : ℕ) → n < (nth_user w p i).order * count_of w p (UserOf i) → bit_at (take (end - start) (drop start payload)) n ≡ owner_bit w p payload (UserOf i) n
    unfolding owner_bit user_bit_count
    user-slice start end es ee n l =
        bit-slice payload start (end - start) n (omega arith)
        ∙ ap (bit_at payload) (sym (ap (λ (x : List ℕ). get_or x n 0) (user-bits-at w p i in-i) ∙ span-at (8 * user_start w p i) (user_bit_count w p i) n l ∙ ap (λ (x : ℕ). 8 * x + n) (sym es)))

  -- PBCH's section is the first, the HIs' the second
  pub pbch-slice : (end : ℕ) → end ≡ section_bytes (pbch_bit_count p.cell p.frame) → (n : ℕ) → n < 2 * count_of w p Pbch → bit_at (take (end - 0) (drop 0 payload)) n ≡ owner_bit w p payload Pbch n
  unfolding owner_bit owner_bits section_bits sections heads start_of bytes_of
  pbch-slice end ee n l =
      let less : n < pbch_bit_count p.cell p.frame = omega (arith, span-length 0 (pbch_bit_count p.cell p.frame), pbch-size w p ok) in
      bit-slice payload 0 (end - 0) n (omega arith)
      ∙ ap (bit_at payload) (sym (span-at (8 * 0) (pbch_bit_count p.cell p.frame) n less))

  pub hi-slice :
      (start end : ℕ) → start ≡ section_bytes (pbch_bit_count p.cell p.frame) → end ≡ users_start p
      → (n : ℕ) → n < p.his.count → bit_at (take (end - start) (drop start payload)) n ≡ hi_bit w p payload n
  unfolding hi_bit users_start sections heads start_of bytes_of
  hi-slice start end es ee n l =
      bit-slice payload start (end - start) n (omega arith)
      ∙ (let e : 8 * start + n ≡ 8 * (section_bytes (pbch_bit_count p.cell p.frame) + 0) + n = omega arith in ap (bit_at payload) (e ∙ sym (hi_at w p n l)))

  pub heads-room : (start end : ℕ) → start ≡ section_bytes (pbch_bit_count p.cell p.frame) → end ≡ users_start p → (start ≤ end) × (end ≤ payload_length w p)
  unfolding users_start heads bytes_of
  heads-room start end es ee = (omega arith, omega (arith, length-is w p))
