-- THE THEOREM: the payload read from a grid is the one that the grid was built from. Assumes nothing beyond the plan check's answer.
use Prim.Native.Nat.{ℕ, ◌+◌, ◌*◌, ◌≤◌, ◌<◌}
use mathlib.Core.Path.{◌≡◌, sym, ap, ◌∙◌, subst}
use mathlib.Core.List.{List, [], ◌++◌}
use native.Mathlib.Omega.{arith}
use borrow.Author.Tests.{ltb-true, ltb-false}
use lib.Dec.{ltb}
use lib.ListN.{length, length-append, get_or-eq_default}
use Rattle.std.specs.declared.result.Result.TheVariants.{Ok as accepted-plan}
use Rattle.base.proofs.Tests.{by-test}
use Rattle.base.specs.Bits.{bit_at}
use Rattle.base.specs.Tables.{table}
use Rattle.phich.specs.Spreading.{spread_length}
use Rattle.plan.specs.Lists.{Every}
use Rattle.plan.specs.Check.{check_of}
use Rattle.plan.specs.CommandLists.{his_of, users_of}
use Rattle.plan.specs.declared.Plan.{Plan}
use Rattle.plan.proofs.Valid.{valid}
use Rattle.layout.specs.declared.Owner.{Owner}
use Rattle.layout.specs.declared.Owner.TheVariants.{Crs, Sync, Pbch, Pcfich, Phich, User as UserOf, Held, Idle}
use Rattle.payload.specs.Sections.{span, section_bits}
use Rattle.payload.specs.Payload.{pbch_bit_count, user_bit_count, heads, sections, payload_length, AcceptedPayload}
use Rattle.payload.specs.Bits.{hi_bits, owner_bits}
use Rattle.payload.proofs.Sections.{user_start, Users, users-length}
use Rattle.payload.proofs.EveryBit.{same_bits}
use Rattle.subframe.specs.Elements.{hi_bit}
use Rattle.subframe.specs.Grid.{grid_of}
use Rattle.subframe.specs.TwoBuilds.{SameBits}
use Rattle.subframe.proofs.OwnerBits.{bits-same}
use Rattle.subframe.proofs.UnitBuilds.{from-his}
use Rattle.recovery.specs.Recovery.{payload_in}
use Rattle.recovery.proofs.Channels.{pbch-length, pbch-recovered, user-recovered}
use Rattle.recovery.proofs.Units.{ack-recovered}
use Rattle.recovery.proofs.Payload.{size, bytes, accepted, pbch-bit, hi-bit, user-length, user-bit}
use Rattle.recovery.proofs.Digits.{bytes_same}

-- a user that the plan has not has no bits
no-user : (w : List ℕ) (p : Plan) (i : ℕ) → length (users_of w p) ≤ i → owner_bits w p (UserOf i) ≡ []
unfolding owner_bits section_bits sections span table
no-user w p i h =
    let l : length (heads p ++ Users w p) ≤ length (heads p) + i = omega (arith, length-append (heads p) (Users w p), users-length w p) in
    ap (λ (n : ℕ). span (8 * user_start w p i) n) (get_or-eq_default (heads p ++ Users w p) 0 l)

module _ (w : List ℕ) (p : Plan) (ok : check_of w ≡ accepted-plan p) (A : List ℕ) where
  -- the payload that is read
  abbrev B : List ℕ
  B = payload_in w p (grid_of w p A)

  -- ---- owner by owner
  pbch-same : SameBits w p Pbch B A
  pbch-same =
      (bits-same w p Pbch B A).1
      (λ i l.
      let k : i < pbch_bit_count p.cell p.frame = omega (arith, pbch-length w p ok) in
      pbch-bit w p (grid_of w p A) i k ∙ pbch-recovered w p ok A i k)

  unit-same : (m : ℕ) → SameBits w p (Phich m) B A
  unfolding owner_bits hi_bit
  unit-same m =
      from-his (spread_length p.cell) m (λ (b : ℕ). bit_at B b ≡ bit_at A b) (his_of w p) (hi_bits w p)
      (λ n l u.
      let k : n < p.his.count = omega (arith, (valid w p ok).his-count) in
      hi-bit w p (grid_of w p A) n k ∙ ack-recovered w p ok A n k)

  user-same : (i : ℕ) → SameBits w p (UserOf i) B A
  user-same i =
      by-test (ltb i (length (users_of w p)))
      (λ e.
      let in-i : i < length (users_of w p) = ltb-true i (length (users_of w p)) e in
      (bits-same w p (UserOf i) B A).1
      (λ n l.
      let k : n < user_bit_count w p i = omega (arith, user-length w p (grid_of w p A) i in-i) in
      user-bit w p (grid_of w p A) i in-i n k ∙ user-recovered w p ok i in-i A n k))
      (λ e.
      subst (Every (λ (b : ℕ). bit_at B b ≡ bit_at A b)) (sym (no-user w p i (ltb-false i (length (users_of w p)) e))) tt)

  owner-same : (o : Owner) → SameBits w p o B A
  unfolding owner_bits
  owner-same Pbch = pbch-same
  owner-same (Phich m) = unit-same m
  owner-same (UserOf i) = user-same i
  owner-same (Crs q) = tt
  owner-same (Sync m) = tt
  owner-same Pcfich = tt
  owner-same Held = tt
  owner-same Idle = tt

  -- ---- THE THEOREM, bit by bit and byte by byte
  pub same-bits-recovered :
      AcceptedPayload w p A → (b : ℕ) → b < 8 * payload_length w p → bit_at (payload_in w p (grid_of w p A)) b ≡ bit_at A b
  same-bits-recovered ok-A = same_bits w p ok B A (accepted w p (grid_of w p A)) ok-A owner-same

  pub recovered : AcceptedPayload w p A → Every (λ (x : ℕ). x < 256) A → payload_in w p (grid_of w p A) ≡ A
  recovered ok-A small =
      bytes_same B A (size w p (grid_of w p A) ∙ sym ok-A.size) (bytes w p (grid_of w p A)) small
      (λ b l. same-bits-recovered ok-A b (omega (arith, size w p (grid_of w p A))))
