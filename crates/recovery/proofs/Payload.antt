-- The payload of any grid: it is accepted, its bytes are bytes, and its bits are those that the grid gives each owner. Assumes nothing.
use Prim.Native.Nat.{ℕ, zero, suc, ◌+◌, ◌*◌, ◌<◌}
use mathlib.Core.Path.{◌≡◌, sym, ap, ◌∙◌}
use mathlib.Core.List.{List}
use native.Mathlib.Omega.{arith}
use lib.IntN.{ℤ, pos, negsuc}
use lib.ListN.{length, get_or}
use Rattle.base.specs.declared.Pair.{Pair}
use Rattle.base.specs.Bits.{bit_at}
use Rattle.base.specs.Pairs.{nil}
use Rattle.base.specs.Signs.{below}
use Rattle.phich.specs.Recovery.{along, bit_in}
use Rattle.plan.specs.Lists.{Every}
use Rattle.plan.specs.CommandLists.{users_of, nth_user}
use Rattle.plan.specs.declared.Hi.{Hi}
use Rattle.plan.specs.declared.User.{User}
use Rattle.plan.specs.declared.Plan.{Plan}
use Rattle.layout.specs.declared.Owner.TheVariants.{Pbch, User as UserOf}
use Rattle.payload.specs.Sections.{start_of, section_bits}
use Rattle.payload.specs.Payload.{pbch_bit_count, user_bit_count, heads, sections, payload_length, spare_bits, AcceptedPayload}
use Rattle.payload.specs.Bits.{owner_bits}
use Rattle.payload.proofs.Sections.{span-length, span-at, hi_at, user_start, user-bits-at}
use Rattle.subframe.specs.Elements.{owner_bit, hi_bit}
use Rattle.recovery.specs.Recovery.{data_bit, pbch_bit, user_bit, ack_bit, section_bit, payload_in}
use Rattle.recovery.proofs.Sections.{sections-length, sections-bytes, sections-bit, sections-spare}

-- ---- bits
below_two : (z : ℤ) → below z < 2
below_two (pos n) = omega arith
below_two (negsuc n) = omega arith

sums-two : (l : ℕ) (x : ℕ → ℕ) (h : Hi) (sums : List Pair) → bit_in l x h sums < 2
unfolding bit_in
sums-two l x h sums = below_two (along l x h (λ (i : ℕ). get_or sums i nil))

module _ (w : List ℕ) (p : Plan) (g : List ℕ) where
  pbch-two : (i : ℕ) → pbch_bit w p g i < 2
  unfolding pbch_bit data_bit
  pbch-two i = omega arith

  ack-two : (n : ℕ) → ack_bit w p g n < 2
  unfolding ack_bit
  ack-two n = sums-two _ _ _ _

  user-two : (i : ℕ) (u : User) (n : ℕ) → user_bit w p g i u n < 2
  unfolding user_bit data_bit
  user-two i u n = omega arith

  bits-two : (k i : ℕ) → section_bit w p g k i < 2
  unfolding section_bit
  bits-two zero i = pbch-two i
  bits-two (suc zero) i = ack-two i
  bits-two (suc (suc k)) i = user-two k (nth_user w p k) i

  -- ---- THE LAWS, of any grid
  pub size : length (payload_in w p g) ≡ payload_length w p
  unfolding payload_in payload_length
  size = sections-length (section_bit w p g) (sections w p)

  pub bytes : Every (λ (x : ℕ). x < 256) (payload_in w p g)
  unfolding payload_in
  bytes = sections-bytes (section_bit w p g) (sections w p) bits-two

  spare : Every (λ (b : ℕ). bit_at (payload_in w p g) b ≡ 0) (spare_bits w p)
  unfolding payload_in spare_bits
  spare =
      sections-spare (section_bit w p g) (sections w p) bits-two (payload_in w p g) 0
      (λ b. let e : 8 * 0 + b ≡ b = omega arith in ap (bit_at (payload_in w p g)) e)

  pub accepted : AcceptedPayload w p (payload_in w p g)
  accepted = record { size = size; spare = spare }

  -- ---- the bits of each section
  bit-of : (k i : ℕ) → i < get_or (sections w p) k 0 → bit_at (payload_in w p g) (8 * start_of (sections w p) k + i) ≡ section_bit w p g k i
  unfolding payload_in
  bit-of k i l = sections-bit (section_bit w p g) (sections w p) bits-two k i l

  pub pbch-bit : (i : ℕ) → i < pbch_bit_count p.cell p.frame → owner_bit w p (payload_in w p g) Pbch i ≡ pbch_bit w p g i
  unfolding owner_bit owner_bits section_bits sections heads section_bit
  pbch-bit i l =
      ap (bit_at (payload_in w p g)) (span-at (8 * start_of (sections w p) 0) (pbch_bit_count p.cell p.frame) i l) ∙ bit-of 0 i l

  pub hi-bit : (n : ℕ) → n < p.his.count → hi_bit w p (payload_in w p g) n ≡ ack_bit w p g n
  unfolding hi_bit sections heads section_bit
  hi-bit n l = ap (bit_at (payload_in w p g)) (hi_at w p n l) ∙ bit-of 1 n l

  module _ (i : ℕ) (in-i : i < length (users_of w p)) where
    pub user-length : length (owner_bits w p (UserOf i)) ≡ user_bit_count w p i
    user-length = ap length (user-bits-at w p i in-i) ∙ span-length (8 * user_start w p i) (user_bit_count w p i)

    pub user-section : get_or (sections w p) (length (heads p) + i) 0 ≡ user_bit_count w p i
    unfolding owner_bits section_bits
    user-section = sym (span-length (8 * user_start w p i) (get_or (sections w p) (length (heads p) + i) 0)) ∙ user-length

    pub user-bit :
        (n : ℕ) → n < user_bit_count w p i
        → owner_bit w p (payload_in w p g) (UserOf i) n ≡ user_bit w p g i (nth_user w p i) n
    unfolding owner_bit heads section_bit
    user-bit n l =
        let e : length (heads p) + i ≡ suc (suc i) = omega arith in
        ap (bit_at (payload_in w p g))
        (ap (λ (x : List ℕ). get_or x n 0) (user-bits-at w p i in-i) ∙ span-at (8 * user_start w p i) (user_bit_count w p i) n l)
        ∙ bit-of (length (heads p) + i) n (rw user-section l)
        ∙ ap (λ (k : ℕ). section_bit w p g k n) e
