-- What the promises cite: a plan's sections, the lengths of payload and grid, and the refusals 10 to 12. w is a plan's bytes, p the
-- plan that the plan check answers with.
use Rattle.std.specs.Prelude.{if◌then◌else◌, ℕ, ◌*◌, ◌≡◌, Bool, List, [], ◌∷◌, ◌++◌, eqb, length}
use Rattle.base.specs.Bits.{bit_at}
use Rattle.base.specs.Tables.{table}
use Rattle.plan.specs.Lists.{none_of, Every}
use Rattle.plan.specs.CommandLists.{users_of, nth_user}
use Rattle.plan.specs.declared.Cell.{Cell}
use Rattle.plan.specs.declared.Frame.{Frame}
use Rattle.plan.specs.declared.Plan.{Plan}
use Rattle.plan.specs.declared.Refusal.{Refusal}
use Rattle.plan.specs.declared.Refusal.TheVariants.{GridLength, PayloadLength, SpareBit}
use Rattle.layout.specs.Owners.{symbols}
use Rattle.layout.specs.declared.Owner.TheVariants.{User as UserOf}
use Rattle.counts.specs.Counts.{count_of}
use Rattle.payload.specs.Sections.{bytes_of, spares_from}

-- "PBCH when f = 0 (480 bits, extended 432)"
unfoldable pub pbch_bit_count : Cell → Frame → ℕ
pbch_bit_count c f = if eqb f.subframe 0 then (if eqb c.prefix 1 then 432 else 480) else 0

-- "per user Q × G bits, G its element count": of user i
unfoldable pub user_bit_count : List ℕ → Plan → ℕ → ℕ
user_bit_count w p i = (nth_user w p i).order * count_of w p (UserOf i)

-- the sections before the users': PBCH, "one bit per HI in plan order, if there are HIs"
unfoldable pub heads : Plan → List ℕ
heads p = pbch_bit_count p.cell p.frame ∷ p.his.count ∷ []

-- THE SECTIONS of a plan's payload, in their order
unfoldable pub sections : List ℕ → Plan → List ℕ
sections w p = heads p ++ table (length (users_of w p)) (user_bit_count w p)

-- the payload's bytes
unfoldable pub payload_length : List ℕ → Plan → ℕ
payload_length w p = bytes_of (sections w p)

-- the byte at which the first user's section starts
unfoldable pub users_start : Plan → ℕ
users_start p = bytes_of (heads p)

-- the grid's bytes: "36×N×S×P"
unfoldable pub grid_length : Plan → ℕ
grid_length p = 36 * p.cell.blocks * symbols p.cell * p.cell.ports

-- document 01's spare bits of a payload, and whether none of some bits is set
unfoldable pub spare_bits : List ℕ → Plan → List ℕ
spare_bits w p = spares_from 0 (sections w p)

unfoldable pub none_set : List ℕ → List ℕ → Bool
none_set payload bs = none_of (λ (b : ℕ). eqb (bit_at payload b) 1) bs

-- "Spare bits are zero"
unfoldable pub spare_clear : List ℕ → Plan → List ℕ → Bool
spare_clear w p payload = none_set payload (spare_bits w p)

-- "A plan is accepted when none of the plan's refusals applies to it, a payload under it when neither 11 nor 12 does"
pub record AcceptedPayload (w : List ℕ) (p : Plan) (payload : List ℕ) : Type 0 where
  pub size : length payload ≡ payload_length w p
  pub spare : Every (λ (b : ℕ). bit_at payload b ≡ 0) (spare_bits w p)

-- "From the state of the lent buffers, after the plan, by number: 10 grid not 36×N×S×P bytes; 11 payload length wrong": the answer
-- of a call, unless one of these applies
unfoldable pub unless_lengths : {A : Type 0} → (Refusal → A) → List ℕ → Plan → List ℕ → List ℕ → A → A
unless_lengths refusal w p grid payload answer =
    if eqb (length grid) (grid_length p)
    then (if eqb (length payload) (payload_length w p) then answer else refusal PayloadLength)
    else refusal GridLength

-- and "12 a spare bit set (build only)"
unfoldable pub unless_buffers : {A : Type 0} → (Refusal → A) → List ℕ → Plan → List ℕ → List ℕ → A → A
unless_buffers refusal w p grid payload answer =
    unless_lengths refusal w p grid payload (if spare_clear w p payload then answer else refusal SpareBit)
