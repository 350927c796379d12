-- For read's equation, inner contracts and laws only: the payload that a grid is built from, read bit by bit where each bit's symbol stands. w is a plan's bytes, p the
-- plan that the plan check answers with, g a grid. proofs/: read from the grid of an accepted payload, it is that payload.
use Rattle.std.specs.Prelude.{if◌then◌else◌, ℕ, zero, suc, ◌+◌, ◌-◌, ◌*◌, ◌/◌, ◌%◌, List, [], ◌∷◌, ◌++◌, ltb}
use Rattle.base.specs.declared.Pair.{Pair}
use Rattle.base.specs.Bytes.{pair_of}
use Rattle.base.specs.Digits.{dig}
use Rattle.base.specs.Tables.{table}
use Rattle.gold.specs.Sequence.{c, binary}
use Rattle.modulation.specs.Demapping.{Demapped, Word, NoLevel, demap_of}
use Rattle.precoding.specs.Places.{own_port}
use Rattle.grid.specs.Elements.{element_in}
use Rattle.phich.specs.His.{hi_number}
use Rattle.phich.specs.Units.{mapping_unit}
use Rattle.phich.specs.Recovery.{bit_in}
use Rattle.phich.specs.Spreading.{spread_length}
use Rattle.plan.specs.CommandLists.{his_of, nth_user}
use Rattle.plan.specs.declared.User.{User}
use Rattle.plan.specs.declared.Plan.{Plan}
use Rattle.layout.specs.declared.Owner.{Owner}
use Rattle.layout.specs.declared.Owner.TheVariants.{Pbch, Phich, User as UserOf}
use Rattle.places.specs.Places.{places_of, place_of}
use Rattle.payload.specs.Sections.{section_bytes}
use Rattle.payload.specs.Payload.{sections}
use Rattle.subframe.specs.Elements.{pbch_first, control_init, user_init}

-- the symbol of an owner's j-th place, from the port that sends it itself (precoding/specs/Places.antt: own_port by the place's pair of ports)
unfoldable pub symbol_in : List ℕ → Plan → List ℕ → Owner → ℕ → ℕ → Pair
symbol_in w p g o port_pair j = pair_of (element_in g (own_port p.cell.ports port_pair * places_of p.cell + place_of w p o j))

-- the bits of a symbol as a word, and 0 where no bits have its levels
abbrev pub word_of : Demapped → ℕ
word_of (Word v) = v
word_of NoLevel = 0

-- bit i of a channel of Q bits a symbol: its bit of symbol i / Q, with the scrambling bit x(i) taken off
unfoldable pub data_bit : List ℕ → Plan → List ℕ → Owner → ℕ → (ℕ → ℕ) → ℕ → ℕ
data_bit w p g o Q x i = (dig (word_of (demap_of Q (symbol_in w p g o (i / Q / 2) (i / Q)))) (Q - 1 - i % Q) + x i) % 2

unfoldable pub pbch_bit : List ℕ → Plan → List ℕ → ℕ → ℕ
pbch_bit w p g i = data_bit w p g Pbch 2 (λ (n : ℕ). c p.cell.identity (n + pbch_first p.cell p.frame)) i

unfoldable pub user_bit : List ℕ → Plan → List ℕ → ℕ → User → ℕ → ℕ
user_bit w p g i u n = data_bit w p g (UserOf i) u.order (c (user_init p.cell p.frame u)) n

-- the bit of HI n from the sums of its unit
unfoldable pub sums_in : List ℕ → Plan → List ℕ → ℕ → List Pair
sums_in w p g m = table 12 (λ (i : ℕ). symbol_in w p g (Phich m) (i / 4 + m) i)

unfoldable pub ack_bit : List ℕ → Plan → List ℕ → ℕ → ℕ
ack_bit w p g n =
    let l = spread_length p.cell in
    let h = hi_number (his_of w p) n in
    bit_in l (c (control_init p.cell p.frame)) h (sums_in w p g (mapping_unit l h))

-- "each starting on a byte and filled most significant bit first", "spare bits zero": the bytes of a section of n bits
unfoldable pub section_of : (ℕ → ℕ) → ℕ → List ℕ
section_of bit n = table (section_bytes n) (λ (m : ℕ). binary (λ (i : ℕ). if ltb i n then bit i else 0) (8 * m) 8)

-- sections that follow each other: bit i of section k is bits k i
unfoldable pub sections_of : (ℕ → ℕ → ℕ) → List ℕ → List ℕ
sections_of bits [] = []
sections_of bits (n ∷ ns) = section_of (bits 0) n ++ sections_of (λ (k : ℕ). bits (suc k)) ns

-- "PBCH when f = 0 ..; one bit per HI in plan order, if there are HIs; per user Q × G bits": bit i of section k
unfoldable pub section_bit : List ℕ → Plan → List ℕ → ℕ → ℕ → ℕ
section_bit w p g zero = pbch_bit w p g
section_bit w p g (suc zero) = ack_bit w p g
section_bit w p g (suc (suc i)) = user_bit w p g i (nth_user w p i)

-- THE PAYLOAD of a grid
unfoldable pub payload_in : List ℕ → Plan → List ℕ → List ℕ
payload_in w p g = sections_of (section_bit w p g) (sections w p)
