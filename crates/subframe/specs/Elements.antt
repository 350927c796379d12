-- What the promises cite: the element of every place on every port, by the place's owner. Document 01, Owners; TS 36.211. (s, k) is a
-- place, symbol s and subcarrier k; w is a plan's bytes, p the plan that the plan check answers with; `c ci n` is the sequence's c(n) for
-- the c_init ci.
use Rattle.std.specs.Prelude.{if◌then◌else◌, ℕ, ◌+◌, ◌-◌, ◌*◌, ◌/◌, ◌%◌, List, eqb, get_or, pos}
use Rattle.base.specs.declared.Pair.{Pair}
use Rattle.base.specs.declared.Element.{Element}
use Rattle.base.specs.Bits.{bit_at}
use Rattle.base.specs.Bytes.{element_of, silent}
use Rattle.base.specs.Pairs.{nil}
use Rattle.gold.specs.Sequence.{c}
use Rattle.modulation.specs.Symbols.{unit_of}
use Rattle.codeword.specs.Codewords.{data_symbol, cfi_bit}
use Rattle.precoding.specs.Matrices.{precoded}
use Rattle.precoding.specs.Phich.{phich_precoded}
use Rattle.crs.specs.Crs.{crs_value}
use Rattle.sync.specs.Pss.{pss_phase}
use Rattle.sync.specs.Sss.{sss_level}
use Rattle.phich.specs.Spreading.{spread_length}
use Rattle.phich.specs.Units.{mapping_unit_sums}
use Rattle.plan.specs.CommandLists.{his_of, nth_user}
use Rattle.plan.specs.declared.Cell.{Cell}
use Rattle.plan.specs.declared.Frame.{Frame}
use Rattle.plan.specs.declared.User.{User}
use Rattle.plan.specs.declared.Plan.{Plan}
use Rattle.layout.specs.Rules.{slot_of, in_slot}
use Rattle.layout.specs.Owners.{owner_of}
use Rattle.layout.specs.declared.Mark.TheVariants.{Primary, Secondary}
use Rattle.layout.specs.declared.Owner.{Owner}
use Rattle.layout.specs.declared.Owner.TheVariants.{Crs, Sync, Pbch, Pcfich, Phich, User as UserOf, Held, Idle}
use Rattle.counts.specs.Counts.{count_of}
use Rattle.places.specs.Places.{place_number, index_of}
use Rattle.payload.specs.Bits.{hi_bits, owner_bits}

-- ---- CRS (6.10.1): "slots are n = 2f and 2f+1"; "k = 6m+((v+C) mod 6)", so m is k / 6; unit 2 on the signal's own
-- port q; "Other ports are silent there"
unfoldable pub crs_element : Cell → Frame → ℕ → ℕ → ℕ → ℕ → Element
crs_element cell frame q port s k =
    if eqb port q
    then element_of 2 (crs_value cell.prefix cell.identity cell.blocks (2 * frame.subframe + slot_of cell s) (in_slot cell s) (k / 6))
    else silent

-- ---- synchronisation (6.11), "62 used, port 0": the first of them is subcarrier 6N − 31
unfoldable pub mark_number : Cell → ℕ → ℕ
mark_number cell k = k + 31 - 6 * cell.blocks

-- "unit 63, I = w×t mod 63" (sync/specs/Pss.antt); "Unit 63 means phase −2πI/63, I 0..62, J = 0"
unfoldable pub pss_element : Cell → ℕ → ℕ → Element
pss_element cell port k = if eqb port 0 then record { byte = 63; i = pss_phase cell.identity (mark_number cell k); j = 0 } else silent

-- "unit 1, J = 0, by 36.211 6.11.2"
unfoldable pub sss_element : Cell → Frame → ℕ → ℕ → Element
sss_element cell frame port k =
    if eqb port 0 then element_of 1 (record { re = sss_level cell.identity frame.subframe (mark_number cell k); im = pos 0 }) else silent

-- ---- the bits of an owner, by their number among them (payload/specs/Bits.antt has their positions in the payload)
unfoldable pub owner_bit : List ℕ → Plan → List ℕ → Owner → ℕ → ℕ
owner_bit w p payload o i = bit_at payload (get_or (owner_bits w p o) i 0)

-- ---- PBCH (6.6): "c_init = C; bit i uses c(i+480(F mod 4)), extended 432. QPSK"
unfoldable pub pbch_first : Cell → Frame → ℕ
pbch_first cell frame = (if eqb cell.prefix 1 then 432 else 480) * (frame.number % 4)

unfoldable pub pbch_symbol : List ℕ → Plan → List ℕ → ℕ → Pair
pbch_symbol w p payload j = data_symbol 2 (owner_bit w p payload Pbch) (λ (i : ℕ). c p.cell.identity (i + pbch_first p.cell p.frame)) j

-- ---- PCFICH (6.7): "c_init = (f+1)(2C+1)512+C. QPSK"
unfoldable pub control_init : Cell → Frame → ℕ
control_init cell frame = (frame.subframe + 1) * (2 * cell.identity + 1) * 512 + cell.identity

unfoldable pub pcfich_symbol : Cell → Frame → ℕ → Pair
pcfich_symbol cell frame j = data_symbol 2 (cfi_bit frame.cfi) (c (control_init cell frame)) j

-- ---- PHICH (6.9): the bit of HI n is at the n-th of the HIs' positions; "scrambled by 36.211 6.9.1 with PCFICH's c_init"; "summed per
-- unit": the sum at the i-th of unit m's twelve places. "an empty unit still owns its elements, with sum 0"
unfoldable pub hi_bit : List ℕ → Plan → List ℕ → ℕ → ℕ
hi_bit w p payload n = bit_at payload (get_or (hi_bits w p) n 0)

unfoldable pub phich_sum : List ℕ → Plan → List ℕ → ℕ → ℕ → Pair
phich_sum w p payload m i =
    get_or (mapping_unit_sums (spread_length p.cell) (c (control_init p.cell p.frame)) m (hi_bit w p payload) (his_of w p)) i nil

-- ---- USER (6.3, 6.4): "c_init = RNTI×16384+512f+C", Q bits a symbol
unfoldable pub user_init : Cell → Frame → User → ℕ
user_init cell frame u = u.rnti * 16384 + 512 * frame.subframe + cell.identity

unfoldable pub user_symbol : List ℕ → Plan → List ℕ → ℕ → ℕ → Pair
user_symbol w p payload i j =
    let u = nth_user w p i in
    data_symbol u.order (owner_bit w p payload (UserOf i)) (c (user_init p.cell p.frame u)) j

-- ---- THE ELEMENT of an owner's place (s, k) on a port. The j-th of a channel's places, in its filling order (6.3.5, 6.6.4, 6.7.4, 6.9.3),
-- takes its j-th symbol: "P = 1 sends on port 0. P = 2, 4 (CRS, PSS and SSS apart): layer mapping and precoding 6.3.3.3, 6.3.4.3, units
-- doubled, ports without a term silent"; "Units 2, 10, 42; PHICH 2, kept where a sum is 0", "Unit 170 with one port; with diversity 340,
-- whose unit byte is 255" (document 02, #109); "An element given no value on a port is silent there". `count_of` of a user is the G of its
-- section
unfoldable pub element_for : List ℕ → Plan → List ℕ → Owner → ℕ → ℕ → ℕ → Element
element_for w p payload (Crs q) port s k = crs_element p.cell p.frame q port s k
element_for w p payload (Sync Primary) port s k = pss_element p.cell port k
element_for w p payload (Sync Secondary) port s k = sss_element p.cell p.frame port k
element_for w p payload Pbch port s k =
    precoded p.cell.ports (count_of w p Pbch) 2 (pbch_symbol w p payload) (index_of w p Pbch (place_number p.cell s k)) port
element_for w p payload Pcfich port s k =
    precoded p.cell.ports 16 2 (pcfich_symbol p.cell p.frame) (index_of w p Pcfich (place_number p.cell s k)) port
element_for w p payload (Phich m) port s k =
    let j = index_of w p (Phich m) (place_number p.cell s k) in
    phich_precoded p.cell.ports m 2 (phich_sum w p payload m) (j / 4) (j % 4) port
element_for w p payload (UserOf i) port s k =
    precoded p.cell.ports (count_of w p (UserOf i)) (unit_of (nth_user w p i).order) (user_symbol w p payload i)
    (index_of w p (UserOf i) (place_number p.cell s k)) port
element_for w p payload Held port s k = silent
element_for w p payload Idle port s k = silent

-- THE ELEMENT of a place on a port
unfoldable pub element_at : List ℕ → Plan → List ℕ → ℕ → ℕ → ℕ → Element
element_at w p payload port s k = element_for w p payload (owner_of w p s k) port s k
