-- For the inner contracts and loops only: the elements that the reference and synchronisation signals write. T is the number of places
-- on a port, an element's number is port × T + place.
use Rattle.std.specs.Prelude.{ℕ, ◌+◌, ◌*◌, ◌/◌, ◌%◌, Bool, cond, ◌&&◌, ◌||◌, eqb, ltb, pos}
use Rattle.base.specs.declared.Pair.{Pair}
use Rattle.base.specs.declared.Element.{Element}
use Rattle.base.specs.Signs.{flip}
use Rattle.base.specs.Bytes.{element_of}
use Rattle.gold.specs.declared.Registers.{Registers}
use Rattle.codeword.specs.Streams.{outputs}
use Rattle.plan.specs.declared.Cell.{Cell}
use Rattle.plan.specs.declared.Frame.{Frame}
use Rattle.layout.specs.Rules.{slot_length, stands_at, crs_symbol, crs_shift, used}
use Rattle.places.specs.Places.{symbol_at, carrier_at, places_of}
use Rattle.subframe.specs.Elements.{pss_element, sss_element}

-- the element stands on port q, in symbol s, where the port's reference signal does
unfoldable pub port_sends : Cell → ℕ → ℕ → ℕ → Bool
port_sends c s q e =
    let t = e % places_of c in
    eqb (e / places_of c) q && eqb (symbol_at c t) s && stands_at c (crs_shift c q s) (carrier_at c t)

-- a reference signal stands in symbol s: that of ports 0 and 1 or, with four ports, that of ports 2 and 3
unfoldable pub signalled : Cell → ℕ → Bool
signalled c s = crs_symbol c 0 s || (eqb c.ports 4 && crs_symbol c 2 s)

-- the first of these ports
unfoldable pub crs_port : Cell → ℕ → ℕ
crs_port c s = cond (crs_symbol c 0 s) 0 2

-- the element stands in symbol s, on a port of the cell, where that port's reference signal does
unfoldable pub crs_sends : Cell → ℕ → ℕ → Bool
crs_sends c s e = let q = e / places_of c in ltb q c.ports && crs_symbol c q s && port_sends c s q e

-- value m of a symbol, two bits of what the pair gives
unfoldable pub crs_from : Registers → ℕ → Pair
crs_from r m = record { re = flip (outputs r (2 * m)) (pos 1); im = flip (outputs r (2 * m + 1)) (pos 1) }

unfoldable pub crs_sent : Cell → Registers → ℕ → Element
crs_sent c r e = element_of 2 (crs_from r (carrier_at c (e % places_of c) / 6))

-- the synchronisation marks: port 0, the last symbol of the first slot and the one before, the middle 62 subcarriers. y symbols
-- from the slot's end
unfoldable pub mark_sends : Cell → ℕ → ℕ → Bool
mark_sends c y e =
    let t = e % places_of c in
    eqb (e / places_of c) 0 && eqb (symbol_at c t + y) (slot_length c) && used c (carrier_at c t)

unfoldable pub pss_sent : Cell → ℕ → Element
pss_sent c e = pss_element c 0 (carrier_at c (e % places_of c))

unfoldable pub sss_sent : Cell → Frame → ℕ → Element
sss_sent c f e = sss_element c f 0 (carrier_at c (e % places_of c))
