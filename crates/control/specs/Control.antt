-- For the inner contracts and loops only: the elements that PCFICH and the PHICH units write. T is the number of places on a port, an
-- element's number is port × T + place.
use Rattle.std.specs.Prelude.{ℕ, ◌+◌, ◌/◌, ◌%◌, Bool, ◌&&◌, List, get_or}
use Rattle.base.specs.declared.Pair.{Pair}
use Rattle.base.specs.declared.Element.{Element}
use Rattle.base.specs.Pairs.{nil}
use Rattle.gold.specs.declared.Registers.{Registers}
use Rattle.codeword.specs.Codewords.{data_symbol, cfi_bit}
use Rattle.codeword.specs.Streams.{outputs}
use Rattle.precoding.specs.Places.{placed}
use Rattle.phich.specs.Loops.{scrambled_sums}
use Rattle.phich.specs.Spreading.{spread_length}
use Rattle.plan.specs.declared.Cell.{Cell}
use Rattle.layout.specs.Rules.{format_group, pcfich, quad_symbol, quad_group, phich}
use Rattle.places.specs.Places.{symbol_at, carrier_at, places_of}
use Rattle.places.specs.Quads.{quads_index}
use Rattle.grid.specs.Writing.{sends}

-- which of PCFICH's places t is, and which of unit m's
unfoldable pub pcfich_index : Cell → ℕ → ℕ
pcfich_index c t = quads_index c 4 (λ (i : ℕ). 0) (format_group c) (symbol_at c t) (carrier_at c t)

unfoldable pub phich_index : Cell → ℕ → ℕ → ℕ
phich_index c m t = quads_index c 3 (quad_symbol c) (quad_group c m) (symbol_at c t) (carrier_at c t)

-- the elements that PCFICH sends: those of its places, on the ports with a term
unfoldable pub pcfich_sends : Cell → ℕ → Bool
pcfich_sends c e =
    let t = e % places_of c in
    pcfich c (symbol_at c t) (carrier_at c t) && sends c.ports (pcfich_index c t / 2 % 2) (e / places_of c)

unfoldable pub pcfich_sent : Cell → ℕ → Registers → ℕ → Element
pcfich_sent c cfi r e =
    let j = pcfich_index c (e % places_of c) in
    placed c.ports (j / 2 % 2) 2 (data_symbol 2 (cfi_bit cfi) (outputs r)) j (e / places_of c)

-- those of unit m: quad i uses one pair of ports or the other by i + m
unfoldable pub phich_sends : Cell → ℕ → ℕ → Bool
phich_sends c m e =
    let t = e % places_of c in
    phich c m (symbol_at c t) (carrier_at c t) && sends c.ports ((phich_index c m t / 4 + m) % 2) (e / places_of c)

-- by the sums at its places
unfoldable pub unit_sent : Cell → ℕ → List Pair → ℕ → Element
unit_sent c m sums e =
    let j = phich_index c m (e % places_of c) in
    placed c.ports ((j / 4 + m) % 2) 2 (λ (i : ℕ). get_or sums i nil) j (e / places_of c)

-- those that the bytes of its quad's sums give, scrambled with a pair
unfoldable pub phich_sent : Cell → ℕ → Registers → List ℕ → ℕ → Element
phich_sent c m r part = unit_sent c m (scrambled_sums (spread_length c) (outputs r) part)
