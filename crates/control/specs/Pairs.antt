-- For the inner contracts and loops only: two symbols that are sent beside each other, at two places of a group of an OFDM symbol, and the
-- pairs of PCFICH and of a PHICH unit. An element's number is port × T + place, T the number of places on a port.
use Rattle.std.specs.Prelude.{ℕ, ◌+◌, ◌*◌, ◌/◌, ◌%◌, ◌<◌, ◌≡◌, Bool, cond, ◌||◌, List, eqb, get_or}
use Rattle.base.specs.declared.Pair.{Pair}
use Rattle.base.specs.declared.Element.{Element}
use Rattle.base.specs.Pairs.{nil, Small}
use Rattle.gold.specs.declared.Registers.{Registers}
use Rattle.gold.specs.Steps.{after}
use Rattle.codeword.specs.Codewords.{data_symbol, cfi_bit}
use Rattle.codeword.specs.Streams.{outputs}
use Rattle.precoding.specs.Places.{on_port}
use Rattle.plan.specs.declared.Cell.{Cell}
use Rattle.layout.specs.Rules.{format_group}
use Rattle.places.specs.Places.{place_number, places_of}
use Rattle.places.specs.Quads.{quad_place}
use Rattle.grid.specs.Writing.{sent_at}
use Rattle.control.specs.declared.PairAt.{PairAt}

-- a pair of a cell: two places of its grid, and levels that have a byte
pub record PairIn (c : Cell) (x : PairAt) : Type 0 where
  pub first-inside : x.first_place < places_of c
  pub second-inside : x.second_place < places_of c
  pub apart : x.first_place ≡ x.second_place → ⊥
  pub first : Small 127 x.first
  pub second : Small 127 x.second

-- the number of the j-th place of group t of symbol s
abbrev pub group_place : Cell → ℕ → ℕ → ℕ → ℕ
group_place c s t j = place_number c s (quad_place c s t j)

-- of the elements at a pair's places, those of the ports with a term
unfoldable pub pair_sends : Cell → PairAt → ℕ → Bool
pair_sends c x e = sent_at c.ports (places_of c) x.port_pair x.second_place e || sent_at c.ports (places_of c) x.port_pair x.first_place e

-- the first symbol is sent at the first place, the second at the other
unfoldable pub pair_sent : Cell → PairAt → ℕ → Element
pair_sent c x e =
    cond (eqb (e % places_of c) x.first_place) (on_port c.ports x.port_pair 2 0 x.first x.second (e / places_of c))
    (on_port c.ports x.port_pair 2 1 x.second x.first (e / places_of c))

-- pair n of PCFICH, with the scrambling bits of a register pair r
unfoldable pub pcfich_pair : Cell → ℕ → Registers → ℕ → PairAt
pcfich_pair c cfi r n =
    record {
      first_place = group_place c 0 (format_group c (n / 2)) (2 * (n % 2));
      second_place = group_place c 0 (format_group c (n / 2)) (2 * (n % 2) + 1);
      port_pair = n % 2;
      first = data_symbol 2 (cfi_bit cfi) (outputs r) (2 * n);
      second = data_symbol 2 (cfi_bit cfi) (outputs r) (2 * n + 1);
    }

-- made from the pair s, whatever pair it is 4n steps on from
pub record PcfichPair (c : Cell) (cfi : ℕ) (s : Registers) (n : ℕ) (x : PairAt) : Type 0 where
  pub is : (r : Registers) → s ≡ after r (4 * n) → x ≡ pcfich_pair c cfi r n

-- pair n of the twelve sums of unit m, in the symbol and group of its quad
abbrev pub unit_pair : Cell → ℕ → ℕ → ℕ → List Pair → ℕ → PairAt
unit_pair c m symbol group sums n =
    record {
      first_place = group_place c symbol group (2 * (n % 2));
      second_place = group_place c symbol group (2 * (n % 2) + 1);
      port_pair = (n / 2 + m) % 2;
      first = get_or sums (2 * n) nil;
      second = get_or sums (2 * n + 1) nil;
    }
