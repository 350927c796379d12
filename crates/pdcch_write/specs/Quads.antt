-- For the inner contracts and loops only: the four symbols of a quad at its group's places. T is the number of places on a port, an element's
-- number is port × T + place.
use Rattle.std.specs.Prelude.{ℕ, ◌+◌, ◌*◌, ◌/◌, ◌%◌, ◌≤◌, ◌<◌, ◌≡◌, Bool, cond, ◌||◌, List, eqb, length}
use Rattle.base.specs.declared.Element.{Element}
use Rattle.base.specs.declared.Pair.{Pair}
use Rattle.modulation.specs.Symbols.{modulation_symbol}
use Rattle.precoding.specs.Places.{on_port}
use Rattle.grid.specs.Writing.{Written, sent_at, Room}
use Rattle.element_pairs.specs.Numbers.{TwoPut}
use Rattle.constellation.specs.Pairs.{joint_of}
use Rattle.data_write.specs.Sent.{TableOf, entry_of}
use Rattle.pdcch_write.specs.declared.GroupPairs.{GroupPairs}

-- a group's pairs by its entry in the table of groups; `six` is the gap in those of six subcarriers
unfoldable pub pairs_of : ℕ → ℕ → GroupPairs
pairs_of e six = cond (eqb (e % 2) 1) (record { first = e / 2; second = e / 2 + 2; gap = 1 }) (record { first = e / 2; second = e / 2 + 3; gap = six })

-- two elements from byte `at` on are in a grid
pub record SingleIn (at gap : ℕ) (grid : List ℕ) : Type 0 where
  pub some : 1 ≤ gap
  pub near : gap ≤ 2
  pub fits : at + (3 * gap + 2) < length grid

-- what is done on one port with the four symbols of a byte
pub record SinglePut (x : GroupPairs) (z : ℕ) (t before after : List ℕ) : Type 0 where
  pub middle : List ℕ
  pub put : TwoPut x.gap (3 * x.first) (joint_of (entry_of t (z / 4 / 4 / 4)) (entry_of t (z / 4 / 4))) before middle
  pub put_next : TwoPut x.gap (3 * x.second) (joint_of (entry_of t (z / 4)) (entry_of t z)) middle after

-- what the four symbols need
pub record QuadIn (P T : ℕ) (x : GroupPairs) (t grid : List ℕ) : Type 0 where
  pub room : Room P T grid
  pub table : TableOf P 2 2 t
  pub some : 1 ≤ x.gap
  pub near : x.gap ≤ 2
  pub first : x.first + x.gap < T
  pub second : x.second + x.gap < T

-- of the elements at a pair's places, the first p and the second `gap` further, those of the ports with a term; the first pair of a quad is on
-- one pair of ports, the second on the other
unfoldable pub pair_sends : ℕ → ℕ → ℕ → ℕ → ℕ → ℕ → Bool
pair_sends P T port_pair p gap e = sent_at P T port_pair (p + gap) e || sent_at P T port_pair p e

unfoldable pub quad_sends : ℕ → ℕ → GroupPairs → ℕ → Bool
quad_sends P T x e = pair_sends P T 1 x.second x.gap e || pair_sends P T 0 x.first x.gap e

-- the values W at a pair's places are those of the symbols d and e
pub record PairValued (P T port_pair p gap : ℕ) (d e : Pair) (W : ℕ → Element) : Type 0 where
  pub first : (q : ℕ) → W (q * T + p) ≡ on_port P port_pair 2 0 d e q
  pub second : (q : ℕ) → W (q * T + p + gap) ≡ on_port P port_pair 2 1 e d q

-- the symbols of a byte's bits are written, whatever gives their values
pub record QuadPut (P T : ℕ) (x : GroupPairs) (z : ℕ) (before after : List ℕ) : Type 0 where
  pub size : length after ≡ length before
  pub written :
      (W : ℕ → Element) → PairValued P T 0 x.first x.gap (modulation_symbol 2 (z / 4 / 4 / 4)) (modulation_symbol 2 (z / 4 / 4)) W
      → PairValued P T 1 x.second x.gap (modulation_symbol 2 (z / 4)) (modulation_symbol 2 z) W → Written (quad_sends P T x) W before after
