-- For the inner contracts and loops only: what stands at a channel's places, pairs and runs in a grid, and numbers that tell whether it is right.
use Rattle.std.specs.Prelude.{ℕ, ◌+◌, ◌*◌, ◌/◌, ◌%◌, ◌≤◌, ◌≡◌, Bool, List, Option, Some, None}
use Rattle.base.specs.Bytes.{element_of, pair_of}
use Rattle.base.specs.Counts.{nth}
use Rattle.precoding.specs.Places.{own_port, other_port, partner_of, partner_index}
use Rattle.places.specs.Places.{places_of}
use Rattle.grid.specs.Elements.{element_in}
use Rattle.walk.specs.declared.Row.{Row}
use Rattle.walk.specs.declared.Span.{Span}
use Rattle.walk.specs.declared.Cursor.{Cursor}
use Rattle.walk.specs.declared.Run.{Run}
use Rattle.walk.specs.Runs.{run_count, Laid}
use Rattle.walk.specs.Forms.{StretchesAt, holed_place}
use Rattle.areas.specs.declared.Area.{Area}
use Rattle.areas.specs.Areas.{area_at, area_count}
use Rattle.areas.specs.Runs.{AreaAt}
use Rattle.data_compare.specs.declared.Form.{Form}
use Rattle.data_compare.specs.declared.Sums.{Sums}
use Rattle.data_compare.specs.declared.Starts.{Starts}
use Rattle.data_compare.specs.Tests.{Tells, Own, FormOf, told_by}

-- place s of a pair, whose other place is t: its symbol on the own port, and on the other one the partner of the other symbol
pub record PlaceRight (P T port_pair odd q u : ℕ) (g : List ℕ) (s t : ℕ) : Type 0 where
  pub own : Own q u (element_in g (own_port P port_pair * T + s))
  pub other :
      (P ≡ 1 → ⊥) → element_in g (other_port P port_pair * T + s) ≡ element_of u (partner_of odd (pair_of (element_in g (own_port P port_pair * T + t))))

abbrev pub PairRight : ℕ → ℕ → ℕ → ℕ → ℕ → List ℕ → ℕ → ℕ → Type 0
PairRight P T port_pair q u g s t = PlaceRight P T port_pair 0 q u g s t × PlaceRight P T port_pair 1 q u g t s

-- what stands at index j of a channel, whose place is `place j`; and of one that has the places `own`, in ascending order
abbrev pub RightAt : (ℕ → ℕ) → ℕ → ℕ → ℕ → ℕ → List ℕ → ℕ → Type 0
RightAt place P T q u g j = PlaceRight P T (j / 2 % 2) (j % 2) q u g (place j) (place (partner_index j))

abbrev pub Right : (ℕ → Bool) → ℕ → ℕ → ℕ → ℕ → List ℕ → ℕ → Type 0
Right own P T q u g j = RightAt (nth own T) P T q u g j

-- ---- pairs. Where pair i of a loop stands, and the next one, in bytes
pub record RoundAt (P T j start step at next i : ℕ) : Type 0 where
  pub at_pair : at ≡ 3 * (own_port P ((j + 2 * i) / 2 % 2) * T + (start + step * i))
  pub next-pair : next ≡ 3 * (own_port P ((j + 2 * (i + 1)) / 2 % 2) * T + (start + step * (i + 1)))

pub record Starting (P T j start step : ℕ) (r : Starts) : Type 0 where
  pub first : RoundAt P T j start step r.at r.next 0
  pub across : (port_pair : ℕ) → 3 * (own_port P port_pair * T) + r.across ≡ 3 * (other_port P port_pair * T)

-- pair i of them
abbrev pub PairAt : ℕ → ℕ → ℕ → ℕ → ℕ → ℕ → ℕ → ℕ → List ℕ → ℕ → Type 0
PairAt P T gap j start step q u g i = PairRight P T ((j + 2 * i) / 2 % 2) q u g (start + step * i) (start + step * i + gap)

pub record PairsSeen (P T gap j start step m : ℕ) (f : Form) (g : List ℕ) (r : ℕ) : Type 0 where
  pub seen : (q u : ℕ) → FormOf q u f → Tells r m (PairAt P T gap j start step q u g)

pub record Pairs (P T gap j start step m : ℕ) (f : Form) (g : List ℕ) (s : Sums) (at next i : ℕ) : Type 0 where
  pub few : i ≤ m
  pub round : RoundAt P T j start step at next i
  pub done : PairsSeen P T gap j start step i f g (told_by f s)

-- ---- places e 0, e 1, .. on one port; side by side, one or two at a time, and between holes
pub record PlacesSeen (n : ℕ) (e : ℕ → ℕ) (f : Form) (g : List ℕ) (r : ℕ) : Type 0 where
  pub seen : (q u : ℕ) → FormOf q u f → Tells r n (λ (i : ℕ). Own q u (element_in g (e i)))

pub record Singles (start n : ℕ) (f : Form) (g : List ℕ) (bad i : ℕ) : Type 0 where
  pub few : i ≤ n
  pub done : PlacesSeen i (◌+◌ start) f g bad

pub record Doubles (start n : ℕ) (f : Form) (g : List ℕ) (bad i : ℕ) : Type 0 where
  pub few : i ≤ n
  pub done :
      (q u : ℕ) → FormOf q u f
      → Tells bad i (λ (k : ℕ). Own q u (element_in g (start + 2 * k)) × Own q u (element_in g (start + (2 * k + 1))))

pub record Stretches (first lead each total : ℕ) (f : Form) (g : List ℕ) (bad at left k : ℕ) : Type 0 where
  pub stretches : StretchesAt first lead each total at left k
  pub done : PlacesSeen k (holed_place first lead each) f g bad

-- ---- a run
pub record RunSeen (P T j : ℕ) (run : Run) (f : Form) (g : List ℕ) (r : ℕ) : Type 0 where
  pub seen : (own : ℕ → Bool) (q u : ℕ) → Laid own T j run → FormOf q u f → Tells r (run_count run) (λ (k : ℕ). Right own P T q u g (j + k))

-- ---- an area
-- the places of the indices below n are compared
pub record AreaSeen (a : Area) (f : Form) (g : List ℕ) (n r : ℕ) : Type 0 where
  pub seen : (q u : ℕ) → FormOf q u f → Tells r n (Right (area_at a) a.cell.ports (places_of a.cell) q u g)

pub record Going (a : Area) (rows : List Row) (spans : List Span) (f : Form) (g : List ℕ) (c : Cursor) (j r : ℕ) : Type 0 where
  pub cursor : AreaAt a rows spans c j
  pub done : AreaSeen a f g j r

pub record Through (a : Area) (f : Form) (g : List ℕ) (j r : ℕ) : Type 0 where
  pub index : j ≡ area_count a
  pub done : AreaSeen a f g (area_count a) r

-- all runs: their number of places, or that some are wrong
pub record RunsWrong (a : Area) (f : Form) (g : List ℕ) : Type 0 where
  pub bad : ℕ
  pub some : bad ≡ 0 → ⊥
  pub done : Through a f g (area_count a) bad

abbrev pub RunsSeen : Area → Form → List ℕ → Option ℕ → Type 0
RunsSeen a f g (Some j) = Through a f g j 0
RunsSeen a f g None = RunsWrong a f g
