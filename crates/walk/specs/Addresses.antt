-- For the inner contracts and loops only: where the two ports of a channel's pairs begin, and what a run needs.
use Rattle.std.specs.Prelude.{ℕ, ◌+◌, ◌*◌, ◌/◌, ◌%◌, ◌≤◌, ◌<◌, ◌≡◌, List, length}
use Rattle.precoding.specs.Places.{own_port, other_port}
use Rattle.grid.specs.Writing.{Room}
use Rattle.walk.specs.declared.PortOffsets.{PortOffsets}
use Rattle.walk.specs.declared.Run.{Run}
use Rattle.walk.specs.Runs.{run_count}
use Rattle.walk.specs.Forms.{Paired, PairForm, SingleForm, holed_place}

-- the own port of the pair at index j, that of the next pair, and the way to the other port
pub record OffsetsAt (P T j : ℕ) (r : PortOffsets) : Type 0 where
  pub own : r.own ≡ own_port P (j / 2 % 2) * T
  pub next : r.next ≡ own_port P ((j + 2) / 2 % 2) * T
  pub across : (port_pair : ℕ) → own_port P port_pair * T + r.across ≡ other_port P port_pair * T

-- m pairs from place `start` on and from index j on, inside a grid of two ports or four
pub record PairsIn (P T gap j start step m : ℕ) (grid : List ℕ) : Type 0 where
  pub room : Room P T grid
  pub many : 2 ≤ P
  pub even : j % 2 ≡ 0
  pub index : j + 2 * m ≤ 16800
  pub early : start ≤ T
  pub short : step ≤ 3
  pub inside : (i : ℕ) → i < m → start + step * i + gap < T

-- some pairs are, from place `start` on
pub record PairsFit (P T j start step : ℕ) : Type 0 where
  pub gap : ℕ
  pub pairs : ℕ
  pub grid : List ℕ
  pub inside : PairsIn P T gap j start step pairs grid

-- THE PAIRS OF A RUN: m of them, from place `start` on
pub record RunPairs (r : Run) (gap start step m : ℕ) : Type 0 where
  pub off : ℕ
  pub per : ℕ
  pub paired : Paired r.mask off step gap per
  pub short : step ≤ 3
  pub near : off ≤ 1
  pub count : m ≡ r.halves * per
  pub place : start ≡ r.first + off

-- two pairs in each round of a loop: where round i of n finds its pairs
pub record RoundAt (P T j start step n at next i : ℕ) : Type 0 where
  pub rounds : i ≤ n
  pub at_pair : at ≡ 3 * (own_port P (j / 2 % 2) * T + (start + step * (2 * i)))
  pub next-pair : next ≡ 3 * (own_port P ((j + 2) / 2 % 2) * T + (start + step * (2 * i + 1)))

-- what a run needs on two ports or four
pub record RunIn (P T j : ℕ) (r : Run) (grid : List ℕ) : Type 0 where
  pub room : Room P T grid
  pub many : 2 ≤ P
  pub even : j % 2 ≡ 0
  pub before : r.first < T
  pub inside : r.first + 6 * r.halves ≤ T
  pub form : PairForm r.mask
  pub index : j + run_count r ≤ 16800

-- and on any number of ports
pub record RunOpen (P T j : ℕ) (r : Run) (grid : List ℕ) : Type 0 where
  pub room : Room P T grid
  pub even : 2 ≤ P → j % 2 ≡ 0
  pub before : r.first < T
  pub inside : r.first + 6 * r.halves ≤ T
  pub single : SingleForm r.mask
  pub pairs : 2 ≤ P → PairForm r.mask
  pub short : r.halves ≤ 255
  pub index : j + run_count r ≤ 16800

-- places on one port are in a grid: side by side, and between holes
abbrev pub SinglesIn : ℕ → ℕ → List ℕ → Type 0
SinglesIn start n grid = (3 * (start + n) ≤ length grid) × (start + n ≤ 16800)

pub record HolesIn (first lead each total : ℕ) (grid : List ℕ) : Type 0 where
  pub early : lead ≤ each
  pub some : 0 < each
  pub from : first ≤ 16800
  pub inside : (k : ℕ) → k < total → SinglesIn (holed_place first lead each k) 1 grid
