-- For the inner contracts and loops only: the walk over the groups of the control region that fills the table. c is the cell, L the number of
-- control symbols, R that of the vacant groups. As in 6.8.5, x is k × L + s.
use Rattle.std.specs.Prelude.{if◌then◌else◌, ℕ, zero, suc, ◌+◌, ◌*◌, ◌/◌, ◌%◌, ◌≤◌, ◌<◌, ◌≡◌, Bool, true, not, ◌||◌, List, eqb, length, get_or, set}
use Rattle.base.specs.Counts.{cnt, nth, some_of}
use Rattle.bitset.specs.Sets.{member}
use Rattle.interleaver.specs.Matrix.{quad_at, sent_at}
use Rattle.interleaver.specs.Cursor.{cursor_at, step_of, Stands}
use Rattle.interleaver.specs.declared.Cursor.{Cursor}
use Rattle.plan.specs.Fields.{group_size, symbol_groups}
use Rattle.plan.specs.declared.Cell.{Cell}
use Rattle.layout.specs.Region.{is_vacant, region_symbol, region_group}
use Rattle.places.specs.Steps.{left_of}
use Rattle.pdcch.specs.Groups.{entry_of}

-- ---- the set of the groups that PCFICH and PHICH have
-- the number of group t of symbol s in it: half that of its first subcarrier's place, which is even
abbrev pub spot_of : Cell → ℕ → ℕ → ℕ
spot_of c s t = s * (6 * c.blocks) + group_size c s / 2 * t

-- the set with n numbers more
pub record MarkedBy (spot : ℕ → ℕ) (n : ℕ) (was : List ℕ) (taken : List ℕ) : Type 0 where
  pub size : length taken ≡ 32
  pub members : (x : ℕ) → member taken x ≡ member was x || some_of (λ (j : ℕ). eqb x (spot j)) n

-- the group left with number n in symbol s, where PCFICH has groups a, b, d, e of symbol 0
unfoldable pub group_of : ℕ → ℕ → ℕ → ℕ → ℕ → ℕ → ℕ
group_of s a b d e n = if eqb s 0 then left_of a b d e n else n

-- that of the group left j numbers past n, around the ring of h, in a symbol that starts at first, with groups of z pairs of subcarriers
abbrev pub ring_spot : ℕ → ℕ → ℕ → ℕ → ℕ → ℕ → ℕ → ℕ → ℕ → ℕ → ℕ
ring_spot first z s a b d e h n j = first + z * group_of s a b d e ((n + j) % h)

pub record TakenSet (c : Cell) (taken : List ℕ) : Type 0 where
  pub size : length taken ≡ 32
  pub members : (s t : ℕ) → t < symbol_groups c s → member taken (spot_of c s t) ≡ not (is_vacant c s t)

-- ---- the groups by x
-- a group has (k, s) as its lowest subcarrier, and its entry, and whether it is vacant
unfoldable pub starts_at : Cell → ℕ → ℕ → Bool
starts_at c L x = eqb (x / L % group_size c (x % L)) 0

unfoldable pub entry_at : Cell → ℕ → ℕ → ℕ
entry_at c L x = entry_of c (x % L) (x / L / group_size c (x % L))

unfoldable pub free_at : Cell → ℕ → ℕ → Bool
free_at c L x = is_vacant c (x % L) (x / L / group_size c (x % L))

-- a step of the list below: the entry of a group that starts at subcarrier k of symbol s, after n others
unfoldable pub start_list : Cell → ℕ → ℕ → ℕ → List ℕ → List ℕ
start_list c k s n starts = if eqb (k % group_size c s) 0 then set starts n (entry_of c s (k / group_size c s)) else starts

unfoldable pub start_count : Cell → ℕ → ℕ → ℕ → ℕ
start_count c k s n = if eqb (k % group_size c s) 0 then n + 1 else n

-- the entries of the n groups that start below x, in their order
pub record StartsTo (c : Cell) (L x n : ℕ) (starts : List ℕ) : Type 0 where
  pub size : length starts ≡ 16
  pub count : n ≡ cnt (starts_at c L) x
  pub entry : (y : ℕ) → y < x → starts_at c L y ≡ true → get_or starts (cnt (starts_at c L) y) 0 ≡ entry_at c L y

-- ---- the walk over all groups of the region
-- how many of the first j are vacant
unfoldable pub free_before : Cell → ℕ → ℕ → ℕ
free_before c L j = cnt (λ (i : ℕ). free_at c L (nth (starts_at c L) (12 * c.blocks * L) i)) j

-- the table with the first n vacant groups
pub record FilledTo (c : Cell) (L R n : ℕ) (table : List ℕ) : Type 0 where
  pub size : length table ≡ 800
  pub entry : (m : ℕ) → m < n → get_or table (sent_at R c.identity m) 0 ≡ entry_of c (region_symbol c L m) (region_group c L m)

-- one group, of entry v, with the cursor at the quad that is due
pub record PutIn (taken : List ℕ) (v : ℕ) (c : Cursor) (table : List ℕ) : Type 0 where
  pub words : length taken ≡ 32
  pub small : v < 8192
  pub stands : Stands c
  pub few : c.quads ≤ 800
  pub size : length table ≡ 800

unfoldable pub next_cursor : List ℕ → ℕ → Cursor → Cursor
next_cursor taken v c = if member taken (v / 4) then c else step_of c

unfoldable pub next_table : List ℕ → ℕ → Cursor → List ℕ → List ℕ
next_table taken v c table = if member taken (v / 4) then table else set table (quad_at c.quads c.at) v

-- the first n groups of a block, whose entries are base more than those of the list
unfoldable pub block_cursor : List ℕ → List ℕ → ℕ → ℕ → Cursor → Cursor
block_cursor taken starts base zero c = c
block_cursor taken starts base (suc i) c = next_cursor taken (get_or starts i 0 + base) (block_cursor taken starts base i c)

unfoldable pub block_table : List ℕ → List ℕ → ℕ → ℕ → Cursor → List ℕ → List ℕ
block_table taken starts base zero c table = table
block_table taken starts base (suc i) c table = next_table taken (get_or starts i 0 + base) (block_cursor taken starts base i c) (block_table taken starts base i c table)

pub record BlockIn (taken starts : List ℕ) (base n : ℕ) (c : Cursor) (table : List ℕ) : Type 0 where
  pub room : n ≤ 16
  pub group : (i : ℕ) → i < n → PutIn taken (get_or starts i 0 + base) (block_cursor taken starts base i c) (block_table taken starts base i c table)

pub record BlockOut (taken starts : List ℕ) (base n : ℕ) (c : Cursor) (table : List ℕ) (r : Cursor) (list : List ℕ) : Type 0 where
  pub cursor : r ≡ block_cursor taken starts base n c
  pub filled : list ≡ block_table taken starts base n c table

-- the first j groups of the region are done
pub record DoneTo (c : Cell) (L R j : ℕ) (cursor : Cursor) (table : List ℕ) : Type 0 where
  pub stands : cursor ≡ cursor_at R ((c.identity + free_before c L j) % R)
  pub filled : FilledTo c L R (free_before c L j) table

-- before block b, of blocks with g groups
pub record WalkAt (c : Cell) (L R g b base : ℕ) (cursor : Cursor) (table : List ℕ) : Type 0 where
  pub block : b ≤ c.blocks
  pub added : base ≡ 24 * b
  pub done : DoneTo c L R (b * g) cursor table
