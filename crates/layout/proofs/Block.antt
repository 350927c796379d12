-- THE BLOCK of the control region: its quads and the vacant groups are each other's, one to one. Assumes six blocks, at most twelve sixths, and
-- a region that has PHICH's symbols, as every accepted plan has.
use Prim.Native.Nat.{ℕ, ◌≤◌, ◌<◌}
use mathlib.Core.Path.{◌≡◌, sym, ap, ap₂, ◌∙◌}
use mathlib.Core.Bool.{true, not, ◌&&◌}
use native.Mathlib.Omega.{arith}
use native.Mathlib.Decide.{ℕ_discrete}
use lib.Dec.{ltb}
use borrow.Author.Tests.{ltb-true}
use Rattle.base.specs.Counts.{some_of}
use Rattle.interleaver.specs.Matrix.{sent_at, sent_of}
use Rattle.interleaver.proofs.Undo.{sent-once}
use Rattle.plan.specs.Fields.{mapping_units, control_symbols, symbol_groups, region_groups}
use Rattle.plan.specs.declared.Cell.{Cell}
use Rattle.plan.specs.declared.Frame.{Frame}
use Rattle.plan.specs.Valid.{CellIn, FrameIn}
use Rattle.plan.proofs.Listed.{and_left}
use Rattle.plan.proofs.Counts.{blocks-least, sixths-most}
use Rattle.plan.proofs.ControlRegion.{region-least}
use Rattle.layout.specs.Rules.{quad_symbol, is_left, mapping_unit_has}
use Rattle.layout.specs.Region.{is_vacant, region_number, region_symbol, region_group, group_quad, block_symbol, block_group}
use Rattle.layout.proofs.GroupShape.{quad-normal, quad-low}
use Rattle.layout.proofs.Region as region

pub vacant-small : (c : Cell) (s t : ℕ) → is_vacant c s t ≡ true → t < symbol_groups c s
unfolding is_vacant
vacant-small c s t e =
    let a = ltb t (symbol_groups c s) in
    let b = is_left c s t in
    ltb-true t (symbol_groups c s) (and_left a b (and_left (a && b) (not (some_of (λ (m : ℕ). mapping_unit_has c m s t) (mapping_units c))) e))

-- what an accepted cell and frame give
pub record RegionIn (c : Cell) (f : Frame) : Type 0 where
  pub few : c.sixths ≤ 12
  pub big : 6 ≤ c.blocks
  pub some : 0 < control_symbols c f
  pub quads : (i : ℕ) → i < 3 → quad_symbol c i < control_symbols c f

module _ (c : Cell) (f : Frame) (cell : CellIn c) (frame : FrameIn f) (three : c.duration ≡ 1 → 3 ≤ control_symbols c f) where
  quads-in : (i : ℕ) → i < 3 → quad_symbol c i < control_symbols c f
  quads-in i l = go (ℕ_discrete c.duration 1)
    where
      go : Dec (c.duration ≡ 1) → quad_symbol c i < control_symbols c f
      go (yes e) = omega (arith, quad-low c i, three e)
      go (no n) = omega (arith, quad-normal c i n, region-least c f, frame.some)

  pub region-in : RegionIn c f
  region-in = record { few = sixths-most c cell; big = blocks-least c cell; some = omega (arith, region-least c f, frame.some); quads = quads-in }

module _ (c : Cell) (f : Frame) (ok : RegionIn c f) where
  abbrev L : ℕ
  L = control_symbols c f

  abbrev R : ℕ
  R = region_groups c f

  abbrev C : ℕ
  C = c.identity

  pub all-vacant : region.total c L ≡ R
  unfolding region_groups
  all-vacant = region.region-total c ok.few ok.big L ok.some ok.quads

  -- ---- from a vacant group to its quad and back
  module _ (s t : ℕ) (in-s : s < L) (free : is_vacant c s t ≡ true) where
    abbrev n : ℕ
    n = region_number c L s t

    in-n : n < R
    in-n = omega (arith, region.number_in c L s t in-s (vacant-small c s t free) free, all-vacant)

    pub quad-below : group_quad c f s t < R
    unfolding group_quad
    quad-below = (sent-once R C).inside n in-n

    number_of : sent_of R C (group_quad c f s t) ≡ n
    unfolding group_quad
    number_of = (sent-once R C).back n in-n

    pub quad-symbol : block_symbol c f (group_quad c f s t) ≡ s
    unfolding block_symbol
    quad-symbol = ap (region_symbol c L) number_of ∙ region.symbol-again c L s t in-s (vacant-small c s t free) free

    pub quad-group : block_group c f (group_quad c f s t) ≡ t
    unfolding block_group
    quad-group = ap (region_group c L) number_of ∙ region.group-again c L s t in-s (vacant-small c s t free) free

  -- ---- from a quad to its group and back
  module _ (q : ℕ) (in-q : q < R) where
    in-total : sent_of R C q < region.total c L
    in-total = omega (arith, (sent-once R C).below q in-q, all-vacant)

    pub block-low : block_symbol c f q < L
    unfolding block_symbol
    block-low = region.symbol-in c L ok.some (sent_of R C q) in-total

    pub block-small : block_group c f q < symbol_groups c (block_symbol c f q)
    unfolding block_symbol block_group
    block-small = region.group-in c L ok.some (sent_of R C q) in-total

    pub block-vacant : is_vacant c (block_symbol c f q) (block_group c f q) ≡ true
    unfolding block_symbol block_group
    block-vacant = region.group-vacant c L ok.some (sent_of R C q) in-total

    pub block-quad : group_quad c f (block_symbol c f q) (block_group c f q) ≡ q
    unfolding group_quad block_symbol block_group
    block-quad = ap (sent_at R C) (region.number-back c L ok.some (sent_of R C q) in-total) ∙ (sent-once R C).again q in-q

  -- two quads have no group in common
  pub blocks-apart : (q r : ℕ) → q < R → r < R → block_symbol c f q ≡ block_symbol c f r → block_group c f q ≡ block_group c f r → q ≡ r
  blocks-apart q r a b es eg = sym (block-quad q a) ∙ ap₂ (group_quad c f) es eg ∙ block-quad r b
