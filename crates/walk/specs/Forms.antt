-- For the inner contracts and loops only: the forms that a row's half blocks have. A hole is a subcarrier of six that has a reference signal.
use Rattle.std.specs.Prelude.{ℕ, ◌+◌, ◌-◌, ◌*◌, ◌/◌, ◌≤◌, ◌<◌, ◌≡◌}
use Rattle.walk.specs.declared.Holes.{Holes}
use Rattle.walk.specs.Runs.{open_count, place_at}

-- places between holes: `lead` before the first hole, then `each` before the next one
pub record Holed (mask lead each : ℕ) : Type 0 where
  pub early : lead ≤ each
  pub some : 0 < each
  pub place : (k : ℕ) → place_at mask k ≡ k + (k + (each - lead)) / each

-- such places from `first` on
abbrev pub holed_place : ℕ → ℕ → ℕ → ℕ → ℕ
holed_place first lead each k = first + (k + (k + (each - lead)) / each)

-- places in pairs: pair i stands at `off` + `step` × i and `gap` further; `per` pairs in a half block
pub record Paired (mask off step gap per : ℕ) : Type 0 where
  pub even : (i : ℕ) → place_at mask (2 * i) ≡ off + step * i
  pub odd : (i : ℕ) → place_at mask (2 * i + 1) ≡ off + step * i + gap
  pub each : open_count mask ≡ 2 * per

-- the forms of a row on two ports or four: no hole, or two holes, with the pairs between them side by side or around them
pub data PairForm : ℕ → Type 0 where
  all-six : PairForm 63
  pairs-left : PairForm 27
  pairs-right : PairForm 54
  pairs-apart : PairForm 45

-- the forms of a row on one port: no hole, one, or PBCH's two
pub data SingleForm : ℕ → Type 0 where
  paired : {mask : ℕ} → PairForm mask → SingleForm mask
  hole-0 : SingleForm 62
  hole-1 : SingleForm 61
  hole-2 : SingleForm 59
  hole-3 : SingleForm 55
  hole-4 : SingleForm 47
  hole-5 : SingleForm 31

-- a form in the code's terms; `each` is 0 where it has no hole
abbrev pub holes_with : ℕ → ℕ → ℕ → Holes
holes_with lead each count = record { lead = lead; each = each; count = count }

pub record HolesOf (mask : ℕ) (h : Holes) : Type 0 where
  pub count : h.count ≡ open_count mask
  pub most : h.count ≤ 6
  pub whole : h.each ≡ 0 → mask ≡ 63
  pub holed : (h.each ≡ 0 → ⊥) → Holed mask h.lead h.each

-- the stretch of places that starts after k of them: at `at`, c places to the next hole
pub record Stretch (first lead each k at c : ℕ) : Type 0 where
  pub some : 0 < c
  pub few : c ≤ each
  pub holes : ℕ
  pub place : at ≡ first + k + holes
  pub rest : k + (each - lead) ≡ holes * each + (each - c)

-- of `total` places k are passed, stretch after stretch
pub record StretchesAt (first lead each total at left k : ℕ) : Type 0 where
  pub few : k ≤ total
  pub stretch : k < total → Stretch first lead each k at left
