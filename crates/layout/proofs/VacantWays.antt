-- One law for each return of the functions that count vacant groups. Assumes what they require.
use Prim.Native.Nat.{ℕ, ◌+◌, ◌-◌, ◌*◌, ◌/◌, ◌%◌, ◌≤◌, ◌<◌}
use mathlib.Core.Path.{◌≡◌, refl, sym, ap, ◌∙◌}
use mathlib.Core.Bool.{Bool, true, false}
use native.Mathlib.Omega.{arith}
use native.Mathlib.Numerals.{add-one}
use lib.Dec.{ltb}
use borrow.Author.Tests.{eq-eqb, ne_eqb}
use Rattle.base.specs.Choice.{indicator}
use Rattle.base.specs.Counts.{upwards}
use Rattle.base.specs.Sums.{sum_to}
use Rattle.base.specs.Ring.{between, ring_below}
use Rattle.base.proofs.Counts.{cnt-most}
use Rattle.plan.specs.Fields.{mapping_units, control_symbols, group_size, symbol_groups, region_groups}
use Rattle.plan.specs.Valid.{CellIn, FrameIn}
use Rattle.plan.proofs.ControlRegion.{region-most}
use Rattle.interleaver.specs.Matrix.{sent_at}
use Rattle.plan.specs.declared.Cell.{Cell}
use Rattle.plan.specs.declared.Frame.{Frame}
use Rattle.layout.specs.Rules.{quad_symbol, is_left, groups_left, start_number}
use Rattle.layout.specs.Region.{is_vacant, region_number, group_quad}
use Rattle.layout.specs.Chain.{number, quads_below, taken_below, vacant_below, vacant_before}
use Rattle.layout.proofs.GroupShape.{by_size, quad-low, groups-most}
use Rattle.layout.proofs.Region.{starts-few, group-start, count-before}
use Rattle.layout.proofs.Block.{RegionIn, region-in, vacant-small, quad-below}
use Rattle.layout.proofs.Groups.{number-later}
use Rattle.layout.proofs.Vacant.{taken-few}

pub later-number : (c : Cell) (s t : ℕ) → 0 < s → t ≡ number c s t
later-number c s t l = sym (number-later c s l t)

-- the two stretches of the ring
pub ring-sum : (h p m x : ℕ) {e a b u v : ℕ} → e ≡ p + m → a ≡ between p e x → u ≡ p - h → v ≡ e - h → b ≡ between u v x → a + b ≡ ring_below h p m x
unfolding ring_below
ring-sum h p m x ee ea eu ev eb = rw (ea, eb, eu, ev, ee) refl

-- the units' quads i, whose symbol is t
module _ (c : Cell) (s n i : ℕ) {t : ℕ} (et : t ≡ quad_symbol c i) where
  pub below-elsewhere : (t ≡ s → ⊥) → 0 ≡ quads_below c s n i
  unfolding quads_below
  below-elsewhere d = rw (← et, ne_eqb t s d) refl

  module _ (e : t ≡ s) where
    pub quad-among : i < 3 → s < 3
    quad-among l = omega (arith, quad-low c i)

    pub below-here : {h b M : ℕ} → h ≡ groups_left c s → b ≡ start_number c s → M ≡ mapping_units c → (r : ℕ) → r ≡ ring_below h (b % h + i * h / 3) M n → r ≡ quads_below c s n i
    unfolding quads_below
    below-here eh eb eM r er = er ∙ rw (← et, eq-eqb t s e, ← eh, ← eb, ← eM) refl

-- the vacant groups of a symbol
module _ (c : Cell) (big : 6 ≤ c.blocks) (few : c.sixths ≤ 12) (s t : ℕ) (in-t : t ≤ symbol_groups c s) (small : t < 1024) {n : ℕ} (en : n ≡ number c s t) where
  pub number-few : n < 1024
  number-few = omega (arith, cnt-most (is_left c s) t)

  module _ {a b d : ℕ} (ea : a ≡ quads_below c s n 0) (eb : b ≡ quads_below c s n 1) (ed : d ≡ quads_below c s n 2) where
    taken_is : a + b + d ≡ taken_below c s (number c s t)
    unfolding taken_below
    taken_is = rw (ea, eb, ed, en) refl

    pub taken-fits : a + b + d ≤ n
    taken-fits = omega (arith, taken_is, taken-few c few big s t in-t)

    pub vacant-is : (n - (a + b + d) ≡ vacant_below c s t) × (n - (a + b + d) < 1024)
    unfolding vacant_below
    vacant-is = (rw (taken_is, en) refl, omega (arith, number-few))

-- ---- symbol by symbol
pub before-none : (c : Cell) (k s : ℕ) → 0 ≡ vacant_before c 0 k s
unfolding vacant_before sum_to
before-none c k s = refl

module _ (c : Cell) (n k s : ℕ) {z o : ℕ} (ez : z ≡ group_size c n) (eo : o ≡ indicator (ltb n s)) where
  pub size-least : (1 ≤ z) × (z ≤ 6)
  size-least = rw ez (by_size (λ (z : ℕ). (1 ≤ z) × (z ≤ 6)) c n (omega arith, omega arith) (omega arith, omega arith))

  starts-are : (k + o + (z - 1)) / z ≡ upwards (group_size c n) (k + indicator (ltb n s))
  starts-are = rw (ez, eo) refl

  pub starts_fit : c.blocks < 256 → k < 12 * c.blocks → o ≤ 1 → ((k + o + (z - 1)) / z ≤ symbol_groups c n) × ((k + o + (z - 1)) / z < 1024)
  starts_fit small in-k few =
      let a = starts-few c n (k + indicator (ltb n s)) (omega arith) in
      (omega (arith, starts-are), omega (arith, starts-are, groups-most c n))

  pub before-next : {v sum : ℕ} → v ≡ vacant_below c n ((k + o + (z - 1)) / z) → sum ≡ vacant_before c n k s → sum + v ≡ vacant_before c (n + 1) k s
  unfolding vacant_before sum_to
  before-next ev es = rw (es, ev, starts-are, add-one) refl

-- after the last symbol
pub before-all : (c : Cell) (symbols n k s sum : ℕ) → n ≤ symbols → symbols ≤ n → symbols ≤ 4 → sum ≡ vacant_before c n k s → sum ≤ 1023 * n → (sum ≡ vacant_before c symbols k s) × (sum < 4096)
before-all c symbols n k s sum a b few e m = let z : n ≡ symbols = omega arith in (e ∙ ap (λ (x : ℕ). vacant_before c x k s) z, omega arith)

-- ---- the quad of a vacant group
one-most : (b : Bool) → indicator b ≤ 1
one-most true = omega arith
one-most false = omega arith

module _ (c : Cell) (f : Frame) (cell : CellIn c) (frame : FrameIn f) (three : c.duration ≡ 1 → 3 ≤ control_symbols c f) where
  few-symbols : control_symbols c f ≤ 4
  few-symbols = omega (arith, region-most c f, frame.most)

  module _ (s t : ℕ) (in-s : s < control_symbols c f) (free : is_vacant c s t ≡ true) where
    abbrev L : ℕ
    L = control_symbols c f

    ok : RegionIn c f
    ok = region-in c f cell frame three

    pub symbol-few : s < 4
    symbol-few = omega (arith, few-symbols)

    pub quads-some : 0 < region_groups c f
    quads-some = omega (arith, quad-below c f ok s t in-s free)

    module _ {z : ℕ} (ez : z ≡ group_size c s) where
      pub start-inside : t * z < 12 * c.blocks
      start-inside = rw ez (group-start c s t (vacant-small c s t free))

      pub before-asked : {m : ℕ} → m ≡ L → (6 ≤ c.blocks) × (c.sixths ≤ 12) × (m ≤ 4) × (t * z < 12 * c.blocks)
      before-asked e = (ok.big, ok.few, omega (arith, few-symbols), start-inside)

      number-before : {m n : ℕ} → m ≡ L → n ≡ vacant_before c m (t * z) s → n ≡ region_number c L s t
      unfolding region_number
      number-before em en =
          en
          ∙ rw (em, ez)
          (sym (count-before c L ok.few ok.big (t * group_size c s) s (omega arith) (λ n. omega (arith, one-most (ltb n s), group-start c s t (vacant-small c s t free)))))

      pub quad-found : {m n R : ℕ} → m ≡ L → n ≡ vacant_before c m (t * z) s → R ≡ region_groups c f → (x : ℕ) → x ≡ sent_at R c.identity n → x ≡ group_quad c f s t
      unfolding group_quad
      quad-found em en eR x ex = ex ∙ rw (number-before em en, eR) refl
