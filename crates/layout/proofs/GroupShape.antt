-- The groups of the control symbols 0 to 3: they have six subcarriers exactly where some port of the cell uses the symbol for its reference
-- signals, and none of a group's places has one of these. Their number, and the symbols of PHICH's quads. Assumes an accepted cell.
use Prim.Native.Nat.{ℕ, zero, suc, ◌+◌, ◌*◌, ◌/◌, ◌%◌, ◌≤◌, ◌<◌}
use mathlib.Core.Path.{◌≡◌, refl}
use mathlib.Core.Logic.{◌↔◌, ◌⊎◌, inl, inr}
use mathlib.Core.Bool.{Bool, true, false, not, ◌&&◌}
use native.Mathlib.Omega.{arith}
use native.Mathlib.Nat.{mul-le-mul}
use lib.Dec.{ltb, eqb}
use borrow.Author.Tests.{eq-eqb, ne_eqb, lt-ltb, eqb-true, eqb-false, ltb-true, not-true}
use Rattle.base.proofs.Tests.{by-test, clash, or_cases, is_false, on-if}
use Rattle.plan.specs.Lists.{Among}
use Rattle.plan.specs.Fields.{port_counts, group_size, symbol_groups}
use Rattle.plan.specs.Valid.{CellIn}
use Rattle.plan.specs.declared.Cell.{Cell}
use Rattle.plan.proofs.ControlElements as sizes
use Rattle.plan.proofs.Listed.{and_left, and_right}
use Rattle.plan.proofs.Counts.{ports-least}
use Rattle.layout.specs.Rules.{
  slot_length,
  slot_of,
  in_slot,
  crs_symbol,
  crs_shift,
  stands_at,
  crs_of,
  crs_below,
  crs_any,
  element_group,
  in_group,
  quad_symbol,
}
use Rattle.layout.proofs.Pilot.{slot-length, slot-short, slot-long}

-- ---- which symbols have groups of six
few-ports : (P : ℕ) → Among P port_counts → eqb P 4 ≡ false → P ≤ 2
few-ports P (inl e) w = omega arith
few-ports P (inr (inl e)) w = omega arith
few-ports P (inr (inr (inl e))) w = clash (eq-eqb P 4 e) w
few-ports P (inr (inr (inr x4))) w = elim x4 [ ]

by-prefix : {X : Type 0} (c : Cell) → CellIn c → (c.prefix ≡ 0 → X) → (c.prefix ≡ 1 → X) → X
by-prefix c ok x y =
    by-test (eqb c.prefix 1)
    (λ e. y (eqb-true c.prefix 1 e))
    (λ e. let n : (c.prefix ≡ 1) → ⊥ = eqb-false c.prefix 1 e in x (omega (arith, ok.prefix)))

-- some port of the cell has its reference signals in symbol s
abbrev pub HasCrs : Cell → ℕ → Type 0
HasCrs c s = (p : ℕ) × (p < c.ports) × (crs_symbol c p s ≡ true)

six-with : (c : Cell) → CellIn c → (s : ℕ) → s < 4 → group_size c s ≡ 6 → HasCrs c s
unfolding group_size crs_symbol in_slot
six-with c ok zero l z = let h = slot-length c in (0, ports-least c ok, rw (lt-ltb 0 (slot_length c) (omega arith)) refl)
six-with c ok (suc zero) l z =
    let h = slot-length c in
    by-test (eqb c.ports 4)
    (λ e. let n = eqb-true c.ports 4 e in (2, omega arith, rw (lt-ltb 1 (slot_length c) (omega arith)) refl))
    (λ e. let y : ◌≡◌ {A = ℕ} 4 6 = rw e at z in absurd (let n : ⊥ = omega arith in n))
six-with c ok (suc (suc zero)) l z = absurd (let n : ⊥ = omega arith in n)
six-with c ok (suc (suc (suc zero))) l z =
    by-prefix c ok
    (λ e. let y : ◌≡◌ {A = ℕ} 4 6 = rw e at z in absurd (let n : ⊥ = omega arith in n))
    (λ e. (0, ports-least c ok, rw (slot-short c (eq-eqb c.prefix 1 e)) refl))
six-with c ok (suc (suc (suc (suc s)))) l z = absurd (let n : ⊥ = omega arith in n)

four-without : (c : Cell) → CellIn c → (s : ℕ) → s < 4 → group_size c s ≡ 4 → (p : ℕ) → p < c.ports → crs_symbol c p s ≡ false
unfolding group_size crs_symbol in_slot
four-without c ok zero l z p m = absurd (let n : ⊥ = omega arith in n)
four-without c ok (suc zero) l z p m =
    let h = slot-length c in
    by-test (eqb c.ports 4)
    (λ e. let y : ◌≡◌ {A = ℕ} 6 4 = rw e at z in absurd (let n : ⊥ = omega arith in n))
    (λ e. let few : c.ports ≤ 2 = few-ports c.ports ok.ports e in
    rw (lt-ltb 1 (slot_length c) (omega arith), lt-ltb p 2 (omega arith), ne_eqb 4 (slot_length c) (λ d. omega arith)) refl)
four-without c ok (suc (suc zero)) l z p m =
    let h = slot-length c in
    rw (lt-ltb 2 (slot_length c) (omega arith), ne_eqb 5 (slot_length c) (λ e. omega arith))
    (on-if (λ (b : Bool). b ≡ false) (ltb p 2) (λ e. refl) (λ e. refl))
four-without c ok (suc (suc (suc zero))) l z p m =
    by-prefix c ok
    (λ e. rw (slot-long c (ne_eqb c.prefix 1 (λ d. omega arith))) (on-if (λ (b : Bool). b ≡ false) (ltb p 2) (λ d. refl) (λ d. refl)))
    (λ e. let y : ◌≡◌ {A = ℕ} 6 4 = rw e at z in absurd (let n : ⊥ = omega arith in n))
four-without c ok (suc (suc (suc (suc s)))) l z p m = absurd (let n : ⊥ = omega arith in n)

-- what holds of six and of four holds of every size
pub by_size : (P : ℕ → Type 0) (c : Cell) (s : ℕ) → P 6 → P 4 → P (group_size c s)
by_size P c s six four = sizes.by_size c s P six four

pub else-six : (c : Cell) (s : ℕ) → (group_size c s ≡ 4 → ⊥) → group_size c s ≡ 6
else-six c s n = sizes.else-six c s n

-- THE LAW OF THE SIZES
pub six-exactly : (c : Cell) → CellIn c → (s : ℕ) → s < 4 → (group_size c s ≡ 6) ↔ HasCrs c s
six-exactly c ok s l = (six-with c ok s l, λ u. by_size (λ (z : ℕ). group_size c s ≡ z → group_size c s ≡ 6) c s (λ e. e) (λ e. clash u.2 (four-without c ok s l e u.0 u.1)) refl)

-- ---- where no reference signal stands
shift-three : (c : Cell) (p s : ℕ) → crs_shift c p s % 3 ≡ 0
unfolding crs_shift
shift-three c zero s = on-if (λ (v : ℕ). v % 3 ≡ 0) (eqb (in_slot c s) 0) (λ e. refl) (λ e. refl)
shift-three c (suc zero) s = on-if (λ (v : ℕ). v % 3 ≡ 0) (eqb (in_slot c s) 0) (λ e. refl) (λ e. refl)
shift-three c (suc (suc zero)) s = let v = slot_of c s in omega arith
shift-three c (suc (suc (suc p))) s = let v = slot_of c s in omega arith

-- a reference signal of any port stands where a group of six has no place
stands-skipped : (c : Cell) (p s k : ℕ) → crs_of c p s k ≡ true → eqb (k % 3) (c.identity % 3) ≡ true
unfolding crs_of stands_at
stands-skipped c p s k e =
    let v = crs_shift c p s in
    let z : k % 6 ≡ (v + c.identity) % 6 = eqb-true _ _ (and_right (crs_symbol c p s) (eqb (k % 6) ((v + c.identity) % 6)) e) in
    eq-eqb (k % 3) (c.identity % 3) (omega (arith, shift-three c p s))

none_below : (c : Cell) (q s k : ℕ) → ((p : ℕ) → p < q → crs_of c p s k ≡ false) → crs_below c q s k ≡ false
unfolding crs_below
none_below c q s k h = rw (one 0, one 1, one 2, one 3) refl
  where
    one : (p : ℕ) → ltb p q && crs_of c p s k ≡ false
    one p = is_false _ (λ e. clash (and_right (ltb p q) (crs_of c p s k) e) (h p (ltb-true p q (and_left (ltb p q) (crs_of c p s k) e))))

pub kept-clear : (c : Cell) (q s k : ℕ) → eqb (k % 3) (c.identity % 3) ≡ false → crs_below c q s k ≡ false
kept-clear c q s k w = none_below c q s k (λ p l. is_false _ (λ e. clash (stands-skipped c p s k e) w))

-- THE LAW OF THE PLACES: none in a control symbol has a reference signal
pub group-clear : (c : Cell) → CellIn c → (s k : ℕ) → s < 4 → in_group c s k ≡ true → crs_any c s k ≡ false
unfolding in_group crs_of
group-clear c ok s k l e = go (or_cases (eqb (group_size c s) 4) (not (eqb (k % 3) (c.identity % 3))) e)
  where
    go : (eqb (group_size c s) 4 ≡ true) ⊎ (not (eqb (k % 3) (c.identity % 3)) ≡ true) → crs_any c s k ≡ false
    go (inl z) = none_below c c.ports s k (λ p m. rw (four-without c ok s l (eqb-true _ 4 z) p m) refl)
    go (inr w) = kept-clear c c.ports s k (not-true _ w)

-- ---- how many groups a symbol has, and that of a subcarrier
pub first-groups : (c : Cell) → symbol_groups c 0 ≡ 2 * c.blocks
unfolding symbol_groups group_size
first-groups c = omega arith

module _ (c : Cell) (s : ℕ) where
  pub groups-least : 2 * c.blocks ≤ symbol_groups c s
  unfolding symbol_groups
  groups-least = by_size (λ (z : ℕ). 2 * c.blocks ≤ 12 * c.blocks / z) c s (omega arith) (omega arith)

  pub groups-most : symbol_groups c s ≤ 3 * c.blocks
  unfolding symbol_groups
  groups-most = by_size (λ (z : ℕ). 12 * c.blocks / z ≤ 3 * c.blocks) c s (omega arith) (omega arith)

  pub group-below : (k : ℕ) → k < 12 * c.blocks → element_group c s k < symbol_groups c s
  unfolding element_group symbol_groups
  group-below k l = by_size (λ (z : ℕ). k / z < 12 * c.blocks / z) c s (omega arith) (omega arith)

-- ---- the symbols that PCFICH and PHICH use: symbol 0, and with the extended duration as many as a unit has quads
module _ (c : Cell) where
  pub quad-normal : (i : ℕ) → (c.duration ≡ 1 → ⊥) → quad_symbol c i ≡ 0
  unfolding quad_symbol
  quad-normal i n = rw (ne_eqb c.duration 1 n) refl

  pub quad-extended : (i : ℕ) → c.duration ≡ 1 → quad_symbol c i ≡ i
  unfolding quad_symbol
  quad-extended i e = rw (eq-eqb c.duration 1 e) refl

  pub quad-low : (i : ℕ) → quad_symbol c i ≤ i
  unfolding quad_symbol
  quad-low i = on-if (λ (n : ℕ). n ≤ i) (eqb c.duration 1) (λ e. omega arith) (λ e. omega arith)

  pub first-quad : quad_symbol c 0 ≡ 0
  first-quad = omega (arith, quad-low 0)

-- what a quad's number is worked out from fits a machine's word: h is the number of groups left
pub quad-product : (i h : ℕ) → i < 3 → h < 1024 → i * h ≤ 2 * 1023
quad-product i h l u = mul-le-mul {n₁ = i} {m₁ = h} {n₂ = 2} {m₂ = 1023} (omega arith) (omega arith)
