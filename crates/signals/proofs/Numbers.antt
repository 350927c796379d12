-- The signals' elements by their numbers. T is the number of places on a port, W that of a symbol's subcarriers. Assumes an accepted cell.
use Prim.Native.Nat.{ℕ, suc, ◌+◌, ◌-◌, ◌*◌, ◌/◌, ◌%◌, ◌≤◌, ◌<◌}
use mathlib.Core.Path.{◌≡◌, refl, sym, ap, ◌∙◌}
use mathlib.Core.Bool.{true, ◌&&◌}
use mathlib.Core.List.{List}
use native.Mathlib.Nat.{add-mul, mul_assoc, mul-le-mul, div-add-mod', mod-lt}
use native.Mathlib.Omega.{arith}
use lib.Dec.{leb, ltb, eqb}
use lib.IntN.{ℤ, pos}
use lib.ListN.{length}
use borrow.Author.Tests.{leb-true, le-leb, ltb-true, lt-ltb, eqb-true, eq-eqb}
use Rattle.base.proofs.Tests.{both, same_test}
use Rattle.base.proofs.Rows.{at-div, at-mod, row_inside}
use Rattle.base.specs.Bytes.{element_of}
use Rattle.gold.specs.declared.Registers.{Registers}
use Rattle.gold.specs.Steps.{after}
use Rattle.sync.specs.declared.Sss.{Sss}
use Rattle.sync.specs.Pss.{pss_phase}
use Rattle.sync.specs.Sss.{sss_level}
use Rattle.sync.specs.Inner.{sss_of, level_in}
use Rattle.sync.proofs.Signals.{level-is}
use Rattle.plan.specs.Valid.{CellIn}
use Rattle.plan.specs.declared.Cell.{Cell}
use Rattle.plan.specs.declared.Frame.{Frame}
use Rattle.plan.proofs.Listed.{and_left, and_right}
use Rattle.layout.specs.Rules.{slot_length, stands_at, crs_shift, middle}
use Rattle.layout.specs.Owners.{symbols, carriers}
use Rattle.layout.proofs.Pilot.{slot-length}
use Rattle.plan.proofs.Counts.{blocks-least}
use Rattle.places.specs.Places.{symbol_at, carrier_at, places_of}
use Rattle.grid.specs.Writing.{Room}
use Rattle.grid.proofs.Accumulating.{Deed, Step, Accumulates}
use Rattle.subframe.specs.Elements.{mark_number, pss_element, sss_element}
use Rattle.signals.specs.Signals.{port_sends, crs_from, crs_sent, mark_sends, pss_sent, sss_sent}
use Rattle.signals.specs.Rows.{MarkIn, crs_place, every_sixth, pair_sent, in_row, phase_element, phase_sent, level_element, level_sent}
use Rattle.signals.proofs.Stretches.{sixth-is, sixth-of, row_is as in-row, row_of}

-- ---- the first element of a symbol
pub rows-most : (q S s : ℕ) → q < 256 → S ≤ 14 → s < 14 → q * S + s ≤ 3583
rows-most q S s a b d = let h : q * S ≤ 255 * 14 = mul-le-mul {n₁ = q} {m₁ = S} {n₂ = 255} {m₂ = 14} (omega arith) b in omega arith

pub row-most : (x y : ℕ) → x ≤ 3583 → y ≤ 3060 → x * y ≤ 10963980
row-most x y a b = mul-le-mul {n₁ = x} {m₁ = y} {n₂ = 3583} {m₂ = 3060} a b

pub row_is : (c : Cell) (s q : ℕ) {x S W : ℕ} → x ≡ q → S ≡ symbols c → W ≡ carriers c → (x * S + s) * W ≡ q * places_of c + s * carriers c
row_is c s q ex eS eW =
    (λ i. (ex i * eS i + s) * eW i)
    ∙ add-mul (q * symbols c) s (carriers c)
    ∙ ap (λ (z : ℕ). z + s * carriers c) (mul_assoc q (symbols c) (carriers c))

pub row-at-most : (c : Cell) (s q : ℕ) → c.blocks < 256 → q < 256 → s < 14 → q * places_of c + s * carriers c ≤ 10963980
row-at-most c s q n l m =
    let h = rows-most q (symbols c) s l (omega (arith, slot-length c)) m in
    omega (arith, row_is c s q refl refl refl, row-most (q * symbols c + s) (carriers c) h (omega arith))

-- the first element of a mark
pub mark-first : (c : Cell) (y : ℕ) {L r N : ℕ} → L ≡ slot_length c → r ≡ 0 * places_of c + (L - y) * carriers c → N ≡ c.blocks
    → r + (6 * N - 31) ≡ (slot_length c - y) * carriers c + (6 * c.blocks - 31)
mark-first c y {L} {r} {N} eL er eN =
    let e : (L - y) * carriers c ≡ (slot_length c - y) * carriers c = ap (λ (x : ℕ). (x - y) * carriers c) eL in
    omega arith

-- the place of element number q T + (s W + k)
module _ (W S q s k e : ℕ) (in-k : k < W) (in-s : s < S) (at : e ≡ q * (S * W) + (s * W + k)) where
  inside : s * W + k < S * W
  inside = omega (arith, row_inside s S W (suc k) in-s in-k)

  number-port : e / (S * W) ≡ q
  number-port = ap (λ (x : ℕ). x / (S * W)) at ∙ at-div q (S * W) (s * W + k) inside

  number-place : e % (S * W) ≡ s * W + k
  number-place = ap (λ (x : ℕ). x % (S * W)) at ∙ at-mod q (S * W) (s * W + k) inside

  number-symbol : e % (S * W) / W ≡ s
  number-symbol = ap (λ (x : ℕ). x / W) number-place ∙ at-div s W k in-k

  number-carrier : e % (S * W) % W ≡ k
  number-carrier = ap (λ (x : ℕ). x % W) number-place ∙ at-mod s W k in-k

-- and back
number_of : (W T e : ℕ) → e ≡ e / T * T + (e % T / W * W + e % T % W)
number_of W T e = sym (div-add-mod' e T) ∙ ap (λ (x : ℕ). e / T * T + x) (sym (div-add-mod' (e % T) W))

-- ---- reference signals
module _ (c : Cell) (s q a first : ℕ) (ok : CellIn c) (in-s : s < symbols c)
    (ea : a ≡ (crs_shift c q s + c.identity) % 6) (ef : first ≡ q * places_of c + s * carriers c + a) where
  small : a < 6
  small = let h : a < 6 = omega arith in h

  wide : 6 ≤ c.blocks
  wide = blocks-least c ok

  there : (e : ℕ) → every_sixth first (2 * c.blocks) e ≡ true
      → (e / places_of c ≡ q) × (symbol_at c (e % places_of c) ≡ s) × (carrier_at c (e % places_of c) ≡ a + (e - first)) × ((e - first) % 6 ≡ 0)
  there e h =
      let d = sixth-of first (2 * c.blocks) e h in
      let x = e - first in
      let l : a + x < carriers c = omega (arith, small) in
      let at : e ≡ q * places_of c + (s * carriers c + (a + x)) = omega arith in (
        number-port (carriers c) (symbols c) q s (a + x) e l in-s at,
        number-symbol (carriers c) (symbols c) q s (a + x) e l in-s at,
        number-carrier (carriers c) (symbols c) q s (a + x) e l in-s at,
        d.1,
      )

  sends : (e : ℕ) → every_sixth first (2 * c.blocks) e ≡ true → port_sends c s q e ≡ true
  unfolding port_sends stands_at
  sends e h =
      let d = there e h in
      let k = carrier_at c (e % places_of c) in
      let x = e - first in
      let m : k % 6 ≡ a = ap (λ (z : ℕ). z % 6) d.2 ∙ residue a x small d.3 in
      both (both (eq-eqb _ _ d.0) (eq-eqb _ _ d.1)) (eq-eqb _ _ (m ∙ ea))
    where
      residue : (a x : ℕ) → a < 6 → x % 6 ≡ 0 → (a + x) % 6 ≡ a
      residue a x l h = omega arith

  sent : (e : ℕ) → port_sends c s q e ≡ true → every_sixth first (2 * c.blocks) e ≡ true
  unfolding port_sends stands_at
  sent e h =
      let T = places_of c in
      let t = e % T in
      let k = carrier_at c t in
      let u = eqb (e / T) q in
      let v = eqb (symbol_at c t) s in
      let z = eqb (k % 6) ((crs_shift c q s + c.identity) % 6) in
      let uv : u && v ≡ true = and_left (u && v) z h in
      let m : k % 6 ≡ a = eqb-true _ _ (and_right (u && v) z h) ∙ sym ea in
      let at : e ≡ q * T + (s * carriers c + k) = number_of (carriers c) T e ∙ (λ i. eqb-true (e / T) q (and_left u v uv) i * T + (eqb-true (symbol_at c t) s (and_right u v uv) i * carriers c + k)) in
      let l : k < carriers c = mod-lt t (omega (arith, wide)) in
      let y : e ≡ first + (k - a) = omega arith in
      back c.blocks k a first e m y l
    where
      back : (N k a first e : ℕ) → k % 6 ≡ a → e ≡ first + (k - a) → k < 12 * N → every_sixth first (2 * N) e ≡ true
      back N k a first e m y l = sixth-is first (2 * N) e (omega arith) (omega arith) (omega arith)

  crs-elements : (e : ℕ) → every_sixth first (2 * c.blocks) e ≡ port_sends c s q e
  crs-elements e = same_test (every_sixth first (2 * c.blocks) e) (port_sends c s q e) (sends e) (sent e)

  crs-values : (r : Registers) (e : ℕ) → every_sixth first (2 * c.blocks) e ≡ true → pair_sent r first e ≡ crs_sent c r e
  unfolding pair_sent crs_sent
  crs-values r e h =
      let d = there e h in
      ap (λ (m : ℕ). element_of 2 (crs_from r m)) (number (carrier_at c (e % places_of c)) (e - first) d.2 d.3)
    where
      number : (k x : ℕ) → k ≡ a + x → x % 6 ≡ 0 → x / 6 ≡ k / 6
      number k x e h = omega (arith, small)

-- as the code comes to them: the first element, and the blocks
-- the sum of the symbol's first element and the first subcarrier
pub crs-first : (c : Cell) (s q : ℕ) {row a : ℕ} → row ≡ q * places_of c + s * carriers c → a ≡ (crs_shift c q s + c.identity) % 6 → row + a ≡ crs_place c s q
unfolding crs_place
crs-first c s q er ea = rw (er, ea) refl

-- two bits for each value
pub crs-given : {N B : ℕ} → N ≡ B → (r : Registers) {result : Registers} → result ≡ after r (2 * (2 * N)) → result ≡ after r (4 * B)
crs-given {N = N} {B = B} e r h = let bits : 2 * (2 * N) ≡ 4 * B = omega arith in h ∙ ap (after r) bits

module _ {c : Cell} {s q : ℕ} (on : CellIn c × (s < symbols c) × (q < c.ports)) {first N : ℕ} (ef : first ≡ crs_place c s q) (eN : N ≡ c.blocks) where
  -- the last one lies in the grid
  pub crs-inside : {g : List ℕ} → Room c.ports (places_of c) g → 3 * (first + 6 * (2 * N)) + 2 < length g + 18
  unfolding crs_place
  crs-inside room =
      let in-row : s * carriers c + carriers c ≤ places_of c = row_inside s (symbols c) (carriers c) (carriers c) on.1 (omega arith) in
      let in-port : q * places_of c + places_of c ≤ c.ports * places_of c = row_inside q c.ports (places_of c) (places_of c) on.2 (omega arith) in
      omega (arith, room.size)

  pub port-elements : (e : ℕ) → every_sixth first (2 * N) e ≡ port_sends c s q e
  unfolding crs_place
  port-elements = rw eN (crs-elements c s q ((crs_shift c q s + c.identity) % 6) first on.0 on.1 refl ef)

  pub port-values : (r : Registers) (e : ℕ) → every_sixth first (2 * N) e ≡ true → pair_sent r first e ≡ crs_sent c r e
  unfolding crs_place
  port-values = rw eN (crs-values c s q ((crs_shift c q s + c.identity) % 6) first on.0 on.1 refl ef)

-- ---- synchronisation signals
module _ (c : Cell) (ok : CellIn c) (y first : ℕ) (in-y : (1 ≤ y) × (y ≤ 2)) (ef : first ≡ (slot_length c - y) * carriers c + (6 * c.blocks - 31)) where
  mark-wide : 6 ≤ c.blocks
  mark-wide = blocks-least c ok

  mark-there : (e : ℕ) → in_row first 62 e ≡ true
      → (e / places_of c ≡ 0) × (symbol_at c (e % places_of c) ≡ slot_length c - y) × (carrier_at c (e % places_of c) ≡ 6 * c.blocks - 31 + (e - first))
  mark-there e h =
      let d = row_of first 62 e h in
      let x = e - first in
      let k = 6 * c.blocks - 31 + x in
      let s = slot_length c - y in
      let l : k < carriers c = omega (arith, mark-wide) in
      let in-s : s < symbols c = omega (arith, slot-length c) in
      let at : e ≡ 0 * places_of c + (s * carriers c + k) = omega arith in (
        number-port (carriers c) (symbols c) 0 s k e l in-s at,
        number-symbol (carriers c) (symbols c) 0 s k e l in-s at,
        number-carrier (carriers c) (symbols c) 0 s k e l in-s at,
      )

  mark-sends : (e : ℕ) → in_row first 62 e ≡ true → mark_sends c y e ≡ true
  unfolding mark_sends middle
  mark-sends e h =
      let d = mark-there e h in
      let r = row_of first 62 e h in
      let k = carrier_at c (e % places_of c) in
      let s : symbol_at c (e % places_of c) + y ≡ slot_length c = omega (arith, slot-length c, d.1) in
      let low : 6 * c.blocks ≤ k + 31 = omega (arith, mark-wide, d.2) in
      let high : k < 6 * c.blocks + 31 = omega (arith, mark-wide, d.2) in
      both (both (eq-eqb _ _ d.0) (eq-eqb _ _ s)) (both (le-leb _ _ low) (lt-ltb _ _ high))

  mark-sent : (e : ℕ) → mark_sends c y e ≡ true → in_row first 62 e ≡ true
  unfolding mark_sends middle
  mark-sent e h =
      let T = places_of c in
      let t = e % T in
      let k = carrier_at c t in
      let N = c.blocks in
      let u = eqb (e / T) 0 in
      let v = eqb (symbol_at c t + y) (slot_length c) in
      let a = leb (6 * N) (k + 31) in
      let b = ltb k (6 * N + 31) in
      let uv : u && v ≡ true = and_left (u && v) (a && b) h in
      let ab : a && b ≡ true = and_right (u && v) (a && b) h in
      let low : 6 * N ≤ k + 31 = leb-true _ _ (and_left a b ab) in
      let high : k < 6 * N + 31 = ltb-true _ _ (and_right a b ab) in
      let s : symbol_at c t + y ≡ slot_length c = eqb-true _ _ (and_right u v uv) in
      let s' : symbol_at c t ≡ slot_length c - y = omega arith in
      let at : e ≡ 0 * T + ((slot_length c - y) * carriers c + k) = number_of (carriers c) T e ∙ (λ i. eqb-true (e / T) 0 (and_left u v uv) i * T + (s' i * carriers c + k)) in
      in-row first 62 e (omega arith) (omega (arith, mark-wide))

  mark-elements : (e : ℕ) → in_row first 62 e ≡ mark_sends c y e
  mark-elements e = same_test (in_row first 62 e) (mark_sends c y e) (mark-sends e) (mark-sent e)

  mark-index : (e : ℕ) → in_row first 62 e ≡ true → e - first ≡ mark_number c (carrier_at c (e % places_of c))
  unfolding mark_number
  mark-index e h = let d = mark-there e h in omega (arith, mark-wide, d.2)

  phases : (e : ℕ) → in_row first 62 e ≡ true → phase_sent c.identity first e ≡ pss_sent c e
  unfolding phase_sent phase_element pss_sent pss_element
  phases e t = ap (λ (n : ℕ). record { byte = 63; i = pss_phase c.identity n; j = 0 }) (mark-index e t)

  pub pss-done :
      {X : Type 0} {Done : Deed X} {Also : Step X} {none x : X} → Accumulates Done Also none
      → Done (in_row first 62) (phase_sent c.identity first) x → Done (mark_sends c y) (pss_sent c) x
  pss-done A w = A.same mark-elements phases w

  levels : (f : Frame) (d : Sss) → d ≡ sss_of c.identity f.subframe → (e : ℕ) → in_row first 62 e ≡ true → level_sent d first e ≡ sss_sent c f e
  unfolding level_sent level_element sss_sent sss_element
  levels f d ed e t =
      let r = row_of first 62 e t in
      ap (λ (z : ℤ). element_of 1 (record { re = z; im = pos 0 }))
      (ap (λ (x : Sss). level_in x (e - first)) ed ∙ level-is c.identity f.subframe (e - first) (omega arith) ∙ ap (sss_level c.identity f.subframe) (mark-index e t))

  pub sss-done :
      {X : Type 0} {Done : Deed X} {Also : Step X} {none x : X} → Accumulates Done Also none → (f : Frame) (d : Sss) → d ≡ sss_of c.identity f.subframe
      → Done (in_row first 62) (level_sent d first) x → Done (mark_sends c y) (sss_sent c f) x
  sss-done A f d ed w = A.same mark-elements (levels f d ed) w

  -- they lie in the grid
  pub mark-inside : {g : List ℕ} → MarkIn c g → 3 * (first + 62) ≤ length g
  mark-inside h =
      let in-s : slot_length c - y < symbols c = omega (arith, slot-length c) in
      let row : (slot_length c - y) * carriers c + carriers c ≤ places_of c = row_inside (slot_length c - y) (symbols c) (carriers c) (carriers c) in-s (omega arith) in
      let port : 0 * places_of c + places_of c ≤ c.ports * places_of c = row_inside 0 c.ports (places_of c) (places_of c) h.room.some (omega arith) in
      omega (arith, mark-wide, h.room.size)
