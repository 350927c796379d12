-- The ports whose reference signals stand in a symbol: two neighbours, or the cell's only one. Assumes nothing.
use Prim.Native.Nat.{ℕ, zero, suc, ◌+◌, ◌-◌, ◌*◌, ◌/◌, ◌%◌, ◌≤◌, ◌<◌}
use mathlib.Core.Path.{◌≡◌, refl, sym, ◌∙◌}
use mathlib.Core.Logic.{◌⊎◌, inl, inr}
use mathlib.Core.Bool.{true, false, ◌&&◌, ◌||◌}
use mathlib.Core.List.{List, [], ◌∷◌}
use native.Mathlib.Decide.{ℕ_discrete}
use native.Mathlib.Omega.{arith}
use lib.Dec.{eqb, ltb}
use borrow.Author.Tests.{eq-eqb, eqb-true, lt-ltb, ltb-true}
use Rattle.base.proofs.Tests.{by-test, both, or_cases, or_left, or_right, same_test}
use Rattle.base.proofs.Rows.{row_inside}
use Rattle.gold.specs.declared.Registers.{Registers}
use Rattle.plan.specs.Valid.{CellIn}
use Rattle.plan.specs.declared.Cell.{Cell}
use Rattle.plan.proofs.Listed.{and_left, and_right}
use Rattle.layout.specs.Rules.{crs_symbol, crs_shift, stands_at}
use Rattle.layout.specs.Owners.{symbols, carriers}
use Rattle.layout.proofs.Pilot.{not-both, slot-length}
use Rattle.places.specs.Places.{symbol_at, carrier_at, places_of}
use Rattle.plan.proofs.Counts.{blocks-least}
use Rattle.grid.proofs.Accumulating.{Deed, Step, Accumulates}
use Rattle.signals.specs.Signals.{port_sends, signalled, crs_port, crs_sends, crs_sent}
use Rattle.signals.specs.Rows.{SymbolIn, crs_place, every_sixth, pair_sent, on_first, on_both, on_each, EachIn}
use Rattle.signals.proofs.Stretches.{sixth-of, on-first, on-second, sixth-both}
use Rattle.signals.proofs.ValueByValue.{each-one}
use Rattle.signals.proofs.Numbers.{crs-inside, port-elements, port-values}

-- what it says of an element that a port's signal, or a symbol's, stands there
module _ (c : Cell) (s e : ℕ) where
  pub port-parts : (q : ℕ) → port_sends c s q e ≡ true
      → (e / places_of c ≡ q) × (symbol_at c (e % places_of c) ≡ s) × (stands_at c (crs_shift c q s) (carrier_at c (e % places_of c)) ≡ true)
  unfolding port_sends
  port-parts q h =
      let t = e % places_of c in
      let a = eqb (e / places_of c) q in
      let b = eqb (symbol_at c t) s in
      let d = stands_at c (crs_shift c q s) (carrier_at c t) in
      let ab : a && b ≡ true = and_left (a && b) d h in
      (eqb-true _ _ (and_left a b ab), eqb-true _ _ (and_right a b ab), and_right (a && b) d h)

  pub symbol-parts : crs_sends c s e ≡ true
      → (e / places_of c < c.ports) × (crs_symbol c (e / places_of c) s ≡ true) × (port_sends c s (e / places_of c) e ≡ true)
  unfolding crs_sends
  symbol-parts h =
      let q = e / places_of c in
      let a = ltb q c.ports in
      let y = crs_symbol c q s in
      let d = port_sends c s q e in
      let ay = and_left (a && y) d h in
      (ltb-true q c.ports (and_left a y ay), and_right a y ay, and_right (a && y) d h)

module _ {c : Cell} {s : ℕ} {g : List ℕ} (ready : SymbolIn c s g) where
  later : crs_symbol c 0 s ≡ false → (c.ports ≡ 4) × (crs_symbol c 2 s ≡ true)
  unfolding signalled
  later f =
      let four = eqb c.ports 4 in
      let h : four && crs_symbol c 2 s ≡ true = rw f at ready.signal in
      (eqb-true c.ports 4 (and_left four (crs_symbol c 2 s) h), and_right four (crs_symbol c 2 s) h)

  -- a port sends just when it is the first one or the next
  uses : (q : ℕ) → q < 4 → crs_symbol c q s ≡ eqb (q / 2 * 2) (crs_port c s)
  unfolding crs_port crs_symbol
  uses zero l = by-test (crs_symbol c 0 s) (λ t. rw t refl) (λ f. rw f refl)
  uses (suc zero) l = uses zero (omega arith)
  uses (suc (suc zero)) l = by-test (crs_symbol c 0 s) (λ t. rw t (rw t at (not-both c s))) (λ f. rw f (later f).1)
  uses (suc (suc (suc zero))) l = uses (suc (suc zero)) (omega arith)
  uses (suc (suc (suc (suc q)))) l = absurd (let z : ⊥ = omega arith in z)

module _ {c : Cell} {s : ℕ} {g : List ℕ} (ready : SymbolIn c s g) {q : ℕ} (at : q ≡ crs_port c s) where
  fits : (q % 2 ≡ 0) × (q < c.ports) × ((c.ports ≡ 1 → ⊥) → q + 1 < c.ports)
  unfolding crs_port
  fits =
      by-test (crs_symbol c 0 s)
      (λ t. let z : q ≡ 0 = at ∙ rw t refl in (omega arith, omega (arith, ready.room.some), λ n. omega (arith, ready.room.some)))
      (λ f. let z : q ≡ 2 = at ∙ rw f refl in let four = (later ready f).0 in (omega arith, omega arith, λ n. omega arith))

  -- both are ports of the cell, where it has more than one
  pub first-port : CellIn c × (s < symbols c) × (q < c.ports)
  first-port = (ready.cell, ready.symbol, fits.1)

  pub second-port : (c.ports ≡ 1 → ⊥) → CellIn c × (s < symbols c) × (q + 1 < c.ports)
  second-port n = (ready.cell, ready.symbol, fits.2 n)

  -- an element of one of them, and no other, is the symbol's
  of-port : (p e : ℕ) → p < c.ports → p / 2 * 2 ≡ q → port_sends c s p e ≡ true → crs_sends c s e ≡ true
  unfolding crs_sends
  of-port p e l h k =
      let on = (port-parts c s e p k).0 in
      rw on (both (both (lt-ltb p c.ports l) (uses ready p (omega (arith, ready.room.most)) ∙ eq-eqb _ _ (h ∙ at))) k)

  port-of : (e : ℕ) → crs_sends c s e ≡ true → (e / places_of c < c.ports) × (e / places_of c / 2 * 2 ≡ q) × (port_sends c s (e / places_of c) e ≡ true)
  port-of e h =
      let d = symbol-parts c s e h in
      let p = e / places_of c in
      (d.0, eqb-true (p / 2 * 2) (crs_port c s) (sym (uses ready p (omega (arith, ready.room.most, d.0))) ∙ d.1) ∙ sym at, d.2)

  on_one : c.ports ≡ 1 → (e : ℕ) → port_sends c s q e ≡ crs_sends c s e
  on_one n e =
      same_test (port_sends c s q e) (crs_sends c s e) (of-port q e fits.1 (omega (arith, fits.0)))
      (λ h. let d = port-of e h in let j : e / places_of c ≡ q = omega (arith, d.0, d.1) in rw j at d.2)

  on-two : (c.ports ≡ 1 → ⊥) → (e : ℕ) → port_sends c s (q + 1) e || port_sends c s q e ≡ crs_sends c s e
  on-two n e =
      let one = port_sends c s q e in
      let other = port_sends c s (q + 1) e in
      same_test (other || one) (crs_sends c s e) (λ h. up (or_cases other one h)) (λ h. down (ℕ_discrete (e / places_of c) q) (port-of e h))
    where
      up : (port_sends c s (q + 1) e ≡ true) ⊎ (port_sends c s q e ≡ true) → crs_sends c s e ≡ true
      up (inl h) = of-port (q + 1) e (fits.2 n) (omega (arith, fits.0)) h
      up (inr h) = of-port q e fits.1 (omega (arith, fits.0)) h

      down : Dec (e / places_of c ≡ q) → (e / places_of c < c.ports) × (e / places_of c / 2 * 2 ≡ q) × (port_sends c s (e / places_of c) e ≡ true)
          → port_sends c s (q + 1) e || port_sends c s q e ≡ true
      down (yes j) d = or_right (port_sends c s (q + 1) e) (port_sends c s q e) (rw j at d.2)
      down (no j) d = let k : e / places_of c ≡ q + 1 = omega (arith, d.1, j) in or_left (port_sends c s (q + 1) e) (port_sends c s q e) (rw k at d.2)

  -- ---- what is done from the first elements on, inside the grid, is done in the symbol
  module _ {first N : ℕ} (ef : first ≡ crs_place c s q) (eN : N ≡ c.blocks) where
    pub one_inside : EachIn (first ∷ []) (2 * N) g
    one_inside = record { ports = inl refl; apart = λ z. absurd (let no : ⊥ = omega arith in no); inside = crs-inside first-port ef eN ready.room }

    pub one-done :
        {X : Type 0} {Done : Deed X} {Also : Step X} {none x : X} → Accumulates Done Also none → (r : Registers) → c.ports ≡ 1
        → Done (on_each (first ∷ []) (every_sixth first (2 * N))) (on_each (first ∷ []) (pair_sent r first)) x → Done (crs_sends c s) (crs_sent c r) x
    one-done A r n d = A.same (λ e. port-elements first-port ef eN e ∙ on_one n e) (port-values first-port ef eN r) (each-one (first ∷ []) A refl d)

    module _ (n : c.ports ≡ 1 → ⊥) {second : ℕ} (es : second ≡ crs_place c s (q + 1)) where
      apart : first + 6 * (2 * N) ≤ second
      unfolding crs_place
      apart =
          let two-rows : 1 * carriers c + carriers c ≤ places_of c = row_inside 1 (symbols c) (carriers c) (carriers c) (omega (arith, slot-length c)) (omega arith) in
          let next : (q + 1) * places_of c ≡ q * places_of c + places_of c = omega arith in
          omega (arith, blocks-least c ready.cell)

      pub both-inside : EachIn (first ∷ second ∷ []) (2 * N) g
      both-inside = record { ports = inr refl; apart = λ z. apart; inside = crs-inside (second-port n) es eN ready.room }

      pub both-done :
          {X : Type 0} {Done : Deed X} {Also : Step X} {none x : X} → Accumulates Done Also none → (r : Registers)
          → Done (on_both first second (every_sixth first (2 * N))) (on_both first second (pair_sent r first)) x → Done (crs_sends c s) (crs_sent c r) x
      unfolding pair_sent
      both-done A r d =
          A.same
          (λ e. either e ∙ (λ i. port-elements (second-port n) es eN e i || port-elements first-port ef eN e i) ∙ on-two n e)
          (λ e t. value e (or_cases (every_sixth second (2 * N) e) (every_sixth first (2 * N) e) (sym (either e) ∙ t)))
          d
        where
          either : (e : ℕ) → every_sixth first (2 * N) (on_first first second e) ≡ every_sixth second (2 * N) e || every_sixth first (2 * N) e
          either e = sixth-both first second first second (2 * N) e (omega arith) (omega arith) apart

          value : (e : ℕ) → (every_sixth second (2 * N) e ≡ true) ⊎ (every_sixth first (2 * N) e ≡ true) → pair_sent r first (on_first first second e) ≡ crs_sent c r e
          value e (inl t) =
              let l = sixth-of second (2 * N) e t in
              let j : first + (e - second) - first ≡ e - second = omega arith in
              rw (on-second first second e l.0, j) (port-values (second-port n) es eN r e t)
          value e (inr t) =
              let l = sixth-of first (2 * N) e t in
              rw (on-first first second e (omega (arith, apart))) (port-values first-port ef eN r e t)
