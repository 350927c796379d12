-- For the crates above: what each signal writes, and where, is what its owner's rule and the grid's definition say. e is an
-- element's number, T the number of places on a port. Assumes nothing.
use Prim.Native.Nat.{ℕ, ◌+◌, ◌-◌, ◌*◌, ◌/◌, ◌%◌, ◌≤◌, ◌<◌}
use mathlib.Core.Path.{◌≡◌, refl, sym, ap, ◌∙◌}
use mathlib.Core.Logic.{◌↔◌, inl, inr}
use mathlib.Core.Bool.{true, false, ◌&&◌}
use mathlib.Core.List.{List}
use native.Mathlib.Omega.{arith}
use lib.Dec.{eqb, ltb}
use lib.IntN.{pos}
use borrow.Author.Tests.{eq-eqb, eqb-true, lt-ltb, ltb-true, ltb-false}
use Rattle.std.specs.declared.result.Result.TheVariants.{Ok as accepted}
use Rattle.base.proofs.Tests.{both, by-test, or_left, or_right}
use Rattle.base.specs.Signs.{flip}
use Rattle.base.specs.Bytes.{element_of}
use Rattle.base.proofs.Pairs.{pair-of}
use Rattle.gold.specs.Sequence.{c, pair_at}
use Rattle.gold.specs.Steps.{output_of}
use Rattle.gold.proofs.Laws.{pair-after, pair-output}
use Rattle.codeword.specs.Streams.{outputs}
use Rattle.crs.specs.Crs.{crs_init, in_widest, crs_value}
use Rattle.plan.specs.Check.{check_of}
use Rattle.plan.specs.Lists.{Among}
use Rattle.plan.specs.Fields.{port_counts}
use Rattle.plan.specs.Valid.{CellIn}
use Rattle.plan.specs.declared.Cell.{Cell}
use Rattle.plan.specs.declared.Plan.{Plan}
use Rattle.plan.proofs.Valid.{valid}
use Rattle.plan.proofs.Listed.{and_left, and_right}
use Rattle.layout.specs.Rules.{slot_length, slot_of, in_slot, crs_symbol, crs_shift, stands_at, crs_of, crs, marked, used, pss, sss}
use Rattle.layout.specs.Owners.{fixed_rule, owns}
use Rattle.layout.specs.declared.Mark.TheVariants.{Primary, Secondary}
use Rattle.layout.specs.declared.Owner.TheVariants.{Crs, Sync}
use Rattle.plan.proofs.Counts.{blocks-most}
use Rattle.places.specs.Places.{symbol_at, carrier_at, places_of}
use Rattle.subframe.specs.Elements.{crs_element, pss_element, sss_element}
use Rattle.signals.specs.Signals.{port_sends, signalled, crs_sends, crs_from, crs_sent, mark_sends, pss_sent, sss_sent}
use Rattle.signals.proofs.Ports.{port-parts, symbol-parts}

-- the bits that the pair at c(k) gives
output-of : (ci k i : ℕ) → outputs (pair_at ci k) i ≡ c ci (k + i)
unfolding outputs
output-of ci k i = ap output_of (pair-after ci k i) ∙ pair-output ci (k + i)

-- so value m, from the pair at the symbol's first value
value-from : (prefix C N n l m : ℕ) → N ≤ 110 → crs_from (pair_at (crs_init prefix C n l) (2 * (110 - N))) m ≡ crs_value prefix C N n l m
unfolding crs_from crs_value in_widest
value-from prefix C N n l m few =
    let init = crs_init prefix C n l in
    let k = 2 * (110 - N) in
    let a : k + 2 * m ≡ 2 * (m + 110 - N) = omega arith in
    let b : k + (2 * m + 1) ≡ 2 * (m + 110 - N) + 1 = omega arith in
    pair-of
    (ap (λ (b : ℕ). flip b (pos 1)) (output-of init k (2 * m) ∙ ap (c init) a))
    (ap (λ (b : ℕ). flip b (pos 1)) (output-of init k (2 * m + 1) ∙ ap (c init) b))

-- a port of the cell sends in symbol s, so a signal stands there
pub signal-in : (c : Cell) (q s : ℕ) → CellIn c → q < c.ports → crs_symbol c q s ≡ true → signalled c s ≡ true
unfolding signalled crs_symbol
signal-in c q s ok l h = by-test (ltb q 2) low high
  where
    late : (P : ℕ) → Among P port_counts → 2 < P → P ≡ 4
    late P (inl e) k = omega arith
    late P (inr (inl e)) k = omega arith
    late P (inr (inr (inl e))) k = e
    late P (inr (inr (inr x4))) k = elim x4 [ ]

    low : ltb q 2 ≡ true → signalled c s ≡ true
    low t = or_left (crs_symbol c 0 s) (eqb c.ports 4 && crs_symbol c 2 s) (rw t at h)

    high : ltb q 2 ≡ false → signalled c s ≡ true
    high f =
        or_right (crs_symbol c 0 s) (eqb c.ports 4 && crs_symbol c 2 s)
        (both (eq-eqb c.ports 4 (late c.ports ok.ports (omega (arith, ltb-false q 2 f)))) (rw f at h))

module _ (w : List ℕ) (p : Plan) where
  -- ---- a port's reference signal
  module _ (q s e : ℕ) where
    pub port-sends : q < p.cell.ports → crs_symbol p.cell q s ≡ true → port_sends p.cell s q e ≡ true
        → (owns w p (Crs q) s (carrier_at p.cell (e % places_of p.cell)) ≡ true) × (e / places_of p.cell ≡ q) × (symbol_at p.cell (e % places_of p.cell) ≡ s)
    unfolding owns fixed_rule crs crs_of
    port-sends l y h =
        let d = port-parts p.cell s e q h in
        (both (lt-ltb _ _ l) (both y d.2), d.0, d.1)

    -- what is sent there, from the pair at the symbol's first value
    pub crs-value : check_of w ≡ accepted p → port_sends p.cell s q e ≡ true
        → crs_sent p.cell
        (pair_at (crs_init p.cell.prefix p.cell.identity (2 * p.frame.subframe + slot_of p.cell s) (in_slot p.cell s)) (2 * (110 - p.cell.blocks))) e
        ≡ crs_element p.cell p.frame q (e / places_of p.cell) s (carrier_at p.cell (e % places_of p.cell))
    unfolding crs_sent crs_element
    crs-value ok h =
        rw (eq-eqb (e / places_of p.cell) q (port-parts p.cell s e q h).0)
        (ap (element_of 2)
        (value-from p.cell.prefix p.cell.identity p.cell.blocks (2 * p.frame.subframe + slot_of p.cell s) (in_slot p.cell s)
        (carrier_at p.cell (e % places_of p.cell) / 6) (omega (arith, blocks-most p.cell (valid w p ok).cell))))

  -- and every place of the signal is sent on its port
  port-covers : (q e : ℕ) → owns w p (Crs q) (symbol_at p.cell (e % places_of p.cell)) (carrier_at p.cell (e % places_of p.cell)) ≡ true → e / places_of p.cell ≡ q
      → port_sends p.cell (symbol_at p.cell (e % places_of p.cell)) q e ≡ true
  unfolding owns fixed_rule crs crs_of port_sends
  port-covers q e o d =
      let s = symbol_at p.cell (e % places_of p.cell) in
      let k = carrier_at p.cell (e % places_of p.cell) in
      let y = crs_symbol p.cell q s in
      let v = stands_at p.cell (crs_shift p.cell q s) k in
      both (both (eq-eqb _ _ d) (eq-eqb s s refl)) (and_right y v (and_right (ltb q p.cell.ports) (y && v) o))

  -- ---- all ports' reference signals in symbol s
  -- the element's port sends there
  pub crs-parts : (s e : ℕ) → crs_sends p.cell s e ≡ true
      → (e / places_of p.cell < p.cell.ports) × (crs_symbol p.cell (e / places_of p.cell) s ≡ true) × (port_sends p.cell s (e / places_of p.cell) e ≡ true)
  crs-parts s e h = symbol-parts p.cell s e h

  -- every place of a port's signal is sent on the port, in a symbol that has signals
  pub crs-covers : CellIn p.cell → (q e : ℕ) → owns w p (Crs q) (symbol_at p.cell (e % places_of p.cell)) (carrier_at p.cell (e % places_of p.cell)) ≡ true
      → e / places_of p.cell ≡ q
      → (signalled p.cell (symbol_at p.cell (e % places_of p.cell)) ≡ true) × (crs_sends p.cell (symbol_at p.cell (e % places_of p.cell)) e ≡ true)
  unfolding owns fixed_rule crs crs_of crs_sends
  crs-covers ok q e o d =
      let s = symbol_at p.cell (e % places_of p.cell) in
      let l = ltb q p.cell.ports in
      let y = crs_symbol p.cell q s in
      let v = stands_at p.cell (crs_shift p.cell q s) (carrier_at p.cell (e % places_of p.cell)) in
      let in-q : l ≡ true = and_left l (y && v) o in
      let in-y : y ≡ true = and_left y v (and_right l (y && v) o) in (
        signal-in p.cell q s ok (ltb-true q p.cell.ports in-q) in-y,
        rw d (both (both in-q in-y) (port-covers q e o d)),
      )

  -- ---- synchronisation signals
  module _ (e : ℕ) where
    mark-parts : (y : ℕ) → mark_sends p.cell y e ≡ true
        → (e / places_of p.cell ≡ 0) × (eqb (symbol_at p.cell (e % places_of p.cell) + y) (slot_length p.cell) ≡ true)
        × (used p.cell (carrier_at p.cell (e % places_of p.cell)) ≡ true)
    unfolding mark_sends
    mark-parts y h =
        let t = e % places_of p.cell in
        let a = eqb (e / places_of p.cell) 0 in
        let b = eqb (symbol_at p.cell t + y) (slot_length p.cell) in
        let d = used p.cell (carrier_at p.cell t) in
        let ab : a && b ≡ true = and_left (a && b) d h in
        (eqb-true _ _ (and_left a b ab), and_right a b ab, and_right (a && b) d h)

    mark-whole : (y : ℕ) → marked p.frame && eqb (symbol_at p.cell (e % places_of p.cell) + y) (slot_length p.cell) && used p.cell (carrier_at p.cell (e % places_of p.cell)) ≡ true
        → e / places_of p.cell ≡ 0 → mark_sends p.cell y e ≡ true
    unfolding mark_sends
    mark-whole y o d =
        let t = e % places_of p.cell in
        let m = marked p.frame in
        let b = eqb (symbol_at p.cell t + y) (slot_length p.cell) in
        let u = used p.cell (carrier_at p.cell t) in
        both (both (eq-eqb _ _ d) (and_right m b (and_left (m && b) u o))) (and_right (m && b) u o)

    pub pss-sends : marked p.frame ≡ true
        → (mark_sends p.cell 1 e ≡ true) ↔ ((owns w p (Sync Primary) (symbol_at p.cell (e % places_of p.cell)) (carrier_at p.cell (e % places_of p.cell)) ≡ true)
        × (e / places_of p.cell ≡ 0))
    unfolding owns fixed_rule pss
    pss-sends m = (λ h. let d = mark-parts 1 h in (both (both m d.1) d.2, d.0), λ h. mark-whole 1 h.0 h.1)

    pub sss-sends : marked p.frame ≡ true
        → (mark_sends p.cell 2 e ≡ true) ↔ ((owns w p (Sync Secondary) (symbol_at p.cell (e % places_of p.cell)) (carrier_at p.cell (e % places_of p.cell)) ≡ true)
        × (e / places_of p.cell ≡ 0))
    unfolding owns fixed_rule sss
    sss-sends m = (λ h. let d = mark-parts 2 h in (both (both m d.1) d.2, d.0), λ h. mark-whole 2 h.0 h.1)

    pub pss-value : mark_sends p.cell 1 e ≡ true → pss_sent p.cell e ≡ pss_element p.cell (e / places_of p.cell) (carrier_at p.cell (e % places_of p.cell))
    unfolding pss_sent
    pss-value h = ap (λ (q : ℕ). pss_element p.cell q (carrier_at p.cell (e % places_of p.cell))) (sym (mark-parts 1 h).0)

    pub sss-value : mark_sends p.cell 2 e ≡ true → sss_sent p.cell p.frame e ≡ sss_element p.cell p.frame (e / places_of p.cell) (carrier_at p.cell (e % places_of p.cell))
    unfolding sss_sent
    sss-value h = ap (λ (q : ℕ). sss_element p.cell p.frame q (carrier_at p.cell (e % places_of p.cell))) (sym (mark-parts 2 h).0)
