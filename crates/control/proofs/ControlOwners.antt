-- FOR THE CALLERS, under an accepted plan: the places and values of PCFICH and of the PHICH units are those of their owners, and what
-- the functions require holds. Assumes nothing beyond the plan check's answer.
use Prim.Native.Nat.{ℕ, ◌+◌, ◌*◌, ◌/◌, ◌%◌, ◌<◌}
use mathlib.Core.Path.{◌≡◌, refl, sym, ap, ◌∙◌}
use mathlib.Core.Bool.{true}
use mathlib.Core.List.{List}
use native.Mathlib.Nat.{mod-lt}
use native.Mathlib.Omega.{arith}
use lib.ListN.{get_or, take, drop}
use Rattle.std.specs.declared.result.Result.TheVariants.{Ok as accepted}
use Rattle.base.specs.declared.Pair.{Pair}
use Rattle.base.specs.Pairs.{nil}
use Rattle.gold.specs.Sequence.{c, pair_at}
use Rattle.codeword.specs.Codewords.{data_symbol, cfi_bit}
use Rattle.codeword.specs.Streams.{outputs}
use Rattle.codeword.proofs.Laws.{outputs-start}
use Rattle.precoding.specs.Matrices.{precoded}
use Rattle.precoding.specs.Phich.{phich_precoded}
use Rattle.precoding.specs.Places.{placed}
use Rattle.precoding.proofs.Diversity.{by_place, phich-by-place}
use Rattle.phich.specs.His.{hi_number}
use Rattle.phich.specs.Units.{SameHiBits}
use Rattle.phich.specs.Loops.{HisIn, QuadSums, Levels, scrambled_sums}
use Rattle.phich.proofs.Scrambled.{unit-levels, unit-scrambled}
use Rattle.phich.proofs.Units.{same-sums, length-ok, hi-unit}
use Rattle.phich.specs.Spreading.{spread_length}
use Rattle.plan.specs.Check.{check_of}
use Rattle.plan.specs.Fields.{mapping_units}
use Rattle.plan.specs.CommandLists.{his_of}
use Rattle.plan.specs.Valid.{CellIn, HiIn}
use Rattle.plan.specs.declared.Plan.{Plan}
use Rattle.plan.proofs.Counts.{units-most}
use Rattle.plan.proofs.Listed.{and_left, every-at}
use Rattle.plan.proofs.Valid.{valid}
use Rattle.layout.specs.Rules.{pcfich, phich}
use Rattle.layout.specs.Owners.{fixed_rule, owns}
use Rattle.layout.specs.declared.Owner.TheVariants.{Pcfich, Phich}
use Rattle.places.specs.Places.{place_number, symbol_at, carrier_at, places_of, owns_at, place_order, index_by, index_of}
use Rattle.places.proofs.Numbers.{place-both}
use Rattle.grid.specs.Writing.{sends, Room}
use Rattle.subframe.specs.Elements.{control_init, pcfich_symbol, hi_bit, phich_sum, element_for}
use Rattle.subframe.proofs.Acknowledged.{within, distinct}
use Rattle.subframe.proofs.Occurs.{even-occurs}
use Rattle.control.specs.Control.{pcfich_index, pcfich_sends, pcfich_sent, phich_index, phich_sends, unit_sent, phich_sent}
use Rattle.control.specs.Filling.{PcfichIn, PhichIn, CellHis}
use Rattle.control.proofs.His.{his-in}
use Rattle.control.proofs.Listings.{some-places, pcfich-listed, phich-listed}

module _ (w : List ℕ) (p : Plan) (ok : check_of w ≡ accepted p) where
  -- ---- what the functions require
  pub cell-ok : CellIn p.cell
  cell-ok = (valid w p ok).cell

  pub pcfich-in : {grid : List ℕ} → Room p.cell.ports (places_of p.cell) grid → PcfichIn p.cell p.frame.cfi grid
  pcfich-in r = record { cell = cell-ok; some = (valid w p ok).frame.some; most = (valid w p ok).frame.most; room = r }

  pub phich-in : (m : ℕ) → m < mapping_units p.cell → {part grid : List ℕ} → Room p.cell.ports (places_of p.cell) grid → Levels 8 part → PhichIn p.cell m part grid
  phich-in m h r l = record { cell = cell-ok; unit = h; room = r; levels = l }

  pub cell-his : CellHis p.cell p.his w
  unfolding his_of
  cell-his =
      record {
        cell = cell-ok;
        known = within w p ok;
        units = λ n l.
            hi-unit p.cell (hi_number (his_of w p) n)
            (every-at (HiIn p.cell) (record { group = 0; sequence = 0 }) (his_of w p) n (valid w p ok).his (omega (arith, (valid w p ok).his-count)));
      }

  -- what the loops over the HIs require
  pub his-known : {l : ℕ} → l ≡ spread_length p.cell → HisIn l w p.his.at p.his.count
  his-known e = his-in cell-his e

  -- ---- places
  pub pcfich-index : (t : ℕ) → pcfich_index p.cell t ≡ index_of w p Pcfich t
  unfolding pcfich_index index_of index_by place_order
  pcfich-index t = refl

  pub phich-index : (m t : ℕ) → phich_index p.cell m t ≡ index_of w p (Phich m) t
  unfolding phich_index index_of index_by place_order
  phich-index m t = refl

  pub pcfich-owns : (t : ℕ) → pcfich p.cell (symbol_at p.cell t) (carrier_at p.cell t) ≡ owns_at w p Pcfich t
  unfolding owns_at owns fixed_rule
  pcfich-owns t = refl

  pub phich-owns : (m t : ℕ) → phich p.cell m (symbol_at p.cell t) (carrier_at p.cell t) ≡ owns_at w p (Phich m) t
  unfolding owns_at owns fixed_rule
  phich-owns m t = refl

  some : 0 < places_of p.cell
  some = some-places p.cell cell-ok

  -- a place's index is below the channel's count
  pcfich-below : (e : ℕ) → pcfich_sends p.cell e ≡ true → pcfich_index p.cell (e % places_of p.cell) < 16
  unfolding pcfich_sends
  pcfich-below e h =
      let t = e % places_of p.cell in
      (pcfich-listed p.cell cell-ok).below t (mod-lt e some)
      (and_left (pcfich p.cell (symbol_at p.cell t) (carrier_at p.cell t)) (sends p.cell.ports (pcfich_index p.cell t / 2 % 2) (e / places_of p.cell)) h)

  phich-below : (m : ℕ) → m < mapping_units p.cell → (e : ℕ) → phich_sends p.cell m e ≡ true → phich_index p.cell m (e % places_of p.cell) < 12
  unfolding phich_sends
  phich-below m in-m e h =
      let t = e % places_of p.cell in
      (phich-listed p.cell cell-ok m in-m).below t (mod-lt e some)
      (and_left (phich p.cell m (symbol_at p.cell t) (carrier_at p.cell t)) (sends p.cell.ports ((phich_index p.cell m t / 4 + m) % 2) (e / places_of p.cell)) h)

  -- ---- values
  pcfich-symbols : (j : ℕ) → data_symbol 2 (cfi_bit p.frame.cfi) (outputs (pair_at (control_init p.cell p.frame) 0)) j ≡ pcfich_symbol p.cell p.frame j
  unfolding pcfich_symbol
  pcfich-symbols j = ap (λ (x : ℕ → ℕ). data_symbol 2 (cfi_bit p.frame.cfi) x j) (outputs-start (control_init p.cell p.frame))

  pub pcfich-value :
      (payload : List ℕ) (e : ℕ) → pcfich_sends p.cell e ≡ true → e / places_of p.cell < p.cell.ports
      → pcfich_sent p.cell p.frame.cfi (pair_at (control_init p.cell p.frame) 0) e
      ≡ element_for w p payload Pcfich (e / places_of p.cell) (symbol_at p.cell (e % places_of p.cell)) (carrier_at p.cell (e % places_of p.cell))
  unfolding pcfich_sent element_for
  pcfich-value payload e h q =
      let t = e % places_of p.cell in
      let j = pcfich_index p.cell t in
      let at : index_of w p Pcfich (place_number p.cell (symbol_at p.cell t) (carrier_at p.cell t)) ≡ j = ap (index_of w p Pcfich) (place-both p.cell t) ∙ sym (pcfich-index t) in
      ap (λ (d : ℕ → Pair). placed p.cell.ports (j / 2 % 2) 2 d j (e / places_of p.cell)) (λ i x. pcfich-symbols x i)
      ∙ sym (by_place (even-occurs w p ok 16 refl) 2 (pcfich_symbol p.cell p.frame) j (e / places_of p.cell) (pcfich-below e h) q)
      ∙ ap (λ (x : ℕ). precoded p.cell.ports 16 2 (pcfich_symbol p.cell p.frame) x (e / places_of p.cell)) (sym at)

  -- the symbols of a unit's sums stand where its owner's do
  phich-placed :
      (payload : List ℕ) (m : ℕ) → m < mapping_units p.cell → (e : ℕ) → phich_sends p.cell m e ≡ true → e / places_of p.cell < p.cell.ports
      → placed p.cell.ports ((phich_index p.cell m (e % places_of p.cell) / 4 + m) % 2) 2 (phich_sum w p payload m) (phich_index p.cell m (e % places_of p.cell)) (e / places_of p.cell)
      ≡ element_for w p payload (Phich m) (e / places_of p.cell) (symbol_at p.cell (e % places_of p.cell)) (carrier_at p.cell (e % places_of p.cell))
  unfolding element_for
  phich-placed payload m in-m e h q =
      let t = e % places_of p.cell in
      let j = phich_index p.cell m t in
      let P = p.cell.ports in
      let at : index_of w p (Phich m) (place_number p.cell (symbol_at p.cell t) (carrier_at p.cell t)) ≡ j = ap (index_of w p (Phich m)) (place-both p.cell t) ∙ sym (phich-index m t) in
      let b : j < 12 = phich-below m in-m e h in
      let whole : 4 * (j / 4) + j % 4 ≡ j = omega arith in
      ap (λ (y : ℕ). placed P ((j / 4 + m) % 2) 2 (phich_sum w p payload m) y (e / places_of p.cell)) (sym whole)
      ∙ sym (phich-by-place (even-occurs w p ok 12 refl) m 2 (phich_sum w p payload m) (j / 4) (j % 4) (e / places_of p.cell) (omega arith) (omega arith) q)
      ∙ ap (λ (y : ℕ). phich_precoded P m 2 (phich_sum w p payload m) (y / 4) (y % 4) (e / places_of p.cell)) (sym at)

  -- ---- the bytes of unit m, of sums over the plan's HIs, whose bits are the payload's
  module _ {bit : ℕ → ℕ} {s : List ℕ} (q : QuadSums (spread_length p.cell) bit (his_of w p) s) (m : ℕ) (in-m : m < mapping_units p.cell) where
    few-units : m < 25
    few-units = omega (arith, units-most p.cell cell-ok)

    pub part-levels : Levels 8 (take 8 (drop (8 * m) s))
    part-levels = unit-levels q (length-ok p.cell) (within w p ok) (distinct w p ok) m few-units

    module _ (payload : List ℕ) (same : (n : ℕ) → n < p.his.count → bit n ≡ hi_bit w p payload n) where
      phich-sums :
          (i : ℕ) → get_or (scrambled_sums (spread_length p.cell) (outputs (pair_at (control_init p.cell p.frame) 0)) (take 8 (drop (8 * m) s))) i nil ≡ phich_sum w p payload m i
      unfolding phich_sum SameHiBits
      phich-sums i =
          let l = spread_length p.cell in
          let x = c (control_init p.cell p.frame) in
          ap (λ (y : ℕ → ℕ). get_or (scrambled_sums l y (take 8 (drop (8 * m) s))) i nil) (outputs-start (control_init p.cell p.frame))
          ∙ ap (λ (y : List Pair). get_or y i nil)
          (unit-scrambled q (length-ok p.cell) (within w p ok) (distinct w p ok) m few-units x
          ∙ same-sums l x m bit (hi_bit w p payload) (his_of w p) (λ n r u. same n (omega (arith, (valid w p ok).his-count))))

      pub phich-value :
          (e : ℕ) → phich_sends p.cell m e ≡ true → e / places_of p.cell < p.cell.ports
          → phich_sent p.cell m (pair_at (control_init p.cell p.frame) 0) (take 8 (drop (8 * m) s)) e
          ≡ element_for w p payload (Phich m) (e / places_of p.cell) (symbol_at p.cell (e % places_of p.cell)) (carrier_at p.cell (e % places_of p.cell))
      unfolding phich_sent unit_sent
      phich-value e h k =
          let j = phich_index p.cell m (e % places_of p.cell) in
          ap (λ (d : ℕ → Pair). placed p.cell.ports ((j / 4 + m) % 2) 2 d j (e / places_of p.cell)) (λ i x. phich-sums x i)
          ∙ phich-placed payload m in-m e h k
