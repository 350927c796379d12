-- A GRID BY ITS ELEMENTS: a grid of the plan's length is that of the payload in it just where it has each of its elements. Assumes nothing.
use Prim.Native.Nat.{ℕ, zero, suc, ◌+◌, ◌*◌, ◌/◌, ◌%◌, ◌<◌}
use mathlib.Core.Path.{◌≡◌, sym, ap, ◌∙◌}
use mathlib.Core.List.{List}
use native.Mathlib.Omega.{arith}
use lib.ListN.{length, get_or}
use lib.Seq.{ext_get_or}
use Rattle.base.specs.declared.Element.{Element}
use Rattle.base.specs.Bytes.{byte_in}
use Rattle.plan.specs.declared.Plan.{Plan}
use Rattle.places.specs.Places.{places_of}
use Rattle.grid.specs.Elements.{element_in}
use Rattle.grid.specs.Writing.{Room}
use Rattle.subframe.specs.Grid.{grid_of}
use Rattle.subframe.proofs.Bytes.{byte-of, grid-size, length-by-port}
use Rattle.recovery.specs.Recovery.{payload_in}
use Rattle.recovery.proofs.Symbols.{element-in}
use Rattle.verify.specs.Made.{element_due}

byte-in : (g : List ℕ) (e b : ℕ) → b < 3 → byte_in (element_in g e) b ≡ get_or g (e * 3 + b) 0
unfolding element_in
byte-in g e zero l = let z : 3 * e ≡ e * 3 + 0 = omega arith in ap (λ (n : ℕ). get_or g n 0) z
byte-in g e (suc zero) l = let z : 3 * e + 1 ≡ e * 3 + 1 = omega arith in ap (λ (n : ℕ). get_or g n 0) z
byte-in g e (suc (suc zero)) l = let z : 3 * e + 2 ≡ e * 3 + 2 = omega arith in ap (λ (n : ℕ). get_or g n 0) z
byte-in g e (suc (suc (suc b))) l = absurd (omega arith)

module _ (w : List ℕ) (p : Plan) (g : List ℕ) where
  pub made-element : grid_of w p (payload_in w p g) ≡ g → (e : ℕ) → e < p.cell.ports * places_of p.cell → element_in g e ≡ element_due w p g e
  made-element m e l =
      ap (λ (x : List ℕ). element_in x e) (sym m)
      ∙ element-in (grid_of w p (payload_in w p g)) e (element_due w p g e) (λ b r. byte-of w p (payload_in w p g) e b l r)

  pub made-grid :
      Room p.cell.ports (places_of p.cell) g → ((e : ℕ) → e < p.cell.ports * places_of p.cell → element_in g e ≡ element_due w p g e)
      → grid_of w p (payload_in w p g) ≡ g
  made-grid room h =
      let size : length (grid_of w p (payload_in w p g)) ≡ 3 * (p.cell.ports * places_of p.cell) = grid-size w p (payload_in w p g) ∙ length-by-port p in
      ext_get_or 0 (grid_of w p (payload_in w p g)) g (size ∙ sym room.size)
      (λ i l.
      let e : ℕ = i / 3 in
      let b : ℕ = i % 3 in
      let at : i ≡ e * 3 + b = omega arith in
      let r : b < 3 = omega arith in
      let in_e : e < p.cell.ports * places_of p.cell = omega (arith, size) in
      ap (λ (n : ℕ). get_or (grid_of w p (payload_in w p g)) n 0) at
      ∙ byte-of w p (payload_in w p g) e b in_e r
      ∙ ap (λ (x : Element). byte_in x b) (sym (h e in_e))
      ∙ byte-in g e b r
      ∙ ap (λ (n : ℕ). get_or g n 0) (sym at))
