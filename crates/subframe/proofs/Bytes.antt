-- The grid's bytes by element: "An element on port p is three bytes at ((p×S+s)×12N+k)×3". Assumes nothing.
use Prim.Native.Nat.{ℕ, suc, ◌+◌, ◌*◌, ◌/◌, ◌%◌, ◌≤◌, ◌<◌}
use mathlib.Core.Path.{◌≡◌, ap, ap₂, ◌∙◌}
use mathlib.Core.List.{List}
use native.Mathlib.Nat.{add-mul, mul_assoc, mul_comm}
use native.Mathlib.Omega.{arith}
use lib.ListN.{length, get_or}
use Rattle.base.proofs.Rows.{at-div, at-mod, row_inside}
use Rattle.base.specs.declared.Element.{Element}
use Rattle.base.specs.Bytes.{byte_in}
use Rattle.base.proofs.Bytes.{element-is}
use Rattle.base.proofs.Tables.{table_at, table-length}
use Rattle.plan.specs.declared.Plan.{Plan}
use Rattle.layout.specs.Owners.{symbols, carriers}
use Rattle.places.specs.Places.{place_number, symbol_at, carrier_at, places_of}
use Rattle.places.proofs.Numbers.{place-symbol, place-carrier, place_inside}
use Rattle.payload.specs.Payload.{grid_length}
use Rattle.subframe.specs.Elements.{element_at}
use Rattle.subframe.specs.Grid.{element_numbered, grid_of}

-- ---- three bytes are an element
pub element-same : {x y : Element} → ((b : ℕ) → b < 3 → byte_in x b ≡ byte_in y b) → x ≡ y
element-same h = element-is (h 0 (omega arith)) (h 1 (omega arith)) (h 2 (omega arith))

-- ---- numbers
-- (p×S+s)×W+k is place s×W+k of port p, where each port has S×W
pub number_is : (port S s W k : ℕ) → (port * S + s) * W + k ≡ port * (S * W) + (s * W + k)
number_is port S s W k = omega (arith, add-mul (port * S) s W, mul_assoc port S W)

-- 36×N×S×P bytes are three for each of P ports and S×12N places
length-is : (N S P : ℕ) → 36 * N * S * P ≡ 3 * (P * (S * (12 * N)))
length-is N S P =
    let e : 36 * N ≡ 3 * (12 * N) = omega arith in
    ap (λ (x : ℕ). x * S * P) e
    ∙ ap (λ (x : ℕ). x * P) (mul_assoc 3 (12 * N) S)
    ∙ mul_assoc 3 (12 * N * S) P
    ∙ ap (λ (x : ℕ). 3 * (x * P)) (mul_comm (12 * N) S)
    ∙ ap (λ (x : ℕ). 3 * x) (mul_comm (S * (12 * N)) P)

pub length-by-port : (p : Plan) → grid_length p ≡ 3 * (p.cell.ports * places_of p.cell)
unfolding grid_length
length-by-port p = length-is p.cell.blocks (symbols p.cell) p.cell.ports

-- ---- bytes
module _ (w : List ℕ) (p : Plan) (payload : List ℕ) where
  -- the element with the number of a place on a port
  pub element-at :
      (port s k : ℕ) → s < symbols p.cell → k < carriers p.cell
      → element_numbered w p payload ((port * symbols p.cell + s) * carriers p.cell + k) ≡ element_at w p payload port s k
  unfolding element_numbered
  element-at port s k in-s in-k =
      let e : ℕ = (port * symbols p.cell + s) * carriers p.cell + k in
      let t : ℕ = place_number p.cell s k in
      let at : e ≡ port * places_of p.cell + t = number_is port (symbols p.cell) s (carriers p.cell) k in
      let inside : t < places_of p.cell = place_inside p.cell s k in-s in-k in
      let d : e / places_of p.cell ≡ port = ap (λ (x : ℕ). x / places_of p.cell) at ∙ at-div port (places_of p.cell) t inside in
      let m : e % places_of p.cell ≡ t = ap (λ (x : ℕ). x % places_of p.cell) at ∙ at-mod port (places_of p.cell) t inside in
      ap (λ (x : ℕ). element_at w p payload x (symbol_at p.cell (e % places_of p.cell)) (carrier_at p.cell (e % places_of p.cell))) d
      ∙ ap₂ (element_at w p payload port)
      (ap (symbol_at p.cell) m ∙ place-symbol p.cell s k in-k)
      (ap (carrier_at p.cell) m ∙ place-carrier p.cell s k in-k)

  -- byte b of element e
  pub byte-of : (e b : ℕ) → e < p.cell.ports * places_of p.cell → b < 3 → get_or (grid_of w p payload) (e * 3 + b) 0 ≡ byte_in (element_numbered w p payload e) b
  unfolding grid_of
  byte-of e b h l =
      let d : (e * 3 + b) / 3 ≡ e = omega arith in
      let m : (e * 3 + b) % 3 ≡ b = omega arith in
      table_at (grid_length p) (λ (i : ℕ). byte_in (element_numbered w p payload (i / 3)) (i % 3)) 0 (e * 3 + b) (omega (arith, length-by-port p))
      ∙ ap₂ (λ (x y : ℕ). byte_in (element_numbered w p payload x) y) d m

  -- THE LAW OF BYTES
  pub byte_at :
      (port s k b : ℕ) → port < p.cell.ports → s < symbols p.cell → k < carriers p.cell → b < 3
      → get_or (grid_of w p payload) (((port * symbols p.cell + s) * carriers p.cell + k) * 3 + b) 0 ≡ byte_in (element_at w p payload port s k) b
  byte_at port s k b in-port in-s in-k l =
      let e : ℕ = (port * symbols p.cell + s) * carriers p.cell + k in
      let t : ℕ = place_number p.cell s k in
      let inside : suc t ≤ places_of p.cell = place_inside p.cell s k in-s in-k in
      let below : port * places_of p.cell + suc t ≤ p.cell.ports * places_of p.cell = row_inside port p.cell.ports (places_of p.cell) (suc t) in-port inside in
      let less : e < p.cell.ports * places_of p.cell = omega (arith, number_is port (symbols p.cell) s (carriers p.cell) k) in
      byte-of e b less l ∙ ap (λ (x : Element). byte_in x b) (element-at port s k in-s in-k)

pub grid-size : (w : List ℕ) (p : Plan) (payload : List ℕ) → length (grid_of w p payload) ≡ grid_length p
unfolding grid_of
grid-size w p payload = table-length (grid_length p) (λ (i : ℕ). byte_in (element_numbered w p payload (i / 3)) (i % 3))
