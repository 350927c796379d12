-- What the promises cite: the grid of a plan and a payload, byte by byte. Document 01, Grid: "An element on port p is three bytes at
-- ((p×S+s)×12N+k)×3: unit u, then I, J as signed bytes".
use Rattle.std.specs.Prelude.{ℕ, ◌/◌, ◌%◌, List}
use Rattle.base.specs.declared.Element.{Element}
use Rattle.base.specs.Bytes.{byte_in}
use Rattle.base.specs.Tables.{table}
use Rattle.plan.specs.declared.Plan.{Plan}
use Rattle.places.specs.Places.{symbol_at, carrier_at, places_of}
use Rattle.payload.specs.Payload.{grid_length}
use Rattle.subframe.specs.Elements.{element_at}

-- the element with the number e = (port×S+s)×12N+k
unfoldable pub element_numbered : List ℕ → Plan → List ℕ → ℕ → Element
element_numbered w p payload e =
    let t = e % places_of p.cell in
    element_at w p payload (e / places_of p.cell) (symbol_at p.cell t) (carrier_at p.cell t)

-- THE GRID
unfoldable pub grid_of : List ℕ → Plan → List ℕ → List ℕ
grid_of w p payload = table (grid_length p) (λ (i : ℕ). byte_in (element_numbered w p payload (i / 3)) (i % 3))
