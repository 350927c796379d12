-- The places of six subcarriers in a symbol that users can have. Assumes nothing.
use native.Mathlib.Omega.{arith}
use Rattle.counts.proofs.Shapes.{row-early, row-late}
use Rattle.counts.proofs.row_places.Goals as goal

pub returns-then-s-control_symbols : goal.returns-then-s-control_symbols
returns-then-s-control_symbols c = let a = c.args in
    row-early a.cell a.frame a.s _ c.control_symbols.ensures (omega arith)

pub returns : goal.returns
returns c = let a = c.args in
    row-late a.cell a.frame a.s _ _ c.control_symbols.ensures (omega arith) c.half_places.ensures
