-- `sync::sss_for` meets its contract. Assumes nothing.
use Prim.Native.Nat.{◌/◌}
use native.Mathlib.Omega.{arith}
use mathlib.Core.Path.{◌∙◌}
use Rattle.sync.proofs.Triangles.{indices-lt}
use Rattle.sync.proofs.Signals.{signal-five, signal-zero}
use Rattle.sync.proofs.sss_for.Goals as goal

pub signs-requires : goal.signs-requires
signs-requires c = let p = c.sss_pair-p in
    let h = indices-lt p.result (c.args.cell / 3) p.ensures in
    (h.1, h.0, omega arith)

pub signs-requires-else-subframe-eq5 : goal.signs-requires-else-subframe-eq5
signs-requires-else-subframe-eq5 c = let p = c.sss_pair-p in
    let h = indices-lt p.result (c.args.cell / 3) p.ensures in
    (h.0, h.1, omega arith)

pub returns-then-subframe-eq5 : goal.returns-then-subframe-eq5
returns-then-subframe-eq5 c = let a = c.args in
    let p = c.sss_pair-p in
    c.signs.ensures ∙ signal-five a.cell a.subframe p.result p.ensures c.if-subframe-eq5.true

pub returns-else-subframe-eq5 : goal.returns-else-subframe-eq5
returns-else-subframe-eq5 c = let a = c.args in
    let p = c.sss_pair-p in
    c.signs-else-subframe-eq5.ensures ∙ signal-zero a.cell a.subframe p.result p.ensures c.if-subframe-eq5.false
