-- `sync::pss_phase` meets its contract: at most 34 times 1953 fits. Assumes nothing.
use native.Mathlib.Omega.{arith}
use Rattle.sync.proofs.Triangles.{phase-fits, phase-is}
use Rattle.sync.proofs.pss_phase.Goals as goal

pub overflow_mul-result : goal.overflow_mul-result
overflow_mul-result c =
    let u = c.root in
    let t = c.pss_t in
    record { fits = omega (arith, phase-fits c.args.cell c.args.i u.result t.result c.requires u.ensures t.ensures) }

pub returns : goal.returns
returns c = let a = c.args in
    let u = c.root in
    phase-is a.cell a.i u.result c.pss_t.result u.ensures c.pss_t.ensures
