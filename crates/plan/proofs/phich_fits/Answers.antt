-- `plan::phich_fits` meets its contract: three symbols with the extended duration, any number with the normal one. Assumes nothing.
use Rattle.plan.proofs.ControlRegion.{fits-extended, fits-normal}
use Rattle.plan.proofs.phich_fits.Goals as goal

pub returns-then-c-eq1 : goal.returns-then-c-eq1
returns-then-c-eq1 c =
    let a = c.args in
    fits-extended a.c a.f c.if-c-eq1.true c.control_symbols.ensures

pub returns-else-c-eq1 : goal.returns-else-c-eq1
returns-else-c-eq1 c = let a = c.args in fits-normal a.c a.f c.if-c-eq1.false
