-- The groups below are counted as the definition counts them.
use Rattle.places.proofs.Ways.{step_sum}
use Rattle.places.proofs.step.Goals as goal

pub returns : goal.returns
returns c = let a = c.args in
    (step_sum a.a a.b a.c a.d a.n a.t c.formats_below.ensures.0 c.one_below.ensures.0, c.one_below.ensures.1)
