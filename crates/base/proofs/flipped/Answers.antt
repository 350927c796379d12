-- `base::flipped` meets its contract. Assumes nothing.
use Prim.Native.Nat.{ℕ}
use mathlib.Core.Path.{sym, ap, ◌∙◌}
use Rattle.base.specs.Pairs.{flipped as flipped_by}
use Rattle.base.proofs.Signs.{flip_one}
use Rattle.base.proofs.Fits.{neg8-fits, neg8-back}
use Rattle.base.proofs.Pairs.{pair-of}
use Rattle.base.proofs.flipped.Goals as goal

pub overflow_sub-result : goal.overflow_sub-result
overflow_sub-result c = neg8-fits c.args.d.re c.requires.0

pub overflow_sub-result-else-b-eq0 : goal.overflow_sub-result-else-b-eq0
overflow_sub-result-else-b-eq0 c = neg8-fits c.args.d.im c.requires.1

pub returns-then-b-eq0 : goal.returns-then-b-eq0
returns-then-b-eq0 c = ap (λ (b : ℕ). flipped_by b c.args.d) (sym c.if-b-eq0.true)

pub returns-else-b-eq0 : goal.returns-else-b-eq0
returns-else-b-eq0 c =
    let n = c.if-b-eq0.false in
    pair-of
    (neg8-back c.args.d.re c.requires.0 ∙ sym (flip_one c.args.b c.args.d.re n))
    (neg8-back c.args.d.im c.requires.1 ∙ sym (flip_one c.args.b c.args.d.im n))
