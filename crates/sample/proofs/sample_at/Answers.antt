-- `sample::sample_at` meets its contract. Assumes nothing.
use mathlib.Core.Path.{◌≡◌}
use native.Mathlib.Omega.{arith}
use borrow.Author.Tests.{ne_eqb}
use Rattle.sample.proofs.Answers.{sampled}
use Rattle.sample.proofs.sample_at.Goals as goal

pub returns-in-63 : goal.returns-in-63
returns-in-63 c = sampled _ _ _ _ (simp (c.in-63.is, c.phase.ensures))

pub returns-in_default : goal.returns-in_default
returns-in_default c =
    let a : c.args.byte ≡ 0 → ⊥ = λ e. omega arith in
    let b : c.args.byte ≡ 63 → ⊥ = λ e. omega arith in
    sampled _ _ _ _ (simp (ne_eqb _ _ a, ne_eqb _ _ b, c.scaled.ensures, c.scale_of.ensures))
