-- The pairs of each form.
use native.Mathlib.Omega.{arith}
use Rattle.walk.proofs.Addresses.{six-run, left-run, right-run, apart-run, run_in, run_small}
use Rattle.walk.proofs.Forms.{form-last}
use Rattle.data_compare.proofs.Pairs.{run-seen}
use Rattle.data_compare.proofs.compare_pairs.Goals as goal

pub overflow_mul-halves : goal.overflow_mul-halves
overflow_mul-halves c = omega (arith, run_small c.requires)

pub rounds-requires : goal.rounds-requires
rounds-requires c = run_in (six-run c.args.run c.in-63.is) c.requires

pub returns-in-63 : goal.returns-in-63
returns-in-63 c = run-seen c.requires (six-run c.args.run c.in-63.is) c.rounds.ensures

pub overflow_mul-halves-in-27 : goal.overflow_mul-halves-in-27
overflow_mul-halves-in-27 c = omega (arith, run_small c.requires)

pub rounds-requires-in-27 : goal.rounds-requires-in-27
rounds-requires-in-27 c = run_in (left-run c.args.run c.in-27.is) c.requires

pub returns-in-27 : goal.returns-in-27
returns-in-27 c = run-seen c.requires (left-run c.args.run c.in-27.is) c.rounds-in-27.ensures

pub overflow_add-first : goal.overflow_add-first
overflow_add-first c = omega (arith, run_small c.requires)

pub overflow_mul-halves-in-54 : goal.overflow_mul-halves-in-54
overflow_mul-halves-in-54 c = omega (arith, run_small c.requires)

pub rounds-requires-in-54 : goal.rounds-requires-in-54
rounds-requires-in-54 c = run_in (right-run c.args.run c.in-54.is) c.requires

pub returns-in-54 : goal.returns-in-54
returns-in-54 c = run-seen c.requires (right-run c.args.run c.in-54.is) c.rounds-in-54.ensures

pub overflow_mul-halves-in_default : goal.overflow_mul-halves-in_default
overflow_mul-halves-in_default c = omega (arith, run_small c.requires)

pub rounds-requires-in_default : goal.rounds-requires-in_default
rounds-requires-in_default c =
    run_in (apart-run c.args.run (form-last c.requires.form (λ e. omega arith) (λ e. omega arith) (λ e. omega arith))) c.requires

pub returns-in_default : goal.returns-in_default
returns-in_default c =
    run-seen c.requires (apart-run c.args.run (form-last c.requires.form (λ e. omega arith) (λ e. omega arith) (λ e. omega arith))) c.rounds-in_default.ensures
