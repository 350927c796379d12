-- `data_write::fill_pairs` meets its contract: the pairs of each form. Assumes nothing.
use native.Mathlib.Omega.{arith}
use Rattle.data_write.proofs.Filled.{run-done}
use Rattle.walk.proofs.Addresses.{six-run, left-run, right-run, apart-run, run_in, run_small}
use Rattle.walk.proofs.Forms.{form-last}
use Rattle.data_write.proofs.fill_pairs.Goals as goal

pub all_six-requires : goal.all_six-requires
all_six-requires c = (run_in (six-run c.args.run c.in-63.is) c.requires.0, c.requires.1)

pub returns-in-63 : goal.returns-in-63
returns-in-63 c = run-done (six-run c.args.run c.in-63.is) (omega arith) c.all_six.ensures

pub pairs-requires : goal.pairs-requires
pairs-requires c = (omega arith, run_in (left-run c.args.run c.in-27.is) c.requires.0, c.requires.1)

pub returns-in-27 : goal.returns-in-27
returns-in-27 c = run-done (left-run c.args.run c.in-27.is) (omega arith) c.pairs.ensures

pub overflow_add-first : goal.overflow_add-first
overflow_add-first c = omega (arith, run_small c.requires.0)

pub pairs-requires-in-54 : goal.pairs-requires-in-54
pairs-requires-in-54 c = (omega arith, run_in (right-run c.args.run c.in-54.is) c.requires.0, c.requires.1)

pub returns-in-54 : goal.returns-in-54
returns-in-54 c = run-done (right-run c.args.run c.in-54.is) (omega arith) c.pairs-in-54.ensures

pub pairs-requires-in_default : goal.pairs-requires-in_default
pairs-requires-in_default c = (
  omega arith,
  run_in (apart-run c.args.run (form-last c.requires.0.form (λ e. omega arith) (λ e. omega arith) (λ e. omega arith))) c.requires.0,
  c.requires.1,
)

pub returns-in_default : goal.returns-in_default
returns-in_default c =
    run-done (apart-run c.args.run (form-last c.requires.0.form (λ e. omega arith) (λ e. omega arith) (λ e. omega arith))) (omega arith)
    c.pairs-in_default.ensures
