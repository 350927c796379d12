-- `data_read::read_pairs` meets its contract: the pairs of each form. Assumes nothing.
use native.Mathlib.Omega.{arith}
use Rattle.walk.proofs.Addresses.{six-run, apart-run, run_in, run_small, run-total}
use Rattle.data_read.proofs.Gatherings.{read-fewer}
use Rattle.data_read.proofs.Places.{paired-read, beside-run}
use Rattle.data_read.proofs.read_pairs.Goals as goal

pub all_six-requires : goal.all_six-requires
all_six-requires c =
    let p = six-run c.args.run c.in-63.is in
    (run_in p c.requires.0, read-fewer c.requires.1 (omega (arith, run-total p)))

pub returns-in-63 : goal.returns-in-63
returns-in-63 c =
    paired-read c.args.ports c.args.places c.args.j (six-run c.args.run c.in-63.is) (omega arith) c.all_six.ensures

pub rounds-requires : goal.rounds-requires
rounds-requires c =
    let p = apart-run c.args.run c.in-45.is in
    (run_in p c.requires.0, read-fewer c.requires.1 (omega (arith, run-total p)))

pub returns-in-45 : goal.returns-in-45
returns-in-45 c =
    paired-read c.args.ports c.args.places c.args.j (apart-run c.args.run c.in-45.is) (omega arith) c.rounds.ensures

pub overflow_add-start : goal.overflow_add-start
overflow_add-start c =
    let p = beside-run c.args.run c.requires.0.form (λ e. omega arith) (λ e. omega arith) c.before_pairs.ensures in
    omega (arith, p.near, run_small c.requires.0)

pub rounds-requires-in_default : goal.rounds-requires-in_default
rounds-requires-in_default c =
    let p = beside-run c.args.run c.requires.0.form (λ e. omega arith) (λ e. omega arith) c.before_pairs.ensures in
    (run_in p c.requires.0, read-fewer c.requires.1 (omega (arith, run-total p)))

pub returns-in_default : goal.returns-in_default
returns-in_default c =
    let p = beside-run c.args.run c.requires.0.form (λ e. omega arith) (λ e. omega arith) c.before_pairs.ensures in
    paired-read c.args.ports c.args.places c.args.j p (omega arith) c.rounds-in_default.ensures
