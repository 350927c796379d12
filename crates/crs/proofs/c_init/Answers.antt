-- `crs::c_init` meets its contract. Assumes nothing.
use native.Mathlib.Omega.{arith}
use mathlib.Core.Path.{ap}
use Prim.Native.Nat.{ℕ, ◌+◌, ◌*◌}
use Rattle.crs.specs.Crs.{crs_init}
use Rattle.crs.proofs.Values.{init-fits, prefix-le}
use Rattle.crs.proofs.c_init.Goals as goal

pub overflow_add-result-6 : goal.overflow_add-result-6
overflow_add-result-6 c = record {
  fits = omega (
    arith,
    init-fits c.args.cell c.args.slot c.args.l c.requires.0 c.requires.1 c.requires.2,
    c.n_cp.ensures,
    prefix-le c.args.prefix,
  );
}

pub returns : goal.returns
unfolding crs_init
returns c = ap (λ (b : ℕ). 1024 * (7 * (c.args.slot + 1) + c.args.l + 1) * (2 * c.args.cell + 1) + 2 * c.args.cell + b) c.n_cp.ensures
