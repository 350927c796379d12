-- Those left less those that the units' quads take.
use native.Mathlib.Omega.{arith}
use mathlib.Core.Path.{refl}
use Rattle.layout.proofs.VacantWays.{number-few, taken-fits, vacant-is}
use Rattle.layout.proofs.vacant_below.Goals as goal

pub quads_below-first-requires : goal.quads_below-first-requires
quads_below-first-requires c = (
  c.requires.0,
  c.requires.1,
  number-few c.args.cell c.requires.0 c.requires.1 c.args.s c.args.t c.requires.2 c.requires.3
      c.left_below-n.ensures,
  omega arith,
)

pub quads_below-second-requires : goal.quads_below-second-requires
quads_below-second-requires c = (
  c.requires.0,
  c.requires.1,
  number-few c.args.cell c.requires.0 c.requires.1 c.args.s c.args.t c.requires.2 c.requires.3
      c.left_below-n.ensures,
  omega arith,
)

pub overflow_add-result : goal.overflow_add-result
overflow_add-result c =
    omega (
      arith,
      taken-fits c.args.cell c.requires.0 c.requires.1 c.args.s c.args.t c.requires.2 c.requires.3
          c.left_below-n.ensures c.quads_below-first.ensures c.quads_below-second.ensures refl,
      number-few c.args.cell c.requires.0
          c.requires.1 c.args.s c.args.t c.requires.2 c.requires.3 c.left_below-n.ensures,
    )

pub quads_below-requires : goal.quads_below-requires
quads_below-requires c = (
  c.requires.0,
  c.requires.1,
  number-few c.args.cell c.requires.0 c.requires.1 c.args.s c.args.t c.requires.2 c.requires.3
      c.left_below-n.ensures,
  omega arith,
)

pub overflow_add-result-2 : goal.overflow_add-result-2
overflow_add-result-2 c =
    omega (
      arith,
      taken-fits c.args.cell c.requires.0 c.requires.1 c.args.s c.args.t c.requires.2 c.requires.3
          c.left_below-n.ensures c.quads_below-first.ensures c.quads_below-second.ensures c.quads_below.ensures,
      number-few
          c.args.cell c.requires.0 c.requires.1 c.args.s c.args.t c.requires.2 c.requires.3 c.left_below-n.ensures,
    )

pub overflow_sub-result : goal.overflow_sub-result
overflow_sub-result c =
    taken-fits c.args.cell c.requires.0 c.requires.1 c.args.s c.args.t c.requires.2 c.requires.3
    c.left_below-n.ensures c.quads_below-first.ensures c.quads_below-second.ensures c.quads_below.ensures

pub returns : goal.returns
returns c =
    vacant-is c.args.cell c.requires.0 c.requires.1 c.args.s c.args.t c.requires.2 c.requires.3 c.left_below-n.ensures
    c.quads_below-first.ensures c.quads_below-second.ensures c.quads_below.ensures
