-- The number of the group, and the cursor of the interleaver at it.
use native.Mathlib.Omega.{arith}
use native.Mathlib.Nat.{mod-lt}
use Rattle.interleaver.proofs.Steps.{walk-stands, walk-quad}
use Rattle.layout.proofs.VacantWays.{symbol-few, quads-some, start-inside, before-asked, quad-found}
use Rattle.layout.proofs.group_quad.Goals as goal

pub group_size-requires : goal.group_size-requires
group_size-requires c =
    symbol-few c.args.cell c.args.frame c.requires.0 c.requires.1 c.requires.2 c.args.s c.args.t c.requires.3 c.requires.4

pub overflow_mul-t : goal.overflow_mul-t
overflow_mul-t c =
    omega (
      arith,
      start-inside c.args.cell c.args.frame c.requires.0 c.requires.1 c.requires.2 c.args.s c.args.t c.requires.3
          c.requires.4 c.group_size.ensures,
    )

pub vacant_before-n-requires : goal.vacant_before-n-requires
vacant_before-n-requires c =
    before-asked c.args.cell c.args.frame c.requires.0 c.requires.1 c.requires.2 c.args.s c.args.t c.requires.3
    c.requires.4 c.group_size.ensures c.control_symbols-symbols.ensures

pub start-requires : goal.start-requires
start-requires c = (
  mod-lt _ (omega (
    arith,
    c.region_groups-quads.ensures.0,
    quads-some c.args.cell c.args.frame c.requires.0 c.requires.1
        c.requires.2 c.args.s c.args.t c.requires.3 c.requires.4,
  )),
  omega (arith, c.region_groups-quads.ensures.1),
)

pub quad-requires : goal.quad-requires
quad-requires c =
    walk-stands c.region_groups-quads.result c.args.cell.identity c.vacant_before-n.result
    (omega (
      arith,
      c.region_groups-quads.ensures.0,
      quads-some c.args.cell c.args.frame c.requires.0 c.requires.1 c.requires.2
          c.args.s c.args.t c.requires.3 c.requires.4,
    ))
    (omega (arith, c.region_groups-quads.ensures.1)) c.start.result c.start.ensures

pub returns : goal.returns
returns c =
    quad-found c.args.cell c.args.frame c.requires.0 c.requires.1 c.requires.2 c.args.s c.args.t c.requires.3
    c.requires.4 c.group_size.ensures c.control_symbols-symbols.ensures c.vacant_before-n.ensures.0
    c.region_groups-quads.ensures.0 _
    (walk-quad c.region_groups-quads.result c.args.cell.identity c.vacant_before-n.result
    (omega (
      arith,
      c.region_groups-quads.ensures.0,
      quads-some c.args.cell c.args.frame c.requires.0 c.requires.1 c.requires.2
          c.args.s c.args.t c.requires.3 c.requires.4,
    )) (omega (arith, c.region_groups-quads.ensures.1)) c.start.result
    c.start.ensures _ c.quad.ensures)

pub nonzero_rem-cell : goal.nonzero_rem-cell
nonzero_rem-cell c =
    omega (
      arith,
      c.region_groups-quads.ensures.0,
      quads-some c.args.cell c.args.frame c.requires.0 c.requires.1 c.requires.2
          c.args.s c.args.t c.requires.3 c.requires.4,
    )
