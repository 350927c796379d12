-- Unit by unit around the ring. The loop's invariant: the groups of the units so far are marked, and n is the next one's number.
use native.Mathlib.Omega.{arith}
use mathlib.Core.Path.{sym, ◌∙◌}
use Rattle.plan.proofs.Counts.{blocks-least, blocks-most}
use Rattle.layout.proofs.GroupShape.{quad-low, quad-product}
use Rattle.pdcch.proofs.Taken.{RingOf, ring-few, ring-next, ring-start, ring-below, ring-here, ring-spot, ring-small, rows-small, marked-none, marked_more, marked-as}
use Rattle.pdcch.proofs.mark_quads.Goals as goal
use Rattle.pdcch.proofs.mark_quads.Goals.{After-start_number}

-- what is worked out before the loop
ring :
    (c : After-start_number) →
    RingOf c.args.cell c.args.i c.quad_symbol-s.result c.of-format.result.first c.of-format.result.second
    c.of-format.result.third c.of-format.result.fourth c.from.result c.group_size-pairs.result
    c.groups_left-h.result c.start_number.result
ring c =
    record {
      cell = c.requires.0;
      symbol = c.quad_symbol-s.ensures;
      first = c.of-format.ensures.0;
      second = c.of-format.ensures.1;
      third = c.of-format.ensures.2;
      fourth = c.of-format.ensures.3;
      width = c.from.ensures;
      size = c.group_size-pairs.ensures;
      left = c.groups_left-h.ensures.0;
      start = c.start_number.ensures.0;
    }

pub overflow_mul-first : goal.overflow_mul-first
overflow_mul-first c =
    omega (arith, c.from.ensures, blocks-most c.args.cell c.requires.0)

pub overflow_mul-first-2 : goal.overflow_mul-first-2
overflow_mul-first-2 c =
    omega (arith, rows-small c.args.cell c.requires.0 c.args.i c.requires.1 c.quad_symbol-s.ensures c.from.ensures)

pub group_size-pairs-requires : goal.group_size-pairs-requires
group_size-pairs-requires c =
    omega (arith, c.quad_symbol-s.ensures, quad-low c.args.cell c.args.i, c.requires.1)

pub groups_left-h-requires : goal.groups_left-h-requires
groups_left-h-requires c =
    (blocks-least c.args.cell c.requires.0, omega (arith, c.quad_symbol-s.ensures, quad-low c.args.cell c.args.i, c.requires.1))

pub start_number-requires : goal.start_number-requires
start_number-requires c =
    (blocks-least c.args.cell c.requires.0, omega (arith, c.quad_symbol-s.ensures, quad-low c.args.cell c.args.i, c.requires.1))

pub overflow_mul-n : goal.overflow_mul-n
overflow_mul-n c =
    omega (arith, quad-product c.args.i c.groups_left-h.result c.requires.1 c.groups_left-h.ensures.2)

pub overflow_add-n : goal.overflow_add-n
overflow_add-n c =
    omega (arith, quad-product c.args.i c.groups_left-h.result c.requires.1 c.groups_left-h.ensures.2, c.start_number.ensures.1)

pub loop-m-init : goal.loop-m-init
loop-m-init c =
    (marked-none c.args.taken.now c.requires.2, ring-start (ring (goal.at.loop-m-init c).After-start_number), omega arith)

pub left-requires : goal.left-requires
left-requires c =
    omega (arith, ring-below (ring (goal.at.left-requires c).After-start_number) c.loop-m.m c.loop-m.invariant.1, ring-few (ring (goal.at.left-requires c).After-start_number))

pub overflow_mul-pairs : goal.overflow_mul-pairs
overflow_mul-pairs c =
    omega (
      arith,
      ring-here (ring (goal.at.overflow_mul-pairs c).After-start_number) c.loop-m.m c.loop-m.invariant.1 c.left.ensures,
      ring-small
          (ring (goal.at.overflow_mul-pairs c).After-start_number) c.requires.1 c.loop-m.m,
    )

pub overflow_add-first : goal.overflow_add-first
overflow_add-first c =
    omega (
      arith,
      ring-here (ring (goal.at.overflow_add-first c).After-start_number) c.loop-m.m c.loop-m.invariant.1 c.left.ensures,
      ring-small
          (ring (goal.at.overflow_add-first c).After-start_number) c.requires.1 c.loop-m.m,
    )

pub add-requires : goal.add-requires
add-requires c =
    omega (
      arith,
      ring-here (ring (goal.at.add-requires c).After-start_number) c.loop-m.m c.loop-m.invariant.1 c.left.ensures,
      ring-small (ring (goal.at.add-requires c).After-start_number) c.requires.1
          c.loop-m.m,
      c.loop-m.invariant.0.size,
    )

pub around-n-requires : goal.around-n-requires
around-n-requires c =
    ring-below (ring (goal.at.around-n-requires c).After-start_number) c.loop-m.m c.loop-m.invariant.1

pub loop-m-preserved : goal.loop-m-preserved
loop-m-preserved c = (
  marked_more c.args.taken.now c.loop-m.taken _ c.loop-m.invariant.0
      (omega (
        arith,
        ring-here (ring (goal.at.loop-m-preserved c).After-start_number) c.loop-m.m c.loop-m.invariant.1 c.left.ensures,
        ring-small (ring (goal.at.loop-m-preserved c).After-start_number)
            c.requires.1 c.loop-m.m,
      ))
      (ring-here (ring (goal.at.loop-m-preserved c).After-start_number) c.loop-m.m c.loop-m.invariant.1 c.left.ensures) c.add.ensures,
  ring-next _ c.loop-m.m
      _ c.loop-m.invariant.1 c.around-n.ensures,
  omega (arith, c.loop-m-test.true),
)

pub shape_of-taken : goal.shape_of-taken
shape_of-taken c =
    c.loop-m.invariant.0.size ∙ sym c.requires.2

pub returns : goal.returns
returns c =
    marked-as c.args.taken.now c.loop-m.taken c.loop-m.invariant.0
    (omega (arith, c.loop-m.invariant.2, c.loop-m-test.false, c.units-units.ensures)) (ring-spot (ring (goal.at.returns c).After-start_number))
