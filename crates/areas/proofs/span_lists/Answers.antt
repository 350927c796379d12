-- Three spans: whole, and on both sides of the centre. Assumes that the half blocks are in the grid.
use native.Mathlib.Omega.{arith}
use mathlib.Core.Path.{refl}
use Rattle.walk.proofs.Spans.{put-few}
use Rattle.areas.proofs.Tables.{smaller-min, greater-max, lists-made}
use Rattle.areas.proofs.span_lists.Goals as goal

pub put_span-left-requires : goal.put_span-left-requires
put_span-left-requires c =
    (omega (arith, c.requires, put-few c.put_span-whole.ensures.0), omega (arith, c.requires, c.min.ensures))

pub put_span-end-requires : goal.put_span-end-requires
put_span-end-requires c = (
  omega (arith, c.requires, put-few c.put_span-whole.ensures.0, put-few c.put_span-left.ensures.0),
  omega (arith, c.requires),
)

pub returns : goal.returns
returns c = (
  lists-made c.args.blocks c.args.from c.args.to c.requires.1 (smaller-min c.min.ensures) (greater-max c.max.ensures)
      c.requires.3 c.put_span-whole.ensures.0 c.put_span-left.ensures.0 c.put_span-end.ensures.0,
  refl,
)
