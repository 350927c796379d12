-- A group that is taken changes nothing; another has the quad at the cursor.
use native.Mathlib.Omega.{arith}
use mathlib.Core.Path.{sym, ◌∙◌}
use Rattle.pdcch.proofs.Walk.{next-taken, next-free, quad-small}
use Rattle.pdcch.proofs.put_group.Goals as goal

pub returns-then-has : goal.returns-then-has
returns-then-has c =
    next-taken c.args.taken.now c.args.v c.args.c c.args.groups.now (rw c.from.ensures at (sym c.has.ensures ∙ c.if-has.true))

pub offset_bounds-groups-q : goal.offset_bounds-groups-q
offset_bounds-groups-q c =
    omega (arith, quad-small c.args.taken.now c.args.v c.args.c c.args.groups.now c.requires c.quad-q.ensures)

pub bounds-groups-q : goal.bounds-groups-q
bounds-groups-q c =
    omega (arith, quad-small c.args.taken.now c.args.v c.args.c c.args.groups.now c.requires c.quad-q.ensures, c.requires.size)

pub returns : goal.returns
returns c =
    next-free c.args.taken.now c.args.v c.args.c c.args.groups.now (rw c.from.ensures at (sym c.has.ensures ∙ c.if-has.false)) c.step.ensures
    c.quad-q.ensures
