-- A row down, or from a read that is kept the count goes up by one; after the last position the first read is sought. Assumes nothing.
use native.Mathlib.Omega.{arith}
use mathlib.Core.Path.{refl}
use borrow.Author.Tests.{lt-ltb}
use Rattle.interleaver.specs.Cursor.{next_of}
use Rattle.interleaver.proofs.Ways.{stands-fit, down_is, next-own, next-is, first-own, first-is}
use Rattle.interleaver.proofs.step.Goals as goal

pub overflow_add-c : goal.overflow_add-c
overflow_add-c c =
    omega (arith, stands-fit c.args.c c.requires)

pub overflow_add-c-2 : goal.overflow_add-c-2
overflow_add-c-2 c =
    omega (arith, stands-fit c.args.c c.requires)

pub overflow_add-result-then-c : goal.overflow_add-result-then-c
overflow_add-result-then-c c =
    omega (arith, stands-fit c.args.c c.requires)

pub returns-then-c : goal.returns-then-c
unfolding next_of
returns-then-c c =
    down_is c.args.c c.requires c.if-c.true _ (rw (lt-ltb _ _ c.if-c.true) refl)

pub seek-requires : goal.seek-requires
seek-requires c =
    first-own c.args.c c.requires c.column_at.result c.column_at.ensures.0 _ refl refl refl refl refl

pub returns-then-c-2 : goal.returns-then-c-2
returns-then-c-2 c =
    first-is c.args.c c.requires (omega arith) c.seek.result c.seek.ensures

pub pass-requires : goal.pass-requires
pass-requires c =
    stands-fit c.args.c c.requires

pub seek-requires-2 : goal.seek-requires-2
seek-requires-2 c =
    next-own c.args.c c.requires c.if-c-2.false c.pass.result c.pass.ensures

pub returns : goal.returns
returns c =
    next-is c.args.c c.requires c.if-c-2.false c.pass.result c.pass.ensures c.seek-2.result c.seek-2.ensures
