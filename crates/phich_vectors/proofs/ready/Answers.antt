-- `phich_vectors::ready` meets its contract: k HIs are known. Assumes nothing.
use mathlib.Core.Path.{subst}
use mathlib.Core.Bool.{Bool, true, false, cond}
use native.Mathlib.Omega.{arith}
use lib.Dec.{T}
use Rattle.phich_vectors.proofs.Seen.{start, next, finish}
use Rattle.phich_vectors.proofs.ready.Goals as goal

pub loop-k-init : goal.loop-k-init
loop-k-init c = start c.args.l c.args.plan.now c.args.count

pub known-requires : goal.known-requires
known-requires c = c.requires

pub returns-then-not-known : goal.returns-then-not-known
returns-then-not-known c = λ e. absurd (subst (λ (b : Bool). T (cond b false true)) e tt)

pub loop-k-preserved : goal.loop-k-preserved
loop-k-preserved c = next c.loop-k.invariant c.loop-k-test.true c.hi_at.ensures (c.known.ensures c.if-not-known.false) c.next_at-from.ensures

pub returns : goal.returns
returns c = λ e. finish c.loop-k.invariant c.loop-k-test.false
