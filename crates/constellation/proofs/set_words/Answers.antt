-- The words of q bits, two bits a step. The invariant: the words of so many pairs of bits have their entries.
use Rattle.constellation.proofs.Quarters.{entries-start}
use Prim.Native.Nat.{ℕ, ◌^◌, ◌*◌, ◌+◌}
use mathlib.Core.Path.{◌≡◌, subst}
use native.Mathlib.Omega.{arith}
use Rattle.constellation.specs.Entries.{Entries}
use Rattle.constellation.proofs.set_words.Goals as goal

pub loop-pairs-init : goal.loop-pairs-init
loop-pairs-init c = (entries-start c.args.t.now c.requires.0 c.from.ensures, omega arith)

pub loop-pairs-preserved : goal.loop-pairs-preserved
loop-pairs-preserved c =
    let e : 2 * c.loop-pairs.pairs + 2 ≡ 2 * (c.loop-pairs.pairs + 1) = omega arith in
    (subst (λ (k : ℕ). Entries k c.args.byte (2 ^ k) c.widen_all.new.t) e c.widen_all.ensures, omega arith)

pub returns : goal.returns
returns c =
    subst (λ (k : ℕ). Entries k c.args.byte (2 ^ k) c.loop-pairs.t) (omega (arith, c.requires)) c.loop-pairs.invariant.0
