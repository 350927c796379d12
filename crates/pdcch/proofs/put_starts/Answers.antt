-- Symbol by symbol. The loop's invariant: the list has the groups of the symbols so far.
use native.Mathlib.Omega.{arith}
use Prim.Native.Nat.{ℕ, ◌+◌, ◌*◌}
use mathlib.Core.Path.{◌≡◌, subst}
use Rattle.pdcch.specs.Walk.{StartsTo}
use Rattle.pdcch.proofs.Starts.{starts-room, starts-on, starts-all}
use Rattle.pdcch.proofs.put_starts.Goals as goal

pub loop-s-init : goal.loop-s-init
loop-s-init c =
    let e : c.args.k * c.args.symbols ≡ c.args.k * c.args.symbols + 0 = omega arith in
    subst (λ (x : ℕ). StartsTo c.args.cell c.args.symbols x c.args.n c.args.starts.now) e c.requires.3

pub put_start-count-requires : goal.put_start-count-requires
put_start-count-requires c = (
  c.requires.0,
  c.requires.1,
  omega (arith, c.requires.2),
  starts-room c.args.cell c.args.symbols c.requires.2 c.args.k c.loop-s.s c.loop-s.count c.loop-s.starts c.requires.1 c.loop-s-test.true c.loop-s.invariant,
  c.loop-s.invariant.size,
)

pub loop-s-preserved : goal.loop-s-preserved
loop-s-preserved c =
    starts-on c.args.cell c.args.symbols c.requires.2 c.args.k c.loop-s.s c.loop-s.count c.loop-s.starts c.requires.1 c.loop-s-test.true c.loop-s.invariant
    c.put_start-count.ensures.0 c.put_start-count.ensures.1

pub returns : goal.returns
returns c = starts-all c.args.cell c.args.symbols c.args.k _ _ _ c.loop-s.invariant (omega arith)
