-- `sync::root` meets its contract: its three arms. Assumes nothing.
use Prim.Native.Nat.{◌%◌}
use mathlib.Core.Path.{◌≡◌, sym, ap}
use native.Mathlib.Omega.{arith}
use Rattle.sync.specs.Pss.{pss_root}
use Rattle.sync.proofs.root.Goals as goal

pub returns-in-0 : goal.returns-in-0
unfolding pss_root
returns-in-0 c = sym (ap pss_root c.in-0.is)

pub returns-in-1 : goal.returns-in-1
unfolding pss_root
returns-in-1 c = sym (ap pss_root c.in-1.is)

pub returns-in_default : goal.returns-in_default
unfolding pss_root
returns-in_default c = let e : c.args.cell % 3 ≡ 2 = omega arith in sym (ap pss_root e)
