-- `gold::widen` meets its contract: five values more than the windows have. Assumes nothing.
use mathlib.Core.Path.{refl}
use Rattle.gold.proofs.Values64.{widen-is}
use Rattle.gold.proofs.widen.Goals as goal

pub returns : goal.returns
returns c =
    widen-is c.args.r _ _ _ _ _ c.fed1.ensures c.windowed-a.ensures refl c.fed2.ensures c.windowed-b.ensures refl
