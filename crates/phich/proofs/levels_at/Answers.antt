-- `phich::levels_at` meets its contract: two bytes taken as levels. Assumes nothing.
use Rattle.std.proofs.Common.{◌∙◌, to_z-of_z, w8}
use Rattle.base.proofs.Pairs.{pair-of}
use Rattle.phich.proofs.levels_at.Goals as goal

pub returns : goal.returns
returns c = pair-of (to_z-of_z {w = w8} {z = c.signed.result} (record { sfits = c.signed.type_inv }) ∙ c.signed.ensures)
    (to_z-of_z {w = w8} {z = c.signed-2.result} (record { sfits = c.signed-2.type_inv }) ∙ c.signed-2.ensures)
