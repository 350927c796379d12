-- `mapper::sample_at` meets its contract: the three numbers are those of the bytes. Assumes nothing.
use Rattle.mapper.proofs.Samples.{sample-numbers}
use Rattle.mapper.proofs.sample_at.Goals as goal

pub returns : goal.returns
returns c = let s = sample-numbers _ _ _ _ c.sample_at.ensures in (s 0, s 1, s 2, c.sample_at.ensures)
