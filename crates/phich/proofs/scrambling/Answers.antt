-- `phich::scrambling` meets its contract. Assumes nothing.
use Rattle.std.proofs.Common.{refl}
use Rattle.base.specs.Digits.{dig}
use Rattle.phich.specs.Spreading.{word_bit}
use Rattle.phich.proofs.scrambling.Goals as goal

pub returns : goal.returns
unfolding word_bit dig
returns c = refl
