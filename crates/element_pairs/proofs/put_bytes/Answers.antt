-- Three bytes, two and one.
use Rattle.element_pairs.proofs.Puts.{three-bytes}
use Rattle.element_pairs.proofs.put_bytes.Goals as goal

pub returns : goal.returns
returns c = three-bytes c.requires c.put_two.ensures
