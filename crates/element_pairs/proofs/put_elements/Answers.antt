-- Two elements that are not side by side: three bytes and three.
use Rattle.element_pairs.proofs.Puts.{two-apart}
use Rattle.element_pairs.proofs.put_elements.Goals as goal

pub returns : goal.returns
returns g c = two-apart c.requires.0 c.put_bytes.ensures c.put_bytes-2.ensures
