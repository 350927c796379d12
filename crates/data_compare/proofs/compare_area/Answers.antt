-- What its runs tell, with the weight of all its places.
use Rattle.data_compare.proofs.Whole.{count-few, area_same, area-differs}
use Rattle.data_compare.proofs.compare_area.Goals as goal

pub returns-in_err-n : goal.returns-in_err-n
returns-in_err-n c = rw c.from_residual.ensures (area-differs c.requires c.unit_byte_on.ensures c.of-f.ensures c.in_err-n.ensures)

pub weight_of-requires : goal.weight_of-requires
weight_of-requires c = count-few c.requires c.unit_byte_on.ensures c.of-f.ensures c.in_ok-n.ensures

pub returns : goal.returns
returns c = area_same c.requires c.unit_byte_on.ensures c.of-f.ensures c.in_ok-n.ensures c.weight_of.result c.weight_of.ensures
