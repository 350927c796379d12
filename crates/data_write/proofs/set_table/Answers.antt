-- `data_write::set_table` meets its contract. Assumes nothing.
use Rattle.data_write.proofs.Areas.{table-made}
use Rattle.data_write.proofs.set_table.Goals as goal

pub returns : goal.returns
returns c = table-made c.unit.ensures c.unit_byte_on.ensures c.set_elements.ensures
