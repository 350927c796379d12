-- `data_read::read_area` meets its contract. Assumes nothing.
use Rattle.data_read.proofs.Sections.{runs-in, section-read}
use Rattle.data_read.proofs.read_area.Goals as goal

pub read_runs-requires : goal.read_runs-requires
read_runs-requires c =
    rw c.from.ensures (runs-in c.requires.0 c.requires.1 c.begin-st.ensures c.set_tables.ensures)

pub returns : goal.returns
returns c =
    section-read c.requires.0 c.requires.1 c.begin-st.ensures (rw c.from.ensures at c.read_runs.ensures) c.flush.ensures
