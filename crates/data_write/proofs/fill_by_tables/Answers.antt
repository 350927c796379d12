-- `data_write::fill_by_tables` meets its contract. Assumes nothing.
use Rattle.data_write.proofs.Areas.{runs-in, begins, area-filled}
use Rattle.data_write.proofs.fill_by_tables.Goals as goal

pub fill_runs-requires : goal.fill_runs-requires
fill_runs-requires c =
    rw c.from.ensures (runs-in c.requires c.set_tables.ensures c.begin-st.ensures)

pub end-requires : goal.end-requires
end-requires c =
    (c.fill_runs.ensures.stands c.args.r (begins c.from.result c.begin-st.ensures)).most

pub returns : goal.returns
returns c =
    area-filled c.requires c.begin-st.ensures (rw c.from.ensures at c.fill_runs.ensures) c.end.ensures
