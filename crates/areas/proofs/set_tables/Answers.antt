-- The tables of an area name its places.
use Rattle.areas.proofs.Tables.{lists-in, rows_in, tables-made}
use Rattle.areas.proofs.set_tables.Goals as goal

pub span_lists-lists-requires : goal.span_lists-lists-requires
span_lists-lists-requires c = lists-in c.requires c.from-blocks.result c.from-blocks.ensures

pub set_rows-requires : goal.set_rows-requires
set_rows-requires c =
    rows_in c.requires c.from-blocks.result c.from-blocks.ensures c.span_lists-lists.ensures.0 c.span_lists-lists.ensures.1

pub returns : goal.returns
returns c =
    tables-made c.requires c.from-blocks.result c.from-blocks.ensures c.span_lists-lists.ensures.0 c.set_rows.ensures.0 c.set_rows.ensures.1
