-- A row is put.
use mathlib.Core.Path.{refl}
use native.Mathlib.Omega.{arith}
use Rattle.walk.proofs.Spans.{row_put}
use Rattle.walk.proofs.Tables.put_row.Goals as goal

pub returns : goal.returns
returns c = (row_put c.args.s c.args.mask c.args.first c.args.end c.args.self.now.rows (omega arith) c.requires.0, refl)
