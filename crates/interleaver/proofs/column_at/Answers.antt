-- Five bits, reversed, by the definition. Assumes nothing.
use mathlib.Core.Path.{refl}
use Rattle.interleaver.specs.Matrix.{reversed, column_at}
use Rattle.interleaver.proofs.Columns.{column-small}
use Rattle.interleaver.proofs.column_at.Goals as goal

pub returns : goal.returns
unfolding column_at reversed
returns c = (refl, column-small c.args.j)
