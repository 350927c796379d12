-- `data_read::two_symbols` meets its contract. Assumes nothing.
use native.Mathlib.Omega.{arith}
use mathlib.Core.Path.{refl}
use Rattle.element_pairs.specs.Numbers.{upper}
use Rattle.data_read.proofs.Words.{word-few, joined}
use Rattle.data_read.proofs.two_symbols.Goals as goal

pub overflow_add-result : goal.overflow_add-result
overflow_add-result c =
    let l = joined (omega (arith, c.requires.order)) refl c.symbol_of.ensures c.symbol_of-2.ensures
    (word-few c.requires c.args.v) (word-few c.requires (upper c.args.v)) in
    record { fits = l.2 }

pub returns : goal.returns
returns c =
    let l = joined (omega (arith, c.requires.order)) refl c.symbol_of.ensures c.symbol_of-2.ensures
    (word-few c.requires c.args.v) (word-few c.requires (upper c.args.v)) in
    (l.0, l.1)
