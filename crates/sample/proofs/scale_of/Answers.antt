-- `sample::scale_of` meets its contract, for a table of any length. Assumes nothing.
use mathlib.Core.Path.{◌∙◌}
use borrow.Author.Rules.{rules}
use borrow.Author.Tests.{tests}
use lib.Dec.{eqb}
use Rattle.std.proofs.lemmas.Iterator.{YieldsList-from_slice}
use Rattle.std.proofs.lemmas.Iterator.Search.{find_from_yields_List}
use Rattle.sample.specs.declared.UnitRow.{UnitRow}
use Rattle.sample.specs.Units.{unit_rows, scale_of}
use Rattle.sample.proofs.scale_of.Goals as goal

pub returns : goal.returns
unfolding scale_of
returns c =
    c.copied.ensures
    ∙ find_from_yields_List (λ (r : UnitRow). eqb r.byte c.args.byte) _ _ _ c.find.ensures.ran (YieldsList-from_slice unit_rows cc) (λ x b q k. search (rules, tests))
