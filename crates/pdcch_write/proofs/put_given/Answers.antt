-- `pdcch_write::put_given` meets its contract. Assumes nothing.
use mathlib.Core.Path.{◌∙◌}
use Rattle.pdcch_write.proofs.Elements.{nine-long, given-put, given-passed}
use Rattle.pdcch_write.proofs.put_given.Goals as goal

pub returns-in_default : goal.returns-in_default
returns-in_default c = given-passed c.in_default.ensures c.skip.ensures

pub put_element-requires : goal.put_element-requires
put_element-requires c =
    let some = c.in-Some.ensures in
    (c.requires.0, nine-long c.args.bits.now some.0 (c.from-at.ensures ∙ some.1) c.requires.1)

pub returns : goal.returns
returns c =
    let some = c.in-Some.ensures in
    given-put c.args.bits.now some.0 (c.from-at.ensures ∙ some.1) c.requires.1 c.put_element.ensures
