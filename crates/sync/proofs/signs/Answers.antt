-- `sync::signs` meets its contract. Assumes nothing.
use Rattle.sync.proofs.Signals.{signs-are}
use Rattle.sync.proofs.signs.Goals as goal

pub returns : goal.returns
returns c =
    let x = c.sequences-x in
    signs-are x.result c.args.a c.args.b c.args.n2 x.ensures c.requires
    c.around.ensures
    c.around-2.ensures
    c.around-3.ensures
    c.around-4.ensures
    c.around-5.ensures
