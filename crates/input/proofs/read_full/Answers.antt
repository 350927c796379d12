-- What was read before, and then what this turn read, is what the reader no longer has. Assumes nothing.
use Rattle.std.proofs.Common.{take, drop, ◌++◌, sym, ap, subst, ◌∙◌}
use lib.Seq.{take-add}
use Rattle.std.specs.Io.KnownBytes.{Consumes}
use Rattle.std.proofs.KnownBytes.{Consumes-trans}
use Rattle.input.proofs.read_full.Goals as goal

pub loop-done-preserved : goal.loop-done-preserved
loop-done-preserved g c =
    let read = c.in_ok-n.ensures in
    let d = c.loop-done.done in
    let n = c.in_ok-n.n in
    let after = c.read_at.new.buffer in
    let whole = take-add d n after ∙ ap (λ l. l ++ take n (drop d after)) read.front in
    (read.within, subst (Consumes _ _) (sym whole) (Consumes-trans _ _ _ _ _ c.loop-done.invariant.1 read.bytes))
