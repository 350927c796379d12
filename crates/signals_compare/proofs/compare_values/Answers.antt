-- `signals_compare::compare_values` meets its contract. The loop: the first m values are compared on each port, and the pair has given
-- their bits. Assumes nothing.
use Prim.Native.Nat.{ℕ, ◌*◌}
use mathlib.Core.Path.{◌≡◌, refl, ap, ◌∙◌}
use lib.ListN.{length}
use native.Mathlib.Omega.{arith}
use Rattle.signals.specs.Rows.{first_of, last_of, on_first}
use Rattle.signals.proofs.ValueByValue.{on_each_lem, each-few, each-less, values-first, values-step, values-last}
use Rattle.signals_compare.proofs.Differing.{differing, also-differing, each-weight, pair-weight, all_same, some-differ}
use Rattle.signals_compare.proofs.compare_values.Goals as goal

pub loop-m-init : goal.loop-m-init
loop-m-init g c = values-first (on_each_lem c.args.firsts (differing c.args.grid.now)) c.args.r c.args.n (first_of c.args.firsts)

pub compare_word-differ-requires : goal.compare_word-differ-requires
compare_word-differ-requires g c = (
  omega (arith, each-few c.requires),
  (c.at_once-count.ensures.1, each-less c.requires (omega (arith, c.at_once-count.ensures)) refl),
)

pub loop-m-preserved : goal.loop-m-preserved
loop-m-preserved g c =
    values-step (on_each_lem c.args.firsts (differing c.args.grid.now)) c.at_once-count.result c.word-word.result c.loop-m.invariant
    (omega (arith, c.at_once-count.ensures)) c.word-word.ensures (also-differing c.compare_word-differ.ensures) c.advance-pair.ensures

pub returns-then-differ-eq0 : goal.returns-then-differ-eq0
returns-then-differ-eq0 g c =
    let n = c.args.n in
    let first = first_of c.args.firsts in
    let l : length c.args.firsts ≡ g.row.PORTS = omega arith in
    all_same (values-last (on_each_lem c.args.firsts (differing c.args.grid.now)) c.loop-m.invariant (omega arith)).0 (3 * n * g.row.PORTS)
    (λ e. pair-weight c.args.r first (on_first first (last_of c.args.firsts) e)) (λ h. each-weight c.requires h ∙ ap (λ (k : ℕ). 3 * n * k) l) c.if-differ-eq0.true

pub returns-else-differ-eq0 : goal.returns-else-differ-eq0
returns-else-differ-eq0 g c =
    some-differ (values-last (on_each_lem c.args.firsts (differing c.args.grid.now)) c.loop-m.invariant (omega arith)).0 c.if-differ-eq0.false
