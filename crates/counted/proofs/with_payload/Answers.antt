-- `counted::with_payload` meets its contract. Assumes nothing.
use mathlib.Core.Path.{◌∙◌}
use Rattle.counted.proofs.Ways.{wrong-length, spare-set, taken}
use Rattle.counted.proofs.with_payload.Goals as goal

pub returns-then-payload-payload_length : goal.returns-then-payload-payload_length
returns-then-payload-payload_length c =
    wrong-length c.args.plan.now c.args.p c.args.payload.now _ c.payload_length.ensures c.if-payload-payload_length.true

pub returns-then-not-spare_clear : goal.returns-then-not-spare_clear
returns-then-not-spare_clear c =
    spare-set c.args.plan.now c.args.p c.args.payload.now _ c.payload_length.ensures c.if-payload-payload_length.false _
    c.spare_clear.ensures c.if-not-spare_clear.true

pub returns : goal.returns
returns c =
    taken c.args.plan.now c.args.p c.args.payload.now _ c.payload_length.ensures c.if-payload-payload_length.false _
    c.spare_clear.ensures c.if-not-spare_clear.false _ c.kind_counts.ensures
