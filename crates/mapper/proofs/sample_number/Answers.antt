-- `mapper::sample_number` meets its contract: by the cases of the sample; an f32 of an element is no NaN. Assumes nothing.
use Rattle.mapper.proofs.Numbers.{plus-is, plus-back, minus-back}
use Rattle.mapper.proofs.Samples.{is-refused, is-silence, is-phase, is-pair, first-no-nan, second-no-nan}
use Rattle.mapper.proofs.sample_number.Goals as goal

pub bits-requires : goal.bits-requires
bits-requires c = let a = c.args in
    let s = c.in-Some-At in
    first-no-nan a.byte a.i a.j _ c.sample_at.ensures _ s.is _ s.field-0-is

pub bits-requires-in-Some-At : goal.bits-requires-in-Some-At
bits-requires-in-Some-At c = let a = c.args in
    let s = c.in-Some-At in
    second-no-nan a.byte a.i a.j _ c.sample_at.ensures _ s.is _ s.field-0-is

pub returns-in-Some-Silence : goal.returns-in-Some-Silence
returns-in-Some-Silence c = let a = c.args in
    let s = c.in-Some-Silence in
    plus-is 0 _ (is-silence a.byte a.i a.j _ c.sample_at.ensures _ s.is a.n s.field-0-is)

pub returns-in-Some-Phase : goal.returns-in-Some-Phase
returns-in-Some-Phase c = let a = c.args in
    let s = c.in-Some-Phase in
    plus-back _ _ c.plus.result c.plus.type_inv c.plus.ensures
    (is-phase a.byte a.i a.j _ c.sample_at.ensures _ s.is a.n _ _ s.field-0-is c.nth.ensures)

pub returns-in-Some-At : goal.returns-in-Some-At
returns-in-Some-At c = let a = c.args in
    let s = c.in-Some-At in
    plus-back _ _ c.plus-in-Some-At.result c.plus-in-Some-At.type_inv c.plus-in-Some-At.ensures
    (is-pair a.byte a.i a.j _ c.sample_at.ensures _ s.is _ s.field-0-is a.n _ _ _ c.bits.ensures c.bits-in-Some-At.ensures c.nth-in-Some-At.ensures)

pub returns-in-None : goal.returns-in-None
returns-in-None c = let a = c.args in
    minus-back _ _ c.minus.result c.minus.type_inv c.minus.ensures (is-refused a.byte a.i a.j _ c.sample_at.ensures a.n c.in-None.is)
