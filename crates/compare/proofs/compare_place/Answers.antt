-- `compare::compare_place` meets its contract: the own port, and with more ports the other one. Assumes nothing.
use native.Mathlib.Omega.{arith}
use mathlib.Core.Path.{◌∙◌}
use Rattle.grid.proofs.Sending.{own-fits, other_fits}
use Rattle.compare.proofs.Comparing.{few}
use Rattle.compare.proofs.Sending.{own-looked, other-looked, one-look, two-looks}
use Rattle.compare.proofs.compare_place.Goals as goal

pub overflow_mul-own : goal.overflow_mul-own
overflow_mul-own c =
    omega (arith, (own-fits c.requires.0 c.args.pair _ c.args.t (c.from.ensures ∙ c.own_port.ensures) c.requires.1).0)

pub overflow_add-own : goal.overflow_add-own
overflow_add-own c =
    omega (arith, (own-fits c.requires.0 c.args.pair _ c.args.t (c.from.ensures ∙ c.own_port.ensures) c.requires.1).1)

pub compare_at-seen-requires : goal.compare_at-seen-requires
compare_at-seen-requires c =
    (own-fits c.requires.0 c.args.pair _ c.args.t (c.from.ensures ∙ c.own_port.ensures) c.requires.1).2

pub returns-then-ports-eq1 : goal.returns-then-ports-eq1
returns-then-ports-eq1 c =
    one-look c.requires.0 c.args.pair c.args.unit c.args.odd c.args.t c.args.d c.args.e c.requires.1 c.unit_byte_on-byte.ensures c.if-ports-eq1.true
    c.element_of.ensures (own-looked c.requires.0 c.args.pair c.args.t c.requires.1 (c.from.ensures ∙ c.own_port.ensures) c.compare_at-seen.ensures)

pub overflow_mul-other : goal.overflow_mul-other
overflow_mul-other c =
    omega (arith, (other_fits c.requires.0 c.args.pair _ c.args.t (c.from-2.ensures ∙ c.other_port.ensures) c.requires.1).0)

pub overflow_add-other : goal.overflow_add-other
overflow_add-other c =
    omega (arith, (other_fits c.requires.0 c.args.pair _ c.args.t (c.from-2.ensures ∙ c.other_port.ensures) c.requires.1).1)

pub compare_at-requires : goal.compare_at-requires
compare_at-requires c =
    (other_fits c.requires.0 c.args.pair _ c.args.t (c.from-2.ensures ∙ c.other_port.ensures) c.requires.1).2

pub together-requires : goal.together-requires
together-requires c = (
  few c.requires.0 (own-looked c.requires.0 c.args.pair c.args.t c.requires.1 (c.from.ensures ∙ c.own_port.ensures) c.compare_at-seen.ensures),
  few c.requires.0 (other-looked c.requires.0 c.args.pair c.args.t c.requires.1 (c.from-2.ensures ∙ c.other_port.ensures) c.compare_at.ensures),
)

pub returns : goal.returns
returns c =
    two-looks c.requires.0 c.args.pair c.args.unit c.args.odd c.args.t c.args.d c.args.e c.requires.1 c.unit_byte_on-byte.ensures c.if-ports-eq1.false
    c.partner.ensures c.element_of.ensures c.element_of-2.ensures
    (own-looked c.requires.0 c.args.pair c.args.t c.requires.1 (c.from.ensures ∙ c.own_port.ensures) c.compare_at-seen.ensures)
    (other-looked c.requires.0 c.args.pair c.args.t c.requires.1 (c.from-2.ensures ∙ c.other_port.ensures) c.compare_at.ensures) c.together.ensures
