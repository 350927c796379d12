-- `modulation::unit` meets its contract. Assumes nothing.
use mathlib.Core.Path.{sym, ap}
use borrow.Author.Tests.{ne_eqb}
use Rattle.modulation.specs.Symbols.{unit_in, unit_of}
use Rattle.modulation.proofs.unit.Goals as goal

pub returns-in-2 : goal.returns-in-2
unfolding unit_of unit_in
returns-in-2 c = sym (ap unit_of c.in-2.is)

pub returns-in-4 : goal.returns-in-4
unfolding unit_of unit_in
returns-in-4 c = sym (ap unit_of c.in-4.is)

pub returns-in-6 : goal.returns-in-6
unfolding unit_of unit_in
returns-in-6 c = sym (ap unit_of c.in-6.is)

pub returns-in-8 : goal.returns-in-8
unfolding unit_of unit_in
returns-in-8 c = sym (ap unit_of c.in-8.is)

pub returns-in_default : goal.returns-in_default
unfolding unit_of unit_in
returns-in_default c = let r = c.in_default.in_default-own.rest in
    simp (ne_eqb _ _ r.0.0.0.1, ne_eqb _ _ r.0.0.1, ne_eqb _ _ r.0.1, ne_eqb _ _ r.1)
