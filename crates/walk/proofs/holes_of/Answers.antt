-- The holes of each form on one port, by a computed test of its six bits.
use native.Mathlib.Omega.{arith}
use Rattle.base.specs.Counts.{cnt, nth}
use Rattle.walk.specs.Runs.{bit_of, open_count}
use Rattle.walk.proofs.Forms.{no-hole, holes-two, holes-one, single-last}
use Rattle.walk.proofs.holes_of.Goals as goal

pub returns-in-63 : goal.returns-in-63
returns-in-63 c = no-hole c.in-63.is

pub returns-in-27 : goal.returns-in-27
unfolding open_count nth cnt bit_of
returns-in-27 c = holes-two 27 2 (omega arith) tt c.in-27.is c.two_holes.ensures

pub returns-in-54 : goal.returns-in-54
unfolding open_count nth cnt bit_of
returns-in-54 c = holes-two 54 0 (omega arith) tt c.in-54.is c.two_holes-in-54.ensures

pub returns-in-45 : goal.returns-in-45
unfolding open_count nth cnt bit_of
returns-in-45 c = holes-two 45 1 (omega arith) tt c.in-45.is c.two_holes-in-45.ensures

pub returns-in-62 : goal.returns-in-62
unfolding open_count nth cnt bit_of
returns-in-62 c = holes-one 62 0 (omega arith) tt c.in-62.is c.one_hole.ensures

pub returns-in-61 : goal.returns-in-61
unfolding open_count nth cnt bit_of
returns-in-61 c = holes-one 61 1 (omega arith) tt c.in-61.is c.one_hole-in-61.ensures

pub returns-in-59 : goal.returns-in-59
unfolding open_count nth cnt bit_of
returns-in-59 c = holes-one 59 2 (omega arith) tt c.in-59.is c.one_hole-in-59.ensures

pub returns-in-55 : goal.returns-in-55
unfolding open_count nth cnt bit_of
returns-in-55 c = holes-one 55 3 (omega arith) tt c.in-55.is c.one_hole-in-55.ensures

pub returns-in-47 : goal.returns-in-47
unfolding open_count nth cnt bit_of
returns-in-47 c = holes-one 47 4 (omega arith) tt c.in-47.is c.one_hole-in-47.ensures

pub returns-in_default : goal.returns-in_default
unfolding open_count nth cnt bit_of
returns-in_default c =
    holes-one 31 5 (omega arith) tt
    (single-last c.requires (λ e. omega arith) (λ e. omega arith) (λ e. omega arith) (λ e. omega arith) (λ e. omega arith) (λ e. omega arith)
    (λ e. omega arith) (λ e. omega arith) (λ e. omega arith))
    c.one_hole-in_default.ensures
