-- `plan::size_of` meets its contract: the table of sizes, one byte after the other. Assumes nothing.
use native.Mathlib.Omega.{arith}
use Rattle.plan.proofs.Reading.{size-cell, size-cellx, size-frame, size-hi, size-user, size-other}
use Rattle.plan.proofs.size_of.Goals as goal

pub returns-in-16 : goal.returns-in-16
returns-in-16 c = size-cell c.args.b c.in-16.is

pub returns-in-18 : goal.returns-in-18
returns-in-18 c = size-cellx c.args.b c.in-18.is

pub returns-in-17 : goal.returns-in-17
returns-in-17 c = size-frame c.args.b c.in-17.is

pub returns-in-32 : goal.returns-in-32
returns-in-32 c = size-hi c.args.b c.in-32.is

pub returns-in-48 : goal.returns-in-48
returns-in-48 c = size-user c.args.b c.in-48.is

pub returns-in_default : goal.returns-in_default
returns-in_default c = size-other c.args.b (omega arith) (omega arith) (omega arith) (omega arith) (omega arith)
