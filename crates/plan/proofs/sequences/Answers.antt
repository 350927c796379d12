-- `plan::sequences` meets its contract: four with the extended prefix, else eight. Assumes nothing.
use Rattle.plan.proofs.FieldLaws.{sequences-extended, sequences-normal}
use Rattle.plan.proofs.sequences.Goals as goal

pub returns-then-c-eq1 : goal.returns-then-c-eq1
returns-then-c-eq1 c = sequences-extended c.args.c c.if-c-eq1.true

pub returns-else-c-eq1 : goal.returns-else-c-eq1
returns-else-c-eq1 c = sequences-normal c.args.c c.if-c-eq1.false
