-- `channel_write::write_mark` meets its contract: a case for each mark. Assumes nothing.
use Rattle.channel_write.proofs.Filling.{mark-put}
use Rattle.channel_write.proofs.write_mark.Goals as goal

pub returns-in-Primary : goal.returns-in-Primary
returns-in-Primary c = mark-put c.args.p c.in-Primary.is c.fill_pss.ensures

pub returns-in-Secondary : goal.returns-in-Secondary
returns-in-Secondary c =
    mark-put c.args.p c.in-Secondary.is c.fill_sss.ensures
