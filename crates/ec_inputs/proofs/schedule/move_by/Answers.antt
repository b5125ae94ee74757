use Rattle.ec_inputs.proofs.Forms.{move_of_few, move_of_many}
use Rattle.ec_inputs.proofs.schedule.move_by.Goals as goal

pub returns-in_default : goal.returns-in_default
returns-in_default c = move_of_few c.args.words.now c.in_default.len_below

pub returns-in_default-3 : goal.returns-in_default-3
returns-in_default-3 c = move_of_many c.args.words.now c.in_default.len_at_least
