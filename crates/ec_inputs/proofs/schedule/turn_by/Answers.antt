use Rattle.ec_inputs.proofs.Forms.{turn_of_two, turn_of_many}
use Rattle.ec_inputs.proofs.schedule.turn_by.Goals as goal

pub returns-in_default-2 : goal.returns-in_default-2
returns-in_default-2 c = turn_of_two c.args.words.now c.in_default.len_at_least c.in_default.len_below

pub returns-in_default-4 : goal.returns-in_default-4
returns-in_default-4 c = turn_of_many c.args.words.now c.in_default.len_at_least
