-- Each `exit` in the operations of an accepted program stands in a loop.
use Rattle.ec_core_laws.proofs.Exits.{each_exit_stands}
use Rattle.ec_core_laws.proofs.laws.each_exit_stands_in_a_loop.Goals as goal

pub returns : goal.returns
returns start table program is none = each_exit_stands table program is none
