use Rattle.ec_world.proofs.Classes.{true_there, true_past}
use Rattle.ec_world.proofs.class.ClassRec.conforms_to.Goals as goal

pub returns-in-Some : goal.returns-in-Some
returns-in-Some c = true_there c.args.self.now.conforms c.args.number _ c.in-Some.ensures.some

pub returns-in-None : goal.returns-in-None
returns-in-None c = true_past c.args.self.now.conforms c.args.number c.in-None.ensures.none
