-- What the type keeps.
use Rattle.ec_compile.proofs.Typing.{well_typed}
use Rattle.ec_compile.proofs.program.LoweredProgram.parts.Goals as goal

pub returns-clause-accepted : goal.returns-clause-accepted
returns-clause-accepted c = rw c.self.view_is at c.self.invariant

pub returns-clause-well_typed : goal.returns-clause-well_typed
returns-clause-well_typed c = rw c.self.view_is at (well_typed c.self.inside.program c.self.invariant)
