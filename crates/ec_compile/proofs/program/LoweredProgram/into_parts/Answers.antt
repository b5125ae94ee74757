-- What the type keeps.
use Rattle.std.proofs.Common.{sym, subst}
use Rattle.ec_compile.proofs.Typing.{well_typed}
use Rattle.ec_compile.proofs.program.LoweredProgram.into_parts.Goals as goal
use Rattle.ec_compile.specs.Programs.{IsOfAccepted, IsWellTyped}

pub returns-clause-accepted : goal.returns-clause-accepted
returns-clause-accepted c = subst IsOfAccepted (sym c.into_parts.ensures.parts) c.self.invariant

pub returns-clause-well_typed : goal.returns-clause-well_typed
returns-clause-well_typed c =
    subst IsWellTyped (sym c.into_parts.ensures.parts) (well_typed c.self.inside.program c.self.invariant)
