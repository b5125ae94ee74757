-- What an accepted program is lowered to is well typed.
use Rattle.ec_accepted.proofs.Accepted.{is_fine}
use Rattle.ec_code.specs.declared.code.Parts.{Parts}
use Rattle.ec_compile.specs.Programs.{IsOfAccepted, IsWellTyped}

pub well_typed : (parts : Parts) → IsOfAccepted parts → IsWellTyped parts
well_typed parts h = (h.source, h.lowered, is_fine h.source h.program h.accepted parts h.lowered)
