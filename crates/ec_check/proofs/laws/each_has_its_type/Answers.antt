-- Each expression of an accepted program has its type.
use Rattle.std.proofs.Common.{◌≡◌, true, is_some}
use Rattle.ec_check.proofs.Every.{all_of, every_weaker}
use Rattle.ec_check.proofs.KnownTypes.{HasType, is_there}
use Rattle.ec_check.proofs.SoundPrograms.{types_are_known}
use Rattle.ec_check.proofs.laws.each_has_its_type.Goals as goal
use Rattle.ec_check.specs.Program.{types_of_program}

pub returns : goal.returns
returns start table program is none =
    all_of (λ of. is_some of ≡ true) (types_of_program table program)
    (every_weaker HasType (λ of. is_some of ≡ true) is_there (types_of_program table program)
    (types_are_known table program is none))
