-- The names of the types that a program declares stand at rising places.
use Rattle.ec_types.specs.Declarations.{declarations_of}
use Rattle.ec_types.specs.Types.{places_of}
use Rattle.ec_places.proofs.Programs.{declared_among}
use Rattle.ec_places.proofs.RisingTokens.{all_behind, they_rise}
use Rattle.ec_places.proofs.names_rise.Goals as goal

pub returns : goal.returns
returns start text tokens program has tree =
    they_rise 0 (places_of (declarations_of program).types) (all_behind has.all (declared_among tree))
