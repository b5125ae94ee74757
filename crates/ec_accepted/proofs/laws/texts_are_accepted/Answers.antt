-- In a text the names of types stand one behind the other.
use Rattle.ec_types.specs.Declarations.{declarations_of}
use Rattle.ec_types.specs.Types.{places_of}
use Rattle.ec_places.proofs.Programs.{declared_among}
use Rattle.ec_places.proofs.RisingTokens.{all_behind, they_rise}
use Rattle.ec_accepted.proofs.laws.texts_are_accepted.Goals as goal

pub returns : goal.returns
returns start s tokens program has tree core = record {
  core = core;
  rising = they_rise 0 (places_of (declarations_of program).types) (all_behind has.all (declared_among tree));
}
