-- Owners with what they own, as items of a list.
use Rattle.ec_world.specs.declared.key.Key.{Key}
use Rattle.ec_things.specs.Things.{Thing}

-- an owner, and the object or activation that it is
pub record Item : Type 0 where
  pub key : Key
  pub thing : Thing
