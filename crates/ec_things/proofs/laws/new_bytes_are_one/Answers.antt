-- Each text is counted once.
use Rattle.ec_things.proofs.Sums.{new_bytes_once}
use Rattle.ec_world.specs.Group.{Has}
use Rattle.ec_things.proofs.laws.new_bytes_are_one.Goals as goal

pub returns : goal.returns
returns c = λ wanted s n m. new_bytes_once (Has wanted) s n m
