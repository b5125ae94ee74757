-- Idle activations on top can go on.
use Rattle.ec_legs.proofs.Idling.{idle_top_goes_on}
use Rattle.ec_legs.proofs.laws.idle_tops_go_on.Goals as goal

pub returns : goal.returns
returns start d p w n below top t fine classes sound idle ready done =
    idle_top_goes_on d p w n below top t fine classes sound idle ready done
