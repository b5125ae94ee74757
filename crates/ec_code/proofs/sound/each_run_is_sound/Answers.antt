-- Each run is sound.
use Rattle.ec_code.proofs.SoundWorlds.{runs_sound}
use Rattle.ec_code.proofs.sound.each_run_is_sound.Goals as goal

pub returns : goal.returns
returns start d p fine n entries = runs_sound d p fine n entries
