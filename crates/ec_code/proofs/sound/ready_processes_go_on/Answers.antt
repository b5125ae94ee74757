-- Ready processes go on.
use Rattle.ec_code.proofs.Facts.{ready_top}
use Rattle.ec_code.proofs.SoundWorlds.{runs_sound}
use Rattle.ec_code.specs.SoundLaws.{world_after}
use Rattle.ec_code.proofs.sound.ready_processes_go_on.Goals as goal

pub returns : goal.returns
returns start d p fine n entries i proc e ready = ready_top d p (world_after p n entries) (runs_sound d p fine n entries) i proc e ready
