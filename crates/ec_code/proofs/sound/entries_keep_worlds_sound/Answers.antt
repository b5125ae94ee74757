-- Entries keep worlds sound.
use Rattle.ec_code.proofs.SoundWorlds.{entry_sound}
use Rattle.ec_code.proofs.sound.entries_keep_worlds_sound.Goals as goal

pub returns : goal.returns
returns start d p fine w e s = entry_sound d p fine w e s
