-- What entries keep of activations whose action is done.
use Rattle.std.specs.Prelude.{ℕ, List}
use Rattle.ec_code.specs.Activations.{code_meaning, code_silent}
use Rattle.ec_code.specs.declared.activation.CodeActivation.{CodeActivation}
use Rattle.ec_code.specs.declared.code.Parts.{Parts}
use Rattle.ec_code.specs.Fine.{Fine}
use Rattle.ec_code.specs.Typing.{Declared}
use Rattle.ec_code.specs.Idle.{IdleWorld}
use Rattle.ec_code.specs.SoundLaws.{world_after}
use Rattle.ec_code.specs.Sound.{SoundWorld}
use Rattle.ec_world.specs.Run.{after_entry}
use Rattle.ec_world.specs.World.{Action, GoOn}
use Rattle.ec_world.specs.declared.run.RunEntry.{RunEntry}
use Rattle.ec_world.specs.declared.world.World.{World}

-- The action of a process of a sound world keeps it.
abbrev pub ActionsKeepWorldsIdle : Type 0
ActionsKeepWorldsIdle =
    (d : Declared) (p : Parts) → Fine d p → (w : World CodeActivation) (n : ℕ) → SoundWorld d p w → IdleWorld w →
    IdleWorld (Action code_meaning w n)

-- Silent steps keep it, of whatever program.
abbrev pub SilentStepsKeepWorldsIdle : Type 0
SilentStepsKeepWorldsIdle =
    (p : Parts) (w : World CodeActivation) (n : ℕ) → IdleWorld w → IdleWorld (GoOn code_meaning (code_silent p) w n)

-- So each entry does.
abbrev pub EntriesKeepWorldsIdle : Type 0
EntriesKeepWorldsIdle =
    (d : Declared) (p : Parts) → Fine d p → (w : World CodeActivation) (e : RunEntry) → SoundWorld d p w → IdleWorld w →
    IdleWorld (after_entry code_meaning (code_silent p) w e)

-- It holds of each world of each run.
abbrev pub EachRunIsIdle : Type 0
EachRunIsIdle =
    (d : Declared) (p : Parts) → Fine d p → (n : ℕ) (entries : List RunEntry) → IdleWorld (world_after p n entries)
