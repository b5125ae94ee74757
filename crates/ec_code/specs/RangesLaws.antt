-- What holds of every program of three-address code that names no number and no text out of range.
use Rattle.std.specs.Prelude.{ℕ, ◌≤◌, List}
use Rattle.ec_code.specs.Activations.{code_meaning, code_silent}
use Rattle.ec_code.specs.Steps.{Machine, act}
use Rattle.ec_code.specs.declared.activation.CodeActivation.{CodeActivation}
use Rattle.ec_code.specs.declared.code.Op.{Op}
use Rattle.ec_code.specs.declared.code.Parts.{Parts}
use Rattle.ec_code.specs.SoundLaws.{world_after}
use Rattle.ec_world.specs.Doings.{doing_of}
use Rattle.ec_world.specs.Outcomes.{done}
use Rattle.ec_world.specs.Run.{after_entry}
use Rattle.ec_world.specs.Sights.{Sight, sight_of}
use Rattle.ec_world.specs.World.{Action}
use Rattle.ec_world.specs.declared.common.Common.{Common}
use Rattle.ec_world.specs.declared.doing.Doing.{Doing}
use Rattle.ec_world.specs.declared.run.RunEntry.{RunEntry}
use Rattle.ec_world.specs.declared.stop.Stop.{Stop}
use Rattle.ec_world.specs.declared.stop.Who.{Who}
use Rattle.ec_world.specs.declared.value.Value.{Value}
use Rattle.ec_world.specs.declared.world.World.{World}
use Rattle.ec_code.specs.Actions.{RangedAsked, RangedDoing, RangedDone, RangedSight}
use Rattle.ec_code.specs.Code.{SmallOp, SmallProgram}
use Rattle.ec_code.specs.RangesValues.{AllInRange}
use Rattle.ec_code.specs.Worlds.{RangedCommon, RangedMachine, RangedStep, RangedWorld, most_nodes}

-- A step of the program leaves what it reads and writes in range.
abbrev pub StepsKeepMachinesRanged : Type 0
StepsKeepMachinesRanged =
    (p : Parts) → SmallProgram p → (own : ℕ) (m : Machine) (o : Op) → SmallOp o → RangedMachine m → RangedStep (act p.literals own m o)

-- What the table of actions asks for, where the operands are in range and so is what is seen, says values in range.
abbrev pub AskedValuesAreRanged : Type 0
AskedValuesAreRanged =
    (s : Sight) (who : Who) (action : Stop) (operands : List Value) → RangedSight s → AllInRange operands →
    RangedAsked (doing_of s who action operands)

-- A world in range sees itself so.
abbrev pub WorldsSeeRanged : Type 0
WorldsSeeRanged = (c : Common) → RangedCommon c → RangedSight (sight_of c)

-- What is then done leaves what the world has beside its processes in range, and gives activations values in range.
abbrev pub DoneValuesAreRanged : Type 0
DoneValuesAreRanged = (c : Common) (who : Who) (doing : Doing) → RangedCommon c → RangedDoing doing → RangedDone (done c who doing)

-- The action of the stop at which a process rests leaves a world in range, whatever the program.
abbrev pub ActionsKeepWorldsRanged : Type 0
ActionsKeepWorldsRanged = (w : World CodeActivation) (n : ℕ) → RangedWorld w → RangedWorld (Action code_meaning w n)

-- A world in range stays so.
abbrev pub EntriesKeepWorldsRanged : Type 0
EntriesKeepWorldsRanged =
    (p : Parts) → SmallProgram p → (w : World CodeActivation) (e : RunEntry) → RangedWorld w →
    RangedWorld (after_entry code_meaning (code_silent p) w e)

-- Each world of each run is in range.
abbrev pub EachRunIsRanged : Type 0
EachRunIsRanged =
    (p : Parts) → SmallProgram p → (n : ℕ) → n ≤ most_nodes → (entries : List RunEntry) → RangedWorld (world_after p n entries)
