-- What holds of every program of three-address code that is well typed.
use Rattle.std.specs.Prelude.{◌≡◌, ℕ, true, false, List, map, Some, IsSome, slice_get}
use Rattle.ec_base.specs.Stack.{top_of, below_of}
use Rattle.ec_code.specs.Activations.{code_meaning, code_silent}
use Rattle.ec_code.specs.declared.activation.CodeActivation.{CodeActivation}
use Rattle.ec_code.specs.declared.code.Parts.{Parts}
use Rattle.ec_code.specs.Fine.{Fine}
use Rattle.ec_code.specs.Typing.{Declared, kind_of}
use Rattle.ec_world.specs.Run.{first_world, after_entry, after_entries}
use Rattle.ec_world.specs.World.{stack_at, outcome_at}
use Rattle.ec_world.specs.declared.process.Proc.{Proc}
use Rattle.ec_world.specs.declared.process.ProcStatus.TheVariants.{Ready}
use Rattle.ec_world.specs.declared.run.RunEntry.{RunEntry}
use Rattle.ec_world.specs.declared.world.World.{World}
use Rattle.ec_code.specs.Example.{dividing, nothing_declared}
use Rattle.ec_code.specs.Sound.{SoundWorld, reached}

-- the world after these entries, from the first one
abbrev pub world_after : Parts → ℕ → List RunEntry → World CodeActivation
world_after p n entries =
    after_entries code_meaning (code_silent p) (first_world code_meaning n p.classes (map kind_of p.constants)) entries

-- A sound world stays sound.
abbrev pub EntriesKeepWorldsSound : Type 0
EntriesKeepWorldsSound =
    (d : Declared) (p : Parts) → Fine d p → (w : World CodeActivation) (e : RunEntry) → SoundWorld d p w →
    SoundWorld d p (after_entry code_meaning (code_silent p) w e)

-- Each world of each run is sound.
abbrev pub EachRunIsSound : Type 0
EachRunIsSound =
    (d : Declared) (p : Parts) → Fine d p → (n : ℕ) (entries : List RunEntry) → SoundWorld d p (world_after p n entries)

-- The table of actions has a case for each stop whose action is to be done.
abbrev pub NoStopLacksACase : Type 0
NoStopLacksACase =
    (d : Declared) (p : Parts) → Fine d p → (w : World CodeActivation) (n : ℕ) (top : CodeActivation) → SoundWorld d p w →
    top_of (stack_at w n) ≡ Some top → top.pending ≡ true → IsSome (outcome_at code_meaning w n (below_of (stack_at w n)) top)

-- Behind each stop whose action is done silent steps reach a stop: what they read is there and of its kind.
abbrev pub NoSilentStepLacksACase : Type 0
NoSilentStepLacksACase =
    (d : Declared) (p : Parts) → Fine d p → (w : World CodeActivation) (n : ℕ) (top : CodeActivation) → SoundWorld d p w →
    top_of (stack_at w n) ≡ Some top → top.pending ≡ false → IsSome (reached p w.common top).1

-- After each list of entries a process that is Ready has an activation on top.
abbrev pub ReadyProcessesGoOn : Type 0
ReadyProcessesGoOn =
    (d : Declared) (p : Parts) → Fine d p → (n : ℕ) (entries : List RunEntry) (i : ℕ) (proc : Proc CodeActivation) →
    slice_get (world_after p n entries).processes i ≡ Some proc → proc.status ≡ Ready → IsSome (top_of proc.activations)

-- A program that divides is well typed: what is asked of one can be met.
abbrev pub DividingIsFine : Type 0
DividingIsFine = Fine nothing_declared dividing
