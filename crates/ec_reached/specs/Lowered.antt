-- Reached worlds of the program to which a source is lowered.
use Rattle.std.specs.Prelude.{ℕ, List}
use Rattle.ec_code.specs.Activations.{code_meaning}
use Rattle.ec_code.specs.SoundLaws.{world_after}
use Rattle.ec_code.specs.declared.code.Parts.{Parts}
use Rattle.ec_emission.specs.Lowered.{IsLowered}
use Rattle.ec_meaning.specs.Programs.{Source}
use Rattle.ec_world.specs.declared.run.RunEntry.{RunEntry}
use Rattle.ec_reached.specs.Code.{StopsFit}
use Rattle.ec_reached.specs.Orderly.{Orderly}

-- Each operation of it enters at its first line alone, and the program's own operation and process sections alone end a process, which no
-- class has for a call.
abbrev pub LoweredStops : Type 0
LoweredStops = (s : Source) (p : Parts) → IsLowered s p → StopsFit p

-- So each world of each of its runs is orderly.
abbrev pub EachLoweredRunIsOrderly : Type 0
EachLoweredRunIsOrderly =
    (s : Source) (p : Parts) → IsLowered s p → (n : ℕ) (entries : List RunEntry) → Orderly code_meaning p.classes (world_after p n entries)
