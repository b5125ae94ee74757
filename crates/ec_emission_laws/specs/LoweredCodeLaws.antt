-- What holds of a source and the program that it is lowered to.
use Rattle.std.specs.Prelude.{ℕ, List, map}
use Rattle.ec_emission.specs.Agreement.{IsCodeOf}
use Rattle.ec_emission.specs.AgreementLaws.{source_after}
use Rattle.ec_ast.specs.declared.Program.{Program}
use Rattle.ec_check.specs.Accepted.{HasCore}
use Rattle.ec_code.specs.Activations.{code_meaning, code_silent}
use Rattle.ec_code.specs.Fine.{Fine}
use Rattle.ec_code.specs.Typing.{kind_of}
use Rattle.ec_code.specs.declared.code.Parts.{Parts}
use Rattle.ec_emission.specs.Lowered.{IsLowered, declared_of}
use Rattle.ec_emission_laws.specs.Lowerable.{IsLowerable, lowered_loops}
use Rattle.ec_meaning.specs.Activations.{source_meaning}
use Rattle.ec_meaning.specs.Meaning.{source_silent, source_start}
use Rattle.ec_meaning.specs.Programs.{Source}
use Rattle.ec_code.specs.SoundLaws.{world_after}
use Rattle.ec_world.specs.Agree.{Agree, SameRest}
use Rattle.ec_world.specs.Run.{first_world, run_after}
use Rattle.ec_world.specs.Simulation.{AgreeRun}
use Rattle.ec_world.specs.declared.run.Entry.{Entry}
use Rattle.ec_world.specs.declared.run.RunEntry.{RunEntry}

-- What lowering asks holds of the source of each program that breaks no static rule.
abbrev pub AcceptedIsLowerable : Type 0
AcceptedIsLowerable = (s : Source) (program : Program) → HasCore program s.table s.core → IsLowerable s

-- The program is the source's code, where it is well typed.
abbrev pub LoweredIsCode : Type 0
LoweredIsCode =
    (s : Source) (p : Parts) → IsLowerable s → IsLowered s p → Fine (declared_of s) p →
    IsCodeOf lowered_loops s (declared_of s) p

-- After each list of entries the worlds of both agree.
abbrev pub LoweredWorldsAgree : Type 0
LoweredWorldsAgree =
    (s : Source) (p : Parts) → IsLowerable s → IsLowered s p → Fine (declared_of s) p → (n : ℕ) (entries : List RunEntry) →
    Agree source_meaning code_meaning (source_after s n entries) (world_after p n entries)

-- So do they along each schedule, after so many entries.
abbrev pub LoweredRunsAgree : Type 0
LoweredRunsAgree =
    (s : Source) (p : Parts) → IsLowerable s → IsLowered s p → Fine (declared_of s) p →
    (n : ℕ) (schedule : List Entry) (k : ℕ) →
    AgreeRun (SameRest source_meaning code_meaning) (run_after source_meaning (source_silent s) (source_start s n) schedule k)
    (run_after code_meaning (code_silent p) (first_world code_meaning n p.classes (map kind_of p.constants)) schedule k)
