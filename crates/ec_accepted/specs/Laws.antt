-- What holds of each accepted program, and of the three-address code that it is lowered to.
use Rattle.std.specs.Prelude.{◌≡◌, ℕ, true, false, List, map, Some, IsSome, slice_get}
use Rattle.ec_emission.specs.AgreementLaws.{HoldsOperands, source_after}
use Rattle.ec_ast.specs.declared.Program.{Program}
use Rattle.ec_base.specs.Stack.{top_of, below_of}
use Rattle.ec_check.specs.Accepted.{HasCore}
use Rattle.ec_code.specs.Activations.{code_meaning, code_silent}
use Rattle.ec_code.specs.declared.activation.CodeActivation.{CodeActivation}
use Rattle.ec_code.specs.declared.code.Parts.{Parts}
use Rattle.ec_code.specs.Fine.{Fine}
use Rattle.ec_code.specs.Typing.{kind_of}
use Rattle.ec_types.specs.Declarations.{declarations_of}
use Rattle.ec_types.specs.Types.{places_of}
use Rattle.ec_accepted.specs.FineProgramsSound.{IsSound}
use Rattle.ec_lexer.specs.Tokens.{HasTokens}
use Rattle.ec_lexer.specs.declared.token.Token.{Token}
use Rattle.ec_emission.specs.Lowered.{IsLowered, declared_of}
use Rattle.ec_meaning.specs.Activations.{source_meaning}
use Rattle.ec_meaning.specs.Meaning.{source_silent, source_start}
use Rattle.ec_meaning.specs.Programs.{Source}
use Rattle.ec_meaning.specs.declared.activation.SourceActivation.{SourceActivation}
use Rattle.ec_parser.specs.HasTree.{HasTree}
use Rattle.ec_places.specs.Rising.{IsRising}
use Rattle.ec_code.specs.SoundLaws.{world_after}
use Rattle.ec_world.specs.Agree.{Agree, SameRest}
use Rattle.ec_world.specs.Run.{first_world, run_after}
use Rattle.ec_world.specs.Simulation.{AgreeRun}
use Rattle.ec_world.specs.World.{outcome_at, stack_at}
use Rattle.ec_world.specs.declared.process.Proc.{Proc}
use Rattle.ec_world.specs.declared.process.ProcStatus.TheVariants.{Ready}
use Rattle.ec_world.specs.declared.run.Entry.{Entry}
use Rattle.ec_world.specs.declared.run.RunEntry.{RunEntry}

-- The source is one of a program that breaks no static rule, and the names of the program's types stand one behind the other, as
-- those of each text do (the law `names_rise` of ec_places).
pub record IsAccepted (s : Source) (program : Program) : Type 0 where
  pub core : HasCore program s.table s.core
  pub rising : IsRising (places_of (declarations_of program).types)

-- So is the source of each text that has tokens, a tree, and a core that breaks no static rule.
abbrev pub TextsAreAccepted : Type 0
TextsAreAccepted =
    (s : Source) (tokens : List Token) (program : Program) → HasTokens s.text tokens → HasTree tokens program →
    HasCore program s.table s.core → IsAccepted s program

abbrev pub AcceptedIsSound : Type 0
AcceptedIsSound = (s : Source) (program : Program) → IsAccepted s program → IsSound s

abbrev pub LoweredIsFine : Type 0
LoweredIsFine = (s : Source) (program : Program) (p : Parts) → IsAccepted s program → IsLowered s p → Fine (declared_of s) p

abbrev pub LoweredWorldsAgree : Type 0
LoweredWorldsAgree =
    (s : Source) (program : Program) (p : Parts) → IsAccepted s program → IsLowered s p → (n : ℕ) (entries : List RunEntry) →
    Agree source_meaning code_meaning (source_after s n entries) (world_after p n entries)

abbrev pub LoweredRunsAgree : Type 0
LoweredRunsAgree =
    (s : Source) (program : Program) (p : Parts) → IsAccepted s program → IsLowered s p →
    (n : ℕ) (schedule : List Entry) (k : ℕ) →
    AgreeRun (SameRest source_meaning code_meaning) (run_after source_meaning (source_silent s) (source_start s n) schedule k)
    (run_after code_meaning (code_silent p) (first_world code_meaning n p.classes (map kind_of p.constants)) schedule k)

-- While an invocation is pending in one of the code's worlds, its variables hold its operands.
abbrev pub OperandsAreHeld : Type 0
OperandsAreHeld =
    (s : Source) (program : Program) (p : Parts) → IsAccepted s program → IsLowered s p → (n : ℕ) (entries : List RunEntry) (i : ℕ)
    (top : CodeActivation) → top_of (stack_at (world_after p n entries) i) ≡ Some top → HoldsOperands p top

-- ---- the source goes on

-- In each of the source's worlds the table of actions has a case for each stop whose action is to be done.
abbrev pub NoStopLacksACase : Type 0
NoStopLacksACase =
    (s : Source) (program : Program) → IsAccepted s program → (n : ℕ) (entries : List RunEntry) (i : ℕ)
    (top : SourceActivation) → top_of (stack_at (source_after s n entries) i) ≡ Some top → top.pending ≡ true →
    IsSome (outcome_at source_meaning (source_after s n entries) i (below_of (stack_at (source_after s n entries) i)) top)

-- Behind each stop of the source whose action is done silent steps reach a stop.
abbrev pub NoStepLacksACase : Type 0
NoStepLacksACase =
    (s : Source) (program : Program) → IsAccepted s program → (n : ℕ) (entries : List RunEntry) (i : ℕ)
    (top : SourceActivation) → top_of (stack_at (source_after s n entries) i) ≡ Some top → top.pending ≡ false →
    (source_silent s (source_after s n entries).common top).1.pending ≡ true

-- In each of the source's worlds a process that is Ready has an activation on top.
abbrev pub ReadyProcessesGoOn : Type 0
ReadyProcessesGoOn =
    (s : Source) (program : Program) → IsAccepted s program → (n : ℕ) (entries : List RunEntry) (i : ℕ)
    (proc : Proc SourceActivation) →
    slice_get (source_after s n entries).processes i ≡ Some proc → proc.status ≡ Ready → IsSome (top_of proc.activations)
