-- What holds of a program and its code.
use Rattle.std.specs.Prelude.{◌≡◌, ℕ, true, false, List, map, Some, IsSome, slice_get}
use Rattle.ec_base.specs.Stack.{top_of, below_of}
use Rattle.ec_code.specs.Activations.{code_meaning, code_silent, operation_at}
use Rattle.ec_code.specs.declared.activation.CodeActivation.{CodeActivation}
use Rattle.ec_code.specs.declared.code.Op.TheVariants as op
use Rattle.ec_code.specs.declared.code.Operation.{Operation}
use Rattle.ec_code.specs.declared.code.Parts.{Parts}
use Rattle.ec_code.specs.declared.code.StopRow.{StopRow}
use Rattle.ec_code.specs.Typing.{Declared, kind_of}
use Rattle.ec_meaning.specs.Activations.{source_meaning}
use Rattle.ec_meaning.specs.Meaning.{source_silent, source_start}
use Rattle.ec_meaning.specs.Programs.{Source}
use Rattle.ec_meaning.specs.declared.activation.SourceActivation.{SourceActivation}
use Rattle.ec_code.specs.SoundLaws.{world_after}
use Rattle.ec_code.specs.SoundValues.{AreHeld}
use Rattle.ec_world.specs.Agree.{Agree, SameRest}
use Rattle.ec_world.specs.Run.{after_entries, first_world, run_after}
use Rattle.ec_world.specs.Simulation.{AgreeRun}
use Rattle.ec_world.specs.World.{outcome_at, stack_at}
use Rattle.ec_world.specs.declared.process.Proc.{Proc}
use Rattle.ec_world.specs.declared.process.ProcStatus.TheVariants.{Ready}
use Rattle.ec_world.specs.declared.run.Entry.{Entry}
use Rattle.ec_world.specs.declared.run.RunEntry.{RunEntry}
use Rattle.ec_world.specs.declared.world.World.{World}
use Rattle.ec_emission.specs.Agreement.{IsCodeOf, LoopsStand}
use Rattle.ec_emission.specs.Ops.{ops}
use Rattle.ec_emission.specs.Stands.{IsInvocation}

-- the source's world after these entries, from the first one on n nodes
abbrev pub source_after : Source → ℕ → List RunEntry → World SourceActivation
source_after s n entries = after_entries source_meaning (source_silent s) (source_start s n) entries

-- After each list of entries the worlds of the source and of its code agree.
abbrev pub WorldsAgree : LoopsStand → Type 0
WorldsAgree Loops =
    (s : Source) (d : Declared) (p : Parts) → IsCodeOf Loops s d p → (n : ℕ) (entries : List RunEntry) →
    Agree source_meaning code_meaning (source_after s n entries) (world_after p n entries)

-- So do they along each schedule, after so many entries.
abbrev pub RunsAgree : LoopsStand → Type 0
RunsAgree Loops =
    (s : Source) (d : Declared) (p : Parts) → IsCodeOf Loops s d p → (n : ℕ) (schedule : List Entry) (k : ℕ) →
    AgreeRun (SameRest source_meaning code_meaning) (run_after source_meaning (source_silent s) (source_start s n) schedule k)
    (run_after code_meaning (code_silent p) (first_world code_meaning n p.classes (map kind_of p.constants)) schedule k)

-- In each of the source's worlds the table of actions has a case for each stop whose action is to be done.
abbrev pub NoSourceStopLacksACase : LoopsStand → Type 0
NoSourceStopLacksACase Loops =
    (s : Source) (d : Declared) (p : Parts) → IsCodeOf Loops s d p → (n : ℕ) (entries : List RunEntry) (i : ℕ)
    (top : SourceActivation) →
    top_of (stack_at (source_after s n entries) i) ≡ Some top → top.pending ≡ true →
    IsSome (outcome_at source_meaning (source_after s n entries) i (below_of (stack_at (source_after s n entries) i)) top)

-- Behind each stop of the source whose action is done silent steps reach a stop.
abbrev pub NoSourceStepLacksACase : LoopsStand → Type 0
NoSourceStepLacksACase Loops =
    (s : Source) (d : Declared) (p : Parts) → IsCodeOf Loops s d p → (n : ℕ) (entries : List RunEntry) (i : ℕ)
    (top : SourceActivation) →
    top_of (stack_at (source_after s n entries) i) ≡ Some top → top.pending ≡ false →
    (source_silent s (source_after s n entries).common top).1.pending ≡ true

-- In each of the source's worlds a process that is Ready has an activation on top.
abbrev pub ReadySourcesGoOn : LoopsStand → Type 0
ReadySourcesGoOn Loops =
    (s : Source) (d : Declared) (p : Parts) → IsCodeOf Loops s d p → (n : ℕ) (entries : List RunEntry) (i : ℕ)
    (proc : Proc SourceActivation) →
    slice_get (source_after s n entries).processes i ≡ Some proc → proc.status ≡ Ready → IsSome (top_of proc.activations)

-- While an invocation is pending, each of its operands is the value of the variable that its row names: so the receiver is, where it is
-- the own object too.
abbrev pub HoldsOperands : Parts → CodeActivation → Type 0
HoldsOperands p a =
    a.pending ≡ true → IsInvocation a.stop → (o : Operation) (row : StopRow) → operation_at p a.operation ≡ Some o →
    slice_get (ops o.code) a.at ≡ Some (op.Rest row) → AreHeld row.operands a.variables a.temporaries a.operands

-- Each activation that acts in a world of the code does so.
abbrev pub OperandsAreHeld : LoopsStand → Type 0
OperandsAreHeld Loops =
    (s : Source) (d : Declared) (p : Parts) → IsCodeOf Loops s d p → (n : ℕ) (entries : List RunEntry) (i : ℕ) (top : CodeActivation) →
    top_of (stack_at (world_after p n entries) i) ≡ Some top → HoldsOperands p top
