-- Order in worlds that agree, and so in those of a source.
use Rattle.std.specs.Prelude.{ℕ, List}
use Rattle.ec_code.specs.Activations.{code_meaning}
use Rattle.ec_code.specs.SoundLaws.{world_after}
use Rattle.ec_code.specs.declared.code.Parts.{Parts}
use Rattle.ec_emission.specs.AgreementLaws.{source_after}
use Rattle.ec_emission.specs.Lowered.{IsLowered}
use Rattle.ec_meaning.specs.Activations.{source_meaning}
use Rattle.ec_meaning.specs.Programs.{Source}
use Rattle.ec_world.specs.Agree.{Agree}
use Rattle.ec_world.specs.declared.class.ClassRec.{ClassRec}
use Rattle.ec_world.specs.declared.run.RunEntry.{RunEntry}
use Rattle.ec_world.specs.declared.world.World.{World}
use Rattle.ec_world.specs.Meaning.{ActivationMeaning}
use Rattle.ec_reached.specs.Orderly.{Orderly}
use Rattle.ec_reached.specs.Stacks.{BlockedRest, StacksFit}

-- A world that agrees with an orderly one is orderly, where its own stacks are calls and its blocked processes rest where their statuses
-- tell: values of operands are no part of agreement.
abbrev pub AgreeingAreOrderly : {A B : Type 0} → ActivationMeaning A → ActivationMeaning B → Type 0
AgreeingAreOrderly {A = A} {B = B} M N =
    (classes : List ClassRec) (w : World A) (v : World B) → Agree M N w v → StacksFit M w → BlockedRest M w → Orderly N classes v →
    Orderly M classes w

-- So each world of a source that agrees with that of the program to which it is lowered is orderly.
abbrev pub AgreeingSourcesAreOrderly : Type 0
AgreeingSourcesAreOrderly =
    (s : Source) (p : Parts) → IsLowered s p → (n : ℕ) (entries : List RunEntry) →
    Agree source_meaning code_meaning (source_after s n entries) (world_after p n entries) →
    Orderly source_meaning p.classes (source_after s n entries)
