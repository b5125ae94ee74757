-- At each stop of a program that fits the values stand each once, and within the limits of code there are at most 100.
use Rattle.std.proofs.Common.{◌≡◌, ℕ, zero, suc, true, List, [], ◌∷◌, length, All, Some, refl, arith, subst}
use Rattle.std.proofs.lemmas.Option.{same_Some}
use Rattle.std.specs.Prelude.{slice_get}
use Rattle.ec_code.specs.declared.code.Op.{Op}
use Rattle.ec_code.specs.declared.code.Operation.{Operation as Made}
use Rattle.ec_code.specs.declared.code.Parts.{Parts}
use Rattle.ec_machine_code.specs.Limits.{HasLimits, IsSmallOperation}
use Rattle.ec_core.specs.declared.Operation.{Operation}
use Rattle.ec_emission.specs.Literals.{literals_of}
use Rattle.ec_emission.specs.Statements.{operation_fits}
use Rattle.ec_emission_laws.specs.Laws.{PartsFit}
use Rattle.ec_runnable.proofs.Entries.{entry_carries, entry_in_order}
use Rattle.ec_runnable.proofs.Operations.{operation_clear, program_clear}
use Rattle.ec_runnable.proofs.Uses.{AreClear, uses}
use Rattle.ec_runnable.specs.FewValuesLaws.{StandOnce}
use Rattle.ec_emission.specs.Lowered.{AreOperationsOf, HasLines, IsLowered, IsOperationOf, class_of_operation}
use Rattle.ec_emission.specs.Types.{Around}
use Rattle.ec_meaning.specs.Programs.{Source}
use Rattle.ec_meaning.specs.Steps.{captured_by}
use Rattle.ec_generate.specs.Limits.{CarriesFew}
use Rattle.ec_world.specs.Agree.{AllTwo}

all_at : {A : Type 0} (P : A → Type 0) (xs : List A) → All P xs → (n : ℕ) (x : A) → slice_get xs n ≡ Some x → P x
all_at P [] h n x e = absurd cc
all_at P (y ∷ ys) h zero x e = subst P (same_Some y x e) (h 0 y (omega arith))
all_at P (y ∷ ys) h (suc n) x e = all_at P ys (λ i d l. h (suc i) d (omega arith)) n x e

-- code with clear stops, as it was lowered
record Lowered (made : Made) : Type 0 where
  pub around : Around
  pub ops : List Op
  pub lines : HasLines around ops made.code
  pub clear : AreClear (uses ops []) 0 ops []

module _ (s : Source) (fit : PartsFit s) where
  operation_made : (o : Operation) (made : Made) → operation_fits s (captured_by s (class_of_operation s o)) (literals_of s.core) o ≡ true →
      IsOperationOf s o made → Lowered made
  operation_made o made e is = record {
    around = _;
    ops = _;
    lines = is.code;
    clear = operation_clear s (captured_by s (class_of_operation s o)) (literals_of s.core) o e;
  }

  others_made : (os : List Operation) (ms : List Made) → AllTwo (IsOperationOf s) os ms →
      ((n : ℕ) (o : Operation) → slice_get os n ≡ Some o →
      operation_fits s (captured_by s (class_of_operation s o)) (literals_of s.core) o ≡ true) → (n : ℕ) (made : Made) →
      slice_get ms n ≡ Some made → Lowered made
  others_made [] [] all fits n made e = absurd cc
  others_made [] (m ∷ ms) all fits n made e = absurd all
  others_made (o ∷ os) [] all fits n made e = absurd all
  others_made (o ∷ os) (m ∷ ms) all fits zero made e =
      subst Lowered (same_Some m made e) (operation_made o m (fits 0 o refl) all.0)
  others_made (o ∷ os) (m ∷ ms) all fits (suc n) made e = others_made os ms all.1 (λ k. fits (suc k)) n made e

  each_made : (ms : List Made) → AreOperationsOf s ms → (n : ℕ) (made : Made) → slice_get ms n ≡ Some made → Lowered made
  each_made [] are n made e = absurd are
  each_made (m ∷ ms) are zero made e =
      subst Lowered (same_Some m made e)
      (record { around = _; ops = _; lines = are.0.code; clear = program_clear s (literals_of s.core) fit.constants })
  each_made (m ∷ ms) are (suc n) made e =
      others_made s.core.operations ms are.1
      (λ k o f.
      all_at (λ (x : Operation). operation_fits s (captured_by s (class_of_operation s o)) (literals_of s.core) x ≡ true)
      s.core.operations (fit.operations (captured_by s (class_of_operation s o))) k o f)
      n made e

pub stand_once : (s : Source) (p : Parts) → PartsFit s → IsLowered s p → StandOnce p
stand_once s p fit h n o e is there =
    let l = each_made s fit p.operations h.operations n o is in entry_in_order l.around l.ops o.code l.lines l.clear e there

pub carries_few : (s : Source) (p : Parts) → PartsFit s → IsLowered s p → HasLimits p → CarriesFew p
carries_few s p fit h limits n o e is there =
    let l = each_made s fit p.operations h.operations n o is in
    let small : IsSmallOperation o = all_at IsSmallOperation p.operations limits.operations n o is in
    entry_carries l.around l.ops o.code l.lines l.clear (length o.variables) small.lines e there
