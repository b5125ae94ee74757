-- What an accepted text is lowered to can be run with the images that were compiled of it.
use Rattle.std.proofs.Common.{◌≡◌, ℕ, zero, suc, ◌≤◌, true, List, [], ◌∷◌, length, Some, refl, sym, ap, ◌∙◌, subst, arith}
use Rattle.std.proofs.lemmas.Option.{same_Some}
use Rattle.std.specs.Prelude.{slice_get}
use Rattle.ec_cluster.specs.Images.{homes_on, image_of}
use Rattle.ec_cluster.specs.declared.cluster.Images.{Images}
use Rattle.ec_code.specs.declared.code.Operation.{Operation}
use Rattle.ec_code.specs.declared.code.Parts.{Parts}
use Rattle.ec_compile.proofs.Few.{text_has_few}
use Rattle.ec_compile.proofs.Texts.{text_has_limits, text_is_fine}
use Rattle.ec_compile.specs.Texts.{IsOfText}
use Rattle.ec_core_laws.proofs.TextPrograms.{text_has_small_numbers}
use Rattle.ec_core_laws.proofs.CoreTextsTextPrograms.{text_has_bytes}
use Rattle.ec_emission.proofs.Expressions.{found}
use Rattle.ec_emission.proofs.Literals.{empty_among}
use Rattle.ec_emission.specs.Expressions.{has_text, literal_from}
use Rattle.ec_emission_laws.proofs.Cores.{parts_fit}
use Rattle.ec_machine_code.specs.Faithful.{Faithful}
use Rattle.ec_machine_code.specs.Frames.{slots}
use Rattle.ec_machine_code.specs.Machine.{MachineMeaning}
use Rattle.ec_machine_code.specs.Stops.{address_of}
use Rattle.ec_runnable.proofs.Whole.{carries_few}
use Rattle.ec_legs.specs.Nodes.{IsCodeFor}
use Rattle.ec_code.specs.Idle.{HasOperations, OfClasses}
use Rattle.ec_generate.specs.declared.image.Image.{Image}
use Rattle.ec_emission.specs.Lowered.{AreOperationsOf, IsLowered, declared_of}
use Rattle.ec_emission_laws.proofs.Accepting.{is_lowerable}
use Rattle.ec_emission_laws.proofs.Parts.{made_of}
use Rattle.ec_meaning.specs.Programs.{Source}
use Rattle.ec_machine_code.specs.Speaks.{words_end}
use Rattle.ec_node_frames.specs.Frames.{HasTables}
use Rattle.ec_code.specs.Code.{SmallProgram}
use Rattle.ec_runnable.specs.Runnable.{IsRunnable}
use Rattle.ec_emission_laws.proofs.Programs.{lowered_small}
use Rattle.ec_generate.specs.Addresses.{address_in}
use Rattle.ec_generate.specs.Tables.{AreTablesOf, all_homes}
use Rattle.ec_runnable.proofs.Lines.{typed_once}
use Rattle.ec_world.specs.Group.{Has}
use Rattle.ec_world.specs.declared.class.ClassNo.TheVariants.{Program}
use Rattle.ec_world.specs.declared.node.Kind.{Kind}
use Rattle.ec_world.specs.declared.node.Kind.TheVariants.{Riscv, Mips}
use Rattle.mips_code.specs.Meaning.{mips_meaning}
use Rattle.rv_code.specs.Meaning.{rv_meaning}

-- ---- the program

-- each operation is the program's own, or one of a class of the program
operations_have : (s : Source) (os : List Operation) → AreOperationsOf s os → (n : ℕ) (o : Operation) → slice_get os n ≡ Some o →
    HasOperations o.class
operations_have s [] are n o e = absurd are
operations_have s (first ∷ os) are zero o e =
    let of : o.class ≡ Program = ap (λ (x : Operation). x.class) (sym (same_Some first o e)) ∙ are.0.class in
    subst HasOperations (sym of) tt
operations_have s (first ∷ os) are (suc n) o e =
    let made = made_of s s.core.operations os are.1 n o e in subst HasOperations (sym made.made.class) tt

module _ (s : Source) (text : IsOfText s) (p : Parts) (lowered : IsLowered s p) where
  classes_are : OfClasses p
  classes_are n o e = operations_have s p.operations lowered.operations n o e

  empty_is_there : Has p.literals []
  empty_is_there =
      let among : has_text p.literals [] ≡ true = ap (λ ls. has_text ls []) lowered.literals ∙ empty_among s.core in
      record { at = literal_from 0 p.literals []; is = found p.literals [] among }

  is_small : SmallProgram p
  is_small =
      lowered_small s text.program p text.core lowered (text_has_small_numbers s.text text.tokens text.program text.scanned text.parsed)
      (text_has_bytes s.text text.tokens text.program text.bytes text.scanned text.parsed)

-- ---- the images

-- what compiling tells of the image for a kind
pub record IsCompiled {S : Type 0} (M : MachineMeaning S) (p : Parts) (image : Image) : Type 0 where
  pub faithful : Faithful M p image.code (all_homes image.table.operations)
  pub tables : AreTablesOf M.homes slots p image.table.operations
  pub bound : (op n : ℕ) → address_in image.table.addresses op n ≡ address_of image.code op n
  pub few : length image.code.words ≤ words_end

module _ (s : Source) (text : IsOfText s) (p : Parts) (lowered : IsLowered s p) (images : Images)
    (riscv : IsCompiled rv_meaning p images.riscv) (mips : IsCompiled mips_meaning p images.mips) where
  are_code : (kind : Kind) → IsCodeFor (declared_of s) p images kind
  are_code Riscv = record {
    fine = text_is_fine s text p lowered;
    faithful = riscv.faithful;
    tables = riscv.tables;
    homes_are = refl;
    bound = riscv.bound;
    few = riscv.few;
  }
  are_code Mips = record {
    fine = text_is_fine s text p lowered;
    faithful = mips.faithful;
    tables = mips.tables;
    homes_are = refl;
    bound = mips.bound;
    few = mips.few;
  }

  have_tables : (kind : Kind) → HasTables (declared_of s) p kind (homes_on images) (image_of images kind).table.operations
  have_tables Riscv = record {
    fine = text_is_fine s text p lowered;
    limits = text_has_limits s text p lowered;
    registers = 10;
    few = omega arith;
    are = riscv.tables;
    homes_are = refl;
  }
  have_tables Mips = record {
    fine = text_is_fine s text p lowered;
    limits = text_has_limits s text p lowered;
    registers = 6;
    few = omega arith;
    are = mips.tables;
    homes_are = refl;
  }

  pub prepared : IsRunnable p images
  prepared = record {
    declared = declared_of s;
    code = are_code;
    tables = have_tables;
    once = record { once = (text_has_few s text p lowered).literals };
    empty = empty_is_there s text p lowered;
    small = is_small s text p lowered;
    classes = classes_are s text p lowered;
    typed = typed_once s p lowered;
    few = (let l = is_lowerable s text.program text.core in
        carries_few s p (parts_fit s l.well_typed l.exits l.drops) lowered (text_has_limits s text p lowered));
  }
