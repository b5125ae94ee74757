-- The literals of a program that an accepted text is lowered to are different, and its fields and constants are few.
use Rattle.std.proofs.Common.{◌≡◌, ℕ, ◌≤◌, List, length, Option, Some, None, refl, sym, subst, arith}
use Rattle.std.specs.Prelude.{slice_get}
use Rattle.ec_code.specs.Fine.{Fine}
use Rattle.ec_code.specs.Typing.{Declared, DeclaredClass, field_types, fields_if}
use Rattle.ec_code.specs.declared.code.Parts.{Parts}
use Rattle.ec_machine_code.specs.Limits.{HasFewFields, HasLimits}
use Rattle.ec_compile.proofs.Literals.{literals_differ}
use Rattle.ec_compile.proofs.Texts.{text_has_limits, text_is_fine}
use Rattle.ec_compile.specs.Texts.{IsOfText}
use Rattle.ec_machine_code.specs.Frames.{block_words}
use Rattle.ec_machine_code.specs.Fitted.{HasFew}
use Rattle.ec_emission.specs.Lowered.{IsLowered, declared_of}
use Rattle.ec_meaning.specs.Programs.{Source}
use Rattle.ec_code.proofs.Carried.{all_two_length}
use Rattle.ec_generate.proofs.Listing.{all_at}
use Rattle.ec_world.specs.declared.class.ClassNo.{ClassNo}
use Rattle.ec_world.specs.declared.class.ClassNo.TheVariants as class

few_made : (d : Declared) (p : Parts) → Fine d p → HasLimits p → (k : ℕ) (t : Option DeclaredClass) → slice_get d.classes k ≡ t →
    length (fields_if t) ≤ block_words
few_made d p fine limits k None e = omega arith
few_made d p fine limits k (Some t) e =
    let c = fine.classes k t e in
    let few : HasFewFields c.0 = all_at HasFewFields p.classes k c.0 limits.fields c.1 in
    let same = all_two_length _ t.fields c.0.fields c.2.fields in
    omega (arith, few, same)

few_fields : (d : Declared) (p : Parts) → Fine d p → HasLimits p → (c : ClassNo) → length (field_types d c) ≤ block_words
few_fields d p fine limits (class.Made k) = few_made d p fine limits k (slice_get d.classes k) refl
few_fields d p fine limits class.Node = omega arith
few_fields d p fine limits class.Program = omega arith
few_fields d p fine limits (class.Vector of) = omega arith

pub text_has_few : (s : Source) → IsOfText s → (p : Parts) → IsLowered s p → HasFew (declared_of s) p
text_has_few s text p lowered =
    let limits : HasLimits p = text_has_limits s text p lowered in
    record {
      literals =
          subst (λ ls. (i j : ℕ) (t : List ℕ) → slice_get ls i ≡ Some t → slice_get ls j ≡ Some t → i ≡ j) (sym lowered.literals)
          (literals_differ s.core);
      few_literals = limits.literals;
      few_constants = let few = limits.constants in omega (arith, few);
      few_fields = few_fields (declared_of s) p (text_is_fine s text p lowered) limits;
    }
