-- Each operation of a well-typed core fits, and so does the value of each of its constants.
use Rattle.std.proofs.Common.{◌≡◌, ℕ, zero, suc, ◌<◌, true, false, not, ◌&&◌, List, [], ◌∷◌, drop, length, All, slice_index_or}
use Rattle.std.proofs.Common.{refl, ap, ◌∙◌, arith}
use Rattle.ec_check.proofs.WellValues.{both_hold}
use Rattle.ec_check.specs.WellTyped.{IsWellTyped, IsWellOperation, IsWellConstant, site_in, site_outside, typed}
use Rattle.ec_core.specs.declared.Constant.{Constant}
use Rattle.ec_core.specs.declared.Operation.{Operation}
use Rattle.ec_core_laws.specs.Exits.{leaves_block}
use Rattle.ec_emission.proofs.Literals.{AllAmong, among_first, among_second, texts_among, empty_among}
use Rattle.ec_emission.specs.Expressions.{emitted, fits_here}
use Rattle.ec_core.specs.Literals.{Texts, texts_of, texts_of_block}
use Rattle.ec_emission.specs.Literals.{literals_of, texts_of_constants, texts_of_operations}
use Rattle.ec_emission.specs.Statements.{Done, are_given, body_done, leave_ops, operation_fits, program_fits}
use Rattle.ec_emission_laws.proofs.Expressions.{is_fit}
use Rattle.ec_emission_laws.proofs.Leaving.{exits_as_left}
use Rattle.ec_emission_laws.proofs.Statements.{block_fits, defaults_given}
use Rattle.ec_emission_laws.proofs.Values.{goes_in_value}
use Rattle.ec_emission_laws.specs.Dropped.{DropsCalls, drops_block}
use Rattle.ec_emission_laws.specs.Laws.{ExitsStandInLoops, PartsFit}
use Rattle.ec_meaning.specs.Programs.{Source}

operation_among : (literals : Texts) (os : List Operation) → AllAmong literals (texts_of_operations os) → (k : ℕ) (d : Operation) →
    k < length os → AllAmong literals (texts_of_block (slice_index_or os k d).block)
operation_among literals [] a k d l = absurd (omega arith)
operation_among literals (o ∷ os) a zero d l = among_first literals (texts_of_block o.block) (texts_of_operations os) a
operation_among literals (o ∷ os) a (suc k) d l =
    operation_among literals os (among_second literals (texts_of_block o.block) (texts_of_operations os) a) k d (omega arith)

module _ (s : Source) where
  abbrev literals : Texts
  literals = literals_of s.core

  operation_fit : (captured : ℕ) (o : Operation) → IsWellOperation s.table s.core o → leaves_block o.block ≡ false →
      drops_block o.block ≡ true → AllAmong literals (texts_of_block o.block) → operation_fits s captured literals o ≡ true
  operation_fit captured o h e d a =
      let body : Done = body_done s captured literals o in
      let types = drop o.parameters o.variables in
      let stays : not body.exits ≡ true = ap not (exits_as_left s captured o.variables literals (leave_ops o) o.block ∙ e) in
      both_hold body.fits (not body.exits && are_given literals types)
      (block_fits (site_in s.table s.core h.1 o) s captured o.variables literals (leave_ops o) (empty_among s.core) o.block h.4.1
      d a)
      (both_hold (not body.exits) (are_given literals types) stays (defaults_given literals (empty_among s.core) types))

  constants_fit : (cs : List Constant) → All (IsWellConstant s.table s.core) cs → AllAmong literals (texts_of_constants cs) →
      program_fits s literals cs ≡ true
  constants_fit [] w a = refl
  constants_fit (c ∷ cs) w a =
      let site = site_outside s.table s.core in
      let v = goes_in_value s.table c.of (typed site c.value) (w 0 c (omega arith)) in
      both_hold (fits_here (emitted s 0 0 literals c.value)) (program_fits s literals cs)
      ((is_fit site s 0 0 literals c.value).value v.0 (among_first literals (texts_of c.value) (texts_of_constants cs) a) v.1)
      (constants_fit cs (λ i d l. w (suc i) d (omega arith))
      (among_second literals (texts_of c.value) (texts_of_constants cs) a))

  pub parts_fit : IsWellTyped s.table s.core → ExitsStandInLoops s.core → DropsCalls s.core → PartsFit s
  parts_fit well exits drops =
      let constants : Texts = texts_of_constants s.core.constants in
      let operations : Texts = texts_of_operations s.core.operations in
      let a : AllAmong literals operations = among_second literals constants operations (texts_among s.core) in
      record {
        operations = λ captured k d l.
            operation_fit captured (slice_index_or s.core.operations k d) (well.operations k d l) (exits k d l) (drops k d l)
            (operation_among literals s.core.operations a k d l);
        constants = constants_fit s.core.constants well.constants
            (among_first literals constants operations (texts_among s.core));
      }
