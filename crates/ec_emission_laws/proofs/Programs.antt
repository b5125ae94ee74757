-- What an accepted source is lowered to names small numbers and short texts of bytes alone.
use Rattle.std.proofs.Common.{◌≡◌, ℕ, suc, List, [], ◌∷◌, ◌++◌, drop, arith, sym, subst, All}
use Rattle.std.proofs.lemmas.List.Elements.{recursion_from_All}
use Rattle.std.specs.List.{AllByRecursion as Each}
use Rattle.ec_ast.specs.declared.Program.{Program}
use Rattle.ec_check.specs.Accepted.{HasCore}
use Rattle.ec_check.specs.Program.{core_of}
use Rattle.ec_code.specs.declared.code.Line.{Line}
use Rattle.ec_code.specs.declared.code.Op.{Op}
use Rattle.ec_code.specs.declared.code.Operation.{Operation as Made}
use Rattle.ec_code.specs.declared.code.Parts.{Parts}
use Rattle.ec_code.specs.declared.code.Variable.{Variable}
use Rattle.ec_types.specs.declared.conform.static_type.StaticType.{StaticType}
use Rattle.ec_core.specs.declared.Constant.{Constant}
use Rattle.ec_core.specs.declared.Core.{Core}
use Rattle.ec_core.specs.declared.Operation.{Operation}
use Rattle.ec_core_laws.proofs.FittingPrograms.{each_number_is_small}
use Rattle.ec_core_laws.proofs.Literals.{each_text_is_short}
use Rattle.ec_core_laws.specs.Literals.{HasShortTexts, IsShort}
use Rattle.ec_core_laws.specs.Numbers.{HasSmallIntegers, numbers_in, numbers_in_block}
use Rattle.ec_core_laws.specs.TreeNumbers.{Fits, HasSmallNumbers}
use Rattle.ec_core_laws.proofs.CoreTextsPrograms.{each_text_is_bytes}
use Rattle.ec_core_laws.specs.CoreTexts.{HasByteTexts}
use Rattle.ec_core_laws.specs.TreeTexts.{HasBytes, IsBytes}
use Rattle.ec_emission.specs.Expressions.{emitted}
use Rattle.ec_emission.specs.Literals.{literals_of}
use Rattle.ec_emission.specs.Statements.{body_done, constant_ops, default_ops, leave_ops, operation_ops, program_ops}
use Rattle.ec_emission.specs.Lowered.{AreOperationsOf, HasLines, IsLowered, IsOperationOf, around, class_of_operation}
use Rattle.ec_emission.specs.Types.{Around, behind, lines_of}
use Rattle.ec_meaning.specs.Programs.{Source}
use Rattle.ec_meaning.specs.Steps.{captured_by}
use Rattle.ec_code.specs.Code.{SmallCode, SmallOperation, SmallProgram}
use Rattle.ec_code.specs.RangesValues.{IsText}
use Rattle.ec_world.specs.Agree.{AllTwo}
use Rattle.ec_emission_laws.proofs.Emitted.{Small, both}
use Rattle.ec_emission_laws.proofs.SmallProgramsExpressions.{is_small}
use Rattle.ec_emission_laws.proofs.SmallProgramsStatements.{block_small, defaults_small}
use Rattle.ec_emission_laws.proofs.Texts.{literals_are}

-- ---- lines

lines_small : (w : Around) (ts : List StaticType) (ops : List Op) (lists : List (List Variable)) → Small ops
    → SmallCode (lines_of w ts ops lists)
lines_small w ts [] lists k = tt
lines_small w ts (o ∷ os) [] k = tt
lines_small w ts (o ∷ os) (xs ∷ lists) k = (k.0, lines_small w (behind w ts o) os lists k.1)

code_small : (w : Around) (ops : List Op) (code : List Line) → HasLines w ops code → Small ops → SmallCode code
code_small w ops code h k = subst (λ z. SmallCode z) (sym h.lines) (lines_small w [] ops h.lists k)

-- ---- operations

abbrev OperationFits : Operation → Type 0
OperationFits o = All Fits (numbers_in_block o.block)

abbrev ConstantFits : Constant → Type 0
ConstantFits c = All Fits (numbers_in c.value)

module _ (s : Source) (literals : List (List ℕ)) where
  operation_small : (captured : ℕ) (o : Operation) → OperationFits o → Small (operation_ops s captured literals o)
  operation_small captured o n =
      let ends : Small (leave_ops o) = (tt, tt) in (
        tt,
        both (default_ops s captured literals o) ((body_done s captured literals o).code 0 ++ leave_ops o)
            (defaults_small s captured o.variables literals (leave_ops o) ends o.parameters (drop o.parameters o.variables))
            (both ((body_done s captured literals o).code 0) (leave_ops o)
            (block_small s captured o.variables literals (leave_ops o) ends o.block
            (recursion_from_All Fits (numbers_in_block o.block) n) 0) ends),
      )

  constants_small : (n : ℕ) (cs : List Constant) → Each ConstantFits cs → Small (constant_ops s literals n cs)
  constants_small n [] h = (tt, tt)
  constants_small n (c ∷ cs) h =
      let k = is_small s 0 0 literals c.value (recursion_from_All Fits (numbers_in c.value) h.0) in
      both ((emitted s 0 0 literals c.value).code 0) _ (k.code 0) (tt, constants_small (suc n) cs h.1)

-- ---- operations of a program

module _ (s : Source) (small : HasSmallIntegers s.core) where
  abbrev texts : List (List ℕ)
  texts = literals_of s.core

  each_small : (os : List Operation) (made : List Made) → Each OperationFits os → AllTwo (IsOperationOf s) os made
      → Each SmallOperation made
  each_small [] [] n h = tt
  each_small (o ∷ os) (m ∷ ms) n h =
      let is = h.0 in (
        code_small (around s (class_of_operation s o) o.variables)
            (operation_ops s (captured_by s (class_of_operation s o)) texts o) m.code is.code
            (operation_small s texts (captured_by s (class_of_operation s o)) o n.0),
        each_small os ms n.1 h.1,
      )
  each_small [] (m ∷ ms) n h = absurd h
  each_small (o ∷ os) [] n h = absurd h

  operations_small : (made : List Made) → AreOperationsOf s made → Each SmallOperation made
  operations_small [] h = absurd h
  operations_small (m ∷ ms) h =
      let is = h.0 in (
        code_small _ (program_ops s texts) m.code is.code
            (tt, constants_small s texts 0 s.core.constants (recursion_from_All ConstantFits s.core.constants small.constants)),
        each_small s.core.operations ms (recursion_from_All OperationFits s.core.operations small.operations) h.1,
      )

-- ---- texts

texts_from : (ts : List (List ℕ)) → Each IsShort ts → Each IsBytes ts → Each IsText ts
texts_from [] h k = tt
texts_from (t ∷ ts) h k = (record { short = h.0; bytes = k.0 }, texts_from ts h.1 k.1)

literals_small : (c : Core) → HasShortTexts c → HasByteTexts c → Each IsText (literals_of c)
literals_small c short bytes =
    texts_from (literals_of c) (literals_are IsShort c (omega arith) short.operations short.constants)
    (literals_are IsBytes c tt bytes.operations bytes.constants)

-- ---- programs

core_small : (s : Source) (p : Parts) → IsLowered s p → HasSmallIntegers s.core → HasShortTexts s.core
    → HasByteTexts s.core → SmallProgram p
core_small s p lowered numbers short bytes = record {
  literals = subst (λ z. Each IsText z) (sym lowered.literals) (literals_small s.core short bytes);
  operations = operations_small s numbers p.operations lowered.operations;
}

pub lowered_small : (s : Source) (program : Program) (p : Parts) → HasCore program s.table s.core → IsLowered s p
    → HasSmallNumbers program → HasBytes program → SmallProgram p
lowered_small s program p h lowered small bytes =
    let is : core_of s.table program ≡ s.core = sym h.resolved in
    core_small s p lowered (subst (λ (c : Core). HasSmallIntegers c) is (each_number_is_small s.table program small))
    (subst (λ (c : Core). HasShortTexts c) is (each_text_is_short s.table program h.is_table h.accepted))
    (subst (λ (c : Core). HasByteTexts c) is (each_text_is_bytes s.table program bytes))
