-- What a text's program is lowered to makes vectors of no type but those that the text writes.
use Rattle.std.proofs.Common.{ℕ, suc, Bool, true, false, List, [], ◌∷◌, ◌++◌, drop, Option, Some, None, sym, subst, ⊎_elim}
use Rattle.std.specs.Prelude.{if◌then◌else◌}
use Rattle.ec_ast.specs.declared.Program.{Program}
use Rattle.ec_check.proofs.Every.{Every, Where}
use Rattle.ec_check.specs.Accepted.{HasCore}
use Rattle.ec_code.specs.declared.code.Line.{Line}
use Rattle.ec_code.specs.declared.code.Op.{Op}
use Rattle.ec_code.specs.declared.code.Op.TheVariants as op
use Rattle.ec_code.specs.declared.code.Operation.{Operation as Made}
use Rattle.ec_code.specs.declared.code.Parts.{Parts}
use Rattle.ec_code.specs.declared.code.Variable.{Variable}
use Rattle.ec_core.specs.declared.Constant.{Constant}
use Rattle.ec_core.specs.declared.Core.{Core}
use Rattle.ec_core.specs.declared.Operation.{Operation}
use Rattle.ec_core_laws.proofs.CoreTiesPrograms.{program_tied}
use Rattle.ec_core_laws.proofs.CoreTiesTextPrograms.{text_has_targets}
use Rattle.ec_core_laws.specs.CoreTiesLaws.{IsTied}
use Rattle.ec_core.specs.declared.Kind.{Kind}
use Rattle.ec_core.specs.declared.Kind.TheVariants as kind
use Rattle.ec_emission.specs.Expressions.{emitted}
use Rattle.ec_emission.specs.Literals.{literals_of}
use Rattle.ec_emission.specs.Lowered.{AreOperationsOf, HasLines, IsLowered, IsOperationOf, around, class_of_operation}
use Rattle.ec_emission.specs.Statements.{body_done, constant_ops, default_ops, leave_ops, leave_row, operation_ops, program_ops, result_of}
use Rattle.ec_emission.specs.Types.{Around, behind, lines_of}
use Rattle.ec_lexer.specs.declared.token.Token.{Token}
use Rattle.ec_meaning.specs.Programs.{Source}
use Rattle.ec_meaning.specs.Steps.{captured_by}
use Rattle.ec_meaning.specs.Types.{vector_type}
use Rattle.ec_parcels.specs.Vectors.{has_type, made_at, made_by, made_on, vector_types, with_lines, with_made, with_operations, with_type}
use Rattle.ec_parser.specs.HasTree.{HasTree}
use Rattle.ec_types.specs.Names.{Text}
use Rattle.ec_types.specs.declared.conform.static_type.StaticType.{StaticType}
use Rattle.ec_vector_types.proofs.CoreMade.{made_of, made_of_block}
use Rattle.ec_vector_types.proofs.Emitting.{Allowed, AllAllowed, AllowedOp, AllowedStop, both, expression_is}
use Rattle.ec_vector_types.proofs.EmittingStatements.{block_is, defaults_are}
use Rattle.ec_vector_types.proofs.TextPrograms.{text_writes}
use Rattle.ec_vector_types.proofs.Tying.{ConstantFits, MadeFits, constants}
use Rattle.ec_vector_types.specs.Written.{written_vectors}
use Rattle.ec_world.proofs.Members.{has_either, has_none, has_one}
use Rattle.ec_world.specs.Agree.{AllTwo}
use Rattle.ec_world.specs.Group.{Has}
use Rattle.ec_world.specs.declared.class.VectorType.{VectorType}
use Rattle.ec_world.specs.declared.stop.Stop.{Stop}
use Rattle.ec_world.specs.declared.stop.Stop.TheVariants as stop

-- These types are allowed.
module _ (W : VectorType → Type 0) where
  abbrev AllowedLine : Line → Type 0
  AllowedLine line = AllowedOp W line.op

  abbrev AllowedOperation : Made → Type 0
  AllowedOperation o = Every AllowedLine o.code

  -- ---- lines

  lines_are : (w : Around) (ts : List StaticType) (ops : List Op) (lists : List (List Variable)) → Allowed W ops →
      Every AllowedLine (lines_of w ts ops lists)
  lines_are w ts [] lists k = tt
  lines_are w ts (o ∷ os) [] k = tt
  lines_are w ts (o ∷ os) (xs ∷ lists) k = (k.0, lines_are w (behind w ts o) os lists k.1)

  code_is : (w : Around) (ops : List Op) (code : List Line) → HasLines w ops code → Allowed W ops → Every AllowedLine code
  code_is w ops code h k = subst (λ z. Every AllowedLine z) (sym h.lines) (lines_are w [] ops h.lists k)

  -- ---- operations

  abbrev OperationAllowed : Operation → Type 0
  OperationAllowed o = AllAllowed W (made_of_block o.block)

  abbrev ConstantAllowed : Constant → Type 0
  ConstantAllowed c = AllAllowed W (made_of c.value)

  result_is : (o : Operation) → Allowed W (op.Rest (result_of o.has_result o.parameters) ∷ [])
  result_is o = by o.has_result
    where
      by : (b : Bool) → Allowed W (op.Rest (result_of b o.parameters) ∷ [])
      by true = (tt, tt)
      by false = (tt, tt)

  leave_is : (k : Kind) (o : Operation) → Allowed W (op.Rest (leave_row k o) ∷ [])
  leave_is kind.Named o = result_is o
  leave_is kind.Initial o = (tt, tt)
  leave_is kind.Process o = (tt, tt)

  module _ (s : Source) (literals : List (List ℕ)) where
    operation_is : (captured : ℕ) (o : Operation) → OperationAllowed o → Allowed W (operation_ops s captured literals o)
    operation_is captured o n =
        let ends : Allowed W (leave_ops o) = leave_is o.kind o in (
          tt,
          both W (default_ops s captured literals o) ((body_done s captured literals o).code 0 ++ leave_ops o)
              (defaults_are W s captured o.variables literals (leave_ops o) ends o.parameters (drop o.parameters o.variables))
              (both W ((body_done s captured literals o).code 0) (leave_ops o)
              (block_is W s captured o.variables literals (leave_ops o) ends o.block n 0) ends),
        )

    constants_are : (n : ℕ) (cs : List Constant) → Every ConstantAllowed cs → Allowed W (constant_ops s literals n cs)
    constants_are n [] h = (tt, tt)
    constants_are n (c ∷ cs) h =
        let k = expression_is W s 0 0 literals c.value h.0 in
        both W ((emitted s 0 0 literals c.value).code 0) _ (k.code 0) (tt, constants_are (suc n) cs h.1)

  -- ---- operations of a program

  module _ (s : Source) where
    abbrev texts : List (List ℕ)
    texts = literals_of s.core

    each_is : (os : List Operation) (made : List Made) → Every OperationAllowed os → AllTwo (IsOperationOf s) os made →
        Every AllowedOperation made
    each_is [] [] n h = tt
    each_is (o ∷ os) (m ∷ ms) n h =
        let is = h.0 in (
          code_is (around s (class_of_operation s o) o.variables)
              (operation_ops s (captured_by s (class_of_operation s o)) texts o) m.code is.code
              (operation_is s texts (captured_by s (class_of_operation s o)) o n.0),
          each_is os ms n.1 h.1,
        )
    each_is [] (m ∷ ms) n h = absurd h
    each_is (o ∷ os) [] n h = absurd h

    operations_are : (made : List Made) → Every OperationAllowed s.core.operations → Every ConstantAllowed s.core.constants →
        AreOperationsOf s made → Every AllowedOperation made
    operations_are [] n g h = absurd h
    operations_are (m ∷ ms) n g h =
        let is = h.0 in (
          code_is _ (program_ops s texts) m.code is.code (tt, constants_are s texts 0 s.core.constants g),
          each_is s.core.operations ms n h.1,
        )

  -- ---- the types that code makes

  stop_made : (x : Stop) → AllowedStop W x → Where W (made_at x)
  stop_made (stop.NewVector of line) h = h
  stop_made _ h = tt

  op_made : (o : Op) → AllowedOp W o → Where W (made_by o)
  op_made (op.Rest row) h = stop_made row.stop h
  op_made _ h = tt

  abbrev AllIn : List VectorType → Type 0
  AllIn types = (x : VectorType) → Has types x → W x

  type_in : (types : List VectorType) (of : VectorType) → AllIn types → W of → AllIn (with_type types of)
  type_in types of all h = by (has_type types of)
    where
      by : (b : Bool) → AllIn (if b then types else types ++ of ∷ [])
      by true = all
      by false = λ x k. ⊎_elim
          (λ (i : Has types x). all x i)
          (λ (i : Has (of ∷ []) x). subst W (sym (has_one of x i)) h)
          (has_either x types (of ∷ []) k)

  made_in : (types : List VectorType) (made : Option VectorType) → AllIn types → Where W made → AllIn (with_made types made)
  made_in types None all h = all
  made_in types (Some of) all h = type_in types of all h

  lines_in : (types : List VectorType) (lines : List Line) → AllIn types → Every AllowedLine lines → AllIn (with_lines types lines)
  lines_in types [] all h = all
  lines_in types (line ∷ rest) all h =
      lines_in (with_made types (made_on line)) rest (made_in types (made_on line) all (op_made line.op h.0)) h.1

  operations_in : (types : List VectorType) (os : List Made) → AllIn types → Every AllowedOperation os →
      AllIn (with_operations types os)
  operations_in types [] all h = all
  operations_in types (o ∷ os) all h = operations_in (with_lines types o.code) os (lines_in types o.code all h.0) h.1

-- ---- programs

abbrev Within : List Token → List Text → StaticType → Type 0
Within tokens names t = Has (written_vectors names tokens) (vector_type t)

module _ (tokens : List Token) (program : Program) (s : Source) (p : Parts) (tree : HasTree tokens program)
    (h : HasCore program s.table s.core) (lowered : IsLowered s p) where
  abbrev names : List Text
  names = s.table.names

  tied : IsTied s.table program s.core
  tied =
      subst (λ (c : Core). IsTied s.table program c) (sym h.resolved)
      (program_tied s.table program h.accepted (text_has_targets tokens program tree))

  core_is : Every (ConstantFits (Within tokens) names) s.core.constants
      × MadeFits (Within tokens) names (record { classes = s.core.classes; operations = s.core.operations })
  core_is = constants (Within tokens) tied (text_writes names tokens program tree)

  abbrev IsWithin : VectorType → Type 0
  IsWithin of = Has (written_vectors names tokens) of

  pub makes_written : (of : VectorType) → Has (vector_types p) of → Has (written_vectors names tokens) of
  makes_written =
      operations_in IsWithin [] p.operations (λ x k. absurd (has_none x k))
      (operations_are IsWithin s p.operations core_is.1 core_is.0 lowered.operations)
