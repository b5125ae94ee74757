-- An operation that has its parts is that of the source.
use Rattle.std.proofs.Common.{◌≡◌, List, subst, ◌∙◌}
use Rattle.ec_code.specs.declared.code.Op.{Op}
use Rattle.ec_code.specs.declared.code.Operation.{Operation as Made}
use Rattle.ec_types.specs.declared.conform.static_type.StaticType.{StaticType}
use Rattle.ec_core.specs.declared.Operation.{Operation}
use Rattle.ec_emission.specs.Literals.{literals_of}
use Rattle.ec_emission.specs.Statements.{operation_ops}
use Rattle.ec_emission.specs.Lowered.{HasLines, IsOperationOf, around, class_of_operation, is_process}
use Rattle.ec_emission.specs.Lowered.{parameter_types, result_type}
use Rattle.ec_meaning.specs.Programs.{Source}
use Rattle.ec_meaning.specs.Steps.{captured_by}
use Rattle.ec_world.specs.declared.class.ClassNo.{ClassNo}

-- the steps of an operation of a class
abbrev steps_of : Source → Operation → ClassNo → List Op
steps_of s o class = operation_ops s (captured_by s class) (literals_of s.core) o

pub operation_made : (s : Source) (o : Operation) (made : Made) (class : ClassNo) (types : List StaticType)
    (ops : List Op) → class ≡ class_of_operation s o → types ≡ o.variables → ops ≡ steps_of s o class →
    made.class ≡ class → made.parameters ≡ parameter_types o → made.result ≡ result_type o.kind o →
    made.is_lowest ≡ is_process o.kind → made.variables ≡ o.variables → HasLines (around s class types) ops made.code →
    IsOperationOf s o made
operation_made s o made class types ops own of steps c p r l v code =
    let typed : HasLines (around s class o.variables) ops made.code =
    subst (λ (ts : List StaticType). HasLines (around s class ts) ops made.code) of code in
    let stepped : HasLines (around s class o.variables) (steps_of s o class) made.code =
    subst (λ (xs : List Op). HasLines (around s class o.variables) xs made.code) steps typed in
    record {
      class = c ∙ own;
      parameters = p;
      result = r;
      is_lowest = l;
      variables = v;
      code = subst
          (λ (k : ClassNo). HasLines (around s k o.variables) (steps_of s o k) made.code)
          own stepped;
    }
