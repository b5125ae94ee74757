-- What is found of the constants of a program, and of the whole of it.
use Rattle.std.specs.Prelude.{List, [], ◌∷◌, ◌++◌, map, Option}
use Rattle.ec_ast.specs.declared.Name.{Name}
use Rattle.ec_ast.specs.declared.TypeName.{TypeName}
use Rattle.ec_ast.specs.declared.Typeobject.{Typeobject}
use Rattle.ec_types.specs.Table.{Table}
use Rattle.ec_judge.specs.Blocks.{wrong_constant}
use Rattle.ec_judge.specs.Walks.{walked}
use Rattle.ec_judge.specs.declared.walk.Walk.{Walk}
use Rattle.ec_rules.specs.Captures.{uses_outside}
use Rattle.ec_rules.specs.Doubled.{doubled, doubled_in_typeobject}
use Rattle.ec_rules.specs.EndNames.{end_of_typeobject, name_of_constant}
use Rattle.ec_rules.specs.Faults.{faults_in_constant}
use Rattle.ec_rules.specs.Forms.{Form}
use Rattle.ec_rules.specs.Judging.{faults_in_holder, type_faults, uses_within}
use Rattle.ec_rules.specs.Limits.{too_large}
use Rattle.ec_rules.specs.Lists.{each, each_of}
use Rattle.ec_rules.specs.Names.{unknown_in_signature, unknown_types}
use Rattle.ec_rules.specs.Parts.{ConstantPart, Holder}
use Rattle.ec_rules.specs.declared.StaticFault.{StaticFault}
use Rattle.ec_rules.specs.declared.judged.Done.{Done}
use Rattle.ec_rules.specs.declared.judged.Judged.{Judged}
use Rattle.ec_types.specs.declared.scopes.scope.Scope.{Scope}

-- ---- constants, where their values are known

abbrev pub value_faults : Scope → Name → Option TypeName → Form → Judged → List StaticFault
value_faults scope name of form value = each_of (unknown_types scope.table) of ++ wrong_constant scope name of form value

abbrev pub behind_class : Walk → Name → Holder → Walk
behind_class walk name holder =
    walked walk (faults_in_holder walk.scope holder ++ name_of_constant name holder.name) (uses_outside (uses_within walk.scope holder))

abbrev pub typeobject_faults : Table → Name → Typeobject → List StaticFault
typeobject_faults table name t =
    (each (unknown_in_signature table) t.operations ++ (type_faults table t.name ++ (doubled_in_typeobject t ++ end_of_typeobject t)))
    ++ name_of_constant name t.name

abbrev pub faults_of : Scope → ConstantPart → List StaticFault
faults_of scope c = faults_in_constant scope c.name c.of c.value

-- ---- the program

abbrev pub too_large_program : List ConstantPart → Done → List StaticFault
too_large_program [] done = []
too_large_program (c ∷ cs) done = too_large c.at 0 done

abbrev pub program_faults : List ConstantPart → Done → List StaticFault
program_faults constants done = doubled (map (λ c. c.name) constants) ++ too_large_program constants done
