-- The static faults of a tree, ordered by place, then by rule. Each rule stands in a file of its own (Names, Doubled,
-- EndNames, Operands, Calls, Assignments, Conditions, Attached, Exits, Limits) and says of one part of the tree which
-- faults this part has, from the types of the parts within it; Judging.antt joins the faults of a part with those within
-- it, and Tree.antt goes over the tree.
use Rattle.std.specs.Prelude.{◌≡◌, List, [], ◌∷◌, ◌++◌, map, Option}
use Rattle.ec_ast.specs.declared.Name.{Name}
use Rattle.ec_ast.specs.declared.Program.{Program}
use Rattle.ec_ast.specs.declared.TypeName.{TypeName}
use Rattle.ec_ast.specs.declared.Typeobject.{Typeobject}
use Rattle.ec_types.specs.Declarations.{declarations_of}
use Rattle.ec_types.specs.Table.{Table, IsTable}
use Rattle.ec_types.specs.Types.{number_at}
use Rattle.ec_rules.specs.declared.StaticFault.{StaticFault}
use Rattle.ec_rules.specs.declared.judged.Done.{Done}
use Rattle.ec_rules.specs.Doubled.{doubled, doubled_in_typeobject}
use Rattle.ec_rules.specs.EndNames.{end_of_typeobject, name_of_constant}
use Rattle.ec_rules.specs.Judging.{faults_in_holder, type_faults}
use Rattle.ec_rules.specs.Limits.{too_large}
use Rattle.ec_rules.specs.Lists.{each, each_of}
use Rattle.ec_rules.specs.Members.{constant_type}
use Rattle.ec_rules.specs.Names.{unknown_in_signature, unknown_types}
use Rattle.ec_rules.specs.Operands.{wrong_constant}
use Rattle.ec_rules.specs.Parts.{ValuePart, expression, class, typeobject, ConstantPart, faults_in, value_in}
use Rattle.ec_rules.specs.Rules.{in_order}
use Rattle.ec_rules.specs.Statements.{nothing_done, done_both, done_of}
use Rattle.ec_rules.specs.Tree.{constant_parts}
use Rattle.ec_types.specs.declared.scopes.globals.Global.{Global}
use Rattle.ec_types.specs.declared.scopes.globals.Meaning.{Meaning}
use Rattle.ec_types.specs.declared.scopes.globals.Meaning.TheVariants as means
use Rattle.ec_types.specs.declared.scopes.scope.Scope.{Scope}
use Rattle.ec_types.specs.Scopes.{written_in}

-- ---- the scope of a program

abbrev pub meaning_of : Scope → Option TypeName → ValuePart → Meaning
meaning_of scope of (expression e) = means.Value (constant_type scope of e.form)
meaning_of scope of (class holder) = means.Class (record {
  number = number_at scope.table.places holder.name.at.from;
  parameters = map (λ p. written_in scope p.of) holder.parameters;
})
meaning_of scope of (typeobject t) = means.Typeobject

abbrev pub globals_in : Scope → List ConstantPart → List Global
globals_in scope constants = map (λ c. record { name = c.name.text; meaning = meaning_of scope c.of c.value }) constants

abbrev pub scope_with : Table → List Global → Scope
scope_with table globals = record { table = table; globals = globals; objects = [] }

-- with the names of the constants: which are those of values and which those of classes; creations have no types yet
abbrev pub scope_of_names : Table → List ConstantPart → Scope
scope_of_names table constants = scope_with table (globals_in (scope_with table []) constants)

-- The scope of the constants' values. The constants are in scope everywhere.
abbrev pub scope_of_program : Table → List ConstantPart → Scope
scope_of_program table constants = scope_with table (globals_in (scope_of_names table constants) constants)

-- ---- faults

abbrev pub faults_in_typeobject : Scope → Typeobject → List StaticFault
faults_in_typeobject scope t =
    each (unknown_in_signature scope.table) t.operations
    ++ (type_faults scope.table t.name ++ (doubled_in_typeobject t ++ end_of_typeobject t))

abbrev pub faults_in_constant : Scope → Name → Option TypeName → ValuePart → List StaticFault
faults_in_constant scope name of (expression e) =
    faults_in scope e ++ (each_of (unknown_types scope.table) of ++ wrong_constant scope name of e)
faults_in_constant scope name of (class holder) = faults_in_holder scope holder ++ name_of_constant name holder.name
faults_in_constant scope name of (typeobject t) = faults_in_typeobject scope t ++ name_of_constant name t.name

abbrev pub value_done : Scope → ValuePart → Done
value_done scope (expression e) = done_of (value_in scope e)
value_done scope (class holder) = nothing_done
value_done scope (typeobject t) = nothing_done

-- The program's own operation 0 consists of the values of its constants.
abbrev pub constants_done : Scope → List ConstantPart → Done
constants_done scope [] = nothing_done
constants_done scope (c ∷ cs) = done_both (value_done scope c.value) (constants_done scope cs)

-- Its place is the first token of the text, the first `const`.
abbrev pub too_large_program : Scope → List ConstantPart → List StaticFault
too_large_program scope [] = []
too_large_program scope (c ∷ cs) = too_large c.at 0 (constants_done scope (c ∷ cs))

-- all faults, by part and rule
abbrev pub faults_of_constants : Scope → List ConstantPart → List StaticFault
faults_of_constants scope constants =
    each (λ c. faults_in_constant scope c.name c.of c.value) constants
    ++ (doubled (map (λ c. c.name) constants) ++ too_large_program scope constants)

-- ---- of a program

abbrev pub faults_of_program : Table → Program → List StaticFault
faults_of_program table program =
    faults_of_constants (scope_of_program table (constant_parts program)) (constant_parts program)

-- The static faults of a program, by place, then by rule, with a table of its types.
abbrev pub StaticFaults : Table → Program → List StaticFault
StaticFaults table program = in_order (faults_of_program table program)

-- These are the static faults of a program, by place, then by rule.
abbrev pub HasFaults : Program → List StaticFault → Type 0
HasFaults program faults = (table : Table) × IsTable (declarations_of program) table × (StaticFaults table program ≡ faults)

-- the program breaks no static rule
abbrev pub IsAccepted : Program → Type 0
IsAccepted program = HasFaults program []
