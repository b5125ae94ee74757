-- A value doesn't conform to the type that its place takes, is a wrong operand, or is that of a const without a type that
-- needs one. The place is the first token of the expression, in a comparison of unlike operands that of the right one;
-- the type, where a view's is wrong; the const's name.
use Rattle.std.specs.Prelude.{Bool, true, not, ◌&&◌, ◌||◌, if◌then◌else◌, is_some, List, [], ◌∷◌, ◌++◌, map, Option, Some}
use Rattle.std.specs.Prelude.{None}
use Rattle.ec_ast.specs.declared.Additive.{Additive}
use Rattle.ec_ast.specs.declared.Additive.TheVariants.{Plus, Minus, Concat}
use Rattle.ec_ast.specs.declared.Comparison.{Comparison}
use Rattle.ec_ast.specs.declared.Comparison.TheVariants.{Same, NotSame, Equal, NotEqual, Less, LessEqual, More, MoreEqual}
use Rattle.ec_ast.specs.declared.Name.{Name}
use Rattle.ec_ast.specs.declared.Span.{Span}
use Rattle.ec_ast.specs.declared.TypeName.{TypeName}
use Rattle.ec_ast.specs.declared.Expression.TheOpen.{Expression-F, Statement-F}
use Rattle.ec_types.specs.Table.{Table, conforms}
use Rattle.ec_types.specs.Types.{is_reference_type, is_same_type, is_value, known}
use Rattle.ec_types.specs.declared.conform.static_type.StaticType.{StaticType}
use Rattle.ec_rules.specs.declared.Rule.TheVariants.{Mismatch}
use Rattle.ec_rules.specs.declared.StaticFault.{StaticFault}
use Rattle.ec_rules.specs.declared.judged.Added.{Added}
use Rattle.ec_rules.specs.declared.judged.Judged.{Judged}
use Rattle.ec_rules.specs.declared.operands.Wanted.{Wanted}
use Rattle.ec_rules.specs.declared.operands.Wanted.TheVariants.{Integer, Boolean, String, Reference}
use Rattle.ec_rules.specs.Lists.{each}
use Rattle.ec_rules.specs.Members.{form_type}
use Rattle.ec_rules.specs.Parts.{Part, AddendPart, MemberPart, variable, constant, condition, operation, AnExpression, AStatement}
use Rattle.ec_rules.specs.Parts.{value_in, values_in}
use Rattle.ec_rules.specs.Rules.{fault_unless, is_clean}
use Rattle.ec_rules.specs.Types.{integer, string, fits, type_place}
use Rattle.ec_types.specs.declared.scopes.scope.Scope.{Scope}
use Rattle.ec_types.specs.Scopes.{written_in}

-- ---- what a place takes

abbrev pub wants : Wanted → Judged → List StaticFault
wants wanted value = fault_unless (fits wanted value.of) Mismatch value.at

abbrev pub wants_all : Wanted → List Judged → List StaticFault
wants_all wanted values = each (wants wanted) values

-- Nothing that needs the type of an expression without one is a fault.
abbrev pub conforms_if : Table → Option StaticType → StaticType → Bool
conforms_if table None wanted = true
conforms_if table (Some of) wanted = conforms table of wanted

-- a value of a type that conforms to the wanted one
abbrev pub must_conform : Table → StaticType → Judged → List StaticFault
must_conform table wanted value = fault_unless (conforms_if table value.of wanted) Mismatch value.at

abbrev pub must_conform_if : Table → Option StaticType → Judged → List StaticFault
must_conform_if table None value = []
must_conform_if table (Some wanted) value = must_conform table wanted value

-- ---- sums

-- `+` and `-` take Integers and give one, `||` Strings.
abbrev pub operand_of : Additive → Wanted
operand_of Plus = Integer
operand_of Minus = Integer
operand_of Concat = String

abbrev pub result_type : Additive → StaticType
result_type Plus = integer
result_type Minus = integer
result_type Concat = string

-- The operands of one operator, of which the left one begins at a place.
abbrev pub addend_faults : Span → Option StaticType → Added → List StaticFault
addend_faults at left a = fault_unless (fits (operand_of a.operator) left) Mismatch at ++ wants (operand_of a.operator) a.value

abbrev pub is_clean_behind : Span → Bool → Option StaticType → Added → Bool
is_clean_behind at clean left a = clean && (is_clean (addend_faults at left a) && a.value.is_clean)

abbrev pub type_if : Bool → StaticType → Option StaticType
type_if clean of = if clean then Some of else None

-- The left operand of each operator is what stands before it, which has no type where a fault is within.
abbrev pub sum_faults : Span → Bool → Option StaticType → List Added → List StaticFault
sum_faults at clean left [] = []
sum_faults at clean left (a ∷ more) =
    addend_faults at left a
    ++ sum_faults at (is_clean_behind at clean left a) (type_if (is_clean_behind at clean left a) (result_type a.operator)) more

abbrev pub added_in : Scope → AddendPart → Added
added_in scope a = record { operator = a.operator; value = value_in scope a.value }

-- ---- comparisons

-- `= !=` take value types, `< <= > >=` Integers and Strings, `== !==` any.
abbrev pub can_compare : Comparison → StaticType → Bool
can_compare Same of = true
can_compare NotSame of = true
can_compare Equal of = is_value of
can_compare NotEqual of = is_value of
can_compare Less of = is_same_type integer of || is_same_type string of
can_compare LessEqual of = is_same_type integer of || is_same_type string of
can_compare More of = is_same_type integer of || is_same_type string of
can_compare MoreEqual of = is_same_type integer of || is_same_type string of

abbrev pub can_compare_if : Comparison → Option StaticType → Bool
can_compare_if op None = true
can_compare_if op (Some of) = can_compare op of

-- two of one value type, or two references
abbrev pub are_alike : StaticType → StaticType → Bool
are_alike a b = is_same_type a b || (is_reference_type a && is_reference_type b)

-- Where the left operand alone will do, the right one is to be like it.
abbrev pub is_like_left : Comparison → Option StaticType → StaticType → Bool
is_like_left op None right = true
is_like_left op (Some left) right = not (can_compare op left) || are_alike left right

abbrev pub right_fits : Comparison → Option StaticType → Option StaticType → Bool
right_fits op left None = true
right_fits op left (Some right) = can_compare op right && is_like_left op left right

-- Where the left operand can never do, the fault stands there. The right one is wrong where it can never do, or isn't
-- like the left one.
abbrev pub comparison_faults : Comparison → Judged → Judged → List StaticFault
comparison_faults op left right =
    fault_unless (can_compare_if op left.of) Mismatch left.at ++ fault_unless (right_fits op left.of right.of) Mismatch right.at

-- ---- expressions

abbrev pub wrong_in_expression : Scope → AnExpression → List StaticFault
wrong_in_expression scope (Expression-F.NodeAt number at word) = wants Integer (value_in scope number)
wrong_in_expression scope (Expression-F.NewVector of size at word) = wants Integer (value_in scope size)
wrong_in_expression scope (Expression-F.Negative e at) = wants Integer (value_in scope e)
wrong_in_expression scope (Expression-F.View e of at) =
    wants Reference (value_in scope e) ++ fault_unless (fits Reference (known (written_in scope of))) Mismatch (type_place of)
wrong_in_expression scope (Expression-F.IsFixed e at) = wants Reference (value_in scope e)
wrong_in_expression scope (Expression-F.Term first factors) =
    wants_all Integer (value_in scope first ∷ map (λ f. value_in scope f.value) factors)
wrong_in_expression scope (Expression-F.Sum first addends) =
    sum_faults first.at (value_in scope first).is_clean (value_in scope first).of (map (added_in scope) addends)
wrong_in_expression scope (Expression-F.Compare left op at right) =
    comparison_faults op (value_in scope left) (value_in scope right)
wrong_in_expression scope (Expression-F.Not e at) = wants Boolean (value_in scope e)
wrong_in_expression scope (Expression-F.And first more) = wants_all Boolean (values_in scope (first ∷ more))
wrong_in_expression scope (Expression-F.Or first more) = wants_all Boolean (values_in scope (first ∷ more))
wrong_in_expression scope _ = []

-- ---- declarations

-- A const without a type has a value whose form names one.
abbrev pub wrong_constant : Scope → Name → Option TypeName → Part → List StaticFault
wrong_constant scope name None value = fault_unless (is_some (form_type scope value.form)) Mismatch name.at
wrong_constant scope name (Some of) value = must_conform scope.table (written_in scope of) (value_in scope value)

abbrev pub wrong_variable : Scope → TypeName → Option Part → List StaticFault
wrong_variable scope of None = []
wrong_variable scope of (Some value) = must_conform scope.table (written_in scope of) (value_in scope value)

-- in the scope of the body
abbrev pub wrong_in_member : Scope → MemberPart → List StaticFault
wrong_in_member scope (variable is_attached name of value) = wrong_variable scope of value
wrong_in_member scope (constant is_attached name of value) = wrong_constant scope name of value
wrong_in_member scope (condition name) = []
wrong_in_member scope (operation o) = []

-- ---- statements

abbrev pub wants_in_exit : Scope → Option Part → List StaticFault
wants_in_exit scope None = []
wants_in_exit scope (Some when) = wants Boolean (value_in scope when)

-- The condition of an arm is judged with the arm (`tested` in Statements.antt).
abbrev pub wrong_in_statement : Scope → AStatement → List StaticFault
wrong_in_statement scope (Statement-F.LocalVariable name of value) = wrong_variable scope of value
wrong_in_statement scope (Statement-F.LocalConstant name of value) = wrong_constant scope name of value
wrong_in_statement scope (Statement-F.Assign target value) =
    must_conform_if scope.table (value_in scope target).of (value_in scope value)
wrong_in_statement scope (Statement-F.Print e at) = wants String (value_in scope e)
wrong_in_statement scope (Statement-F.Exit when at) = wants_in_exit scope when
wrong_in_statement scope (Statement-F.Assert e at) = wants Boolean (value_in scope e)
wrong_in_statement scope (Statement-F.Move x to at) = wants_all Reference (value_in scope x ∷ value_in scope to ∷ [])
wrong_in_statement scope (Statement-F.Fix x place at) = wants_all Reference (value_in scope x ∷ value_in scope place ∷ [])
wrong_in_statement scope (Statement-F.Refix x place at) = wants_all Reference (value_in scope x ∷ value_in scope place ∷ [])
wrong_in_statement scope (Statement-F.Unfix x at) = wants Reference (value_in scope x)
wrong_in_statement scope _ = []
