-- What is in scope at a place of a program, and what a name means there.
use Rattle.std.specs.Prelude.{ℕ, Bool, true, false, not, ◌&&◌, if◌then◌else◌, List, [], ◌∷◌, ◌++◌, length, map, Option, Some, None, take}
use Rattle.ec_ast.specs.declared.TypeName.{TypeName}
use Rattle.ec_base.specs.Stack.{top_of, below_of}
use Rattle.ec_types.specs.Types.{operation_named, type_of}
use Rattle.ec_types.specs.declared.conform.operations.NamedOperation.{NamedOperation}
use Rattle.ec_types.specs.declared.conform.static_type.StaticType.{StaticType}
use Rattle.ec_types.specs.Names.{Text, has_name, is_same}
use Rattle.ec_types.specs.declared.scopes.globals.ClassMeant.{ClassMeant}
use Rattle.ec_types.specs.declared.scopes.entries.Entry.{Entry}
use Rattle.ec_types.specs.declared.scopes.scope.Found.{Found}
use Rattle.ec_types.specs.declared.scopes.scope.Found.TheVariants.{Held, Constant, Nothing}
use Rattle.ec_types.specs.declared.scopes.globals.Global.{Global}
use Rattle.ec_types.specs.declared.scopes.globals.Meaning.{Meaning}
use Rattle.ec_types.specs.declared.scopes.globals.Meaning.TheVariants as means
use Rattle.ec_types.specs.declared.scopes.object.Object.{Object}
use Rattle.ec_types.specs.declared.scopes.scope.Scope.{Scope}

-- the type that is written so, in a program
abbrev pub written_in : Scope → TypeName → StaticType
written_in scope of = type_of scope.table.names of

-- ---- what a name means

-- A doubled name means the first of its declarations.
abbrev pub entry_named : List Entry → Text → Option Entry
entry_named [] name = None
entry_named (e ∷ es) name = if is_same e.name name then Some e else entry_named es name

abbrev pub meaning_named : List Global → Text → Option Meaning
meaning_named [] name = None
meaning_named (g ∷ gs) name = if is_same g.name name then Some g.meaning else meaning_named gs name

-- The name of a constant that is a class or a typeobject isn't a value.
abbrev pub found_meaning : Option Meaning → Found
found_meaning None = Nothing
found_meaning (Some (means.Value of)) = Constant of
found_meaning (Some (means.Class c)) = Nothing
found_meaning (Some means.Typeobject) = Nothing

abbrev pub held_or : ℕ → Option Entry → Found → Found
held_or out None further = further
held_or out (Some e) further = Held (record { out = out; of = e.of; is_variable = e.is_variable })

-- The objects are those around a place, the outermost first. What the name means further out is given.
abbrev pub found_within : Text → Found → List Object → Found
found_within name further [] = further
found_within name further (o ∷ os) = found_within name (held_or (length os) (entry_named (o.locals ++ o.fields) name) further) os

-- The nearest of: locals, parameters and result in scope; fields, and parameters of a class; the same of surrounding
-- object constructors; constants of the program.
abbrev pub find : Scope → Text → Found
find scope name = found_within name (found_meaning (meaning_named scope.globals name)) scope.objects

-- ---- classes

abbrev pub class_meant : Option Meaning → Option ClassMeant
class_meant None = None
class_meant (Some (means.Value of)) = None
class_meant (Some (means.Class c)) = Some c
class_meant (Some means.Typeobject) = None

abbrev pub unless_value : Found → Option ClassMeant → Option ClassMeant
unless_value (Held h) c = None
unless_value (Constant of) c = None
unless_value Nothing c = c

-- the class of `NAME.create`: the name isn't a value, and is a class
abbrev pub class_named : Scope → Text → Option ClassMeant
class_named scope name = unless_value (find scope name) (class_meant (meaning_named scope.globals name))

-- ---- the innermost object

abbrev pub innermost : Scope → Option Object
innermost scope = top_of scope.objects

abbrev pub locals_of : Option Object → List Entry
locals_of None = []
locals_of (Some o) = o.locals

-- a parameter, a result or a local of the operation, in scope, has that name
abbrev pub is_local : Scope → Text → Bool
is_local scope name = has_name (map (λ e. e.name) (locals_of (innermost scope))) name

-- A local of that name hides nothing: the name is looked up among the conditions alone. No process section waits or signals.
abbrev pub may_use_in : Option Object → Text → Bool
may_use_in None name = false
may_use_in (Some o) name = o.is_monitored && (not o.in_process && has_name o.conditions name)

-- `wait` and `signal` may name it: a condition of the directly enclosing monitored object
abbrev pub may_use : Scope → Text → Bool
may_use scope name = may_use_in (innermost scope) name

abbrev pub in_loop_of : Option Object → Bool
in_loop_of None = false
in_loop_of (Some o) = o.in_loop

abbrev pub is_in_loop : Scope → Bool
is_in_loop scope = in_loop_of (innermost scope)

abbrev pub own_operation_of : Option Object → Text → Option NamedOperation
own_operation_of None name = None
own_operation_of (Some o) name = operation_named o.operations name

-- the operation of the enclosing object, exported or not
abbrev pub own_operation : Scope → Text → Option NamedOperation
own_operation scope name = own_operation_of (innermost scope) name

-- ---- scopes within scopes

-- in one more object constructor or class
abbrev pub within : Scope → Object → Scope
within scope object = record scope { objects = scope.objects ++ object ∷ [] }

-- outside the innermost object
abbrev pub outside : Scope → Scope
outside scope = record scope { objects = below_of scope.objects }

abbrev pub change_innermost : (Object → Object) → List Object → List Object
change_innermost f [] = []
change_innermost f (o ∷ []) = f o ∷ []
change_innermost f (o ∷ p ∷ os) = o ∷ change_innermost f (p ∷ os)

abbrev pub with_locals : List Entry → Object → Object
with_locals more object = record object { locals = object.locals ++ more }

abbrev pub at_loop : Bool → Object → Object
at_loop is_in_loop object = record object { in_loop = is_in_loop }

abbrev pub at_process : Object → Object
at_process object = record object { in_process = true }

-- the scope behind declarations
abbrev pub declaring : List Entry → Scope → Scope
declaring entries scope = record scope { objects = change_innermost (with_locals entries) scope.objects }

-- the scope in a loop
abbrev pub in_a_loop : Scope → Scope
in_a_loop scope = record scope { objects = change_innermost (at_loop true) scope.objects }

-- the scope in a process section
abbrev pub in_a_process : Scope → Scope
in_a_process scope = record scope { objects = change_innermost at_process scope.objects }

-- the scope in a loop, or out of it
abbrev pub looping : Bool → Scope → Scope
looping is_in_loop scope = record scope { objects = change_innermost (at_loop is_in_loop) scope.objects }

abbrev pub first_locals : ℕ → Object → Object
first_locals count object = record object { locals = take count object.locals }

-- the scope with the first so many declarations alone
abbrev pub forgetting : ℕ → Scope → Scope
forgetting count scope = record scope { objects = change_innermost (first_locals count) scope.objects }
