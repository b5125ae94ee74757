-- The core of a whole program.
use Rattle.std.specs.Prelude.{ℕ, suc, List, [], ◌∷◌, ◌++◌}
use Rattle.ec_ast.specs.declared.Constant.{Constant as ConstantTree}
use Rattle.ec_ast.specs.declared.ConstantValue.{ConstantValue}
use Rattle.ec_ast.specs.declared.ConstantValue.TheVariants as stands
use Rattle.ec_ast.specs.declared.Program.{Program}
use Rattle.ec_check.specs.Parts.{Made, both_made, nothing_made}
use Rattle.ec_check.specs.Places.{Env, type_or}
use Rattle.ec_check.specs.Resolving.{env_in, holder_made}
use Rattle.ec_check.specs.Tree.{class_part, part_of}
use Rattle.ec_check.specs.Typing.{Types, holder_within, types_in}
use Rattle.ec_types.specs.Table.{Table}
use Rattle.ec_core.specs.declared.Constant.{Constant}
use Rattle.ec_core.specs.declared.Core.{Core}
use Rattle.ec_rules.specs.Faults.{scope_of_program}
use Rattle.ec_rules.specs.Lists.{each}
use Rattle.ec_rules.specs.Members.{constant_type}
use Rattle.ec_rules.specs.Tree.{constant_parts}
use Rattle.ec_types.specs.declared.scopes.scope.Scope.{Scope}

-- A constant with a value, by its number among all; classes and typeobjects have none.
abbrev pub constant_core : Env → ℕ → ConstantTree → ConstantValue → List Constant
constant_core env number c (stands.Expression x) =
    record {
      number = number;
      of = type_or (constant_type env.scope c.of (part_of x).part.form);
      value = (part_of x).core env;
    } ∷ []
constant_core env number c (stands.Class class) = []
constant_core env number c (stands.Typeobject t) = []

abbrev pub constant_made : Scope → ConstantValue → Made
constant_made scope (stands.Expression x) = (part_of x).made scope
constant_made scope (stands.Class class) = holder_made scope (class_part class)
constant_made scope (stands.Typeobject t) = nothing_made

-- from this number on
abbrev pub constants_core : Env → ℕ → List ConstantTree → List Constant
constants_core env number [] = []
constants_core env number (c ∷ cs) = constant_core env number c c.value ++ constants_core env (suc number) cs

abbrev pub constants_made : Scope → List ConstantTree → Made
constants_made scope [] = nothing_made
constants_made scope (c ∷ cs) = both_made (constant_made scope c.value) (constants_made scope cs)

-- the scope of the constants' values
abbrev pub outermost : Table → Program → Scope
outermost table program = scope_of_program table (constant_parts program)

-- The types of all expressions of a program with this table of types.
abbrev pub value_within : Scope → ConstantValue → Types
value_within scope (stands.Expression x) = types_in scope (part_of x)
value_within scope (stands.Class class) = holder_within scope (class_part class)
value_within scope (stands.Typeobject t) = []

abbrev pub types_of_program : Table → Program → Types
types_of_program table program = each (λ (c : ConstantTree). value_within (outermost table program) c.value) program.constants

-- the core of constants, in the scope of their values
abbrev pub core_in : Scope → List ConstantTree → Core
core_in scope constants = record {
  constants = constants_core (env_in scope []) 0 constants;
  classes = (constants_made scope constants).classes;
  operations = (constants_made scope constants).operations;
}

-- The core of a program with this table of types.
abbrev pub core_of : Table → Program → Core
core_of table program = core_in (outermost table program) program.constants
