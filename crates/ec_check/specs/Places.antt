-- Where the value is kept that a name means at a place of an accepted program.
use Rattle.std.specs.Prelude.{ℕ, zero, suc, List, [], map, Option, Some, None, if◌then◌else◌, slice_get}
use Rattle.ec_core.specs.declared.Place.{Place}
use Rattle.ec_core.specs.declared.Place.TheVariants.{Variable, Captured, Field, Constant}
use Rattle.ec_types.specs.declared.conform.static_type.StaticType.{StaticType}
use Rattle.ec_types.specs.declared.conform.static_type.StaticType.TheVariants.{Unknown}
use Rattle.ec_types.specs.Names.{Text, first_named}
use Rattle.ec_types.specs.declared.scopes.entries.Entry.{Entry}
use Rattle.ec_types.specs.declared.scopes.object.Object.{Object}
use Rattle.ec_types.specs.declared.scopes.scope.Found.{Found}
use Rattle.ec_types.specs.declared.scopes.scope.Found.TheVariants.{Held, Constant as FoundConstant, Nothing}
use Rattle.ec_types.specs.declared.scopes.scope.Scope.{Scope}
use Rattle.ec_types.specs.Scopes.{find, innermost, is_local, locals_of}

-- A place of a program: what is in scope there; the names that the own object captures, all of them; the numbers of the
-- parameters, the result and the locals in scope; and how many variables the operation has before the place.
pub record Env : Type 0 where
  pub scope : Scope
  pub captures : List Text
  pub numbers : List ℕ
  pub count : ℕ

-- ---- numbers by names

abbrev pub number_or : Option ℕ → ℕ
number_or None = 0
number_or (Some number) = number

-- the place of the first that has the name, from 0
abbrev pub number_named : List Text → Text → ℕ
number_named names name = number_or (first_named names name)

abbrev pub names_of : List Entry → List Text
names_of entries = map (λ e. e.name) entries

abbrev pub fields_of : Option Object → List Entry
fields_of None = []
fields_of (Some o) = o.fields

abbrev pub conditions_of : Option Object → List Text
conditions_of None = []
conditions_of (Some o) = o.conditions

abbrev pub number_at_or : List ℕ → ℕ → ℕ
number_at_or numbers at = number_or (slice_get numbers at)

-- ---- places

abbrev pub variable_named : Env → Text → ℕ
variable_named env name = number_at_or env.numbers (number_named (names_of (locals_of (innermost env.scope))) name)

abbrev pub constant_named : Env → Text → ℕ
constant_named env name = number_named (map (λ g. g.name) env.scope.globals) name

abbrev pub field_named : Env → Text → ℕ
field_named env name = number_named (names_of (fields_of (innermost env.scope))) name

abbrev pub condition_named : Env → Text → ℕ
condition_named env name = number_named (conditions_of (innermost env.scope)) name

abbrev pub own_place : Env → Text → Place
own_place env name =
    if is_local env.scope name then Variable (variable_named env name) else Field (field_named env name)

-- of something that is so many objects further out
abbrev pub held_place : Env → Text → ℕ → Place
held_place env name zero = own_place env name
held_place env name (suc out) = Captured (number_named env.captures name)

abbrev pub place_found : Env → Text → Found → Place
place_found env name (Held h) = held_place env name h.out
place_found env name (FoundConstant of) = Constant (constant_named env name)
place_found env name Nothing = Constant 0

abbrev pub place_of : Env → Text → Place
place_of env name = place_found env name (find env.scope name)

-- ---- types

abbrev pub type_or : Option StaticType → StaticType
type_or None = Unknown
type_or (Some of) = of

abbrev pub type_found : Found → StaticType
type_found (Held h) = type_or h.of
type_found (FoundConstant of) = type_or of
type_found Nothing = Unknown
