-- What a name stands for in the core, at a place of the text.
use Rattle.std.specs.Prelude.{◌≡◌, ℕ, suc, ◌+◌, false, List, [], ◌∷◌, ◌++◌, map, Option, Some, slice_get}
use Rattle.ec_check.specs.Places.{Env}
use Rattle.ec_types.specs.declared.conform.static_type.StaticType.{StaticType}
use Rattle.ec_core.specs.declared.Place.{Place}
use Rattle.ec_core.specs.declared.Place.TheVariants as place
use Rattle.ec_types.specs.Names.{Text, first_named, has_name}
use Rattle.ec_types.specs.declared.scopes.entries.Entry.{Entry}
use Rattle.ec_types.specs.declared.scopes.object.Object.{Object}
use Rattle.ec_types.specs.declared.scopes.scope.Found.TheVariants as found
use Rattle.ec_types.specs.declared.scopes.scope.Held.{Held}
use Rattle.ec_types.specs.Scopes.{declaring, find, innermost}

-- A place of the text is an `Env`: what is in scope there; the names that the own object captures, in the order of first use;
-- the numbers of the locals in scope, in the order of their declarations; and how many variables the operation has before it.

abbrev pub names_in : List Entry → List Text
names_in entries = map (λ e. e.name) entries

-- Declarations are numbered in their order, from a number on.
abbrev pub numbered : ℕ → List Entry → List ℕ
numbered n [] = []
numbered n (e ∷ es) = n ∷ numbered (suc n) es

-- Behind declarations, with so many variables more: their names are in scope, and the number of each is how many variables the
-- operation has before it.
abbrev pub behind : Env → List Entry → ℕ → Env
behind env entries more = record {
  scope = declaring entries env.scope;
  captures = env.captures;
  numbers = env.numbers ++ numbered env.count entries;
  count = env.count + more;
}

-- with so many variables more, whose names are out of scope
abbrev pub further : Env → ℕ → Env
further env more = record env { count = env.count + more }

-- A field of the own object has this name and this number, in the order of its declarations.
pub record IsField (env : Env) (name : Text) (n : ℕ) : Type 0 where
  pub object : Object
  pub own : innermost env.scope ≡ Some object
  pub number : first_named (names_in object.fields) name ≡ Some n

-- A condition of the own object has this name and this number, in the order of its declarations.
pub record IsCondition (env : Env) (name : Text) (n : ℕ) : Type 0 where
  pub object : Object
  pub own : innermost env.scope ≡ Some object
  pub number : first_named object.conditions name ≡ Some n

-- A local of the own operation has this name and this number.
pub record IsLocal (env : Env) (name : Text) (n : ℕ) : Type 0 where
  pub object : Object
  pub at : ℕ
  pub own : innermost env.scope ≡ Some object
  pub declared : first_named (names_in object.locals) name ≡ Some at
  pub number : slice_get env.numbers at ≡ Some n

-- No local of the own operation has this name.
pub record IsNoLocal (env : Env) (name : Text) : Type 0 where
  pub object : Object
  pub own : innermost env.scope ≡ Some object
  pub absent : has_name (names_in object.locals) name ≡ false

-- What a name means at a place is kept there: a local or a field of the own object; what is further out, among the captured
-- names; a constant of the program, by its number among all. A name that means nothing stands for nothing.
pub data StandsFor (env : Env) (name : Text) : Place → Type 0 where
  local : {h : Held} {n : ℕ} → find env.scope name ≡ found.Held h → h.out ≡ 0 → IsLocal env name n →
      StandsFor env name (place.Variable n)
  field : {h : Held} {n : ℕ} → find env.scope name ≡ found.Held h → h.out ≡ 0 → IsNoLocal env name → IsField env name n →
      StandsFor env name (place.Field n)
  captured : {h : Held} {further n : ℕ} → find env.scope name ≡ found.Held h → h.out ≡ suc further →
      first_named env.captures name ≡ Some n → StandsFor env name (place.Captured n)
  constant : {of : Option StaticType} {n : ℕ} → find env.scope name ≡ found.Constant of →
      first_named (map (λ g. g.name) env.scope.globals) name ≡ Some n → StandsFor env name (place.Constant n)

-- each name in its turn
pub data AreFor (env : Env) : List Text → List Place → Type 0 where
  none : AreFor env [] []
  more : {name : Text} {at : Place} {names : List Text} {places : List Place} → StandsFor env name at → AreFor env names places →
      AreFor env (name ∷ names) (at ∷ places)
