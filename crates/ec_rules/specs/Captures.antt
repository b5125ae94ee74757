-- The names that an expression uses, and those that an object constructor captures: of parameters, results, locals and
-- fields of what surrounds it.
use Rattle.std.specs.Prelude.{ℕ, zero, suc, ◌==◌, ◌||◌, if◌then◌else◌, List, [], ◌∷◌, ◌++◌}
use Rattle.ec_ast.specs.declared.Name.{Name}
use Rattle.ec_types.specs.Names.{Text, has_name}
use Rattle.ec_rules.specs.declared.captures.Use.{Use as UseLent}
use Rattle.ec_types.specs.declared.scopes.scope.Found.{Found}
use Rattle.ec_types.specs.declared.scopes.scope.Found.TheVariants.{Held, Constant, Nothing}
use Rattle.ec_rules.specs.Lists.{each}

-- A name that is used for a parameter, result, local or field of the object so many further out.
pub record Use : Type 0 where
  pub name : Name
  pub out : ℕ

-- the same with the name that is lent
abbrev pub use_seen : UseLent → Use
use_seen u = record { name = u.name.now; out = u.out }

abbrev pub use_of : Name → Found → List Use
use_of name (Held h) = record { name = name; out = h.out } ∷ []
use_of name (Constant of) = []
use_of name Nothing = []

-- ---- captured names

-- the names of what surrounds it, each once, in the order of first use
abbrev pub captured_behind : List Text → List Use → List Text
captured_behind taken [] = taken
captured_behind taken (u ∷ us) =
    captured_behind (if (u.out == 0) || has_name taken u.name.text then taken else (taken ++ u.name.text ∷ [])) us

-- from all names that are used within an object constructor
abbrev pub captured : List Use → List Text
captured uses = captured_behind [] uses

-- what a use within an object constructor is to what surrounds it
abbrev pub use_outside : Name → ℕ → List Use
use_outside name zero = []
use_outside name (suc out) = record { name = name; out = out } ∷ []

abbrev pub uses_outside : List Use → List Use
uses_outside uses = each (λ u. use_outside u.name u.out) uses
