-- What the making of a part leaves behind.
use Rattle.std.specs.Prelude.{◌≡◌, List, ◌++◌, length}
use Rattle.ec_ast.specs.declared.Body.{Body}
use Rattle.ec_check.specs.Parts.{Holder, Made, both_made}
use Rattle.ec_check.specs.Places.{Env}
use Rattle.ec_check.specs.Tree.{body_of}
use Rattle.ec_check.specs.declared.resolver.Resolver.{Resolver}
use Rattle.ec_check.specs.declared.resolver.Made.{Made as MadeLent}
use Rattle.ec_types.specs.declared.conform.static_type.StaticType.{StaticType}
use Rattle.ec_judge.specs.Holders.{holder_with}
use Rattle.ec_judge.specs.declared.holders.Heading.{Heading}

abbrev pub env_of : Resolver → Env
env_of r = record {
  scope = r.walk.scope;
  captures = r.captures;
  numbers = r.variables.numbers.items;
  count = length r.variables.types;
}

abbrev pub made_of : MadeLent → Made
made_of m = record { classes = m.classes; operations = m.operations }

abbrev pub holder_of : Heading → Body → Holder
holder_of heading body = holder_with heading (body_of body)

-- The place is another, with more variables of the operation, and more was made.
pub record HasGone (old new : Resolver) (env : Env) (locals : List StaticType) (more : Made) : Type 0 where
  pub place : env_of new ≡ env
  pub types : new.variables.types ≡ old.variables.types ++ locals
  pub made : made_of new.made ≡ both_made (made_of old.made) more

-- The place is as it was, and more was made.
pub record HasMade (old new : Resolver) (more : Made) : Type 0 where
  pub place : env_of new ≡ env_of old
  pub types : new.variables.types ≡ old.variables.types
  pub made : made_of new.made ≡ both_made (made_of old.made) more
