-- What the folds over a written type say of its forms.
use Rattle.std.proofs.Common.{◌≡◌, List, [], ◌∷◌, ap, sym, ◌∙◌}
use Rattle.ec_ast.specs.declared.Name.{Name}
use Rattle.ec_ast.specs.declared.Span.{Span}
use Rattle.ec_ast.specs.declared.TypeName.{TypeName, fold-roll-TypeName}
use Rattle.ec_ast.specs.declared.TypeName.TheOpen.{TypeName-F}
use Rattle.ec_ast.specs.declared.TypeName.TheVariants as t
use Rattle.ec_types.specs.Types.{type_named, type_of, vector_of, written}
use Rattle.ec_types.specs.declared.conform.static_type.Plain.TheVariants.{Any}
use Rattle.ec_types.specs.declared.conform.static_type.StaticType.{StaticType}
use Rattle.ec_types.specs.declared.conform.static_type.StaticType.TheVariants.{Plain}
use Rattle.ec_types.specs.Names.{Text}
use Rattle.ec_rules.specs.Types.{integer, type_names, type_names_step}

-- ---- the type that is written

pub written_integer : (names : List Text) (at : Span) → type_of names (t.Integer at) ≡ integer
written_integer names at =
    ap (type_of names) (sym (t.rolls-Integer at)) ∙ fold-roll-TypeName StaticType (written names) (TypeName-F.Integer at)

pub written_any : (names : List Text) (at : Span) → type_of names (t.Any at) ≡ Plain Any
written_any names at =
    ap (type_of names) (sym (t.rolls-Any at)) ∙ fold-roll-TypeName StaticType (written names) (TypeName-F.Any at)

pub written_named : (names : List Text) (name : Name) → type_of names (t.Named name) ≡ type_named names name.text
written_named names name =
    ap (type_of names) (sym (t.rolls-Named name)) ∙ fold-roll-TypeName StaticType (written names) (TypeName-F.Named name)

pub written_vector : (names : List Text) (of : TypeName) (at : Span) →
    type_of names (t.Vector of at) ≡ vector_of (type_of names of)
written_vector names of at =
    ap (type_of names) (sym (t.rolls-Vector of at)) ∙ fold-roll-TypeName StaticType (written names) (TypeName-F.Vector of at)

-- ---- the names in it

pub type_names_any : (at : Span) → type_names (t.Any at) ≡ []
type_names_any at = ap type_names (sym (t.rolls-Any at)) ∙ fold-roll-TypeName (List Name) type_names_step (TypeName-F.Any at)

pub type_names_integer : (at : Span) → type_names (t.Integer at) ≡ []
type_names_integer at =
    ap type_names (sym (t.rolls-Integer at)) ∙ fold-roll-TypeName (List Name) type_names_step (TypeName-F.Integer at)

pub type_names_named : (name : Name) → type_names (t.Named name) ≡ name ∷ []
type_names_named name =
    ap type_names (sym (t.rolls-Named name)) ∙ fold-roll-TypeName (List Name) type_names_step (TypeName-F.Named name)

pub type_names_vector : (of : TypeName) (at : Span) → type_names (t.Vector of at) ≡ type_names of
type_names_vector of at =
    ap type_names (sym (t.rolls-Vector of at)) ∙ fold-roll-TypeName (List Name) type_names_step (TypeName-F.Vector of at)
