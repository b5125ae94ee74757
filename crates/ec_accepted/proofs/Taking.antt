-- What a type is where a place takes it, and where it fits.
use Rattle.std.proofs.Common.{◌≡◌, true, false, List, Option, Some, None, refl, sym, subst}
use Rattle.ec_check.proofs.WellValues.{type_is}
use Rattle.ec_check.specs.WellTyped.{Typed, is_taken, is_of}
use Rattle.ec_code.specs.Typing.{integer, boolean, string, any}
use Rattle.ec_types.specs.Conforms.{Relation, IsClosed, conforms_in}
use Rattle.ec_types.specs.Types.{is_reference_type}
use Rattle.ec_types.specs.declared.conform.named_type.NamedType.{NamedType}
use Rattle.ec_types.specs.declared.conform.static_type.Plain.TheVariants as static
use Rattle.ec_types.specs.declared.conform.static_type.StaticType.{StaticType}
use Rattle.ec_types.specs.declared.conform.static_type.StaticType.TheVariants as type
use Rattle.ec_types.proofs.Itself.{conforms_to_itself}
use Rattle.ec_types.specs.Fits.{Fits}
use Rattle.ec_types.specs.Known.{IsOfProgram, NoneUnknown}
use Rattle.ec_emission.proofs.Forms.{both_true, not_true}
use Rattle.ec_rules.specs.Types.{takes}
use Rattle.ec_rules.specs.declared.operands.Wanted.{Wanted}
use Rattle.ec_rules.specs.declared.operands.Wanted.TheVariants as wanted

-- ---- what is taken

-- a value that a place takes has a type, which it takes
pub record Taken (w : Wanted) (x : Typed) : Type 0 where
  pub is_well : x.is_well ≡ true
  pub kind : StaticType
  pub of : x.of ≡ Some kind
  pub accepted : takes w kind ≡ true

type_taken : (w : Wanted) (o : Option StaticType) → is_taken w o ≡ true →
    (t : StaticType) × (o ≡ Some t) × (takes w t ≡ true)
type_taken w None e = not_true e
type_taken w (Some t) e = (t, refl, e)

pub taken : (w : Wanted) (x : Typed) → is_of w x ≡ true → Taken w x
taken w x e =
    let b = both_true x.is_well (is_taken w x.of) e in
    let k = type_taken w x.of b.1 in
    record { is_well = b.0; kind = k.0; of = k.1; accepted = k.2 }

-- the places that take one type alone
abbrev pub TakesOnly : Wanted → StaticType → Type 0
TakesOnly w t = (s : StaticType) → takes w s ≡ true → s ≡ t

pub only_integers : TakesOnly wanted.Integer integer
only_integers s e = sym (type_is integer s e)

pub only_booleans : TakesOnly wanted.Boolean boolean
only_booleans s e = sym (type_is boolean s e)

pub only_strings : TakesOnly wanted.String string
only_strings s e = sym (type_is string s e)

pub type_of_taken : (w : Wanted) (x : Typed) (t : StaticType) → TakesOnly w t → is_of w x ≡ true → x.of ≡ Some t
type_of_taken w x t only e = let k : Taken w x = taken w x e in subst (λ s. x.of ≡ Some s) (only k.kind k.accepted) k.of

pub well_taken : (w : Wanted) (x : Typed) → is_of w x ≡ true → x.is_well ≡ true
well_taken w x e = let k : Taken w x = taken w x e in k.is_well

-- ---- what fits

pub fits_itself : (types : List NamedType) → NoneUnknown types → (t : StaticType) → IsOfProgram types t → Fits types t t
fits_itself types known t h = record { given = h; wanted = h; conforms = conforms_to_itself types known t h }

abbrev no_pairs : Relation
no_pairs a b = false

none_closed : (types : List NamedType) → IsClosed types no_pairs
none_closed types = record { left = λ a b e. not_true e; right = λ a b e. not_true e; clauses = λ a b i j e. not_true e }

reference_conforms : (types : List NamedType) (t : StaticType) → is_reference_type t ≡ true →
    conforms_in types no_pairs t any ≡ true
reference_conforms types (type.Plain static.Integer) e = e
reference_conforms types (type.Plain static.Boolean) e = e
reference_conforms types (type.Plain static.String) e = e
reference_conforms types (type.Plain static.Any) e = refl
reference_conforms types (type.Plain static.Node) e = refl
reference_conforms types (type.Plain (static.Named n)) e = refl
reference_conforms types (type.Vector inner of) e = refl
reference_conforms types type.Nil e = refl
reference_conforms types type.Unknown e = refl

-- a reference fits where Any is wanted
pub fits_any : (types : List NamedType) (t : StaticType) → is_reference_type t ≡ true → IsOfProgram types t →
    Fits types t any
fits_any types t e h = record {
  given = h;
  wanted = tt;
  conforms =
      (no_pairs, none_closed types, reference_conforms types t e);
}
