-- A value of a static type is of its kind.
use Rattle.std.proofs.Common.{◌≡◌, ℕ, zero, suc, false, true, true≢false, List, Option, Some, None, refl, sym, ap, ◌∙◌, subst}
use Rattle.std.proofs.lemmas.Option.{same_Some}
use Rattle.std.specs.Prelude.{option_map, slice_get}
use Rattle.ec_code.specs.Typing as typing
use Rattle.ec_code.specs.Typing.{Declared, DeclaredClass, boolean, class_type, element_static, integer, kind_of, plain_static, string}
use Rattle.ec_code.specs.Typing.{type_if}
use Rattle.ec_types.specs.Conforms.{Relation, asks_nothing, conforms_in, plain_conforms}
use Rattle.ec_types.specs.Types.{element_from, is_reference}
use Rattle.ec_types.specs.declared.conform.named_type.NamedType.{NamedType}
use Rattle.ec_types.specs.declared.conform.static_type.Plain.{Plain as PlainStatic}
use Rattle.ec_types.specs.declared.conform.static_type.Plain.TheVariants as static
use Rattle.ec_types.specs.declared.conform.static_type.StaticType.{StaticType}
use Rattle.ec_types.specs.declared.conform.static_type.StaticType.TheVariants as type
use Rattle.ec_types.specs.Known.{IsOfProgram}
use Rattle.ec_objects.specs.Kinds.{IsOfKind}
use Rattle.ec_code.specs.RangesValues.{InRange}
use Rattle.ec_code.specs.SoundValues.{HasType, class_in, own_type}
use Rattle.ec_world.specs.Objects.{element_kind, kind_from, plain_kind}
use Rattle.ec_world.specs.declared.class.ClassNo.{ClassNo}
use Rattle.ec_world.specs.declared.class.ClassNo.TheVariants.{Node, Program, Made, Vector}
use Rattle.ec_world.specs.declared.class.PlainType.{PlainType}
use Rattle.ec_world.specs.declared.class.PlainType.TheVariants as plain
use Rattle.ec_world.specs.declared.class.VectorType.{VectorType}
use Rattle.ec_world.specs.declared.object.ObjectRec.{ObjectRec}
use Rattle.ec_world.specs.declared.value.Value.{Value}
use Rattle.ec_world.specs.declared.value.Value.TheVariants.{Int, Str, Ref, Nil, Bool as Truth}
use Rattle.ec_world.specs.declared.value.ValueType.TheVariants as kind

-- ---- types that conform are of one kind

never : {A : Type 0} → false ≡ true → A
never h = absurd (true≢false (sym h))

plain_kinds : (types : List NamedType) (r : Relation) (s t : PlainStatic) → plain_conforms types r s t ≡ true →
    typing.plain_kind s ≡ typing.plain_kind t
plain_kinds types r static.Integer static.Integer h = refl
plain_kinds types r static.Boolean static.Boolean h = refl
plain_kinds types r static.String static.String h = refl
plain_kinds types r static.Any static.Any h = refl
plain_kinds types r static.Any static.Node h = refl
plain_kinds types r static.Any (static.Named n) h = refl
plain_kinds types r static.Node static.Any h = refl
plain_kinds types r static.Node static.Node h = refl
plain_kinds types r static.Node (static.Named n) h = refl
plain_kinds types r (static.Named m) static.Any h = refl
plain_kinds types r (static.Named m) static.Node h = refl
plain_kinds types r (static.Named m) (static.Named n) h = refl
plain_kinds types r _ _ h = never h

vector_kinds : (types : List NamedType) (t : PlainStatic) → asks_nothing types t ≡ true → kind.Reference ≡ typing.plain_kind t
vector_kinds types static.Any h = refl
vector_kinds types static.Node h = refl
vector_kinds types (static.Named n) h = refl
vector_kinds types _ h = never h

nil_kinds : (t : PlainStatic) → is_reference t ≡ true → kind.Reference ≡ typing.plain_kind t
nil_kinds static.Any h = refl
nil_kinds static.Node h = refl
nil_kinds (static.Named n) h = refl
nil_kinds _ h = never h

kinds_conform : (types : List NamedType) (r : Relation) (s t : StaticType) → IsOfProgram types s → IsOfProgram types t →
    conforms_in types r s t ≡ true → kind_of s ≡ kind_of t
kinds_conform types r (type.Plain s) (type.Plain t) j k h = plain_kinds types r s t h
kinds_conform types r (type.Vector inner of) (type.Plain t) j k h = vector_kinds types t h
kinds_conform types r type.Nil (type.Plain t) j k h = nil_kinds t h
kinds_conform types r (type.Vector m s) (type.Vector n t) j k h = refl
kinds_conform types r type.Nil (type.Vector n t) j k h = refl
kinds_conform types r type.Nil type.Nil j k h = refl
kinds_conform types r type.Unknown t j k h = absurd j
kinds_conform types r s type.Unknown j k h = absurd k
kinds_conform types r _ _ j k h = never h

-- ---- values

module _ (d : Declared) (objects : List ObjectRec) where
  class_kind : (k : ClassNo) → kind_of (class_type d k) ≡ kind.Reference
  class_kind Node = refl
  class_kind Program = refl
  class_kind (Vector of) = refl
  class_kind (Made k) = by (slice_get d.classes k)
    where
      by : (c : Option DeclaredClass) → kind_of (type_if c) ≡ kind.Reference
      by None = refl
      by (Some c) = refl

  object_kind : (oid : ℕ) (x : Option ClassNo) (s : StaticType) → option_map (class_type d) x ≡ Some s → IsOfKind (kind_of s) (Ref oid)
  object_kind oid None s e = absurd cc
  object_kind oid (Some k) s e =
      let same : class_type d k ≡ s = same_Some (class_type d k) s e in
      let is : kind.Reference ≡ kind_of s = sym (class_kind k) ∙ ap kind_of same in
      subst (λ x. IsOfKind x (Ref oid)) is tt

  own_kind : (v : Value) (s : StaticType) → own_type d objects v ≡ Some s → InRange v → IsOfKind (kind_of s) v
  own_kind (Int z) s e r = subst (λ t. IsOfKind (kind_of t) (Int z)) (same_Some integer s e) r
  own_kind (Truth b) s e r = subst (λ t. IsOfKind (kind_of t) (Truth b)) (same_Some boolean s e) tt
  own_kind (Str text) s e r = subst (λ t. IsOfKind (kind_of t) (Str text)) (same_Some string s e) tt
  own_kind Nil s e r = subst (λ t. IsOfKind (kind_of t) Nil) (same_Some type.Nil s e) tt
  own_kind (Ref oid) s e r = object_kind oid (class_in objects oid) s e

  pub of_kind : (t : StaticType) (v : Value) → HasType d objects t v → InRange v → IsOfKind (kind_of t) v
  of_kind t v h r =
      let c = h.fits.conforms in
      subst (λ k. IsOfKind k v) (kinds_conform d.types c.0 h.of t h.fits.given h.fits.wanted c.2) (own_kind v h.of h.is r)

-- ---- the elements of a vector

plain_same : (of : PlainType) → plain_kind of ≡ typing.plain_kind (plain_static of)
plain_same plain.Integer = refl
plain_same plain.Boolean = refl
plain_same plain.Bytes = refl
plain_same plain.Any = refl
plain_same plain.Node = refl
plain_same (plain.Named n) = refl

element_by : (inner : ℕ) (of : PlainType) → kind_from inner of ≡ kind_of (element_from inner (plain_static of))
element_by zero of = plain_same of
element_by (suc inner) of = refl

pub element_same : (of : VectorType) → element_kind of ≡ kind_of (element_static of)
element_same of = element_by of.inner of.of
