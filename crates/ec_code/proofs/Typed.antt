-- Values of types: what stands where a type is wanted, and what a value of a type is.
use Rattle.std.proofs.Common.{◌≡◌, ℕ, zero, suc, Bool, true, false, List, [], ◌∷◌, Option, Some, None, refl, sym, ◌∙◌, ap, subst, ℤ}
use Rattle.std.proofs.lemmas.Bool.{true≢false}
use Rattle.std.specs.Prelude.{slice_get, option_map}
use Rattle.ec_code.specs.declared.code.Parts.{Parts}
use Rattle.ec_code.specs.Fine.{Fine, FitAll}
use Rattle.ec_code.specs.Typing.{Declared, DeclaredClass, integer, boolean, string, any, node, plain_static, element_static, kind_of}
use Rattle.ec_code.specs.Typing.{type_if, class_type, vector_static}
use Rattle.ec_types.specs.Conforms.{Relation, asks_nothing, IsClosed, conforms_in, plain_conforms, Conforms}
use Rattle.ec_types.specs.Types.{named, is_same, is_reference, is_reference_type, element_from}
use Rattle.ec_types.specs.declared.conform.named_type.NamedType.{NamedType}
use Rattle.ec_types.specs.declared.conform.static_type.Plain.{Plain as PlainStatic}
use Rattle.ec_types.specs.declared.conform.static_type.Plain.TheVariants as static
use Rattle.ec_types.specs.declared.conform.static_type.StaticType.{StaticType}
use Rattle.ec_types.specs.declared.conform.static_type.StaticType.TheVariants as type
use Rattle.ec_types.proofs.Composes.{composes}
use Rattle.ec_types.proofs.Itself.{conforms_to_itself}
use Rattle.ec_types.specs.Fits.{Fits}
use Rattle.ec_types.specs.Known.{IsOfProgram, IsPlainOfProgram}
use Rattle.ec_world.specs.Agree.{AllTwo}
use Rattle.ec_world.specs.Objects.{plain_kind as world_kind, kind_from, element_kind}
use Rattle.ec_world.specs.Values.{default_of}
use Rattle.ec_world.specs.declared.class.ClassNo.{ClassNo}
use Rattle.ec_world.specs.declared.class.ClassNo.TheVariants.{Node, Program, Made, Vector}
use Rattle.ec_world.specs.declared.class.PlainType.{PlainType}
use Rattle.ec_world.specs.declared.class.PlainType.TheVariants as plain
use Rattle.ec_world.specs.declared.class.VectorType.{VectorType}
use Rattle.ec_world.specs.declared.object.ObjectRec.{ObjectRec}
use Rattle.ec_world.specs.declared.value.Value.{Value}
use Rattle.ec_world.specs.declared.value.Value.TheVariants.{Int, Str, Ref, Nil, Bool as Truth}
use Rattle.ec_code.specs.SoundValues.{HasType, class_in, own_type}

pub never : {A : Type 0} → false ≡ true → A
never h = absurd (true≢false (sym h))

-- ---- what stands where a type is wanted

module _ (d : Declared) (p : Parts) (fine : Fine d p) where
  pub fits_then : (s t u : StaticType) → Fits d.types s t → Fits d.types t u → Fits d.types s u
  fits_then s t u f g = record {
    given = f.given;
    wanted = g.wanted;
    conforms = composes d.types fine.few fine.known s t u f.given f.wanted g.wanted f.conforms g.conforms;
  }

  pub fits_itself : (t : StaticType) → IsOfProgram d.types t → Fits d.types t t
  fits_itself t k = record { given = k; wanted = k; conforms = conforms_to_itself d.types fine.known t k }

  pub stands : (objects : List ObjectRec) (s t : StaticType) (v : Value) → HasType d objects s v → Fits d.types s t → HasType d objects t v
  stands objects s t v h f = record { of = h.of; is = h.is; fits = fits_then h.of s t h.fits f }

  pub stand_all : (objects : List ObjectRec) (ts ws : List StaticType) (vs : List Value) → AllTwo (HasType d objects) ts vs
      → FitAll d p ts ws → AllTwo (HasType d objects) ws vs
  stand_all objects [] [] [] h f = tt
  stand_all objects (t ∷ ts) (w ∷ ws) (v ∷ vs) h f = (stands objects t w v h.0 f.0, stand_all objects ts ws vs h.1 f.1)
  stand_all objects [] (w ∷ ws) vs h f = absurd f
  stand_all objects (t ∷ ts) [] vs h f = absurd f
  stand_all objects [] [] (v ∷ vs) h f = absurd h
  stand_all objects (t ∷ ts) (w ∷ ws) [] h f = absurd h

-- ---- types that are relations of none

abbrev nothing : Relation
nothing a b = false

nothing_closed : (types : List NamedType) → IsClosed types nothing
nothing_closed types =
    record { left = λ a b h. never h; right = λ a b h. never h; clauses = λ a b i j h. never h }

-- two types that conform whatever named types do
pub at_once : (types : List NamedType) (s t : StaticType) → conforms_in types (λ a b. false) s t ≡ true → Conforms types s t
at_once types s t h = ((λ a b. false), nothing_closed types, h)

pub fit_at_once : (types : List NamedType) (s t : StaticType) → IsOfProgram types s → IsOfProgram types t
    → conforms_in types (λ a b. false) s t ≡ true → Fits types s t
fit_at_once types s t j k h = record { given = j; wanted = k; conforms = at_once types s t h }

module _ (d : Declared) (objects : List ObjectRec) where
  pub of_int : (z : ℤ) → HasType d objects integer (Int z)
  of_int z = record { of = integer; is = refl; fits = fit_at_once d.types integer integer tt tt refl }

  pub of_truth : (b : Bool) → HasType d objects boolean (Truth b)
  of_truth b = record { of = boolean; is = refl; fits = fit_at_once d.types boolean boolean tt tt refl }

  pub of_text : (s : List ℕ) → HasType d objects string (Str s)
  of_text s = record { of = string; is = refl; fits = fit_at_once d.types string string tt tt refl }

  pub of_nil : (t : StaticType) → IsOfProgram d.types t → is_reference_type t ≡ true → HasType d objects t Nil
  of_nil t k h = record { of = type.Nil; is = refl; fits = record { given = tt; wanted = k; conforms = part t h } }
    where
      part : (t : StaticType) → is_reference_type t ≡ true → Conforms d.types type.Nil t
      part (type.Plain q) h = at_once d.types type.Nil (type.Plain q) h
      part (type.Vector inner of) h = at_once d.types type.Nil (type.Vector inner of) refl
      part type.Nil h = at_once d.types type.Nil type.Nil refl
      part type.Unknown h = never h

  -- an object of a class
  pub of_object : (o : ℕ) (k : ClassNo) (t : StaticType) → class_in objects o ≡ Some k → Fits d.types (class_type d k) t
      → HasType d objects t (Ref o)
  of_object o k t at f = record { of = class_type d k; is = ap (option_map (class_type d)) at; fits = f }

  -- ---- what a value of a type is

  -- of which class the object is, and that its type fits
  pub record IsObject (o : ℕ) (t : StaticType) : Type 0 where
    pub class : ClassNo
    pub is : class_in objects o ≡ Some class
    pub fits : Fits d.types (class_type d class) t

  object_by : (o : ℕ) (t : StaticType) (k : Option ClassNo) → class_in objects o ≡ k → (s : StaticType)
      → option_map (class_type d) k ≡ Some s → Fits d.types s t → IsObject o t
  object_by o t None at s is f = cc
  object_by o t (Some k) at s is f =
      let e : s ≡ class_type d k = cc in
      record { class = k; is = at; fits = subst (λ x. Fits d.types x t) e f }

  pub object_is : (o : ℕ) (t : StaticType) → HasType d objects t (Ref o) → IsObject o t
  object_is o t h = object_by o t (class_in objects o) refl h.of h.is h.fits

  class_is_reference : (k : ClassNo) → is_reference_type (class_type d k) ≡ true
  class_is_reference Node = refl
  class_is_reference Program = refl
  class_is_reference (Vector of) = refl
  class_is_reference (Made k) = part (slice_get d.classes k)
    where
      part : (c : Option DeclaredClass) → is_reference_type (type_if c) ≡ true
      part None = refl
      part (Some c) = refl

  nothing_reference : (q : PlainStatic) → asks_nothing d.types q ≡ true → is_reference q ≡ true
  nothing_reference static.Any h = refl
  nothing_reference static.Node h = refl
  nothing_reference (static.Named n) h = refl
  nothing_reference static.Integer h = never h
  nothing_reference static.Boolean h = never h
  nothing_reference static.String h = never h

  plain_reference : (r : Relation) (s t : PlainStatic) → is_reference s ≡ true → plain_conforms d.types r s t ≡ true → is_reference t ≡ true
  plain_reference r static.Any t h k = nothing_reference t k
  plain_reference r s static.Any h k = refl
  plain_reference r s static.Node h k = refl
  plain_reference r s (static.Named n) h k = refl
  plain_reference r static.Node static.Integer h k = never k
  plain_reference r static.Node static.Boolean h k = never k
  plain_reference r static.Node static.String h k = never k
  plain_reference r (static.Named n) static.Integer h k = never k
  plain_reference r (static.Named n) static.Boolean h k = never k
  plain_reference r (static.Named n) static.String h k = never k
  plain_reference r static.Integer t h k = never h
  plain_reference r static.Boolean t h k = never h
  plain_reference r static.String t h k = never h

  -- no reference stands where a value is wanted
  no_reference : (s : StaticType) (t : PlainStatic) → is_reference_type s ≡ true → is_reference t ≡ false
      → Conforms d.types s (type.Plain t) → ⊥
  no_reference (type.Plain s) t h k c = true≢false (sym (plain_reference c.0 s t h c.2) ∙ k)
  no_reference (type.Vector inner of) t h k c = true≢false (sym (nothing_reference t c.2) ∙ k)
  no_reference type.Nil t h k c = true≢false (sym c.2 ∙ k)
  no_reference type.Unknown t h k c = never h

  no_object : (o : ℕ) (t : PlainStatic) → is_reference t ≡ false → HasType d objects (type.Plain t) (Ref o) → ⊥
  no_object o t k h =
      let i = object_is o (type.Plain t) h in
      no_reference (class_type d i.class) t (class_is_reference i.class) k i.fits.conforms

  -- a value's own type, where it is no reference
  conforms_by : (v : Value) (s t : StaticType) → own_type d objects v ≡ Some s → HasType d objects t v → Conforms d.types s t
  conforms_by v s t e h = let same : h.of ≡ s = (let i = h.is in cc) in subst (λ x. Conforms d.types x t) same h.fits.conforms

  pub int_case : (v : Value) → HasType d objects integer v → (P : Value → Type 0) → ((z : ℤ) → P (Int z)) → P v
  int_case (Int z) h P f = f z
  int_case (Truth b) h P f = never (conforms_by (Truth b) boolean integer refl h).2
  int_case (Str s) h P f = never (conforms_by (Str s) string integer refl h).2
  int_case Nil h P f = never (conforms_by Nil type.Nil integer refl h).2
  int_case (Ref o) h P f = absurd (no_object o static.Integer refl h)

  pub truth_case : (v : Value) → HasType d objects boolean v → (P : Value → Type 0) → ((b : Bool) → P (Truth b)) → P v
  truth_case (Truth b) h P f = f b
  truth_case (Int z) h P f = never (conforms_by (Int z) integer boolean refl h).2
  truth_case (Str s) h P f = never (conforms_by (Str s) string boolean refl h).2
  truth_case Nil h P f = never (conforms_by Nil type.Nil boolean refl h).2
  truth_case (Ref o) h P f = absurd (no_object o static.Boolean refl h)

  pub text_case : (v : Value) → HasType d objects string v → (P : Value → Type 0) → ((s : List ℕ) → P (Str s)) → P v
  text_case (Str s) h P f = f s
  text_case (Int z) h P f = never (conforms_by (Int z) integer string refl h).2
  text_case (Truth b) h P f = never (conforms_by (Truth b) boolean string refl h).2
  text_case Nil h P f = never (conforms_by Nil type.Nil string refl h).2
  text_case (Ref o) h P f = absurd (no_object o static.String refl h)

  no_value : (s : PlainStatic) (t : StaticType) → is_reference s ≡ false → is_reference_type t ≡ true → Conforms d.types (type.Plain s) t
      → ⊥
  no_value static.Integer (type.Plain t) k h c = part t h c.2
    where
      part : (t : PlainStatic) → is_reference t ≡ true → is_same static.Integer t ≡ true → ⊥
      part static.Integer h e = never h
      part static.Any h e = never e
      part static.Node h e = never e
      part (static.Named n) h e = never e
      part static.Boolean h e = never h
      part static.String h e = never h
  no_value static.Boolean (type.Plain t) k h c = part t h c.2
    where
      part : (t : PlainStatic) → is_reference t ≡ true → is_same static.Boolean t ≡ true → ⊥
      part static.Boolean h e = never h
      part static.Any h e = never e
      part static.Node h e = never e
      part (static.Named n) h e = never e
      part static.Integer h e = never h
      part static.String h e = never h
  no_value static.String (type.Plain t) k h c = part t h c.2
    where
      part : (t : PlainStatic) → is_reference t ≡ true → is_same static.String t ≡ true → ⊥
      part static.String h e = never h
      part static.Any h e = never e
      part static.Node h e = never e
      part (static.Named n) h e = never e
      part static.Integer h e = never h
      part static.Boolean h e = never h
  no_value static.Any t k h c = true≢false k
  no_value static.Node t k h c = true≢false k
  no_value (static.Named n) t k h c = true≢false k
  no_value s (type.Vector inner of) k h c = never c.2
  no_value s type.Nil k h c = never c.2
  no_value s type.Unknown k h c = never h

  -- a value of a reference type is nil or an object that conforms
  pub ref_case : (v : Value) (t : StaticType) → is_reference_type t ≡ true → HasType d objects t v → (P : Value → Type 0) → P Nil
      → ((o : ℕ) → IsObject o t → P (Ref o)) → P v
  ref_case Nil t k h P n f = n
  ref_case (Ref o) t k h P n f = f o (object_is o t h)
  ref_case (Int z) t k h P n f = absurd (no_value static.Integer t refl k (conforms_by (Int z) integer t refl h))
  ref_case (Truth b) t k h P n f = absurd (no_value static.Boolean t refl k (conforms_by (Truth b) boolean t refl h))
  ref_case (Str s) t k h P n f = absurd (no_value static.String t refl k (conforms_by (Str s) string t refl h))

  -- ---- defaults

  pub default_fits : (t : StaticType) → IsOfProgram d.types t → HasType d objects t (default_of (kind_of t))
  default_fits (type.Plain static.Integer) k = of_int (ℤ.pos 0)
  default_fits (type.Plain static.Boolean) k = of_truth false
  default_fits (type.Plain static.String) k = of_text []
  default_fits (type.Plain static.Any) k = of_nil any tt refl
  default_fits (type.Plain static.Node) k = of_nil node tt refl
  default_fits (type.Plain (static.Named n)) k = of_nil (named n) k refl
  default_fits (type.Vector inner of) k = of_nil (type.Vector inner of) k refl
  default_fits type.Nil k = of_nil type.Nil tt refl
  default_fits type.Unknown k = absurd k

  plain_element : (of : PlainType) → IsPlainOfProgram d.types (plain_static of)
      → HasType d objects (type.Plain (plain_static of)) (default_of (world_kind of))
  plain_element plain.Integer k = of_int (ℤ.pos 0)
  plain_element plain.Boolean k = of_truth false
  plain_element plain.Bytes k = of_text []
  plain_element plain.Any k = of_nil any tt refl
  plain_element plain.Node k = of_nil node tt refl
  plain_element (plain.Named n) k = of_nil (named n) k refl

  element_by : (inner : ℕ) (of : PlainType) → IsPlainOfProgram d.types (plain_static of)
      → HasType d objects (element_from inner (plain_static of)) (default_of (kind_from inner of))
  element_by zero of k = plain_element of k
  element_by (suc inner) of k = of_nil (type.Vector inner (plain_static of)) k refl

  pub element_fits : (of : VectorType) → IsOfProgram d.types (vector_static of)
      → HasType d objects (element_static of) (default_of (element_kind of))
  element_fits of k = element_by of.inner of.of k
