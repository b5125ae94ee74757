-- Where statements stand, and what is known there of types and expressions.
use Rattle.std.proofs.Common.{◌≡◌, ℕ, zero, suc, true, List, [], ◌++◌, length, Option, Some, None, refl}
use Rattle.ec_check.proofs.Every.{Every}
use Rattle.std.specs.Prelude.{slice_get, option_and_then}
use Rattle.ec_check.specs.Numbers.{Number, in_expression}
use Rattle.ec_check.specs.WellTyped.{Site, Typed, conforms_if, goes_in, goes_in_if, typed}
use Rattle.ec_code.specs.declared.code.Op.{Op}
use Rattle.ec_code.specs.Fine.{FineCondition}
use Rattle.ec_code.specs.Typing.{field_types}
use Rattle.ec_types.specs.Conforms.{Conforms}
use Rattle.ec_types.specs.Table.{Table, conforms}
use Rattle.ec_types.specs.Types.{element_from, element_of}
use Rattle.ec_types.specs.declared.conform.named_type.NamedType.{NamedType}
use Rattle.ec_types.specs.declared.conform.static_type.Plain.{Plain as PlainStatic}
use Rattle.ec_types.specs.declared.conform.static_type.StaticType.{StaticType}
use Rattle.ec_types.specs.declared.conform.static_type.StaticType.TheVariants as type
use Rattle.ec_types.specs.Known.{IsOfProgram, NoneUnknown}
use Rattle.ec_core.specs.declared.Expression.{Expression}
use Rattle.ec_core_laws.specs.Formed.{formed_expression}
use Rattle.ec_emission.proofs.Forms.{both_true, not_true}
use Rattle.ec_emission.specs.Expressions.{Emitted, has_text}
use Rattle.ec_emission.specs.Statements.{value_of}
use Rattle.ec_accepted.proofs.Taking.{fits_itself}
use Rattle.ec_accepted.proofs.Pieces.{Setting, FitsAs, Piece}
use Rattle.ec_accepted.proofs.Shown.{Shown, Works, frame, works}
use Rattle.ec_accepted.proofs.Reaching.{Begins, types}
use Rattle.ec_meaning.specs.Programs.{Source}

-- ---- the elements of vectors

pub element_of_program : (all : List NamedType) (inner : ℕ) (of : PlainStatic) → IsOfProgram all (type.Vector inner of) →
    IsOfProgram all (element_from inner of)
element_of_program all zero of h = h
element_of_program all (suc inner) of h = h

-- a vector, for whose elements a value is
pub record HasElements (table : Table) (vector : Option StaticType) (value : Typed) : Type 0 where
  pub inner : ℕ
  pub of : PlainStatic
  pub is : vector ≡ Some (type.Vector inner of)
  pub goes : goes_in table (element_from inner of) value ≡ true

pub has_elements : (table : Table) (vector : Option StaticType) (value : Typed) →
    goes_in_if table (option_and_then element_of vector) value ≡ true → HasElements table vector value
has_elements table None value e = not_true e
has_elements table (Some (type.Plain of)) value e = not_true e
has_elements table (Some (type.Vector inner of)) value e = record { inner = inner; of = of; is = refl; goes = e }
has_elements table (Some type.Nil) value e = not_true e
has_elements table (Some type.Unknown) value e = not_true e

-- ---- values that go into places

-- a value of a type that conforms to the wanted one
pub record GoesIn (table : Table) (wanted : StaticType) (x : Typed) : Type 0 where
  pub is_well : x.is_well ≡ true
  pub kind : StaticType
  pub of : x.of ≡ Some kind
  pub conforms : conforms table kind wanted ≡ true

pub goes_into : (table : Table) (wanted : StaticType) (x : Typed) → goes_in table wanted x ≡ true → GoesIn table wanted x
goes_into table wanted x e =
    let b = both_true x.is_well (conforms_if table x.of wanted) e in
    let k = by x.of b.1 in
    record { is_well = b.0; kind = k.0; of = k.1; conforms = k.2 }
  where
    by : (o : Option StaticType) → conforms_if table o wanted ≡ true →
        (t : StaticType) × (o ≡ Some t) × (conforms table t wanted ≡ true)
    by None f = not_true f
    by (Some t) f = (t, refl, f)

-- ---- stages

-- The statements are of an operation that is lowered as the setting says, and are typed at a site; its class captures so
-- many
-- names; these are the steps of its end; and `Right` is what is known of each number in it.
pub record Stage : Type 1 where
  pub source : Source
  pub setting : Setting
  pub site : Site
  pub captured : ℕ
  pub leaves : List Op
  pub Right : Number → Type 0

module _ (g : Stage) where
  abbrev pub code_of : Expression → Emitted
  code_of x = value_of g.source g.captured (types g.setting) g.setting.parts.literals g.leaves x

  abbrev pub type_of : Expression → Typed
  type_of x = typed g.site x

  abbrev pub IsType : StaticType → Type 0
  IsType t = IsOfProgram g.setting.declared.types t

  -- what is known of an expression
  pub record Judged (x : Expression) : Type 0 where
    pub well : (type_of x).is_well ≡ true
    pub fits : (code_of x).fits ≡ true
    pub formed : formed_expression (length g.setting.declared.types) x ≡ true
    pub numbers : Every g.Right (in_expression x)

  -- the operation uses this condition of its own object
  abbrev pub CanUse : ℕ → Type 0
  CanUse n = FineCondition g.setting.declared g.setting.parts g.setting.number g.setting.operation n

  -- what holds of a stage
  pub record IsSound : Type 0 where
    pub variables : g.site.variables ≡ types g.setting
    pub answers : (a b : StaticType) → conforms g.site.table a b ≡ true → Conforms g.setting.declared.types a b
    pub known : NoneUnknown g.setting.declared.types
    pub declared : (n : ℕ) (t : StaticType) → slice_get (types g.setting) n ≡ Some t → IsType t
    pub fields : field_types g.setting.declared g.setting.operation.class ≡ g.site.captured ++ g.site.fields
    pub kept : (n : ℕ) (t : StaticType) → slice_get g.site.fields n ≡ Some t → IsType t
    pub before : g.captured ≡ length g.site.captured
    pub empty : has_text g.setting.parts.literals [] ≡ true
    pub end : Piece g.setting g.leaves (frame g.setting []) (Begins g.setting)
    pub shown : (x : Expression) → Judged x → Shown g.setting (type_of x) (code_of x)
    pub of_program : (x : Expression) → Judged x → (t : StaticType) → (type_of x).of ≡ Some t → IsType t

module _ (g : Stage) (sound : IsSound g) where
  pub itself : (t : StaticType) → IsType g t → FitsAs g.setting t t
  itself t h = fits_itself g.setting.declared.types sound.known t h

  -- an expression with a type
  pub of_type : (x : Expression) → Judged g x → (t : StaticType) → (type_of g x).of ≡ Some t →
      Works g.setting (code_of g x) t
  of_type x j t e = works (sound.shown x j) t e

  -- a value of a type that fits where another is wanted
  pub record Value (x : Expression) (wanted : StaticType) : Type 0 where
    pub kind : StaticType
    pub works : Works g.setting (code_of g x) kind
    pub own : FitsAs g.setting kind kind
    pub fits : FitsAs g.setting kind wanted

  pub value_for : (x : Expression) → Judged g x → (t : StaticType) → IsType g t →
      goes_in g.site.table t (type_of g x) ≡ true →
      Value x t
  value_for x j t is e =
      let i : GoesIn g.site.table t (type_of g x) = goes_into g.site.table t (type_of g x) e in
      let h : IsType g i.kind = sound.of_program x j i.kind i.of in
      record {
        kind = i.kind;
        works = of_type x j i.kind i.of;
        own = itself i.kind h;
        fits = record { given = h; wanted = is; conforms = sound.answers i.kind t i.conforms };
      }
