-- Types that are declared, read by numbers.
use Rattle.std.proofs.Common.{◌≡◌, ℕ, ◌-◌, ◌≤◌, List, length, map, Option, Some, None, refl, sym, ap, ◌∙◌}
use Rattle.std.specs.Prelude.{slice_get, option_map, unwrap_or}
use Rattle.std.proofs.lemmas.List.{get_or-append_right}
use Rattle.std.proofs.lemmas.Option.{slice_get-map, unwrap_or-slice_get}
use Rattle.ec_code.specs.Typing.{DeclaredClass, any, type_if, fields_if}
use Rattle.ec_types.specs.Types.{named}
use Rattle.ec_types.specs.declared.conform.static_type.StaticType.{StaticType}
use Rattle.ec_types.specs.declared.conform.static_type.StaticType.TheVariants.{Unknown}
use Rattle.ec_core.specs.declared.Class.{Class}
use Rattle.ec_core.specs.declared.Field.{Field}
use Rattle.ec_emission.specs.Lowered.{class_declared, field_types_of}
use Rattle.ec_emission.specs.Types.{type_at}

-- the type that is made of an item, where that is there
pub type_made : {A : Type 0} → (f : A → StaticType) (xs : List A) (n : ℕ) (x : Option A) → slice_get xs n ≡ x →
    type_at (map f xs) n ≡ unwrap_or (option_map f x) Unknown
type_made f xs n x e =
    sym (unwrap_or-slice_get (map f xs) n Unknown)
    ∙ ap (λ t. unwrap_or t Unknown) (slice_get-map f xs n ∙ ap (option_map f) e)

-- ---- classes

class_made : (cs : List Class) (k : ℕ) (c : Option Class) → slice_get cs k ≡ c →
    slice_get (map class_declared cs) k ≡ option_map class_declared c
class_made cs k c e = slice_get-map class_declared cs k ∙ ap (option_map class_declared) e

pub type_of_class : (cs : List Class) (k : ℕ) (c : Class) → slice_get cs k ≡ Some c →
    type_if (slice_get (map class_declared cs) k) ≡ named c.number
type_of_class cs k c e = ap type_if (class_made cs k (Some c) e)

pub type_of_none : (cs : List Class) (k : ℕ) → slice_get cs k ≡ None → type_if (slice_get (map class_declared cs) k) ≡ any
type_of_none cs k e = ap type_if (class_made cs k None e)

pub field_of_class : (cs : List Class) (k : ℕ) (c : Class) (n : ℕ) → slice_get cs k ≡ Some c →
    type_at (fields_if (slice_get (map class_declared cs) k)) n ≡ type_at (class_declared c).fields n
field_of_class cs k c n e = ap (λ (d : Option DeclaredClass). type_at (fields_if d) n) (class_made cs k (Some c) e)

pub field_of_none : (cs : List Class) (k : ℕ) (n : ℕ) → slice_get cs k ≡ None →
    type_at (fields_if (slice_get (map class_declared cs) k)) n ≡ Unknown
field_of_none cs k n e = ap (λ (d : Option DeclaredClass). type_at (fields_if d) n) (class_made cs k None e)

-- ---- fields

pub declared_behind : (c : Class) (n : ℕ) (f : Option Field) → length c.captured ≤ n →
    slice_get c.fields (n - length c.captured) ≡ f →
    type_at (class_declared c).fields n ≡ unwrap_or (option_map (λ (g : Field). g.of) f) Unknown
declared_behind c n f h e =
    get_or-append_right c.captured (field_types_of c) (length c.captured) n Unknown refl h
    ∙ type_made (λ (g : Field). g.of) c.fields (n - length c.captured) f e
