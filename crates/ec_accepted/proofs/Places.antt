-- What is read from a place: its code, and it as an operand.
use Rattle.std.proofs.Common.{◌≡◌, ℕ, zero, suc, ◌+◌, Bool, true, false, nat_lt, List, [], ◌∷◌, ◌++◌, map, take, length}
use Rattle.std.proofs.Common.{Option, Some, None}
use Rattle.std.proofs.Common.{refl, sym, ap, ◌∙◌, subst, arith}
use Rattle.std.specs.Prelude.{slice_get}
use Rattle.ec_check.specs.Numbers.{Number}
use Rattle.ec_check.specs.WellTyped.{are_captured, is_same_result, type_at as place_type}
use Rattle.ec_check.proofs.WellValues.{type_is}
use Rattle.ec_code.specs.declared.code.Op.{Op}
use Rattle.ec_code.specs.declared.code.Operand.TheVariants as operand
use Rattle.ec_code.specs.declared.code.Variable.TheVariants as variable
use Rattle.ec_code.specs.Fine.{Has}
use Rattle.ec_code.specs.Typing.{field_types}
use Rattle.ec_types.specs.declared.conform.static_type.StaticType.{StaticType}
use Rattle.ec_types.specs.Known.{IsOfProgram}
use Rattle.ec_core.specs.declared.Place.{Place}
use Rattle.ec_core.specs.declared.Place.TheVariants as place
use Rattle.ec_emission.proofs.Forms.{both_true, not_true, no_leaf, same_leaf}
use Rattle.ec_emission.specs.Expressions.{fetch, fetch_all, leaf_at, variable_if}
use Rattle.ec_accepted.proofs.FinenessForms.{copied, field_had, constant_had}
use Rattle.ec_accepted.proofs.Frames.{Held, named_in}
use Rattle.ec_accepted.proofs.Pieces.{FitsAs, go_on, nothing}
use Rattle.ec_accepted.proofs.Shown.{IsOf, frame, live_in, Goes}
use Rattle.ec_accepted.proofs.Standing.{Stand, Known, setting, site, types_in, each_fits}
use Rattle.ec_accepted.proofs.Stopping.{above}
use Rattle.ec_emission.specs.Lowered.{declared_of}
use Rattle.ec_meaning.specs.Programs.{constant_number}
use Rattle.ec_emission.specs.Leaves.{Leaf, Named, leaf_operand}

-- ---- lists

take_whole : (ts : List StaticType) → take (length ts) ts ≡ ts
take_whole [] = refl
take_whole (t ∷ ts) = ap (λ z. t ∷ z) (take_whole ts)

among_first : (xs ys : List StaticType) (n : ℕ) (t : StaticType) → slice_get xs n ≡ Some t → slice_get (xs ++ ys) n ≡ Some t
among_first [] ys n t e = cc
among_first (x ∷ xs) ys zero t e = e
among_first (x ∷ xs) ys (suc n) t e = among_first xs ys n t e

among_last : (xs ys : List StaticType) (n : ℕ) → slice_get (xs ++ ys) (length xs + n) ≡ slice_get ys n
among_last [] ys n = let at : 0 + n ≡ n = omega arith in ap (slice_get ys) at
among_last (x ∷ xs) ys n =
    let at : suc (length xs) + n ≡ suc (length xs + n) = omega arith in
    ap (slice_get (x ∷ (xs ++ ys))) at ∙ among_last xs ys n

module _ (c : Stand) (Right : Number → Type 0) (known : Known c Right) where
  -- ---- one place

  pub place_known : (p : Place) (t : StaticType) → place_type (site c) p ≡ Some t → IsOfProgram (types_in c) t
  place_known (place.Variable n) t e = known.variables n t e
  place_known (place.Captured n) t e = known.captured n t e
  place_known (place.Field n) t e = known.fields n t e
  place_known (place.Constant n) t e = (known.constants n t e).0

  place_fits : (p : Place) (t : StaticType) → place_type (site c) p ≡ Some t → FitsAs (setting c) t t
  place_fits p t e = each_fits c known.operations t (place_known p t e)

  named_is : (n : ℕ) (t : StaticType) (hs : Held) → slice_get c.operation.variables n ≡ Some t →
      Has (live_in (setting c) hs) (variable.Named n) t
  named_is n t hs e =
      named_in c.operation.variables (frame (setting c) hs) n t
      (subst (λ z. slice_get z n ≡ Some t) (sym (take_whole c.operation.variables)) e)

  own_field : (n : ℕ) (t : StaticType) → slice_get (c.captured ++ c.fields) n ≡ Some t →
      slice_get (field_types (declared_of c.source) c.operation.class) n ≡ Some t
  own_field n t e = subst (λ z. slice_get z n ≡ Some t) (sym known.own_fields) e

  abbrev pub fetched : ℕ → Place → List Op
  fetched h p = fetch c.source (length c.captured) (length c.operation.variables) c.parts.literals (variable.Temporary h)
      p ∷ []

  pub place_leads : (p : Place) (t : StaticType) → place_type (site c) p ≡ Some t → (hs : Held) →
      Goes (setting c) (fetched (length hs) p) hs (Some t ∷ hs)
  place_leads (place.Variable n) t e hs =
      copied (operand.Of (variable.Named n)) t hs (place_fits (place.Variable n) t e) (named_is n t hs e)
  place_leads (place.Captured n) t e hs =
      field_had n t hs (place_fits (place.Captured n) t e) (own_field n t (among_first c.captured c.fields n t e))
  place_leads (place.Field n) t e hs =
      field_had (length c.captured + n) t hs (place_fits (place.Field n) t e)
      (own_field (length c.captured + n) t (among_last c.captured c.fields n ∙ e))
  place_leads (place.Constant n) t e hs =
      constant_had (constant_number c.source n) t hs (place_fits (place.Constant n) t e) (known.constants n t e).1

  abbrev pub leaf_of : Place → Option Leaf
  leaf_of p = leaf_at c.source (length c.captured) (length c.operation.variables) c.parts.literals p

  variable_leaf : (b : Bool) (n : ℕ) (l : Leaf) (t : StaticType) (hs : Held) → slice_get c.operation.variables n ≡ Some t →
      variable_if c.source (length c.captured) (length c.operation.variables) c.parts.literals b n ≡ Some l →
      IsOf (live_in (setting c) hs) (leaf_operand l) t
  variable_leaf true n l t hs is e =
      subst (λ z. IsOf (live_in (setting c) hs) (leaf_operand z) t) (same_leaf (Named n) l e) (named_is n t hs is)
  variable_leaf false n l t hs is e = no_leaf l e

  pub place_leaf : (p : Place) (l : Leaf) → leaf_of p ≡ Some l → (t : StaticType) → place_type (site c) p ≡ Some t →
      (hs : Held) → IsOf (live_in (setting c) hs) (leaf_operand l) t
  place_leaf (place.Variable n) l e t is hs = variable_leaf (nat_lt n (length c.operation.variables)) n l t hs is e
  place_leaf (place.Captured n) l e t is hs = no_leaf l e
  place_leaf (place.Field n) l e t is hs = no_leaf l e
  place_leaf (place.Constant n) l e t is hs = no_leaf l e

  -- ---- places of captured names

  same_captured : (t : StaticType) (o : Option StaticType) → is_same_result (Some t) o ≡ true → o ≡ Some t
  same_captured t None e = not_true e
  same_captured t (Some b) e = ap Some (sym (type_is t b e))

  pub captured_length :
      (ts : List StaticType) (ps : List Place) → are_captured ts (map (place_type (site c)) ps) ≡ true →
      length ts ≡ length ps
  captured_length [] [] e = refl
  captured_length [] (p ∷ ps) e = not_true e
  captured_length (t ∷ ts) [] e = not_true e
  captured_length (t ∷ ts) (p ∷ ps) e =
      ap suc
      (captured_length ts ps
      (both_true (is_same_result (Some t) (place_type (site c) p)) (are_captured ts (map (place_type (site c)) ps)) e).1)

  pub captured_lead :
      (ts : List StaticType) (ps : List Place) → are_captured ts (map (place_type (site c)) ps) ≡ true → (hs : Held) →
      Goes (setting c)
      (fetch_all c.source (length c.captured) (length c.operation.variables) c.parts.literals ps (length hs)) hs
      (above hs ts)
  captured_lead [] [] e hs = nothing
  captured_lead [] (p ∷ ps) e hs = not_true e
  captured_lead (t ∷ ts) [] e hs = not_true e
  captured_lead (t ∷ ts) (p ∷ ps) e hs =
      let b = both_true (is_same_result (Some t) (place_type (site c) p)) (are_captured ts (map (place_type (site c)) ps))
      e in
      go_on (place_leads p t (same_captured t (place_type (site c) p) b.0) hs) (captured_lead ts ps b.1 (Some t ∷ hs))
