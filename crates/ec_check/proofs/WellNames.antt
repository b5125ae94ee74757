-- The value of a name that is found is of the type by which it is found; and the object of an object constructor is one of its
-- class, with values of the types that the class captures.
use Rattle.std.proofs.Common.{◌≡◌, ℕ, zero, suc, ◌==◌, true, ◌&&◌, List, [], ◌∷◌, ◌++◌, map, Some, refl, sym, ◌∙◌, subst}
use Rattle.std.proofs.Common.{is_some}
use Rattle.std.proofs.lemmas.Bool.{eq-eqb}
use Rattle.ec_ast.specs.declared.Name.{Name}
use Rattle.ec_check.proofs.CapturedNames.{HeldAt, each_captured}
use Rattle.ec_check.proofs.Every.{Every, every_left, every_right, not_both}
use Rattle.ec_check.proofs.FoundPlaces.{held_out, held_is_found}
use Rattle.ec_check.proofs.KnownTypes.{HasType}
use Rattle.ec_check.proofs.RangedHolders.{inner_used, outside_body}
use Rattle.ec_check.proofs.ReachedNames.{IsReached}
use Rattle.ec_check.proofs.SoundScopes.{SoundScope, TypedFound, found_is_typed}
use Rattle.ec_check.proofs.Suiting.{place_typed}
use Rattle.ec_check.proofs.TypedRolled.{expression_has}
use Rattle.ec_check.proofs.WellHolders.{holder_well}
use Rattle.ec_check.proofs.WellLinks.{Is, same_is, is_if}
use Rattle.ec_check.proofs.WellParts.{Suits, Ready, Well, WellConstructor}
use Rattle.ec_check.proofs.WellValues.{both_hold, some_class_is, same_as_itself, is_type, known_is}
use Rattle.ec_check.specs.Parts.{Holder, holder_judged}
use Rattle.ec_check.specs.Places.{Env, place_of, type_found}
use Rattle.ec_check.specs.Resolving.{holder_made}
use Rattle.ec_check.specs.Resolving.{captures_of, number_of_holder, class_core}
use Rattle.ec_check.specs.WellTyped.{Site, typed_if, typed, type_at}
use Rattle.ec_check.specs.WellTyped.{are_captured, is_same_result}
use Rattle.ec_types.specs.Types.{named}
use Rattle.ec_core.specs.declared.Expression.TheOpen.{Expression-F as Core-F}
use Rattle.ec_core.specs.declared.Expression.TheVariants as e
use Rattle.ec_types.specs.Names.{Text, has_name}
use Rattle.ec_rules.specs.Captures.{Use, use_of, use_outside, uses_outside}
use Rattle.ec_rules.specs.Judging.{uses_within, faults_in_holder}
use Rattle.ec_rules.specs.Judging as judging
use Rattle.ec_rules.specs.Names.{is_found}
use Rattle.ec_types.specs.declared.scopes.scope.Found.{Found}
use Rattle.ec_types.specs.declared.scopes.scope.Found.TheVariants as found
use Rattle.ec_types.specs.Scopes.{find}

-- ---- names

reached_further : (captures : List Text) (name : Name) (out k : ℕ) → Every (IsReached captures) (use_outside name out ++ []) →
    out ≡ suc k → has_name captures name.text ≡ true
reached_further captures name zero k h e = cc
reached_further captures name (suc out) k h e = h.0

reached_found : (captures : List Text) (name : Name) (f : Found) → Every (IsReached captures) (uses_outside (use_of name f)) →
    (k : ℕ) → held_out f ≡ Some (suc k) → has_name captures name.text ≡ true
reached_found captures name (found.Held h) r k e = let t : h.out ≡ suc k = cc in reached_further captures name h.out k r t
reached_found captures name (found.Constant of) r k e = cc
reached_found captures name found.Nothing r k e = cc

found_type : (f : Found) → is_found f ≡ true → TypedFound f → Some (type_found f) ≡ judging.type_found f
found_type (found.Held h) is t = sym (is_type h.of t) ∙ sym (known_is h.of t)
found_type (found.Constant of) is t = sym (is_type of t) ∙ sym (known_is of t)
found_type found.Nothing is t = not_both is

pub name_well : (site : Site) (env : Env) (name : Name) → Suits site env → SoundScope env.scope →
    Every (IsReached env.captures) (uses_outside (use_of name (find env.scope name.text))) →
    is_found (find env.scope name.text) ≡ true →
    Is (typed site (e.Read (place_of env name.text))) (judging.type_found (find env.scope name.text))
name_well site env name s g reach is =
    let there : type_at site (place_of env name.text) ≡ Some (type_found (find env.scope name.text)) =
    place_typed site env name.text s is (reached_found env.captures name (find env.scope name.text) reach) in
    same_is
    (expression_has site (e.Read (place_of env name.text)) (Core-F.Read (place_of env name.text)) (e.rolls-Read (place_of env name.text)))
    (subst (λ of. Is (typed_if (is_some of) of) (judging.type_found (find env.scope name.text))) (sym there)
    (record { has_type = found_type (find env.scope name.text) is (found_is_typed env.scope name.text g); is_well = refl }))

-- ---- object constructors

-- A captured name is found, is of a known type, and is at a place of this type.
pub record IsCaptured (site : Site) (env : Env) (name : Text) : Type 0 where
  pub place : type_at site (place_of env name) ≡ Some (type_found (find env.scope name))
  pub known : HasType (Some (type_found (find env.scope name)))

found_known : (f : Found) → is_found f ≡ true → TypedFound f → HasType (Some (type_found f))
found_known (found.Held h) is t = subst HasType (is_type h.of t) t
found_known (found.Constant of) is t = subst HasType (is_type of t) t
found_known found.Nothing is t = not_both is

captured_use : (site : Site) (env : Env) (u : Use) → Suits site env → SoundScope env.scope → HeldAt env.scope u →
    Every (IsReached env.captures) (use_outside u.name u.out) → IsCaptured site env u.name.text
captured_use site env u s g h reach =
    let is : is_found (find env.scope u.name.text) ≡ true = held_is_found (find env.scope u.name.text) u.out h in
    record {
      place =
          place_typed site env u.name.text s is
          (λ k e. let t : Some u.out ≡ Some (suc k) = sym h ∙ e in
          let i : u.out ≡ suc k = cc in
          out_reached u.out k reach i);
      known = found_known (find env.scope u.name.text) is (found_is_typed env.scope u.name.text g);
    }
  where
    out_reached : (out k : ℕ) → Every (IsReached env.captures) (use_outside u.name out) → out ≡ suc k →
        has_name env.captures u.name.text ≡ true
    out_reached zero k r i = cc
    out_reached (suc out) k r i = r.0

captured_uses : (us : List Use) (site : Site) (env : Env) → Suits site env → SoundScope env.scope → Every (HeldAt env.scope) us →
    Every (IsReached env.captures) (uses_outside us) → Every (λ (u : Use). IsCaptured site env u.name.text) us
captured_uses [] site env s g h reach = tt
captured_uses (u ∷ us) site env s g h reach = (
  captured_use site env u s g h.0 (every_left (IsReached env.captures) (use_outside u.name u.out) (uses_outside us) reach),
  captured_uses us site env s g h.1 (every_right (IsReached env.captures) (use_outside u.name u.out) (uses_outside us) reach),
)

types_captured : (names : List Text) (site : Site) (env : Env) → Every (IsCaptured site env) names →
    are_captured (map (λ name. type_found (find env.scope name)) names) (map (type_at site) (map (place_of env) names)) ≡ true
types_captured [] site env h = refl
types_captured (name ∷ names) site env h =
    both_hold (is_same_result (Some (type_found (find env.scope name))) (type_at site (place_of env name))) _
    (subst (λ of. is_same_result (Some (type_found (find env.scope name))) of ≡ true) (sym h.0.place)
    (same_as_itself (Some (type_found (find env.scope name))) h.0.known))
    (types_captured names site env h.1)

constructor_typed : (site : Site) (env : Env) (h : Holder) → WellConstructor (record { at = h.name.at; holder = h }) →
    Ready site env (uses_outside (uses_within env.scope (holder_judged h))) (faults_in_holder env.scope (holder_judged h))
    (holder_made env.scope h) →
    Is (typed site (e.Construct (number_of_holder env.scope h) (map (place_of env) (captures_of env.scope h))))
    (Some (named (number_of_holder env.scope h)))
constructor_typed site env h k r =
    same_is
    (expression_has site (e.Construct (number_of_holder env.scope h) (map (place_of env) (captures_of env.scope h)))
    (Core-F.Construct (number_of_holder env.scope h) (map (place_of env) (captures_of env.scope h)))
    (e.rolls-Construct (number_of_holder env.scope h) (map (place_of env) (captures_of env.scope h))))
    (is_if _ (Some (named (number_of_holder env.scope h)))
    (some_class_is
    (λ c. c.number == number_of_holder env.scope h
    && are_captured c.captured (map (type_at site) (map (place_of env) (captures_of env.scope h))))
    site.core.classes (class_core env.scope h) r.classes.0
    (both_hold (number_of_holder env.scope h == number_of_holder env.scope h) _ (eq-eqb _ _ refl)
    (types_captured (captures_of env.scope h) site env
    (each_captured (IsCaptured site env) (uses_within env.scope (holder_judged h))
    (captured_uses (uses_outside (uses_within env.scope (holder_judged h))) site env r.suits r.sound
    (subst (λ s. Every (HeldAt s) (uses_outside (uses_within env.scope (holder_judged h)))) (outside_body env.scope h)
    (inner_used env.scope h k.ranged)) r.reach))))))

pub constructor_well : (site : Site) (env : Env) (h : Holder) → WellConstructor (record { at = h.name.at; holder = h }) →
    Ready site env (uses_outside (uses_within env.scope (holder_judged h))) (faults_in_holder env.scope (holder_judged h))
    (holder_made env.scope h) →
    Well site (e.Construct (number_of_holder env.scope h) (map (place_of env) (captures_of env.scope h)))
    (Some (named (number_of_holder env.scope h))) (holder_made env.scope h).operations
constructor_well site env h k r =
    let is : Is (typed site (e.Construct (number_of_holder env.scope h) (map (place_of env) (captures_of env.scope h))))
    (Some (named (number_of_holder env.scope h))) = constructor_typed site env h k r in
    record {
      has_type = is.has_type;
      is_well = is.is_well;
      operations =
          holder_well site env.scope h k r.suits.table r.suits.globals r.sound r.faultless r.classes r.operations;
    }
