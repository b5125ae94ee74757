-- A name that is found stands for the place where its value is kept.
use Rattle.std.proofs.Common.{◌≡◌, ℕ, zero, suc, ◌+◌, ◌<◌, ◌≤◌, Bool, true, false, List, [], ◌∷◌, ◌++◌, length, map, Option, Some, None}
use Rattle.std.proofs.Common.{refl, sym, ap, not, ◌∙◌, subst, is_some, if◌then◌else◌, arith, slice_get}
use Rattle.std.proofs.lemmas.Bool.{or_parts}
use Rattle.std.proofs.lemmas.List.{length-map}
use Rattle.ec_check.proofs.Every.{not_both, second_holds}
use Rattle.ec_check.proofs.FirstNames.{same_itself}
use Rattle.ec_check.proofs.FoundPlaces.{held_out, own_entries, own_entry, named_below, some_names}
use Rattle.ec_check.proofs.FoundTypes.{found_value}
use Rattle.ec_check.proofs.WellValues.{first_of_two, second_of_two}
use Rattle.ec_check.specs.Places.{Env, number_or, number_named, names_of, fields_of, conditions_of, number_at_or, held_place}
use Rattle.ec_check.specs.Places.{place_found, place_of}
use Rattle.ec_check.specs.Places.{field_named, condition_named}
use Rattle.ec_types.proofs.NamesLemmas.{has_name_more}
use Rattle.ec_core.specs.declared.Place.TheVariants as place
use Rattle.ec_core_laws.specs.Names.{IsCondition, IsField, StandsFor, local, field, captured, constant}
use Rattle.ec_types.specs.Names.{Text, first_from, first_named, has_name, is_same}
use Rattle.ec_rules.specs.Names.{is_found}
use Rattle.ec_types.specs.declared.scopes.entries.Entry.{Entry}
use Rattle.ec_types.specs.declared.scopes.globals.Global.{Global}
use Rattle.ec_types.specs.declared.scopes.object.Object.{Object}
use Rattle.ec_types.specs.declared.scopes.scope.Found.{Found}
use Rattle.ec_types.specs.declared.scopes.scope.Found.TheVariants as found
use Rattle.ec_types.specs.declared.scopes.scope.Held.{Held}
use Rattle.ec_types.specs.Scopes.{entry_named, meaning_named, find, innermost, locals_of, may_use, may_use_in}

-- ---- numbers of names

some_number : (o : Option ℕ) → is_some o ≡ true → o ≡ Some (number_or o)
some_number None e = not_both e
some_number (Some n) e = refl

pub number_is : (names : List Text) (name : Text) → has_name names name ≡ true → first_named names name ≡ Some (number_named names name)
number_is names name e = some_number (first_named names name) e

some_slice : (numbers : List ℕ) (at : ℕ) → at < length numbers → is_some (slice_get numbers at) ≡ true
some_slice [] at l = absurd (omega arith)
some_slice (n ∷ ns) zero l = refl
some_slice (n ∷ ns) (suc at) l = some_slice ns at (omega arith)

slice_is : (numbers : List ℕ) (at : ℕ) → at < length numbers → slice_get numbers at ≡ Some (number_at_or numbers at)
slice_is numbers at l = some_number (slice_get numbers at) (some_slice numbers at l)

-- ---- names that are there

pub there_right : (before names : List Text) (name : Text) → has_name names name ≡ true → has_name (before ++ names) name ≡ true
there_right [] names name e = e
there_right (own ∷ before) names name e =
    has_name_more own (before ++ names) name
    ∙ second_of_two (is_same own name) (has_name (before ++ names) name) (there_right before names name e)

pub there_first : (names : List Text) (name : Text) → has_name (name ∷ names) name ≡ true
there_first names name =
    has_name_more name names name ∙ first_of_two (is_same name name) (has_name names name) (same_itself name)

entry_has : (n : ℕ) (entries : List Entry) (name : Text) → is_some (entry_named entries name) ≡ true →
    is_some (first_from n (names_of entries) name) ≡ true
entry_has n [] name e = e
entry_has n (x ∷ xs) name e = here (is_same x.name name) e (entry_has (n + 1) xs name)
  where
    here : (b : Bool) → is_some (if b then Some x else entry_named xs name) ≡ true →
        (is_some (entry_named xs name) ≡ true → is_some (first_from (n + 1) (names_of xs) name) ≡ true) →
        is_some (if b then Some n else first_from (n + 1) (names_of xs) name) ≡ true
    here true e k = refl
    here false e k = k e

-- What is no local is a field.
field_has : (locals fields : List Entry) (name : Text) → is_some (entry_named (locals ++ fields) name) ≡ true →
    has_name (names_of locals) name ≡ false → has_name (names_of fields) name ≡ true
field_has [] fields name e n = entry_has 0 fields name e
field_has (x ∷ xs) fields name e n =
    let parts : (is_same x.name name ≡ false) × (has_name (names_of xs) name ≡ false) =
    or_parts (is_same x.name name) (has_name (names_of xs) name) (sym (has_name_more x.name (names_of xs) name) ∙ n) in
    field_has xs fields name
    (subst (λ b. is_some (if b then Some x else entry_named (xs ++ fields) name) ≡ true) parts.0 e) parts.1

meaning_has : (n : ℕ) (globals : List Global) (name : Text) → is_some (meaning_named globals name) ≡ true →
    is_some (first_from n (map (λ (g : Global). g.name) globals) name) ≡ true
meaning_has n [] name e = e
meaning_has n (g ∷ gs) name e = here (is_same g.name name) e (meaning_has (n + 1) gs name)
  where
    here : (b : Bool) → is_some (if b then Some g.meaning else meaning_named gs name) ≡ true →
        (is_some (meaning_named gs name) ≡ true → is_some (first_from (n + 1) (map (λ (g : Global). g.name) gs) name) ≡ true) →
        is_some (if b then Some n else first_from (n + 1) (map (λ (g : Global). g.name) gs) name) ≡ true
    here true e k = refl
    here false e k = k e

-- ---- places of names

-- Each local in scope has a number.
abbrev pub Fit : Env → Type 0
Fit env = length (locals_of (innermost env.scope)) ≤ length env.numbers

own_at : (env : Env) (name : Text) (h : Held) → find env.scope name ≡ found.Held h → h.out ≡ 0 → (o : Option Object) →
    innermost env.scope ≡ o → is_some (entry_named (own_entries o) name) ≡ true → length (locals_of o) ≤ length env.numbers →
    (b : Bool) → has_name (names_of (locals_of o)) name ≡ b →
    StandsFor env name
    (if b then place.Variable (number_at_or env.numbers (number_named (names_of (locals_of o)) name))
    else place.Field (number_named (names_of (fields_of o)) name))
own_at env name h is out None own e l b there = not_both e
own_at env name h is out (Some o) own e l true there =
    let same : length (names_of o.locals) ≡ length o.locals = length-map o.locals (λ e. e.name) in
    let below : number_named (names_of o.locals) name < length (names_of o.locals) =
    named_below (names_of o.locals) name (some_names (names_of o.locals) name there) in
    local is out
    (record {
      object = o;
      at = number_named (names_of o.locals) name;
      own = own;
      declared = number_is (names_of o.locals) name there;
      number = slice_is env.numbers (number_named (names_of o.locals) name) (omega arith);
    })
own_at env name h is out (Some o) own e l false there =
    field is out (record { object = o; own = own; absent = there })
    (record { object = o; own = own; number = number_is (names_of o.fields) name (field_has o.locals o.fields name e there) })

held_stands : (env : Env) (name : Text) (h : Held) → find env.scope name ≡ found.Held h → Fit env → (out : ℕ) → h.out ≡ out →
    ((k : ℕ) → out ≡ suc k → has_name env.captures name ≡ true) → StandsFor env name (held_place env name out)
held_stands env name h is fit zero e reach =
    own_at env name h is e (innermost env.scope) refl (own_entry env.scope name (ap held_out is ∙ ap Some e)) fit
    (has_name (names_of (locals_of (innermost env.scope))) name) refl
held_stands env name h is fit (suc out) e reach = captured is e (number_is env.captures name (reach out refl))

found_stands : (env : Env) (name : Text) (f : Found) → find env.scope name ≡ f → is_found f ≡ true → Fit env →
    ((k : ℕ) → held_out f ≡ Some (suc k) → has_name env.captures name ≡ true) → StandsFor env name (place_found env name f)
found_stands env name (found.Held h) is e fit reach =
    held_stands env name h is fit h.out refl (λ k s. reach k (ap Some s))
found_stands env name (found.Constant of) is e fit reach =
    constant is
    (number_is (map (λ g. g.name) env.scope.globals) name
    (meaning_has 0 env.scope.globals name (ap is_some (found_value env.scope name of is))))
found_stands env name found.Nothing is e fit reach = not_both e

pub stands : (env : Env) (name : Text) → is_found (find env.scope name) ≡ true → Fit env →
    ((k : ℕ) → held_out (find env.scope name) ≡ Some (suc k) → has_name env.captures name ≡ true) →
    StandsFor env name (place_of env name)
stands env name e fit reach = found_stands env name (find env.scope name) refl e fit reach

-- ---- fields and conditions

field_at : (env : Env) (name : Text) (o : Option Object) → innermost env.scope ≡ o → has_name (names_of (fields_of o)) name ≡ true →
    IsField env name (number_named (names_of (fields_of o)) name)
field_at env name None own e = not_both e
field_at env name (Some o) own e = record { object = o; own = own; number = number_is (names_of o.fields) name e }

pub field_is : (env : Env) (name : Text) → has_name (names_of (fields_of (innermost env.scope))) name ≡ true →
    IsField env name (field_named env name)
field_is env name e = field_at env name (innermost env.scope) refl e

used : (o : Object) (name : Text) → may_use_in (Some o) name ≡ true → has_name o.conditions name ≡ true
used o name e = second_holds (not o.in_process) (has_name o.conditions name) (second_holds o.is_monitored _ e)

condition_at : (env : Env) (name : Text) (o : Option Object) → innermost env.scope ≡ o → may_use_in o name ≡ true →
    IsCondition env name (number_named (conditions_of o) name)
condition_at env name None own e = not_both e
condition_at env name (Some o) own e = record { object = o; own = own; number = number_is o.conditions name (used o name e) }

pub condition_is : (env : Env) (name : Text) → may_use env.scope name ≡ true → IsCondition env name (condition_named env name)
condition_is env name e = condition_at env name (innermost env.scope) refl e
