-- The initial values of the fields of a body are stored in the fields themselves, and conform to their types.
use Rattle.std.proofs.Common.{◌≡◌, ℕ, suc, Bool, true, false, List, [], ◌∷◌, ◌++◌, length, map, Some, None, slice_get}
use Rattle.std.proofs.Common.{refl, sym, ap, ◌∙◌, subst, append_assoc}
use Rattle.ec_ast.specs.declared.Name.{Name}
use Rattle.ec_ast.specs.declared.Parameter.{Parameter}
use Rattle.ec_base.proofs.Stacks.{top_of-push}
use Rattle.ec_check.proofs.DistinctNames.{AreFewer, fewer_behind, fewer_both, not_there}
use Rattle.ec_check.proofs.Every.{Every, none_left, none_right}
use Rattle.ec_check.proofs.FirstNames.{entry_number, names_pushed}
use Rattle.ec_check.proofs.RangedParts.{map_both}
use Rattle.ec_check.proofs.SuitingBodies.{members_undoubled, all_members}
use Rattle.ec_check.proofs.TypedRolled.{statement_has}
use Rattle.ec_check.proofs.WellParts.{Ready, WellMember}
use Rattle.ec_check.proofs.WellReady.{first_ready, second_ready, ready_within, written_goes_in, constant_goes_in}
use Rattle.ec_check.specs.Parts.{MemberPart, variable, constant, condition, operation, Holder, member_judged, holder_judged}
use Rattle.ec_check.specs.Places.{Env, field_named, fields_of, number_named, names_of, type_or}
use Rattle.ec_check.specs.Resolving.{stored, field_stored, field_of, parameter_field, member_made, members_made, env_of_body, class_core}
use Rattle.ec_check.specs.WellTyped.{Site, typed, goes_in, goes_in_if}
use Rattle.ec_check.specs.WellTyped.{is_well_statement, all_well}
use Rattle.ec_types.specs.declared.conform.static_type.StaticType.{StaticType}
use Rattle.ec_core.specs.declared.Expression.{Expression}
use Rattle.ec_core.specs.declared.Field.{Field}
use Rattle.ec_core.specs.declared.Place.TheVariants as place
use Rattle.ec_core.specs.declared.Statement.TheOpen.{Statement-F as Core-F}
use Rattle.ec_core.specs.declared.Statement.TheVariants as s
use Rattle.ec_types.specs.Names.{Text, has_name}
use Rattle.ec_rules.specs.Doubled.{doubled_behind, doubled_in_body}
use Rattle.ec_rules.specs.Judging.{member_finished, members_finished}
use Rattle.ec_rules.specs.Lists.{each}
use Rattle.ec_rules.specs.Members as rules
use Rattle.ec_rules.specs.Members.{constant_type, constant_entry, variable_entry, parameter_entries, fields_in, member_name}
use Rattle.ec_rules.specs.Members.{object_with, scope_of_names, scope_of}
use Rattle.ec_rules.specs.Parts as judged
use Rattle.ec_rules.specs.Parts.{value_in}
use Rattle.ec_types.specs.declared.scopes.entries.Entry.{Entry}
use Rattle.ec_types.specs.declared.scopes.scope.Scope.{Scope}
use Rattle.ec_types.specs.Scopes.{innermost, written_in}

-- ---- the field of each member

abbrev types_of : List Field → List StaticType
types_of fields = map (λ f. f.of) fields

-- A member's name is that of its own field.
abbrev FieldStands : Scope → List Entry → List StaticType → MemberPart → Type 0
FieldStands scope entries types (variable is_attached name of value) =
    slice_get types (number_named (names_of entries) name.text) ≡ Some (written_in scope of)
FieldStands scope entries types (constant is_attached name of value) =
    slice_get types (number_named (names_of entries) name.text) ≡ Some (type_or (constant_type scope of value.part.form))
FieldStands scope entries types (condition name) = Unit {0}
FieldStands scope entries types (operation o) = Unit {0}

type_behind : (fields more : List Field) (f : Field) → slice_get (types_of (fields ++ (f ∷ more))) (length fields) ≡ Some f.of
type_behind [] more f = refl
type_behind (g ∷ fields) more f = type_behind fields more f

field_here : (before after : List Entry) (entry : Entry) (fields more : List Field) (f : Field) →
    has_name (names_of before) entry.name ≡ false → length before ≡ length fields →
    slice_get (types_of (fields ++ (f ∷ more))) (number_named (names_of (before ++ (entry ∷ after))) entry.name) ≡ Some f.of
field_here before after entry fields more f e l =
    ap (slice_get (types_of (fields ++ (f ∷ more)))) (entry_number before after entry e ∙ l) ∙ type_behind fields more f

pushed_lengths : (before : List Entry) (fields : List Field) (entry : Entry) (f : Field) → length before ≡ length fields →
    length (before ++ entry ∷ []) ≡ length (fields ++ f ∷ [])
pushed_lengths [] [] entry f e = refl
pushed_lengths [] (g ∷ fields) entry f e = cc
pushed_lengths (b ∷ before) [] entry f e = cc
pushed_lengths (b ∷ before) (g ∷ fields) entry f e =
    let l : length before ≡ length fields = cc in ap suc (pushed_lengths before fields entry f l)

fewer_pushed : (taken : List Text) (before : List Entry) (entry : Entry) → AreFewer (names_of before) taken →
    AreFewer (names_of (before ++ entry ∷ [])) (taken ++ entry.name ∷ [])
fewer_pushed taken before entry c =
    subst (λ names. AreFewer names (taken ++ entry.name ∷ [])) (sym (names_pushed before entry))
    (fewer_both (names_of before) taken entry.name c)

module _ (around : Scope) (h : judged.Holder) where
  abbrev entries_of : List MemberPart → List Entry
  entries_of ms = each (fields_in (scope_of_names around h)) (map member_judged ms)

  abbrev fields_in_body : List MemberPart → List Field
  fields_in_body ms = each (field_of (scope_of around h)) ms

  abbrev FieldsStand : List Entry → List Field → List MemberPart → Type 0
  FieldsStand entries fields ms = Every (FieldStands (scope_of around h) entries (types_of fields)) ms

  shifted : (before : List Entry) (entry : Entry) (fields : List Field) (f : Field) (all ms : List MemberPart) →
      FieldsStand ((before ++ entry ∷ []) ++ entries_of all) ((fields ++ f ∷ []) ++ fields_in_body all) ms →
      FieldsStand (before ++ (entry ∷ entries_of all)) (fields ++ (f ∷ fields_in_body all)) ms
  shifted before entry fields f all ms k =
      subst (λ es. FieldsStand es (fields ++ (f ∷ fields_in_body all)) ms) (append_assoc before (entry ∷ []) (entries_of all))
      (subst (λ fs. FieldsStand ((before ++ entry ∷ []) ++ entries_of all) fs ms)
      (append_assoc fields (f ∷ []) (fields_in_body all)) k)

  fields_stand : (ms : List MemberPart) (taken : List Text) (before : List Entry) (fields : List Field) →
      AreFewer (names_of before) taken → doubled_behind taken (map member_name (map member_judged ms)) ≡ [] →
      length before ≡ length fields → FieldsStand (before ++ entries_of ms) (fields ++ fields_in_body ms) ms
  fields_stand [] taken before fields c e l = tt
  fields_stand (variable is_attached name of value ∷ ms) taken before fields c e l = (
    field_here before (entries_of ms) (variable_entry (scope_of_names around h) name of) fields (fields_in_body ms)
        (record { is_attached = is_attached; of = written_in (scope_of around h) of })
        (c name.text (not_there _ _ _ (none_left _ _ e))) l,
    shifted before (variable_entry (scope_of_names around h) name of) fields
        (record { is_attached = is_attached; of = written_in (scope_of around h) of }) ms ms
        (fields_stand ms (taken ++ name.text ∷ []) (before ++ variable_entry (scope_of_names around h) name of ∷ [])
        (fields ++ record { is_attached = is_attached; of = written_in (scope_of around h) of } ∷ [])
        (fewer_pushed taken before (variable_entry (scope_of_names around h) name of) c) (none_right _ _ e)
        (pushed_lengths before fields _ _ l)),
  )
  fields_stand (constant is_attached name of value ∷ ms) taken before fields c e l = (
    field_here before (entries_of ms) (constant_entry name (constant_type (scope_of_names around h) of value.part.form)) fields
        (fields_in_body ms)
        (record { is_attached = is_attached; of = type_or (constant_type (scope_of around h) of value.part.form) })
        (c name.text (not_there _ _ _ (none_left _ _ e))) l,
    shifted before (constant_entry name (constant_type (scope_of_names around h) of value.part.form)) fields
        (record { is_attached = is_attached; of = type_or (constant_type (scope_of around h) of value.part.form) }) ms ms
        (fields_stand ms (taken ++ name.text ∷ [])
        (before ++ constant_entry name (constant_type (scope_of_names around h) of value.part.form) ∷ [])
        (fields ++ record { is_attached = is_attached; of = type_or (constant_type (scope_of around h) of value.part.form) } ∷ [])
        (fewer_pushed taken before (constant_entry name (constant_type (scope_of_names around h) of value.part.form)) c)
        (none_right _ _ e) (pushed_lengths before fields _ _ l)),
  )
  fields_stand (condition name ∷ ms) taken before fields c e l = (
    tt,
    fields_stand ms (taken ++ name.text ∷ []) before fields (fewer_behind (names_of before) taken name.text c) (none_right _ _ e) l,
  )
  fields_stand (operation o ∷ ms) taken before fields c e l = (
    tt,
    fields_stand ms (taken ++ o.name.text ∷ []) before fields (fewer_behind (names_of before) taken o.name.text c)
        (none_right _ _ e) l,
  )

-- ---- the fields of a body

parameter_names_are : (scope : Scope) (ps : List Parameter) → names_of (parameter_entries scope ps) ≡ map (λ p. p.name.text) ps
parameter_names_are scope [] = refl
parameter_names_are scope (p ∷ ps) = ap (λ names. p.name.text ∷ names) (parameter_names_are scope ps)

parameter_lengths : (scope : Scope) (ps : List Parameter) →
    length (parameter_entries scope ps) ≡ length (map (parameter_field scope) ps)
parameter_lengths scope [] = refl
parameter_lengths scope (p ∷ ps) = ap suc (parameter_lengths scope ps)

-- A member's name in an env is that of a field of its type.
abbrev pub FieldIs : List StaticType → Env → MemberPart → Type 0
FieldIs types env m = FieldStands env.scope (fields_of (innermost env.scope)) types m

pub fields_are : (scope : Scope) (h : Holder) → doubled_in_body (holder_judged h) ≡ [] →
    Every (FieldIs (types_of (class_core scope h).fields) (env_of_body scope h)) h.body.members
fields_are scope h e =
    let top : innermost (scope_of scope (holder_judged h))
    ≡ Some (object_with scope (holder_judged h) (rules.fields_of scope (holder_judged h))) =
    top_of-push scope.objects (object_with scope (holder_judged h) (rules.fields_of scope (holder_judged h))) in
    subst
    (λ o. Every (FieldStands (scope_of scope (holder_judged h)) (fields_of o) (types_of (class_core scope h).fields)) h.body.members)
    (sym top)
    (subst
    (λ ms. Every
    (FieldStands (scope_of scope (holder_judged h))
    (parameter_entries scope h.parameters ++ each (fields_in (scope_of_names scope (holder_judged h))) ms)
    (types_of (class_core scope h).fields))
    h.body.members)
    (sym (all_members (holder_judged h) e))
    (fields_stand scope (holder_judged h) h.body.members (map (λ p. p.name.text) h.parameters)
    (parameter_entries scope h.parameters) (map (parameter_field scope) h.parameters)
    (λ name f. subst (λ names. has_name names name ≡ false) (sym (parameter_names_are scope h.parameters)) f)
    (members_undoubled (holder_judged h) e) (parameter_lengths scope h.parameters)))

-- ---- statements that store initial values

pub all_well_joined : (site : Site) (xs ys : List Bool) → all_well site xs ≡ true → all_well site ys ≡ true →
    all_well site (xs ++ ys) ≡ true
all_well_joined site [] ys e f = f
all_well_joined site (true ∷ xs) ys e f = all_well_joined site xs ys e f
all_well_joined site (false ∷ xs) ys e f = e

stored_well : (site : Site) (env : Env) (name : Name) (value : Expression) (of : StaticType) →
    slice_get site.fields (field_named env name.text) ≡ Some of → goes_in site.table of (typed site value) ≡ true →
    all_well site (map (is_well_statement site) (stored env name (Some value))) ≡ true
stored_well site env name value of f g =
    let here : is_well_statement site (s.Assign (place.Field (field_named env name.text)) value) ≡ true =
    statement_has site (s.Assign (place.Field (field_named env name.text)) value)
    (Core-F.Assign (place.Field (field_named env name.text)) value) (s.rolls-Assign (place.Field (field_named env name.text)) value)
    ∙ (ap (λ o. goes_in_if site.table o (typed site value)) f ∙ g) in
    ap (λ b. all_well site (b ∷ [])) here

member_stored : (site : Site) (env : Env) (is_monitored : Bool) (class : ℕ) (m : MemberPart) → WellMember m →
    Ready site env (member_finished env.scope is_monitored (member_judged m)).uses
    (member_finished env.scope is_monitored (member_judged m)).faults (member_made class env m) →
    FieldIs site.fields env m → all_well site (map (is_well_statement site) (field_stored env m)) ≡ true
member_stored site env is_monitored class (variable is_attached name of None) h r f = refl
member_stored site env is_monitored class (variable is_attached name of (Some x)) h r f =
    stored_well site env name (x.core env) (written_in env.scope of) f
    (written_goes_in site env of x h (ready_within _ _ r) (none_left _ _ (none_right _ _ (none_right _ _ r.faultless))))
member_stored site env is_monitored class (constant is_attached name of x) h r f =
    stored_well site env name (x.core env) (type_or (constant_type env.scope of x.part.form)) f
    (constant_goes_in site env name of x h (ready_within _ _ r) (none_left _ _ (none_right _ _ (none_right _ _ r.faultless))))
member_stored site env is_monitored class (condition name) h r f = refl
member_stored site env is_monitored class (operation o) h r f = refl

pub members_stored : (site : Site) (env : Env) (is_monitored : Bool) (class : ℕ) (ms : List MemberPart) → Every WellMember ms →
    Ready site env (members_finished env.scope is_monitored (map member_judged ms)).uses
    (members_finished env.scope is_monitored (map member_judged ms)).faults (members_made class env ms) →
    Every (FieldIs site.fields env) ms → all_well site (map (is_well_statement site) (each (field_stored env) ms)) ≡ true
members_stored site env is_monitored class [] h r f = refl
members_stored site env is_monitored class (m ∷ ms) h r f =
    ap (all_well site) (map_both (is_well_statement site) (field_stored env m) (each (field_stored env) ms))
    ∙ all_well_joined site (map (is_well_statement site) (field_stored env m))
    (map (is_well_statement site) (each (field_stored env) ms))
    (member_stored site env is_monitored class m h.0 (first_ready _ _ _ _ _ _ r) f.0)
    (members_stored site env is_monitored class ms h.1 (second_ready _ _ _ _ _ _ r) f.1)
