-- The types that the forms of values name: they are known, and don't hang on the types of names.
use Rattle.std.proofs.Common.{◌≡◌, ℕ, Bool, true, false, List, [], ◌∷◌, ◌++◌, length, map, Option, Some, None, refl, sym, ap, ◌∙◌}
use Rattle.std.proofs.Common.{is_some, if◌then◌else◌}
use Rattle.std.proofs.Math.Path.{ap₂}
use Rattle.std.proofs.lemmas.List.{map-append}
use Rattle.ec_ast.specs.declared.Name.{Name}
use Rattle.ec_ast.specs.declared.Parameter.{Parameter}
use Rattle.ec_ast.specs.declared.TypeName.{TypeName}
use Rattle.ec_check.proofs.KnownTypes.{HasType, is_written, written_has_type, vector_is_written, test_holds, type_is_known}
use Rattle.ec_types.specs.Table.{Table}
use Rattle.ec_types.specs.Names.{Text, is_same}
use Rattle.ec_rules.specs.Faults.{meaning_of, globals_in}
use Rattle.ec_rules.specs.Forms.{Form, Literal, Negated, Constructor, Vector, Created, Itself, NameAlone, Other}
use Rattle.ec_rules.specs.Lists.{each, each_of}
use Rattle.ec_rules.specs.Members.{type_created, form_type, constant_type, constant_entry, parameter_entries, fields_in, field_names_in}
use Rattle.ec_rules.specs.Members.{field_names, fields_of, scope_of_names, scope_of, members_of, object_with}
use Rattle.ec_rules.specs.Names.{is_found, unknown_types}
use Rattle.ec_rules.specs.Operands.{wrong_constant}
use Rattle.ec_rules.specs.Parts.{Part, MemberPart, variable, constant, condition, operation, Holder, ConstantPart, ValuePart}
use Rattle.ec_rules.specs.Parts.{expression, class, typeobject}
use Rattle.ec_types.specs.declared.scopes.globals.ClassMeant.{ClassMeant}
use Rattle.ec_types.specs.declared.scopes.entries.Entry.{Entry}
use Rattle.ec_types.specs.declared.scopes.scope.Found.{Found}
use Rattle.ec_types.specs.declared.scopes.scope.Found.TheVariants as found
use Rattle.ec_types.specs.declared.scopes.globals.Global.{Global}
use Rattle.ec_types.specs.declared.scopes.globals.Meaning.{Meaning}
use Rattle.ec_types.specs.declared.scopes.object.Object.{Object}
use Rattle.ec_types.specs.declared.scopes.scope.Scope.{Scope}
use Rattle.ec_types.specs.Scopes.{entry_named, meaning_named, found_meaning, held_or, found_within, innermost, class_meant}
use Rattle.ec_types.specs.Scopes.{unless_value, class_named, written_in}

-- ---- names of entries

abbrev any_named : List Text → Text → Bool
any_named [] name = false
any_named (own ∷ names) name = if is_same own name then true else any_named names name

abbrev entry_name : Entry → Text
entry_name e = e.name

entry_by_names : (es : List Entry) (name : Text) → is_some (entry_named es name) ≡ any_named (map entry_name es) name
entry_by_names [] name = refl
entry_by_names (e ∷ es) name = by (is_same e.name name) (entry_by_names es name)
  where
    by : (b : Bool) → is_some (entry_named es name) ≡ any_named (map entry_name es) name →
        is_some (if b then Some e else entry_named es name) ≡ (if b then true else any_named (map entry_name es) name)
    by true later = refl
    by false later = later

same_entry : (es fs : List Entry) (name : Text) → map entry_name es ≡ map entry_name fs →
    is_some (entry_named es name) ≡ is_some (entry_named fs name)
same_entry es fs name e =
    entry_by_names es name ∙ (ap (λ names. any_named names name) e ∙ sym (entry_by_names fs name))

same_names_joined : (es fs gs hs : List Entry) → map entry_name es ≡ map entry_name fs → map entry_name gs ≡ map entry_name hs →
    map entry_name (es ++ gs) ≡ map entry_name (fs ++ hs)
same_names_joined es fs gs hs d e =
    map-append entry_name es gs ∙ (ap₂ ◌++◌ d e ∙ sym (map-append entry_name fs hs))

same_names_each : {A : Type 0} (f g : A → List Entry) → ((x : A) → map entry_name (f x) ≡ map entry_name (g x)) →
    (xs : List A) → map entry_name (each f xs) ≡ map entry_name (each g xs)
same_names_each f g s [] = refl
same_names_each f g s (x ∷ xs) = same_names_joined (f x) (g x) (each f xs) (each g xs) (s x) (same_names_each f g s xs)

same_parameters : (scope : Scope) (ps : List Parameter) →
    map entry_name (map (λ p. constant_entry p.name None) ps) ≡ map entry_name (parameter_entries scope ps)
same_parameters scope [] = refl
same_parameters scope (p ∷ ps) = ap (λ names. p.name.text ∷ names) (same_parameters scope ps)

same_field : (scope : Scope) (m : MemberPart) → map entry_name (field_names_in m) ≡ map entry_name (fields_in scope m)
same_field scope (variable is_attached name of value) = refl
same_field scope (constant is_attached name of value) = refl
same_field scope (condition name) = refl
same_field scope (operation o) = refl

same_fields : (scope : Scope) (h : Holder) → map entry_name (field_names h) ≡ map entry_name (fields_of scope h)
same_fields scope h =
    same_names_joined (map (λ p. constant_entry p.name None) h.parameters) (parameter_entries scope h.parameters)
    (each field_names_in (members_of h)) (each (fields_in (scope_of_names scope h)) (members_of h))
    (same_parameters scope h.parameters)
    (same_names_each field_names_in (fields_in (scope_of_names scope h)) (same_field (scope_of_names scope h)) (members_of h))

-- ---- which names are found

same_held : (m n : ℕ) (d e : Option Entry) (f g : Found) → is_some d ≡ is_some e → is_found f ≡ is_found g →
    is_found (held_or m d f) ≡ is_found (held_or n e g)
same_held m n None None f g s t = t
same_held m n None (Some e) f g s t = cc
same_held m n (Some d) None f g s t = cc
same_held m n (Some d) (Some e) f g s t = refl

same_found : (name : Text) (os : List Object) (a b : Object) (f g : Found) →
    is_some (entry_named (a.locals ++ a.fields) name) ≡ is_some (entry_named (b.locals ++ b.fields) name) →
    is_found f ≡ is_found g →
    is_found (found_within name f (os ++ a ∷ [])) ≡ is_found (found_within name g (os ++ b ∷ []))
same_found name [] a b f g s t =
    same_held 0 0 (entry_named (a.locals ++ a.fields) name) (entry_named (b.locals ++ b.fields) name) f g s t
same_found name (o ∷ os) a b f g s t =
    same_found name os a b
    (held_or (length (os ++ a ∷ [])) (entry_named (o.locals ++ o.fields) name) f)
    (held_or (length (os ++ b ∷ [])) (entry_named (o.locals ++ o.fields) name) g) s
    (same_held (length (os ++ a ∷ [])) (length (os ++ b ∷ [])) (entry_named (o.locals ++ o.fields) name)
    (entry_named (o.locals ++ o.fields) name) f g refl t)

same_unless : (f g : Found) (c : Option ClassMeant) → is_found f ≡ is_found g → unless_value f c ≡ unless_value g c
same_unless (found.Held h) (found.Held i) c e = refl
same_unless (found.Held h) (found.Constant of) c e = refl
same_unless (found.Held h) found.Nothing c e = cc
same_unless (found.Constant of) (found.Held i) c e = refl
same_unless (found.Constant of) (found.Constant also) c e = refl
same_unless (found.Constant of) found.Nothing c e = cc
same_unless found.Nothing (found.Held i) c e = cc
same_unless found.Nothing (found.Constant of) c e = cc
same_unless found.Nothing found.Nothing c e = refl

-- The names of the fields alone say which names are classes in a body.
pub same_class_in_body : (scope : Scope) (h : Holder) (name : Text) →
    class_named (scope_of_names scope h) name ≡ class_named (scope_of scope h) name
same_class_in_body scope h name =
    same_unless
    (found_within name (found_meaning (meaning_named scope.globals name))
    (scope.objects ++ object_with scope h (field_names h) ∷ []))
    (found_within name (found_meaning (meaning_named scope.globals name))
    (scope.objects ++ object_with scope h (fields_of scope h) ∷ []))
    (class_meant (meaning_named scope.globals name))
    (same_found name scope.objects (object_with scope h (field_names h)) (object_with scope h (fields_of scope h))
    (found_meaning (meaning_named scope.globals name)) (found_meaning (meaning_named scope.globals name))
    (same_entry (field_names h) (fields_of scope h) name (same_fields scope h)) refl)

-- ---- which constants are classes

abbrev class_of : Option Meaning → Option ClassMeant
class_of m = unless_value (found_meaning m) (class_meant m)

abbrev pub scope_from : Table → List Global → List Object → Scope
scope_from table globals objects = record { table = table; globals = globals; objects = objects }

same_meaning : (table : Table) (g h : List Global) (of : Option TypeName) (v : ValuePart) →
    class_of (Some (meaning_of (scope_from table g []) of v)) ≡ class_of (Some (meaning_of (scope_from table h []) of v))
same_meaning table g h of (expression e) = refl
same_meaning table g h of (class holder) = refl
same_meaning table g h of (typeobject t) = refl

-- The names of the constants alone say which of them are classes.
pub same_class_among_constants : (table : Table) (g h : List Global) (cs : List ConstantPart) (name : Text) →
    class_named (scope_from table (globals_in (scope_from table g []) cs) []) name
    ≡ class_named (scope_from table (globals_in (scope_from table h []) cs) []) name
same_class_among_constants table g h [] name = refl
same_class_among_constants table g h (c ∷ cs) name =
    by (is_same c.name.text name) (same_class_among_constants table g h cs name)
  where
    by : (b : Bool) →
        class_of (meaning_named (globals_in (scope_from table g []) cs) name)
        ≡ class_of (meaning_named (globals_in (scope_from table h []) cs) name) →
        class_of
        (if b then Some (meaning_of (scope_from table g []) c.of c.value) else meaning_named (globals_in (scope_from table g []) cs) name)
        ≡ class_of
        (if b then Some (meaning_of (scope_from table h []) c.of c.value) else meaning_named (globals_in (scope_from table h []) cs) name)
    by true later = same_meaning table g h c.of c.value
    by false later = later

-- ---- forms

-- what is known of a form without a fault
abbrev pub SoundForm : Scope → Form → Type 0
SoundForm scope (Literal of) = HasType (Some of)
SoundForm scope Negated = Unit {0}
SoundForm scope (Constructor at) = Unit {0}
SoundForm scope (Vector of) = is_written (written_in scope of) ≡ true
SoundForm scope (Created name) = Unit {0}
SoundForm scope Itself = is_some (innermost scope) ≡ true
SoundForm scope (NameAlone name) = Unit {0}
SoundForm scope Other = Unit {0}

created_has_type : (c : Option ClassMeant) → is_some (type_created c) ≡ true → HasType (type_created c)
created_has_type None e = e
created_has_type (Some c) e = refl

form_has_type : (scope : Scope) (form : Form) → SoundForm scope form → is_some (form_type scope form) ≡ true →
    HasType (form_type scope form)
form_has_type scope (Literal of) s e = s
form_has_type scope Negated s e = refl
form_has_type scope (Constructor at) s e = refl
form_has_type scope (Vector of) s e = written_has_type _ (vector_is_written (written_in scope of) s)
form_has_type scope (Created name) s e = created_has_type (class_named scope name.text) e
form_has_type scope Itself s e = e
form_has_type scope (NameAlone name) s e = e
form_has_type scope Other s e = e

-- a constant without a fault has a known type
pub constant_has_type : (scope : Scope) (name : Name) (of : Option TypeName) (value : Part) → SoundForm scope value.form →
    each_of (unknown_types scope.table) of ≡ [] → wrong_constant scope name of value ≡ [] →
    HasType (constant_type scope of value.form)
constant_has_type scope name None value s e w = form_has_type scope value.form s (test_holds _ _ _ w)
constant_has_type scope name (Some of) value s e w = written_has_type _ (type_is_known scope.table of e)

same_form : (table : Table) (g h : List Global) (os ps : List Object) →
    ((name : Text) → class_named (scope_from table g os) name ≡ class_named (scope_from table h ps) name) →
    (form : Form) → form_type (scope_from table g os) form ≡ form_type (scope_from table h ps) form
same_form table g h os ps same (Literal of) = refl
same_form table g h os ps same Negated = refl
same_form table g h os ps same (Constructor at) = refl
same_form table g h os ps same (Vector of) = refl
same_form table g h os ps same (Created name) = ap type_created (same name.text)
same_form table g h os ps same Itself = refl
same_form table g h os ps same (NameAlone name) = refl
same_form table g h os ps same Other = refl

-- The type of a constant is the same in scopes in which the same names are classes.
pub same_constant : (table : Table) (g h : List Global) (os ps : List Object) →
    ((name : Text) → class_named (scope_from table g os) name ≡ class_named (scope_from table h ps) name) →
    (of : Option TypeName) (form : Form) →
    constant_type (scope_from table g os) of form ≡ constant_type (scope_from table h ps) of form
same_constant table g h os ps same None form = same_form table g h os ps same form
same_constant table g h os ps same (Some of) form = refl
