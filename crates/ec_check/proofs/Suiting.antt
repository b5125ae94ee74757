-- Where a scope suits a site, names, classes and operations that are found there are of the site's types; and what suits goes on
-- to suit in the parts of an operation.
use Rattle.std.proofs.Common.{◌≡◌, ℕ, zero, suc, Bool, true, false, List, [], ◌∷◌, ◌++◌, map, Option, Some, None, is_some}
use Rattle.std.proofs.Common.{refl, sym, ap, ◌∙◌, subst, if◌then◌else◌, option_map}
use Rattle.ec_check.proofs.CapturedNames.{with_objects, outside_changed}
use Rattle.ec_check.proofs.Every.{Every, Where, either, not_both}
use Rattle.ec_check.proofs.FittingScopes.{fields_changed, locals_changed}
use Rattle.ec_check.proofs.FoundPlaces.{held_out, own_entries}
use Rattle.ec_check.proofs.FoundTypes.{entry_type, own_type, outward_type, found_value}
use Rattle.ec_check.proofs.TypedPlaces.{entry_at, entry_first, entry_second, field_at, local_at, captured_at, value_at}
use Rattle.ec_check.proofs.WellParts.{AreCaptured, AreFields, AreFrom, AreNumbered, DeclaresAll}
use Rattle.ec_check.proofs.WellParts.{ClassIs, ClassStands, OperationStands, OperationsStand, Suits}
use Rattle.ec_check.specs.Parts.{StatementPart}
use Rattle.ec_check.specs.Places.{Env, fields_of, names_of, number_named, field_named, variable_named, type_or, type_found}
use Rattle.ec_check.specs.Places.{held_place, place_found, place_of}
use Rattle.ec_check.specs.Resolving.{behind, further, in_scope}
use Rattle.ec_check.specs.WellTyped.{Site, type_at}
use Rattle.ec_types.specs.Types.{operation_named}
use Rattle.ec_types.specs.declared.conform.operations.NamedOperation.{NamedOperation}
use Rattle.ec_types.specs.declared.conform.static_type.StaticType.{StaticType}
use Rattle.ec_core.specs.declared.Core.{Core}
use Rattle.ec_core.specs.declared.Place.TheVariants as place
use Rattle.ec_types.specs.Names.{Text, has_name, is_same}
use Rattle.ec_rules.specs.Names.{is_found}
use Rattle.ec_types.proofs.Innermost.{top_of-change}
use Rattle.ec_types.specs.declared.scopes.entries.Entry.{Entry}
use Rattle.ec_types.specs.declared.scopes.globals.ClassMeant.{ClassMeant}
use Rattle.ec_types.specs.declared.scopes.globals.Global.{Global}
use Rattle.ec_types.specs.declared.scopes.globals.Meaning.{Meaning}
use Rattle.ec_types.specs.declared.scopes.globals.Meaning.TheVariants as means
use Rattle.ec_types.specs.declared.scopes.object.Object.{Object}
use Rattle.ec_types.specs.declared.scopes.scope.Found.{Found}
use Rattle.ec_types.specs.declared.scopes.scope.Found.TheVariants as found
use Rattle.ec_types.specs.declared.scopes.scope.Scope.{Scope}
use Rattle.ec_types.specs.Scopes.{entry_named, meaning_named, find, class_meant, unless_value, class_named}
use Rattle.ec_types.specs.Scopes.{own_operation_of, own_operation, innermost, is_local, locals_of, outside}
use Rattle.ec_types.specs.Scopes.{change_innermost, with_locals, at_loop, in_a_loop}

-- ---- places

-- an entry of the own object
entry_typed : (site : Site) (env : Env) (name : Text) → Suits site env → (x : Entry) →
    entry_named (own_entries (innermost env.scope)) name ≡ Some x → (b : Bool) → is_local env.scope name ≡ b →
    type_at site (if b then place.Variable (variable_named env name) else place.Field (field_named env name))
    ≡ Some (type_or x.of)
entry_typed site env name s x e true is =
    local_at site.variables (locals_of (innermost env.scope)) env.numbers
    (number_named (names_of (locals_of (innermost env.scope))) name) x s.locals
    (entry_at (locals_of (innermost env.scope)) name x
    (sym (entry_first (locals_of (innermost env.scope)) (fields_of (innermost env.scope)) name is) ∙ e))
entry_typed site env name s x e false is =
    field_at (fields_of (innermost env.scope)) site.fields (number_named (names_of (fields_of (innermost env.scope))) name) x
    s.fields
    (entry_at (fields_of (innermost env.scope)) name x
    (sym (entry_second (locals_of (innermost env.scope)) (fields_of (innermost env.scope)) name is) ∙ e))

own_typed : (site : Site) (env : Env) (name : Text) (of : StaticType) → Suits site env → (entry : Option Entry) →
    entry_named (own_entries (innermost env.scope)) name ≡ entry → entry_type entry ≡ Some of →
    type_at site (held_place env name 0) ≡ Some of
own_typed site env name of s None e t = cc
own_typed site env name of s (Some x) e t = entry_typed site env name s x e (is_local env.scope name) refl ∙ t

held_typed : (site : Site) (env : Env) (name : Text) → Suits site env → (out : ℕ) → held_out (find env.scope name) ≡ Some out →
    ((k : ℕ) → out ≡ suc k → has_name env.captures name ≡ true) →
    type_at site (held_place env name out) ≡ Some (type_found (find env.scope name))
held_typed site env name s zero e reach =
    own_typed site env name (type_found (find env.scope name)) s (entry_named (own_entries (innermost env.scope)) name) refl
    (own_type env.scope name e)
held_typed site env name s (suc out) e reach =
    captured_at (outside env.scope) env.captures site.captured name s.captures (reach out refl)
    ∙ ap Some (sym (outward_type env.scope name out e))

found_typed : (site : Site) (env : Env) (name : Text) → Suits site env → (f : Found) → find env.scope name ≡ f →
    is_found f ≡ true → ((k : ℕ) → held_out f ≡ Some (suc k) → has_name env.captures name ≡ true) →
    type_at site (place_found env name f) ≡ Some (type_found f)
found_typed site env name s (found.Held h) e is reach =
    held_typed site env name s h.out (ap held_out e) (λ k s. reach k (ap Some s)) ∙ ap (λ f. Some (type_found f)) e
found_typed site env name s (found.Constant of) e is reach =
    value_at site.core env.scope.globals name of s.globals.values (found_value env.scope name of e)
found_typed site env name s found.Nothing e is reach = not_both is

-- The place of a name that is found is of the type with which it is found. What is further out is captured.
pub place_typed : (site : Site) (env : Env) (name : Text) → Suits site env → is_found (find env.scope name) ≡ true →
    ((k : ℕ) → held_out (find env.scope name) ≡ Some (suc k) → has_name env.captures name ≡ true) →
    type_at site (place_of env name) ≡ Some (type_found (find env.scope name))
place_typed site env name s is reach = found_typed site env name s (find env.scope name) refl is reach

-- ---- classes and operations

class_of_meaning : (core : Core) (m : Meaning) → ClassIs core m → Where (ClassStands core) (class_meant (Some m))
class_of_meaning core (means.Value of) h = tt
class_of_meaning core (means.Class c) h = h
class_of_meaning core means.Typeobject h = tt

class_among : (core : Core) (gs : List Global) (name : Text) → Every (λ (g : Global). ClassIs core g.meaning) gs →
    Where (ClassStands core) (class_meant (meaning_named gs name))
class_among core [] name h = tt
class_among core (g ∷ gs) name h =
    either (λ m. Where (ClassStands core) (class_meant m)) (is_same g.name name) (Some g.meaning) (meaning_named gs name)
    (class_of_meaning core g.meaning h.0) (class_among core gs name h.1)

class_unless : (core : Core) (f : Found) (c : Option ClassMeant) → Where (ClassStands core) c →
    Where (ClassStands core) (unless_value f c)
class_unless core (found.Held h) c k = tt
class_unless core (found.Constant of) c k = tt
class_unless core found.Nothing c k = k

pub class_stands : (site : Site) (env : Env) (name : Text) → Suits site env →
    Where (ClassStands site.core) (class_named env.scope name)
class_stands site env name s =
    class_unless site.core (find env.scope name) (class_meant (meaning_named env.scope.globals name))
    (class_among site.core env.scope.globals name s.globals.classes)

operation_among : (core : Core) (class : ℕ) (os : List NamedOperation) (name : Text) → Every (OperationStands core class) os →
    Where (OperationStands core class) (operation_named os name)
operation_among core class [] name h = tt
operation_among core class (o ∷ os) name h =
    either (Where (OperationStands core class)) (is_same o.name name) (Some o) (operation_named os name) h.0
    (operation_among core class os name h.1)

operation_of_object : (core : Core) (class : ℕ) (name : Text) (o : Option Object) → OperationsStand core o →
    option_map (λ o. o.number) o ≡ Some class → Where (OperationStands core class) (own_operation_of o name)
operation_of_object core class name None h e = tt
operation_of_object core class name (Some o) h e =
    let number : o.number ≡ class = cc in
    subst (λ n. Where (OperationStands core n) (operation_named o.operations name)) number
    (operation_among core o.number o.operations name h)

pub own_stands : (site : Site) (env : Env) (name : Text) (class : ℕ) → Suits site env → site.own ≡ Some class →
    Where (OperationStands site.core class) (own_operation env.scope name)
own_stands site env name class s e =
    operation_of_object site.core class name (innermost env.scope) s.operations (s.own ∙ e)

-- ---- in the parts of an operation

pub suits_further : (site : Site) (more : ℕ) (env : Env) → Suits site env → Suits site (further more env)
suits_further site more env s = record {
  table = s.table;
  own = s.own;
  locals = s.locals;
  fields = s.fields;
  captures = s.captures;
  operations = s.operations;
  globals = s.globals;
}

-- what changes neither the number of an object, nor its fields and operations
record Keeps (f : Object → Object) : Type 0 where
  number : (o : Object) → (f o).number ≡ o.number
  fields : (o : Object) → (f o).fields ≡ o.fields
  operations : (o : Object) → (f o).operations ≡ o.operations

same_number : (f : Object → Object) → Keeps f → (o : Option Object) →
    option_map (λ o. o.number) (option_map f o) ≡ option_map (λ o. o.number) o
same_number f k None = refl
same_number f k (Some o) = ap Some (k.number o)

still_stand : (core : Core) (f : Object → Object) → Keeps f → (o : Option Object) → OperationsStand core o →
    OperationsStand core (option_map f o)
still_stand core f k None h = tt
still_stand core f k (Some o) h =
    subst (λ n. Every (OperationStands core n) (f o).operations) (sym (k.number o))
    (subst (Every (OperationStands core o.number)) (sym (k.operations o)) h)

abbrev changed : (Object → Object) → Scope → Scope
changed f scope = with_objects scope (change_innermost f scope.objects)

-- where the innermost object is changed so, and its locals have numbers
suits_changed : (site : Site) (env : Env) (f : Object → Object) (numbers : List ℕ) (count : ℕ) → Keeps f → Suits site env →
    AreNumbered site.variables (locals_of (innermost (changed f env.scope))) numbers →
    Suits site (record { scope = changed f env.scope; captures = env.captures; numbers = numbers; count = count })
suits_changed site env f numbers count k s locals = record {
  table = s.table;
  own =
      ap (option_map (λ (o : Object). o.number)) (top_of-change f env.scope.objects) ∙ same_number f k (innermost env.scope)
      ∙ s.own;
  locals = locals;
  fields = subst (λ fs. AreFields fs site.fields) (sym (fields_changed f k.fields env.scope)) s.fields;
  captures = subst (λ scope. AreCaptured scope env.captures site.captured) (sym (outside_changed f env.scope)) s.captures;
  operations =
      subst (OperationsStand site.core) (sym (top_of-change f env.scope.objects))
      (still_stand site.core f k (innermost env.scope) s.operations);
  globals = s.globals;
}

pub suits_in_a_loop : (site : Site) (env : Env) → Suits site env → Suits site (in_scope (in_a_loop env.scope) env)
suits_in_a_loop site env s =
    suits_changed site env (at_loop true) env.numbers env.count
    (record { number = λ o. refl; fields = λ o. refl; operations = λ o. refl }) s
    (subst (λ ls. AreNumbered site.variables ls env.numbers) (sym (locals_changed (at_loop true) (λ o. refl) env.scope)) s.locals)

numbered_joined : (variables : List StaticType) (es : List Entry) (ns : List ℕ) (fs : List Entry) (ms : List ℕ) →
    AreNumbered variables es ns → AreNumbered variables fs ms → AreNumbered variables (es ++ fs) (ns ++ ms)
numbered_joined variables [] [] fs ms h k = k
numbered_joined variables [] (n ∷ ns) fs ms h k = absurd h
numbered_joined variables (e ∷ es) [] fs ms h k = absurd h
numbered_joined variables (e ∷ es) (n ∷ ns) fs ms h k = (h.0, numbered_joined variables es ns fs ms h.1 k)

declared_numbered : (variables : List StaticType) (count : ℕ) (es : List Entry) (ts : List StaticType) → DeclaresAll es ts →
    AreFrom variables count ts → AreNumbered variables es (map (λ entry. count) es)
declared_numbered variables count [] ts d a = tt
declared_numbered variables count (e ∷ []) [] d a = absurd d
declared_numbered variables count (e ∷ []) (t ∷ ts) d a = (a.0 ∙ ap Some (sym d), tt)
declared_numbered variables count (e ∷ f ∷ es) ts d a = absurd d

locals_behind : (entries : List Entry) (o : Option Object) → is_some (option_map (λ o. o.number) o) ≡ true →
    locals_of (option_map (with_locals entries) o) ≡ locals_of o ++ entries
locals_behind entries None h = not_both h
locals_behind entries (Some o) h = refl

-- behind a statement that declares its first local, or nothing
pub suits_behind : (site : Site) (env : Env) (x : StatementPart) → Suits site env → is_some site.own ≡ true →
    DeclaresAll (x.part.declares env.scope) (x.locals env.scope) → AreFrom site.variables env.count (x.locals env.scope) →
    Suits site (behind env x)
suits_behind site env x s own d a =
    suits_changed site env (with_locals (x.part.declares env.scope)) (behind env x).numbers (behind env x).count
    (record { number = λ o. refl; fields = λ o. refl; operations = λ o. refl }) s
    (subst (λ ls. AreNumbered site.variables ls (behind env x).numbers)
    (sym
    (ap locals_of (top_of-change (with_locals (x.part.declares env.scope)) env.scope.objects)
    ∙ locals_behind (x.part.declares env.scope) (innermost env.scope) (ap (λ (n : Option ℕ). is_some n) s.own ∙ own)))
    (numbered_joined site.variables (locals_of (innermost env.scope)) env.numbers (x.part.declares env.scope)
    (map (λ entry. env.count) (x.part.declares env.scope)) s.locals
    (declared_numbered site.variables env.count (x.part.declares env.scope) (x.locals env.scope) d a)))
