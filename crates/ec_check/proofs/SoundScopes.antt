-- Sound scopes: each name that is found there has a known type, and each operation a known result, where it has one.
use Rattle.std.proofs.Common.{◌≡◌, ℕ, zero, suc, true, List, [], ◌∷◌, ◌++◌, length, Option, Some, None, refl, is_some, slice_get}
use Rattle.ec_base.specs.Stack.{top_of}
use Rattle.ec_check.proofs.Every.{Every, Where, every_joined, either}
use Rattle.ec_check.proofs.KnownTypes.{HasType, KnownIfThere, still_known}
use Rattle.ec_types.specs.Conforms.{operations_at}
use Rattle.ec_types.specs.Conforms as conforming
use Rattle.ec_types.specs.Table.{Table}
use Rattle.ec_types.specs.Types.{operation_named}
use Rattle.ec_types.specs.declared.conform.named_type.NamedType.{NamedType}
use Rattle.ec_types.specs.declared.conform.operations.NamedOperation.{NamedOperation}
use Rattle.ec_types.specs.Names.{Text, is_same}
use Rattle.ec_rules.specs.Calls.{type_of_object, type_of_self}
use Rattle.ec_rules.specs.Judging.{type_found}
use Rattle.ec_rules.specs.Names.{is_found}
use Rattle.ec_types.specs.declared.scopes.entries.Entry.{Entry}
use Rattle.ec_types.specs.declared.scopes.scope.Found.{Found}
use Rattle.ec_types.specs.declared.scopes.scope.Found.TheVariants as found
use Rattle.ec_types.specs.declared.scopes.globals.Global.{Global}
use Rattle.ec_types.specs.declared.scopes.globals.Meaning.{Meaning}
use Rattle.ec_types.specs.declared.scopes.globals.Meaning.TheVariants as means
use Rattle.ec_types.specs.declared.scopes.object.Object.{Object}
use Rattle.ec_types.specs.declared.scopes.scope.Scope.{Scope}
use Rattle.ec_types.specs.Scopes.{entry_named, meaning_named, found_meaning, held_or, found_within, find, innermost}
use Rattle.ec_types.specs.Scopes.{own_operation_of, own_operation}
use Rattle.ec_types.specs.Scopes.{within, change_innermost, with_locals, at_loop, at_process, declaring, in_a_loop, in_a_process}

-- ---- operations

abbrev pub KnownResult : NamedOperation → Type 0
KnownResult o = KnownIfThere o.result

abbrev pub SoundOperations : List NamedOperation → Type 0
SoundOperations operations = Every KnownResult operations

pub found_operation : (operations : List NamedOperation) (name : Text) → SoundOperations operations →
    Where KnownResult (operation_named operations name)
found_operation [] name h = tt
found_operation (o ∷ os) name h =
    either (Where KnownResult) (is_same o.name name) (Some o) (operation_named os name) h.0 (found_operation os name h.1)

-- ---- tables

abbrev pub SoundType : NamedType → Type 0
SoundType type = SoundOperations type.operations

abbrev pub SoundTable : Table → Type 0
SoundTable table = Every SoundType table.types

type_at : (types : List NamedType) (n : ℕ) → Every SoundType types → Where SoundType (slice_get types n)
type_at [] n h = tt
type_at (t ∷ ts) zero h = h.0
type_at (t ∷ ts) (suc n) h = type_at ts n h.1

operations_of : (type : Option NamedType) → Where SoundType type → SoundOperations (conforming.operations_in type)
operations_of None h = tt
operations_of (Some type) h = h

pub operations_of_type : (types : List NamedType) (n : ℕ) → Every SoundType types → SoundOperations (operations_at types n)
operations_of_type types n h = operations_of (slice_get types n) (type_at types n h)

-- ---- scopes

abbrev pub TypedEntry : Entry → Type 0
TypedEntry e = HasType e.of

abbrev pub TypedMeaning : Meaning → Type 0
TypedMeaning (means.Value of) = HasType of
TypedMeaning (means.Class c) = Unit {0}
TypedMeaning means.Typeobject = Unit {0}

abbrev pub TypedGlobal : Global → Type 0
TypedGlobal g = TypedMeaning g.meaning

pub record SoundObject (o : Object) : Type 0 where
  pub locals : Every TypedEntry o.locals
  pub fields : Every TypedEntry o.fields
  pub operations : SoundOperations o.operations

pub record SoundScope (scope : Scope) : Type 0 where
  pub table : SoundTable scope.table
  pub globals : Every TypedGlobal scope.globals
  pub objects : Every SoundObject scope.objects

-- ---- what is found

abbrev pub TypedFound : Found → Type 0
TypedFound (found.Held h) = HasType h.of
TypedFound (found.Constant of) = HasType of
TypedFound found.Nothing = Unit {0}

entry_is_typed : (entries : List Entry) (name : Text) → Every TypedEntry entries → Where TypedEntry (entry_named entries name)
entry_is_typed [] name h = tt
entry_is_typed (e ∷ es) name h =
    either (Where TypedEntry) (is_same e.name name) (Some e) (entry_named es name) h.0 (entry_is_typed es name h.1)

meaning_is_typed : (globals : List Global) (name : Text) → Every TypedGlobal globals →
    Where TypedMeaning (meaning_named globals name)
meaning_is_typed [] name h = tt
meaning_is_typed (g ∷ gs) name h =
    either (Where TypedMeaning) (is_same g.name name) (Some g.meaning) (meaning_named gs name) h.0 (meaning_is_typed gs name h.1)

found_meaning_is_typed : (meaning : Option Meaning) → Where TypedMeaning meaning → TypedFound (found_meaning meaning)
found_meaning_is_typed None h = tt
found_meaning_is_typed (Some (means.Value of)) h = h
found_meaning_is_typed (Some (means.Class c)) h = tt
found_meaning_is_typed (Some means.Typeobject) h = tt

held_is_typed : (out : ℕ) (entry : Option Entry) (further : Found) → Where TypedEntry entry → TypedFound further →
    TypedFound (held_or out entry further)
held_is_typed out None further h f = f
held_is_typed out (Some e) further h f = h

found_within_is_typed : (name : Text) (further : Found) (objects : List Object) → TypedFound further →
    Every SoundObject objects → TypedFound (found_within name further objects)
found_within_is_typed name further [] f h = f
found_within_is_typed name further (o ∷ os) f h =
    found_within_is_typed name (held_or (length os) (entry_named (o.locals ++ o.fields) name) further) os
    (held_is_typed (length os) (entry_named (o.locals ++ o.fields) name) further
    (entry_is_typed (o.locals ++ o.fields) name (every_joined TypedEntry o.locals o.fields h.0.locals h.0.fields)) f) h.1

pub found_is_typed : (scope : Scope) (name : Text) → SoundScope scope → TypedFound (find scope name)
found_is_typed scope name s =
    found_within_is_typed name (found_meaning (meaning_named scope.globals name)) scope.objects
    (found_meaning_is_typed (meaning_named scope.globals name) (meaning_is_typed scope.globals name s.globals)) s.objects

pub found_has_type : (f : Found) → is_found f ≡ true → TypedFound f → HasType (type_found f)
found_has_type (found.Held h) is t = still_known h.of t
found_has_type (found.Constant of) is t = still_known of t
found_has_type found.Nothing is t = is

-- ---- the innermost object

top_is : {A : Type 0} (P : A → Type 0) (xs : List A) → Every P xs → Where P (top_of xs)
top_is P [] h = tt
top_is P (x ∷ []) h = h.0
top_is P (x ∷ y ∷ ys) h = top_is P (y ∷ ys) h.1

own_of : (o : Option Object) (name : Text) → Where SoundObject o → Where KnownResult (own_operation_of o name)
own_of None name h = tt
own_of (Some o) name h = found_operation o.operations name h.operations

pub own_operation_is_known : (scope : Scope) (name : Text) → SoundScope scope → Where KnownResult (own_operation scope name)
own_operation_is_known scope name s = own_of (innermost scope) name (top_is SoundObject scope.objects s.objects)

object_has_type : (o : Option Object) → is_some o ≡ true → HasType (type_of_object o)
object_has_type None h = h
object_has_type (Some o) h = refl

pub self_has_type : (scope : Scope) → is_some (innermost scope) ≡ true → HasType (type_of_self scope)
self_has_type scope h = object_has_type (innermost scope) h

-- ---- scopes within scopes

changed : (f : Object → Object) (os : List Object) → ((o : Object) → SoundObject o → SoundObject (f o)) →
    Every SoundObject os → Every SoundObject (change_innermost f os)
changed f [] k h = tt
changed f (o ∷ []) k h = (k o h.0, tt)
changed f (o ∷ p ∷ os) k h = (h.0, changed f (p ∷ os) k h.1)

pub sound_within : (scope : Scope) (o : Object) → SoundScope scope → SoundObject o → SoundScope (within scope o)
sound_within scope o s h = record {
  table = s.table;
  globals = s.globals;
  objects = every_joined SoundObject scope.objects (o ∷ []) s.objects (h, tt);
}

pub sound_declaring : (entries : List Entry) (scope : Scope) → SoundScope scope → Every TypedEntry entries →
    SoundScope (declaring entries scope)
sound_declaring entries scope s h = record {
  table = s.table;
  globals = s.globals;
  objects =
      changed (with_locals entries) scope.objects
      (λ o k. record {
        locals = every_joined TypedEntry o.locals entries k.locals h;
        fields = k.fields;
        operations = k.operations;
      })
      s.objects;
}

pub sound_in_a_loop : (scope : Scope) → SoundScope scope → SoundScope (in_a_loop scope)
sound_in_a_loop scope s = record {
  table = s.table;
  globals = s.globals;
  objects =
      changed (at_loop true) scope.objects
      (λ o k. record { locals = k.locals; fields = k.fields; operations = k.operations }) s.objects;
}

pub sound_in_a_process : (scope : Scope) → SoundScope scope → SoundScope (in_a_process scope)
sound_in_a_process scope s = record {
  table = s.table;
  globals = s.globals;
  objects =
      changed at_process scope.objects
      (λ o k. record { locals = k.locals; fields = k.fields; operations = k.operations }) s.objects;
}
