-- Scopes in which each name is of a type that names nothing beyond a program's types.
use Rattle.std.proofs.Common.{ℕ, ◌<◌, ◌≤◌, true, List, [], ◌∷◌, ◌++◌, length, Option, Some, None, refl}
use Rattle.ec_ast.specs.declared.Parameter.{Parameter}
use Rattle.ec_ast.specs.declared.TypeName.{TypeName}
use Rattle.ec_check.proofs.Every.{Every, Where, every_joined, either}
use Rattle.ec_check.specs.Places.{type_or, type_found}
use Rattle.ec_check.specs.Resolving.{types_written, result_written, heading_types}
use Rattle.ec_types.specs.Table.{Table}
use Rattle.ec_types.specs.Types.{number_at}
use Rattle.ec_core_laws.proofs.Types.{IsBelow, class_is_of, vector_below, type_is_written}
use Rattle.ec_types.specs.Names.{Text, is_same}
use Rattle.ec_rules.specs.Forms.{Form, Literal, Negated, Constructor, Vector, Created, Itself, NameAlone, Other}
use Rattle.ec_rules.specs.Members.{type_created, form_type, constant_type, parameter_entries, result_entries}
use Rattle.ec_rules.specs.Members.{scope_of_operation}
use Rattle.ec_rules.specs.Parts as judged
use Rattle.ec_types.specs.declared.scopes.entries.Entry.{Entry}
use Rattle.ec_types.specs.declared.scopes.globals.ClassMeant.{ClassMeant}
use Rattle.ec_types.specs.declared.scopes.globals.Global.{Global}
use Rattle.ec_types.specs.declared.scopes.globals.Meaning.{Meaning}
use Rattle.ec_types.specs.declared.scopes.globals.Meaning.TheVariants as means
use Rattle.ec_types.specs.declared.scopes.object.Object.{Object}
use Rattle.ec_types.specs.declared.scopes.scope.Found.{Found}
use Rattle.ec_types.specs.declared.scopes.scope.Found.TheVariants as found
use Rattle.ec_types.specs.declared.scopes.scope.Scope.{Scope}
use Rattle.ec_types.specs.Scopes.{entry_named, meaning_named, found_meaning, held_or, found_within, find, class_meant, unless_value}
use Rattle.ec_types.specs.Scopes.{class_named, written_in, within, change_innermost, with_locals, at_loop, at_process, declaring}
use Rattle.ec_types.specs.Scopes.{in_a_loop, in_a_process}

abbrev pub EntryBelow : ℕ → Entry → Type 0
EntryBelow types e = IsBelow types (type_or e.of)

abbrev ClassNumberBelow : ℕ → ClassMeant → Type 0
ClassNumberBelow types c = c.number < types

abbrev pub MeaningBelow : ℕ → Meaning → Type 0
MeaningBelow types (means.Value of) = IsBelow types (type_or of)
MeaningBelow types (means.Class c) = ClassNumberBelow types c
MeaningBelow types means.Typeobject = Unit {0}

abbrev pub GlobalBelow : ℕ → Global → Type 0
GlobalBelow types g = MeaningBelow types g.meaning

pub record ObjectBelow (types : ℕ) (o : Object) : Type 0 where
  pub locals : Every (EntryBelow types) o.locals
  pub fields : Every (EntryBelow types) o.fields

-- the types have no more names than there are types
abbrev pub NamesFit : ℕ → Scope → Type 0
NamesFit types scope = length scope.table.names ≤ types

pub record ScopeBelow (types : ℕ) (scope : Scope) : Type 0 where
  pub names : NamesFit types scope
  pub globals : Every (GlobalBelow types) scope.globals
  pub objects : Every (ObjectBelow types) scope.objects

module _ (types : ℕ) where
  -- ---- what is found

  entry_below : (entries : List Entry) (name : Text) → Every (EntryBelow types) entries →
      Where (EntryBelow types) (entry_named entries name)
  entry_below [] name h = tt
  entry_below (e ∷ es) name h =
      either (Where (EntryBelow types)) (is_same e.name name) (Some e) (entry_named es name) h.0 (entry_below es name h.1)

  meaning_below : (globals : List Global) (name : Text) → Every (GlobalBelow types) globals →
      Where (MeaningBelow types) (meaning_named globals name)
  meaning_below [] name h = tt
  meaning_below (g ∷ gs) name h =
      either (Where (MeaningBelow types)) (is_same g.name name) (Some g.meaning) (meaning_named gs name) h.0
      (meaning_below gs name h.1)

  found_meaning_below : (meaning : Option Meaning) → Where (MeaningBelow types) meaning →
      IsBelow types (type_found (found_meaning meaning))
  found_meaning_below None h = refl
  found_meaning_below (Some (means.Value of)) h = h
  found_meaning_below (Some (means.Class c)) h = refl
  found_meaning_below (Some means.Typeobject) h = refl

  held_below : (out : ℕ) (entry : Option Entry) (further : Found) → Where (EntryBelow types) entry →
      IsBelow types (type_found further) → IsBelow types (type_found (held_or out entry further))
  held_below out None further h f = f
  held_below out (Some e) further h f = h

  within_below : (name : Text) (further : Found) (objects : List Object) → IsBelow types (type_found further) →
      Every (ObjectBelow types) objects → IsBelow types (type_found (found_within name further objects))
  within_below name further [] f h = f
  within_below name further (o ∷ os) f h =
      within_below name (held_or (length os) (entry_named (o.locals ++ o.fields) name) further) os
      (held_below (length os) (entry_named (o.locals ++ o.fields) name) further
      (entry_below (o.locals ++ o.fields) name (every_joined (EntryBelow types) o.locals o.fields h.0.locals h.0.fields)) f) h.1

  pub found_below : (scope : Scope) (name : Text) → ScopeBelow types scope → IsBelow types (type_found (find scope name))
  found_below scope name s =
      within_below name (found_meaning (meaning_named scope.globals name)) scope.objects
      (found_meaning_below (meaning_named scope.globals name) (meaning_below scope.globals name s.globals)) s.objects

  class_of_meaning : (m : Option Meaning) → Where (MeaningBelow types) m → Where (ClassNumberBelow types) (class_meant m)
  class_of_meaning None h = tt
  class_of_meaning (Some (means.Value of)) h = tt
  class_of_meaning (Some (means.Class c)) h = h
  class_of_meaning (Some means.Typeobject) h = tt

  class_unless : (f : Found) (c : Option ClassMeant) → Where (ClassNumberBelow types) c →
      Where (ClassNumberBelow types) (unless_value f c)
  class_unless (found.Held h) c k = tt
  class_unless (found.Constant of) c k = tt
  class_unless found.Nothing c k = k

  class_below : (scope : Scope) (name : Text) → Every (GlobalBelow types) scope.globals →
      Where (ClassNumberBelow types) (class_named scope name)
  class_below scope name g =
      class_unless (find scope name) (class_meant (meaning_named scope.globals name))
      (class_of_meaning (meaning_named scope.globals name) (meaning_below scope.globals name g))

  -- ---- the types of constants, by the forms of their values

  abbrev pub FormBelow : Table → Form → Type 0
  FormBelow table (Literal of) = IsBelow types of
  FormBelow table Negated = Unit {0}
  FormBelow table (Constructor at) = number_at table.places at.from < types
  FormBelow table (Vector of) = Unit {0}
  FormBelow table (Created name) = Unit {0}
  FormBelow table Itself = Unit {0}
  FormBelow table (NameAlone name) = Unit {0}
  FormBelow table Other = Unit {0}

  created_below : (c : Option ClassMeant) → Where (ClassNumberBelow types) c → IsBelow types (type_or (type_created c))
  created_below None h = refl
  created_below (Some c) h = class_is_of types c.number h

  pub written_below : (scope : Scope) → NamesFit types scope → (of : TypeName) → IsBelow types (written_in scope of)
  written_below scope l of = (type_is_written types scope.table.names l of).0

  form_below : (scope : Scope) → NamesFit types scope → Every (GlobalBelow types) scope.globals → (form : Form) →
      FormBelow scope.table form → IsBelow types (type_or (form_type scope form))
  form_below scope l g (Literal of) h = h
  form_below scope l g Negated h = refl
  form_below scope l g (Constructor at) h = class_is_of types (number_at scope.table.places at.from) h
  form_below scope l g (Vector of) h = vector_below types (written_in scope of) (written_below scope l of)
  form_below scope l g (Created name) h = created_below (class_named scope name.text) (class_below scope name.text g)
  form_below scope l g Itself h = refl
  form_below scope l g (NameAlone name) h = refl
  form_below scope l g Other h = refl

  pub constant_below : (scope : Scope) → NamesFit types scope → Every (GlobalBelow types) scope.globals → (of : Option TypeName)
      (form : Form) → FormBelow scope.table form → IsBelow types (type_or (constant_type scope of form))
  constant_below scope l g None form h = form_below scope l g form h
  constant_below scope l g (Some of) form h = written_below scope l of

  -- ---- scopes within scopes

  changed : (f : Object → Object) (os : List Object) → ((o : Object) → ObjectBelow types o → ObjectBelow types (f o)) →
      Every (ObjectBelow types) os → Every (ObjectBelow types) (change_innermost f os)
  changed f [] k h = tt
  changed f (o ∷ []) k h = (k o h.0, tt)
  changed f (o ∷ p ∷ os) k h = (h.0, changed f (p ∷ os) k h.1)

  pub below_within : (scope : Scope) (o : Object) → ScopeBelow types scope → ObjectBelow types o →
      ScopeBelow types (within scope o)
  below_within scope o s h = record {
    names = s.names;
    globals = s.globals;
    objects = every_joined (ObjectBelow types) scope.objects (o ∷ []) s.objects (h, tt);
  }

  pub below_declaring : (entries : List Entry) (scope : Scope) → ScopeBelow types scope → Every (EntryBelow types) entries →
      ScopeBelow types (declaring entries scope)
  below_declaring entries scope s h = record {
    names = s.names;
    globals = s.globals;
    objects =
        changed (with_locals entries) scope.objects
        (λ o k. record {
          locals = every_joined (EntryBelow types) o.locals entries k.locals h;
          fields = k.fields;
        })
        s.objects;
  }

  pub below_in_a_loop : (scope : Scope) → ScopeBelow types scope → ScopeBelow types (in_a_loop scope)
  below_in_a_loop scope s = record {
    names = s.names;
    globals = s.globals;
    objects = changed (at_loop true) scope.objects (λ o k. record { locals = k.locals; fields = k.fields }) s.objects;
  }

  pub below_in_a_process : (scope : Scope) → ScopeBelow types scope → ScopeBelow types (in_a_process scope)
  below_in_a_process scope s = record {
    names = s.names;
    globals = s.globals;
    objects = changed at_process scope.objects (λ o k. record { locals = k.locals; fields = k.fields }) s.objects;
  }

  -- ---- headings of operations

  pub parameters_below : (scope : Scope) → NamesFit types scope → (ps : List Parameter) →
      Every (EntryBelow types) (parameter_entries scope ps)
  parameters_below scope l [] = tt
  parameters_below scope l (p ∷ ps) = (written_below scope l p.of, parameters_below scope l ps)

  result_below : (scope : Scope) → NamesFit types scope → (result : Option Parameter) →
      Every (EntryBelow types) (result_entries scope result)
  result_below scope l None = tt
  result_below scope l (Some p) = (written_below scope l p.of, tt)

  pub below_in_operation : (scope : Scope) (o : judged.OperationPart) → ScopeBelow types scope →
      ScopeBelow types (scope_of_operation scope o)
  below_in_operation scope o s =
      below_declaring (parameter_entries scope o.parameters ++ result_entries scope o.result) scope s
      (every_joined (EntryBelow types) (parameter_entries scope o.parameters) (result_entries scope o.result)
      (parameters_below scope s.names o.parameters) (result_below scope s.names o.result))

  types_below : (scope : Scope) → NamesFit types scope → (ps : List Parameter) → Every (IsBelow types) (types_written scope ps)
  types_below scope l [] = tt
  types_below scope l (p ∷ ps) = (written_below scope l p.of, types_below scope l ps)

  result_type_below : (scope : Scope) → NamesFit types scope → (result : Option Parameter) →
      Every (IsBelow types) (result_written scope result)
  result_type_below scope l None = tt
  result_type_below scope l (Some p) = (written_below scope l p.of, tt)

  pub heading_below : (scope : Scope) → NamesFit types scope → (ps : List Parameter) (result : Option Parameter) →
      Every (IsBelow types) (heading_types scope ps result)
  heading_below scope l ps result =
      every_joined (IsBelow types) (types_written scope ps) (result_written scope result) (types_below scope l ps)
      (result_type_below scope l result)
