-- The scopes within an object suit its class: that of its body, and those in which its operations begin.
use Rattle.std.proofs.Common.{◌≡◌, ℕ, suc, Bool, true, false, List, [], ◌∷◌, ◌++◌, length, map, take, Option, Some, None}
use Rattle.std.proofs.Common.{option_map, is_some, slice_get}
use Rattle.std.proofs.Common.{refl, sym, ap, ◌∙◌, subst, if◌then◌else◌, append_assoc}
use Rattle.std.specs.Prelude.{Contains}
use Rattle.std.proofs.lemmas.List.{append-nil}
use Rattle.ec_ast.specs.declared.Parameter.{Parameter}
use Rattle.ec_base.proofs.Stacks.{top_of-push}
use Rattle.ec_check.proofs.CapturedNames.{outside_changed}
use Rattle.ec_check.proofs.DistinctNames.{not_there, behind_parameters}
use Rattle.ec_check.proofs.Every.{Every, every_right, none_left, none_right}
use Rattle.ec_check.proofs.FittingScopes.{fields_changed, locals_changed}
use Rattle.ec_check.proofs.RangedHolders.{outside_body}
use Rattle.ec_check.proofs.SoundForms.{same_constant, same_class_in_body}
use Rattle.ec_check.proofs.WellParts.{AreFrom, AreNumbered, AreCaptured, AreFields, GlobalsSuit, OperationStands, OperationsStand, Suits}
use Rattle.ec_check.specs.Parts.{OperationPart, MemberPart, variable, constant, condition, operation, Holder, member_judged}
use Rattle.ec_check.specs.Parts.{holder_judged, operation_judged}
use Rattle.ec_check.specs.Places.{Env, fields_of, type_found, type_or}
use Rattle.ec_check.specs.Resolving.{at_start, env_in, numbers_from, types_written, result_written, heading_types, heading_entries}
use Rattle.ec_check.specs.Resolving.{env_of_operation}
use Rattle.ec_check.specs.Resolving.{operation_core, field_of, parameter_field, member_made, members_made, captures_of, env_of_body}
use Rattle.ec_check.specs.Resolving.{class_core}
use Rattle.ec_check.specs.WellTyped.{site_in}
use Rattle.ec_types.specs.Table.{Table}
use Rattle.ec_types.specs.declared.conform.static_type.StaticType.{StaticType}
use Rattle.ec_core.specs.declared.Class.{Class}
use Rattle.ec_core.specs.declared.Core.{Core}
use Rattle.ec_core.specs.declared.Field.{Field}
use Rattle.ec_core.specs.declared.Operation.{Operation}
use Rattle.ec_types.specs.Names.{Text, has_name}
use Rattle.ec_rules.specs.Doubled.{doubled_behind, doubled_in_body}
use Rattle.ec_rules.specs.Forms.{Form}
use Rattle.ec_rules.specs.Lists.{each}
use Rattle.ec_rules.specs.Members as rules
use Rattle.ec_rules.specs.Members.{constant_type, first_members, members_of, member_name, parameter_entries, result_entries}
use Rattle.ec_rules.specs.Members.{operations_in, operation_with, fields_in, field_names, object_with, scope_of_names, scope_of}
use Rattle.ec_rules.specs.Parts as judged
use Rattle.ec_ast.specs.declared.TypeName.{TypeName}
use Rattle.ec_types.proofs.Innermost.{top_of-change}
use Rattle.ec_types.specs.declared.scopes.entries.Entry.{Entry}
use Rattle.ec_types.specs.declared.scopes.object.Object.{Object}
use Rattle.ec_types.specs.declared.scopes.scope.Scope.{Scope}
use Rattle.ec_types.specs.Scopes.{innermost, locals_of, outside, find, with_locals, at_process, declaring, in_a_process, written_in}

-- ---- variables by their numbers

read_behind : (before : List StaticType) (of : StaticType) (after : List StaticType) →
    slice_get (before ++ (of ∷ after)) (length before) ≡ Some of
read_behind [] of after = refl
read_behind (b ∷ before) of after = read_behind before of after

length_pushed : (before : List StaticType) (of : StaticType) → length (before ++ of ∷ []) ≡ suc (length before)
length_pushed [] of = refl
length_pushed (b ∷ before) of = ap suc (length_pushed before of)

-- types stand in a list behind those before them
from_between : (ts before after : List StaticType) → AreFrom (before ++ (ts ++ after)) (length before) ts
from_between [] before after = tt
from_between (t ∷ ts) before after = (
  read_behind before t (ts ++ after),
  subst (λ n. AreFrom (before ++ (t ∷ (ts ++ after))) n ts) (length_pushed before t)
      (subst (λ all. AreFrom all (length (before ++ t ∷ [])) ts) (append_assoc before (t ∷ []) (ts ++ after))
      (from_between ts (before ++ t ∷ []) after)),
)

pub from_first : (ts after : List StaticType) → AreFrom (ts ++ after) 0 ts
from_first ts after = from_between ts [] after

pub from_last : (before ts : List StaticType) (n : ℕ) → n ≡ length before → AreFrom (before ++ ts) n ts
from_last before ts n e =
    subst (λ m. AreFrom (before ++ ts) m ts) (sym e)
    (subst (λ all. AreFrom (before ++ all) (length before) ts) (append-nil ts) (from_between ts before []))

pub from_all : (ts : List StaticType) → AreFrom ts 0 ts
from_all ts = from_last [] ts 0 refl

-- ---- the heading of an operation

result_numbered : (scope : Scope) (result : Option Parameter) (variables : List StaticType) (at : ℕ) →
    AreFrom variables at (result_written scope result) →
    AreNumbered variables (result_entries scope result) (numbers_from at (length (result_written scope result)))
result_numbered scope None variables at h = tt
result_numbered scope (Some p) variables at h = (h.0, tt)

heading_numbered : (ps : List Parameter) (scope : Scope) (result : Option Parameter) (variables : List StaticType) (at : ℕ) →
    AreFrom variables at (heading_types scope ps result) →
    AreNumbered variables (heading_entries scope ps result) (numbers_from at (length (heading_types scope ps result)))
heading_numbered [] scope result variables at h = result_numbered scope result variables at h
heading_numbered (p ∷ ps) scope result variables at h = (h.0, heading_numbered ps scope result variables (suc at) h.1)

-- ---- what suits a class, in no operation

pub record BodySuits (table : Table) (core : Core) (c : Class) (env : Env) : Type 0 where
  pub same_table : env.scope.table ≡ table
  pub own : option_map (λ o. o.number) (innermost env.scope) ≡ Some c.number
  pub locals : locals_of (innermost env.scope) ≡ []
  pub fields : AreFields (fields_of (innermost env.scope)) (map (λ f. f.of) c.fields)
  pub captures : AreCaptured (outside env.scope) env.captures c.captured
  pub operations : OperationsStand core (innermost env.scope)
  pub globals : GlobalsSuit table core env.scope.globals

pub suits_at_start : (table : Table) (core : Core) (c : Class) (env : Env) (o : Operation) → BodySuits table core c env →
    Suits (site_in table core c o) (at_start env)
suits_at_start table core c env o s = record {
  table = s.same_table;
  own = s.own;
  locals = subst (λ ls. AreNumbered o.variables ls []) (sym s.locals) tt;
  fields = s.fields;
  captures = s.captures;
  operations = s.operations;
  globals = s.globals;
}

same_number : (f : Object → Object) → ((o : Object) → (f o).number ≡ o.number) → (o : Option Object) →
    option_map (λ p. p.number) (option_map f o) ≡ option_map (λ p. p.number) o
same_number f k None = refl
same_number f k (Some o) = ap Some (k o)

still_stand : (core : Core) (f : Object → Object) → ((o : Object) → (f o).number ≡ o.number) →
    ((o : Object) → (f o).operations ≡ o.operations) → (o : Option Object) → OperationsStand core o →
    OperationsStand core (option_map f o)
still_stand core f k l None h = h
still_stand core f k l (Some o) h =
    subst (λ n. Every (OperationStands core n) (f o).operations) (sym (k o))
    (subst (Every (OperationStands core o.number)) (sym (l o)) h)

pub suits_in_a_process : (table : Table) (core : Core) (c : Class) (env : Env) (o : Operation) → BodySuits table core c env →
    Suits (site_in table core c o) (env_in (in_a_process env.scope) env.captures)
suits_in_a_process table core c env o s =
    let top : innermost (in_a_process env.scope) ≡ option_map at_process (innermost env.scope) =
    top_of-change at_process env.scope.objects in
    record {
      table = s.same_table;
      own = ap (option_map (λ p. p.number)) top ∙ (same_number at_process (λ o. refl) (innermost env.scope) ∙ s.own);
      locals =
          subst (λ ls. AreNumbered o.variables ls []) (sym (locals_changed at_process (λ o. refl) env.scope ∙ s.locals)) tt;
      fields =
          subst (λ fs. AreFields fs (map (λ f. f.of) c.fields)) (sym (fields_changed at_process (λ o. refl) env.scope)) s.fields;
      captures =
          subst (λ around. AreCaptured around env.captures c.captured) (sym (outside_changed at_process env.scope)) s.captures;
      operations =
          subst (OperationsStand core) (sym top)
          (still_stand core at_process (λ o. refl) (λ o. refl) (innermost env.scope) s.operations);
      globals = s.globals;
    }

-- what is declared first in the own object is all that is
declared_first : (entries : List Entry) (o : Option Object) (n : ℕ) → option_map (λ p. p.number) o ≡ Some n → locals_of o ≡ [] →
    locals_of (option_map (with_locals entries) o) ≡ entries
declared_first entries None n e l = cc
declared_first entries (Some o) n e l = ap (λ ls. ls ++ entries) l

pub suits_in_operation : (table : Table) (core : Core) (c : Class) (env : Env) (o : OperationPart) (made : Operation) →
    BodySuits table core c env → AreFrom made.variables 0 (heading_types env.scope o.parameters o.result) →
    Suits (site_in table core c made) (env_of_operation env o)
suits_in_operation table core c env o made s v =
    let more : List Entry = heading_entries env.scope o.parameters o.result in
    let top : innermost (declaring more env.scope) ≡ option_map (with_locals more) (innermost env.scope) =
    top_of-change (with_locals more) env.scope.objects in
    record {
      table = s.same_table;
      own = ap (option_map (λ p. p.number)) top ∙ (same_number (with_locals more) (λ o. refl) (innermost env.scope) ∙ s.own);
      locals =
          subst
          (λ ls. AreNumbered made.variables ls (numbers_from 0 (length (heading_types env.scope o.parameters o.result))))
          (sym (ap locals_of top ∙ declared_first more (innermost env.scope) c.number s.own s.locals))
          (heading_numbered o.parameters env.scope o.result made.variables 0 v);
      fields =
          subst (λ fs. AreFields fs (map (λ f. f.of) c.fields)) (sym (fields_changed (with_locals more) (λ o. refl) env.scope))
          s.fields;
      captures =
          subst (λ around. AreCaptured around env.captures c.captured) (sym (outside_changed (with_locals more) env.scope))
          s.captures;
      operations =
          subst (OperationsStand core) (sym top)
          (still_stand core (with_locals more) (λ o. refl) (λ o. refl) (innermost env.scope) s.operations);
      globals = s.globals;
    }

-- ---- no name of a body is doubled

-- behind the names of its parameters
pub members_undoubled : (h : judged.Holder) → doubled_in_body h ≡ [] →
    doubled_behind (map (λ p. p.name.text) h.parameters) (map member_name h.body.members) ≡ []
members_undoubled h e = behind_parameters [] h.parameters (map member_name h.body.members) e

kept_if : (b : Bool) (m : judged.MemberPart) (ms ns : List judged.MemberPart) → b ≡ false → ms ≡ ns →
    (if b then [] else (m ∷ [])) ++ ms ≡ m ∷ ns
kept_if true m ms ns e f = cc
kept_if false m ms ns e f = ap (λ xs. m ∷ xs) f

all_first : (ms : List judged.MemberPart) (taken : List Text) → doubled_behind taken (map member_name ms) ≡ [] →
    first_members taken ms ≡ ms
all_first [] taken e = refl
all_first (m ∷ ms) taken e =
    kept_if (has_name taken (member_name m).text) m (first_members (taken ++ (member_name m).text ∷ []) ms) ms
    (not_there _ _ _ (none_left _ _ e)) (all_first ms (taken ++ (member_name m).text ∷ []) (none_right _ _ e))

pub all_members : (h : judged.Holder) → doubled_in_body h ≡ [] → members_of h ≡ h.body.members
all_members h e = all_first h.body.members (map (λ p. p.name.text) h.parameters) (members_undoubled h e)

-- ---- the fields of a body

parameters_are : (scope : Scope) (ps : List Parameter) (es : List Entry) (fs : List Field) → AreFields es (map (λ f. f.of) fs) →
    AreFields (parameter_entries scope ps ++ es) (map (λ (f : Field). f.of) (map (parameter_field scope) ps ++ fs))
parameters_are scope [] es fs h = h
parameters_are scope (p ∷ ps) es fs h = (refl, parameters_are scope ps es fs h)

-- the types of consts are found by the names of the fields alone
pub same_in_body : (scope : Scope) (h : judged.Holder) (of : Option TypeName) (form : Form) →
    constant_type (scope_of_names scope h) of form ≡ constant_type (scope_of scope h) of form
same_in_body scope h =
    same_constant scope.table scope.globals scope.globals (scope.objects ++ object_with scope h (field_names h) ∷ [])
    (scope.objects ++ object_with scope h (rules.fields_of scope h) ∷ []) (same_class_in_body scope h)

members_are : (scope : Scope) (h : judged.Holder) (ms : List MemberPart) →
    AreFields (each (fields_in (scope_of_names scope h)) (map member_judged ms))
    (map (λ f. f.of) (each (field_of (scope_of scope h)) ms))
members_are scope h [] = tt
members_are scope h (variable is_attached name of value ∷ ms) = (refl, members_are scope h ms)
members_are scope h (constant is_attached name of value ∷ ms) =
    (ap type_or (same_in_body scope h of value.part.form), members_are scope h ms)
members_are scope h (condition name ∷ ms) = members_are scope h ms
members_are scope h (operation o ∷ ms) = members_are scope h ms

fields_suit : (scope : Scope) (h : Holder) → doubled_in_body (holder_judged h) ≡ [] →
    AreFields (rules.fields_of scope (holder_judged h)) (map (λ f. f.of) (class_core scope h).fields)
fields_suit scope h e =
    subst
    (λ ms. AreFields (parameter_entries scope h.parameters ++ each (fields_in (scope_of_names scope (holder_judged h))) ms)
    (map (λ f. f.of) (class_core scope h).fields))
    (sym (all_members (holder_judged h) e))
    (parameters_are scope h.parameters (each (fields_in (scope_of_names scope (holder_judged h))) (map member_judged h.body.members))
    (each (field_of (scope_of scope (holder_judged h))) h.body.members) (members_are scope (holder_judged h) h.body.members))

-- ---- the operations of a body

parameters_kept : (scope : Scope) (ps : List Parameter) (more : List StaticType) →
    take (length ps) (types_written scope ps ++ more) ≡ map (λ p. written_in scope p.of) ps
parameters_kept scope [] more = refl
parameters_kept scope (p ∷ ps) more = ap (λ ts. written_in scope p.of ∷ ts) (parameters_kept scope ps more)

result_kept : (scope : Scope) (ps : List Parameter) (result : Option Parameter) (more : List StaticType) →
    (if is_some result then slice_get ((types_written scope ps ++ result_written scope result) ++ more) (length ps) else None)
    ≡ option_map (λ p. written_in scope p.of) result
result_kept scope ps None more = refl
result_kept scope [] (Some p) more = refl
result_kept scope (q ∷ ps) (Some p) more = result_kept scope ps (Some p) more

module _ (core : Core) (scope : Scope) (h : Holder) where
  operation_stands : (o : OperationPart) → Contains core.operations (operation_core (class_core scope h).number (env_of_body scope h) o) →
      OperationStands core (class_core scope h).number (operation_with scope (operation_judged o))
  operation_stands o k = record {
    operation = operation_core (class_core scope h).number (env_of_body scope h) o;
    there = k;
    of_class = refl;
    kind = refl;
    name = refl;
    parameters =
        ap (take (length o.parameters))
        (append_assoc (types_written scope o.parameters) (result_written scope o.result) _)
        ∙ parameters_kept scope o.parameters _;
    result = result_kept scope o.parameters o.result _;
  }

  operations_stand : (ms : List MemberPart) →
      Every (Contains core.operations) (members_made (class_core scope h).number (env_of_body scope h) ms).operations →
      Every (OperationStands core (class_core scope h).number) (each (operations_in scope) (map member_judged ms))
  operations_stand [] k = tt
  operations_stand (variable is_attached name of value ∷ ms) k =
      operations_stand ms
      (every_right (Contains core.operations)
      (member_made (class_core scope h).number (env_of_body scope h) (variable is_attached name of value)).operations _ k)
  operations_stand (constant is_attached name of value ∷ ms) k =
      operations_stand ms
      (every_right (Contains core.operations)
      (member_made (class_core scope h).number (env_of_body scope h) (constant is_attached name of value)).operations _ k)
  operations_stand (condition name ∷ ms) k = operations_stand ms k
  operations_stand (operation o ∷ ms) k = (
    operation_stands o k.0,
    operations_stand ms
        (every_right (Contains core.operations)
        (member_made (class_core scope h).number (env_of_body scope h) (operation o)).operations _ k),
  )

-- ---- the whole body

captured_as_found : (around : Scope) (names : List Text) → AreCaptured around names (map (λ name. type_found (find around name)) names)
captured_as_found around [] = tt
captured_as_found around (name ∷ names) = (refl, captured_as_found around names)

pub body_suits : (table : Table) (core : Core) (scope : Scope) (h : Holder) → scope.table ≡ table →
    GlobalsSuit table core scope.globals → doubled_in_body (holder_judged h) ≡ [] →
    Every (Contains core.operations) (members_made (class_core scope h).number (env_of_body scope h) h.body.members).operations →
    BodySuits table core (class_core scope h) (env_of_body scope h)
body_suits table core scope h t g e k =
    let top : innermost (scope_of scope (holder_judged h))
    ≡ Some (object_with scope (holder_judged h) (rules.fields_of scope (holder_judged h))) =
    top_of-push scope.objects (object_with scope (holder_judged h) (rules.fields_of scope (holder_judged h))) in
    record {
      same_table = t;
      own = ap (option_map (λ o. o.number)) top;
      locals = ap locals_of top;
      fields = subst (λ o. AreFields (fields_of o) (map (λ f. f.of) (class_core scope h).fields)) (sym top) (fields_suit scope h e);
      captures =
          subst (λ around. AreCaptured around (captures_of scope h) (class_core scope h).captured) (sym (outside_body scope h))
          (captured_as_found scope (captures_of scope h));
      operations =
          subst (OperationsStand core) (sym top)
          (subst (λ ms. Every (OperationStands core (class_core scope h).number) (each (operations_in scope) ms))
          (sym (all_members (holder_judged h) e)) (operations_stand core scope h h.body.members k));
      globals = g;
    }
