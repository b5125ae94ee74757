-- The scopes within an object fit its class: those of its operations, those behind declarations, and those in loops.
use Rattle.std.proofs.Common.{◌≡◌, ℕ, zero, suc, ◌+◌, ◌<◌, ◌≤◌, Bool, true, false, List, [], ◌∷◌, ◌++◌, length, map, Option, Some}
use Rattle.std.proofs.Common.{None, option_map}
use Rattle.std.proofs.Common.{refl, sym, ap, ◌∙◌, subst, if◌then◌else◌, arith}
use Rattle.std.proofs.lemmas.List.{length-map, length-append}
use Rattle.ec_ast.specs.declared.Parameter.{Parameter}
use Rattle.ec_base.proofs.Stacks.{top_of-push}
use Rattle.ec_check.proofs.CapturedNames.{with_objects}
use Rattle.ec_check.proofs.Every.{Every, every_joined}
use Rattle.ec_check.proofs.FoundPlaces.{Fits, GlobalsAre}
use Rattle.ec_check.specs.Numbers.{Whole, Limits, limits_of}
use Rattle.ec_check.specs.Parts.{StatementPart, MemberPart, variable, constant, condition, operation, Holder, OperationPart}
use Rattle.ec_check.specs.Parts.{member_judged, holder_judged}
use Rattle.ec_check.specs.Places.{Env, fields_of, conditions_of}
use Rattle.ec_check.specs.Resolving.{further, in_scope, behind, numbers_from, types_written, result_written, heading_types}
use Rattle.ec_check.specs.Resolving.{heading_entries, env_in}
use Rattle.ec_check.specs.Resolving.{at_start, env_of_operation, field_of, parameter_field, condition_count, conditions_in}
use Rattle.ec_check.specs.Resolving.{class_core, captures_of, env_of_body}
use Rattle.ec_core.specs.declared.Class.{Class}
use Rattle.ec_core.specs.declared.Operation.{Operation}
use Rattle.ec_types.specs.Names.{Text, has_name}
use Rattle.ec_rules.specs.Lists.{each}
use Rattle.ec_rules.specs.Members as rules
use Rattle.ec_rules.specs.Members.{parameter_entries, result_entries, fields_in, first_members, members_of, member_name}
use Rattle.ec_rules.specs.Members.{object_with, scope_of_names, scope_of}
use Rattle.ec_rules.specs.Parts as judged
use Rattle.ec_types.proofs.Innermost.{top_of-change}
use Rattle.ec_types.specs.declared.scopes.entries.Entry.{Entry}
use Rattle.ec_types.specs.declared.scopes.object.Object.{Object}
use Rattle.ec_types.specs.declared.scopes.scope.Scope.{Scope}
use Rattle.ec_types.specs.Scopes.{innermost, locals_of, change_innermost, with_locals, at_loop, at_process, declaring, in_a_loop}
use Rattle.ec_types.specs.Scopes.{in_a_process}

-- ---- the innermost object, changed

same_fields : (f : Object → Object) → ((o : Object) → (f o).fields ≡ o.fields) → (o : Option Object) →
    fields_of (option_map f o) ≡ fields_of o
same_fields f k None = refl
same_fields f k (Some o) = k o

same_conditions : (f : Object → Object) → ((o : Object) → (f o).conditions ≡ o.conditions) → (o : Option Object) →
    conditions_of (option_map f o) ≡ conditions_of o
same_conditions f k None = refl
same_conditions f k (Some o) = k o

same_locals : (f : Object → Object) → ((o : Object) → (f o).locals ≡ o.locals) → (o : Option Object) →
    locals_of (option_map f o) ≡ locals_of o
same_locals f k None = refl
same_locals f k (Some o) = k o

pub fields_changed : (f : Object → Object) → ((o : Object) → (f o).fields ≡ o.fields) → (scope : Scope) →
    fields_of (innermost (with_objects scope (change_innermost f scope.objects))) ≡ fields_of (innermost scope)
fields_changed f k scope = ap fields_of (top_of-change f scope.objects) ∙ same_fields f k (innermost scope)

pub conditions_changed : (f : Object → Object) → ((o : Object) → (f o).conditions ≡ o.conditions) → (scope : Scope) →
    conditions_of (innermost (with_objects scope (change_innermost f scope.objects))) ≡ conditions_of (innermost scope)
conditions_changed f k scope = ap conditions_of (top_of-change f scope.objects) ∙ same_conditions f k (innermost scope)

pub locals_changed : (f : Object → Object) → ((o : Object) → (f o).locals ≡ o.locals) → (scope : Scope) →
    locals_of (innermost (with_objects scope (change_innermost f scope.objects))) ≡ locals_of (innermost scope)
locals_changed f k scope = ap locals_of (top_of-change f scope.objects) ∙ same_locals f k (innermost scope)

declared_to : (entries : List Entry) (o : Option Object) →
    length (locals_of (option_map (with_locals entries) o)) ≤ length (locals_of o) + length entries
declared_to entries None = omega arith
declared_to entries (Some o) =
    let e : length (o.locals ++ entries) ≡ length o.locals + length entries = length-append o.locals entries in omega arith

pub locals_declared : (entries : List Entry) (scope : Scope) →
    length (locals_of (innermost (declaring entries scope))) ≤ length (locals_of (innermost scope)) + length entries
locals_declared entries scope =
    let e : length (locals_of (innermost (declaring entries scope))) ≡ length
    (locals_of (option_map (with_locals entries) (innermost scope))) =
    ap (λ o. length (locals_of o)) (top_of-change (with_locals entries) scope.objects) in
    let d : length (locals_of (option_map (with_locals entries) (innermost scope))) ≤ length (locals_of (innermost scope)) + length
    entries =
    declared_to entries (innermost scope) in
    omega arith

-- ---- places within an operation

pub fits_further : (limits : Limits) (more : ℕ) (env : Env) → Fits limits env → Fits limits (further more env)
fits_further limits more env f = record {
  numbers = f.numbers;
  locals = f.locals;
  fields = f.fields;
  conditions = f.conditions;
  captures = f.captures;
  globals = f.globals;
}

pub fits_in_a_loop : (limits : Limits) (env : Env) → Fits limits env → Fits limits (in_scope (in_a_loop env.scope) env)
fits_in_a_loop limits env f = record {
  numbers = f.numbers;
  locals = subst (λ ls. length ls ≤ length env.numbers) (sym (locals_changed (at_loop true) (λ o. refl) env.scope)) f.locals;
  fields = subst (λ fs. length fs ≤ limits.fields) (sym (fields_changed (at_loop true) (λ o. refl) env.scope)) f.fields;
  conditions = subst (λ cs. length cs ≤ limits.conditions) (sym (conditions_changed (at_loop true) (λ o. refl) env.scope)) f.conditions;
  captures = f.captures;
  globals = f.globals;
}

all_counted : (limit count : ℕ) (entries : List Entry) → count + length entries ≤ limit →
    Every (λ n. n < limit) (map (λ entry. count) entries)
all_counted limit count [] l = tt
all_counted limit count (x ∷ xs) l = every_one (map (λ entry. count) xs) (all_later xs (omega arith))
  where
    every_one : (ns : List ℕ) → Every (λ n. n < limit) ns → Every (λ n. n < limit) (count ∷ ns)
    every_one ns h = (omega arith, h)

    all_later : (ys : List Entry) → count < limit → Every (λ n. n < limit) (map (λ entry. count) ys)
    all_later [] m = tt
    all_later (y ∷ ys) m = (m, all_later ys m)

-- behind a statement that declares no more than its locals
pub fits_behind : (limits : Limits) (env : Env) (x : StatementPart) → Fits limits env →
    length (x.part.declares env.scope) ≤ length (x.locals env.scope) →
    env.count + length (x.locals env.scope) ≤ limits.variables → Fits limits (behind env x)
fits_behind limits env x f d l = record {
  numbers =
      every_joined (λ n. n < limits.variables) env.numbers (map (λ entry. env.count) (x.part.declares env.scope)) f.numbers
      (all_counted limits.variables env.count (x.part.declares env.scope) (omega arith));
  locals =
      (let a : length (locals_of (innermost (declaring (x.part.declares env.scope) env.scope)))
      ≤ length (locals_of (innermost env.scope)) + length (x.part.declares env.scope) =
      locals_declared (x.part.declares env.scope) env.scope in
      let b : length (env.numbers ++ map (λ entry. env.count) (x.part.declares env.scope))
      ≡ length env.numbers + length (map (λ entry. env.count) (x.part.declares env.scope)) =
      length-append env.numbers (map (λ entry. env.count) (x.part.declares env.scope)) in
      let c : length (map (λ entry. env.count) (x.part.declares env.scope)) ≡ length (x.part.declares env.scope) =
      length-map (x.part.declares env.scope) (λ entry. env.count) in
      let e : length (locals_of (innermost env.scope)) ≤ length env.numbers = f.locals in
      omega arith);
  fields =
      subst (λ fs. length fs ≤ limits.fields)
      (sym (fields_changed (with_locals (x.part.declares env.scope)) (λ o. refl) env.scope)) f.fields;
  conditions =
      subst (λ cs. length cs ≤ limits.conditions)
      (sym (conditions_changed (with_locals (x.part.declares env.scope)) (λ o. refl) env.scope)) f.conditions;
  captures = f.captures;
  globals = f.globals;
}

-- ---- the body of an object

-- a place in the body that is in no operation
pub record BodyFits (whole : Whole) (c : Class) (env : Env) : Type 0 where
  pub locals : length (locals_of (innermost env.scope)) ≤ 0
  pub fields : length (fields_of (innermost env.scope)) ≤ length c.fields
  pub conditions : length (conditions_of (innermost env.scope)) ≤ c.conditions
  pub captures : length env.captures ≤ length c.captured
  pub globals : GlobalsAre whole env.scope.globals

pub fits_at_start : (whole : Whole) (c : Class) (env : Env) (o : Operation) → BodyFits whole c env →
    Fits (limits_of whole c o) (at_start env)
fits_at_start whole c env o f = record {
  numbers = tt;
  locals = f.locals;
  fields = f.fields;
  conditions = f.conditions;
  captures = f.captures;
  globals = f.globals;
}

pub fits_in_a_process : (whole : Whole) (c : Class) (env : Env) (o : Operation) → BodyFits whole c env →
    Fits (limits_of whole c o) (env_in (in_a_process env.scope) env.captures)
fits_in_a_process whole c env o f = record {
  numbers = tt;
  locals = subst (λ ls. length ls ≤ 0) (sym (locals_changed at_process (λ o. refl) env.scope)) f.locals;
  fields = subst (λ fs. length fs ≤ length c.fields) (sym (fields_changed at_process (λ o. refl) env.scope)) f.fields;
  conditions = subst (λ cs. length cs ≤ c.conditions) (sym (conditions_changed at_process (λ o. refl) env.scope)) f.conditions;
  captures = f.captures;
  globals = f.globals;
}

length_from : (first n : ℕ) → length (numbers_from first n) ≡ n
length_from first zero = refl
length_from first (suc n) = ap suc (length_from (suc first) n)

all_from : (limit first n : ℕ) → first + n ≤ limit → Every (λ n. n < limit) (numbers_from first n)
all_from limit first zero l = tt
all_from limit first (suc n) l = (omega arith, all_from limit (suc first) n (omega arith))

result_length : (scope : Scope) (p : Option Parameter) → length (result_entries scope p) ≡ length (result_written scope p)
result_length scope None = refl
result_length scope (Some p) = refl

heading_length : (scope : Scope) (ps : List Parameter) (result : Option Parameter) →
    length (heading_entries scope ps result) ≡ length (heading_types scope ps result)
heading_length scope ps result =
    let a : length (heading_entries scope ps result) ≡ length (parameter_entries scope ps) + length (result_entries scope result) =
    length-append (parameter_entries scope ps) (result_entries scope result) in
    let b : length (heading_types scope ps result) ≡ length (types_written scope ps) + length (result_written scope result) =
    length-append (types_written scope ps) (result_written scope result) in
    let c : length (parameter_entries scope ps) ≡ length ps = length-map ps _ in
    let d : length (types_written scope ps) ≡ length ps = length-map ps _ in
    let e : length (result_entries scope result) ≡ length (result_written scope result) = result_length scope result in
    omega arith

pub fits_in_operation : (whole : Whole) (c : Class) (env : Env) (o : OperationPart) (made : Operation) → BodyFits whole c env →
    length (heading_types env.scope o.parameters o.result) ≤ length made.variables →
    Fits (limits_of whole c made) (env_of_operation env o)
fits_in_operation whole c env o made f l = record {
  numbers = all_from (length made.variables) 0 (length (heading_types env.scope o.parameters o.result)) (omega arith);
  locals =
      (let a : length (locals_of (innermost (declaring (heading_entries env.scope o.parameters o.result) env.scope)))
      ≤ length (locals_of (innermost env.scope)) + length (heading_entries env.scope o.parameters o.result) =
      locals_declared (heading_entries env.scope o.parameters o.result) env.scope in
      let b : length (heading_entries env.scope o.parameters o.result) ≡ length (heading_types env.scope o.parameters o.result) =
      heading_length env.scope o.parameters o.result in
      let d : length (numbers_from 0 (length (heading_types env.scope o.parameters o.result)))
      ≡ length (heading_types env.scope o.parameters o.result) =
      length_from 0 (length (heading_types env.scope o.parameters o.result)) in
      let e : length (locals_of (innermost env.scope)) ≤ 0 = f.locals in
      omega arith);
  fields =
      subst (λ fs. length fs ≤ length c.fields)
      (sym (fields_changed (with_locals (heading_entries env.scope o.parameters o.result)) (λ o. refl) env.scope)) f.fields;
  conditions =
      subst (λ cs. length cs ≤ c.conditions)
      (sym (conditions_changed (with_locals (heading_entries env.scope o.parameters o.result)) (λ o. refl) env.scope)) f.conditions;
  captures = f.captures;
  globals = f.globals;
}

-- ---- the object of a body

first_count : {B D : Type 0} (f : judged.MemberPart → List B) (m : judged.MemberPart) (rest : List judged.MemberPart) (one more : List D)
    (b : Bool) → length (f m) ≤ length one → length (each f rest) ≤ length more →
    length (each f ((if b then [] else (m ∷ [])) ++ rest)) ≤ length (one ++ more)
first_count f m rest one more true h k =
    let e : length (one ++ more) ≡ length one + length more = length-append one more in omega arith
first_count f m rest one more false h k =
    let e : length (one ++ more) ≡ length one + length more = length-append one more in
    let g : length (f m ++ each f rest) ≡ length (f m) + length (each f rest) = length-append (f m) (each f rest) in omega arith

one_field : (scope another : Scope) (m : MemberPart) → length (fields_in scope (member_judged m)) ≤ length (field_of another m)
one_field scope another (variable is_attached name of value) = omega arith
one_field scope another (constant is_attached name of value) = omega arith
one_field scope another (condition name) = omega arith
one_field scope another (operation o) = omega arith

fields_count : (scope another : Scope) (taken : List Text) (ms : List MemberPart) →
    length (each (fields_in scope) (first_members taken (map member_judged ms))) ≤ length (each (field_of another) ms)
fields_count scope another taken [] = omega arith
fields_count scope another taken (m ∷ ms) =
    first_count (fields_in scope) (member_judged m)
    (first_members (taken ++ (member_name (member_judged m)).text ∷ []) (map member_judged ms)) (field_of another m)
    (each (field_of another) ms) (has_name taken (member_name (member_judged m)).text) (one_field scope another m)
    (fields_count scope another (taken ++ (member_name (member_judged m)).text ∷ []) ms)

condition_once : (m : judged.MemberPart) (rest : List judged.MemberPart) (one more : ℕ) (b : Bool) →
    length (rules.conditions_in m) ≤ one → length (each rules.conditions_in rest) ≤ more →
    length (each rules.conditions_in ((if b then [] else (m ∷ [])) ++ rest)) ≤ one + more
condition_once m rest one more true h k = omega arith
condition_once m rest one more false h k =
    let g : length (rules.conditions_in m ++ each rules.conditions_in rest)
    ≡ length (rules.conditions_in m) + length (each rules.conditions_in rest) =
    length-append (rules.conditions_in m) (each rules.conditions_in rest) in omega arith

one_condition : (m : MemberPart) → length (rules.conditions_in (member_judged m)) ≤ condition_count m
one_condition (variable is_attached name of value) = omega arith
one_condition (constant is_attached name of value) = omega arith
one_condition (condition name) = omega arith
one_condition (operation o) = omega arith

conditions_count : (taken : List Text) (ms : List MemberPart) →
    length (each rules.conditions_in (first_members taken (map member_judged ms))) ≤ conditions_in ms
conditions_count taken [] = omega arith
conditions_count taken (m ∷ ms) =
    condition_once (member_judged m)
    (first_members (taken ++ (member_name (member_judged m)).text ∷ []) (map member_judged ms)) (condition_count m) (conditions_in ms)
    (has_name taken (member_name (member_judged m)).text) (one_condition m)
    (conditions_count (taken ++ (member_name (member_judged m)).text ∷ []) ms)

fields_fit : (scope : Scope) (h : Holder) → length (rules.fields_of scope (holder_judged h)) ≤ length (class_core scope h).fields
fields_fit scope h =
    let a : length (rules.fields_of scope (holder_judged h))
    ≡ length (parameter_entries scope h.parameters)
    + length (each (fields_in (scope_of_names scope (holder_judged h))) (members_of (holder_judged h))) =
    length-append (parameter_entries scope h.parameters)
    (each (fields_in (scope_of_names scope (holder_judged h))) (members_of (holder_judged h))) in
    let b : length (class_core scope h).fields
    ≡ length (map (parameter_field scope) h.parameters) + length (each (field_of (scope_of scope (holder_judged h))) h.body.members) =
    length-append (map (parameter_field scope) h.parameters) (each (field_of (scope_of scope (holder_judged h))) h.body.members) in
    let c : length (parameter_entries scope h.parameters) ≡ length h.parameters = length-map h.parameters _ in
    let d : length (map (parameter_field scope) h.parameters) ≡ length h.parameters = length-map h.parameters (parameter_field scope) in
    let e : length (each (fields_in (scope_of_names scope (holder_judged h))) (members_of (holder_judged h)))
    ≤ length (each (field_of (scope_of scope (holder_judged h))) h.body.members) =
    fields_count (scope_of_names scope (holder_judged h)) (scope_of scope (holder_judged h)) (map (λ p. p.name.text) h.parameters)
    h.body.members in
    omega arith

pub body_fits : (whole : Whole) (scope : Scope) (h : Holder) → GlobalsAre whole scope.globals →
    BodyFits whole (class_core scope h) (env_of_body scope h)
body_fits whole scope h g =
    let top : innermost (scope_of scope (holder_judged h))
    ≡ Some (object_with scope (holder_judged h) (rules.fields_of scope (holder_judged h))) =
    top_of-push scope.objects (object_with scope (holder_judged h) (rules.fields_of scope (holder_judged h))) in
    record {
      locals = subst (λ o. length (locals_of o) ≤ 0) (sym top) (omega arith);
      fields = subst (λ o. length (fields_of o) ≤ length (class_core scope h).fields) (sym top) (fields_fit scope h);
      conditions =
          subst (λ o. length (conditions_of o) ≤ (class_core scope h).conditions) (sym top)
          (conditions_count (map (λ p. p.name.text) h.parameters) h.body.members);
      captures =
          (let e : length (class_core scope h).captured ≡ length (captures_of scope h) = length-map (captures_of scope h) _ in
          omega arith);
      globals = g;
    }
