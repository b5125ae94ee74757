-- Scopes as they are entered and left, and as names are declared in them.
use Rattle.std.proofs.Common.{◌≡◌, ℕ, ◌+◌, ◌<◌, ◌≤◌, List, [], ◌∷◌, ◌++◌, drop, get_or, map, length, Some, None, true, false, sym, ap, ◌∙◌}
use Rattle.std.proofs.lemmas.List.{append-nil, at_drop_all, at_drop_more}
use Rattle.ec_ast.specs.declared.Body.{Body}
use Rattle.ec_ast.specs.declared.Parameter.{Parameter}
use Rattle.ec_types.specs.declared.conform.static_type.StaticType.{StaticType}
use Rattle.ec_judge.specs.Holders.{holder_of, object_with}
use Rattle.ec_judge.specs.declared.holders.Heading.{Heading}
use Rattle.ec_rules.specs.Lists.{each}
use Rattle.ec_rules.specs.Members.{constant_entry, field_names, field_names_in, fields_in, fields_of, members_of}
use Rattle.ec_rules.specs.Members.{parameter_entries, result_entries, scope_of, scope_of_names}
use Rattle.ec_rules.specs.Parts.{MemberPart}
use Rattle.ec_types.specs.declared.scopes.entries.Entry.{Entry}
use Rattle.ec_types.specs.declared.scopes.object.Object.{Object}
use Rattle.ec_types.specs.declared.scopes.scope.Scope.{Scope}
use Rattle.ec_types.specs.Scopes.{declaring, outside, within, written_in}
use Rattle.ec_types.proofs.ScopesLemmas.{declaring-declaring, declaring-none, outside-within}

pub declared_none : (scope : Scope) → declaring [] scope ≡ scope
declared_none scope = declaring-none scope

pub none_behind : (entries : List Entry) → entries ++ [] ≡ entries
none_behind entries = append-nil entries

-- ---- parameters and results

abbrev pub parameter_entry : Parameter → StaticType → Entry
parameter_entry p of = record { name = p.name.text; of = Some of; is_variable = false }

abbrev pub result_entry : Parameter → StaticType → Entry
result_entry p of = record { name = p.name.text; of = Some of; is_variable = true }

pub parameter_next : (scope next : Scope) (entry : Entry) (of : StaticType) (ps : List Parameter) (i : ℕ) (p : Parameter) → i < length ps →
    p ≡ get_or ps i p → of ≡ written_in scope p.of → entry ≡ parameter_entry p of → next ≡ declaring (entry ∷ []) scope →
    declaring (parameter_entries next (drop (i + 1) ps)) next ≡ declaring (parameter_entries scope (drop i ps)) scope
parameter_next scope next entry of ps i p lt is t e n =
    let rest = drop (i + 1) ps in
    let own = parameter_entry p (written_in scope p.of) in
    ap (λ (s : Scope). declaring (parameter_entries s rest) s) (n ∙ ap (λ x. declaring (x ∷ []) scope) (e ∙ ap (parameter_entry p) t))
    ∙ declaring-declaring (own ∷ []) (parameter_entries scope rest) scope
    ∙ ap (λ y. declaring (parameter_entries scope (y ∷ rest)) scope) is
    ∙ sym (at_drop_more (λ ys. declaring (parameter_entries scope ys) scope) ps i p lt)

pub parameters_end : (scope : Scope) (ps : List Parameter) (i : ℕ) → length ps ≤ i →
    scope ≡ declaring (parameter_entries scope (drop i ps)) scope
parameters_end scope ps i le =
    sym (declaring-none scope) ∙ sym (at_drop_all (λ ys. declaring (parameter_entries scope ys) scope) ps i le)

pub result_declared : (scope inner : Scope) (entry : Entry) (of : StaticType) (ps : List Parameter) (p : Parameter) →
    inner ≡ declaring (parameter_entries scope ps) scope → of ≡ written_in inner p.of → entry ≡ result_entry p of →
    declaring (entry ∷ []) inner ≡ declaring (parameter_entries scope ps ++ result_entries scope (Some p)) scope
result_declared scope inner entry of ps p i t e =
    ap (λ x. declaring (x ∷ []) inner) (e ∙ ap (result_entry p) t)
    ∙ ap (λ (s : Scope). declaring (result_entry p (written_in s p.of) ∷ []) s) i
    ∙ declaring-declaring (parameter_entries scope ps) (result_entry p (written_in scope p.of) ∷ []) scope

-- ---- bodies

module _ (scope enter leave : Scope) (heading : Heading) (body : Body) (members : List MemberPart) (names fields : List Entry)
    (named typed : Object)
    (m : members ≡ members_of (holder_of heading body))
    (n : names ≡ map (λ p. constant_entry p.name None) heading.parameters.now ++ each field_names_in members)
    (o : named ≡ object_with scope heading members names) (e : enter ≡ within scope named)
    (f : fields ≡ parameter_entries enter heading.parameters.now ++ each (fields_in enter) members)
    (l : leave ≡ outside enter) (t : typed ≡ object_with leave heading members fields) where
  names_in : names ≡ field_names (holder_of heading body)
  names_in = n ∙ ap (λ ms. map (λ p. constant_entry p.name None) heading.parameters.now ++ each field_names_in ms) m

  enter_is : enter ≡ scope_of_names scope (holder_of heading body)
  enter_is =
      e
      ∙ ap (within scope)
      (o ∙ ap (object_with scope heading members) names_in ∙ ap
      (λ ms. object_with scope heading ms (field_names (holder_of heading body))) m)

  fields_in_body : fields ≡ fields_of scope (holder_of heading body)
  fields_in_body =
      let inner = scope_of_names scope (holder_of heading body) in
      f
      ∙ ap (λ (s : Scope). parameter_entries s heading.parameters.now ++ each (fields_in s) members) enter_is
      ∙ ap (λ ms. parameter_entries scope heading.parameters.now ++ each (fields_in inner) ms) m

  leave_is : leave ≡ scope
  leave_is = l ∙ ap outside e ∙ outside-within scope named

  pub entered : within leave typed ≡ scope_of scope (holder_of heading body)
  entered =
      let h = holder_of heading body in
      ap (λ s. within s typed) leave_is
      ∙ ap (within scope)
      (t
      ∙ ap (λ s. object_with s heading members fields) leave_is
      ∙ ap (λ ms. object_with scope heading ms fields) m
      ∙ ap (object_with scope heading (members_of h)) fields_in_body)
