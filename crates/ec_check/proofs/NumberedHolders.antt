-- A class or an object constructor has the number of the type that it declares, and the operations of this type.
use Rattle.std.proofs.Common.{◌≡◌, List, [], ◌∷◌, ◌++◌, map, option_map, refl, sym, ap, ◌∙◌, subst}
use Rattle.std.proofs.lemmas.List.{append-nil}
use Rattle.ec_check.proofs.ClassNumbers.{Apart, below_apart}
use Rattle.ec_check.proofs.DeclaringParts.{EveryPair}
use Rattle.ec_check.proofs.DistinctNames.{AreNew, AreFewer, are_distinct, are_new, behind_parameters, all_from}
use Rattle.ec_check.proofs.Every.{none_left, none_right}
use Rattle.ec_check.proofs.NumberedKinds.{NumberedBody, members_numbered, members_declare}
use Rattle.ec_check.proofs.NumberedParts.{Has, numbers_of, Numbered, NumberedIn, within_class, both_in, nameless_in, none_both}
use Rattle.ec_check.proofs.OwnOperations.{Declares, own_core, signatures_in, member_names, member_texts, operation_texts}
use Rattle.ec_check.proofs.OwnOperations.{all_behind, own_are_new, signatures_are_new, exported_same}
use Rattle.ec_check.specs.Parts.{Holder, MemberPart, holder_judged, member_judged, section_judged}
use Rattle.ec_check.specs.Places.{Env}
use Rattle.ec_check.specs.Resolving.{body_made, class_core, env_of_body, holder_made, initial_operation, number_of_holder}
use Rattle.ec_types.specs.Conforms.{operations_at}
use Rattle.ec_types.specs.Declarations as conform
use Rattle.ec_types.specs.Declarations.{object_of, operations_behind, within_members}
use Rattle.ec_types.specs.Types.{operations_from}
use Rattle.ec_types.specs.declared.conform.declared.DeclaredType.{DeclaredType}
use Rattle.ec_core.specs.declared.Class.{Class}
use Rattle.ec_types.specs.Names.{Text}
use Rattle.ec_rules.specs.Captures.{captured}
use Rattle.ec_rules.specs.Doubled.{doubled_in_body}
use Rattle.ec_rules.specs.EndNames.{end_of_holder}
use Rattle.ec_rules.specs.Judging.{body_finished, faults_in_holder, finished_if, heading_faults, members_finished, process_finished}
use Rattle.ec_rules.specs.Judging.{type_faults}
use Rattle.ec_rules.specs.Limits.{many_fields, many_parameters}
use Rattle.ec_rules.specs.Lists.{each}
use Rattle.ec_rules.specs.Members.{scope_of}
use Rattle.ec_rules.specs.Names.{unknown_in_parameters}
use Rattle.ec_rules.specs.Parts as judged
use Rattle.ec_rules.specs.declared.StaticFault.{StaticFault}
use Rattle.ec_types.specs.declared.scopes.scope.Scope.{Scope}

-- ---- its operations

nothing_fewer : (taken : List Text) → AreFewer [] taken
nothing_fewer taken name e = refl

has_its_operations : (env : Env) (c : Class) (parameters : List Text) (ms : List MemberPart) (ds : List conform.MemberPart) →
    EveryPair Declares ms ds → AreNew parameters (member_texts ms) →
    operations_at env.scope.table.types c.number ≡ operations_from env.scope.table.names [] (operations_behind parameters ds) →
    Has env.scope.table (each (own_core c.number env) ms) c
has_its_operations env c parameters ms ds h n e = record {
  names =
      are_distinct [] (operation_texts (each (own_core c.number env) ms))
      (own_are_new parameters [] c.number env ms (nothing_fewer parameters) n);
  exported =
      exported_same c.number env ms
      ∙ sym
      (e ∙ ap (operations_from env.scope.table.names []) (all_behind parameters ms ds h n)
      ∙ all_from env.scope.table.names [] (each signatures_in ms)
      (signatures_are_new parameters [] ms (nothing_fewer parameters) n));
}

-- ---- its body

abbrev pub faults_of_members : Scope → Holder → List StaticFault
faults_of_members scope h =
    (members_finished (scope_of scope (holder_judged h)) h.is_monitored (map member_judged h.body.members)).faults

abbrev pub faults_of_first : Scope → Holder → List StaticFault
faults_of_first scope h = (finished_if (scope_of scope (holder_judged h)) (option_map (λ p. p.piece) h.body.initially)).faults

abbrev pub faults_of_process : Scope → Holder → List StaticFault
faults_of_process scope h = (process_finished (scope_of scope (holder_judged h)) (option_map section_judged h.body.process)).faults

abbrev pub faults_of_body : Scope → Holder → List StaticFault
faults_of_body scope h = faults_of_members scope h ++ (faults_of_first scope h ++ faults_of_process scope h)

pub no_faults_in_body : (scope : Scope) (h : Holder) → faults_in_holder scope (holder_judged h) ≡ [] → faults_of_body scope h ≡ []
no_faults_in_body scope h e =
    none_both (faults_of_members scope h) (faults_of_first scope h ++ faults_of_process scope h)
    (none_left _ _ (none_left _ _ (none_left _ _ (none_left _ _ e))))
    (none_both (faults_of_first scope h) (faults_of_process scope h)
    (none_right _ _ (none_left _ _ (none_left _ _ (none_left _ _ e)))) (none_right _ _ (none_left _ _ e)))

no_doubled_in : (scope : Scope) (h : judged.Holder) → faults_in_holder scope h ≡ [] → doubled_in_body h ≡ []
no_doubled_in scope h e =
    none_left (doubled_in_body h) (end_of_holder h ++ many_parameters h.parameters)
    (none_right (type_faults scope.table h.name) (doubled_in_body h ++ (end_of_holder h ++ many_parameters h.parameters))
    (none_right (unknown_in_parameters scope.table h.parameters)
    (type_faults scope.table h.name ++ (doubled_in_body h ++ (end_of_holder h ++ many_parameters h.parameters)))
    (none_left (heading_faults scope h) (many_fields (captured (body_finished (scope_of scope h) h).uses) h)
    (none_right (body_finished (scope_of scope h) h).faults
    (heading_faults scope h ++ many_fields (captured (body_finished (scope_of scope h) h).uses) h) e))))

no_doubled_names : (scope : Scope) (h : Holder) → faults_in_holder scope (holder_judged h) ≡ [] →
    AreNew (map (λ p. p.name.text) h.parameters) (member_texts h.body.members)
no_doubled_names scope h e =
    are_new (map (λ p. p.name.text) h.parameters) (member_names h.body.members)
    (behind_parameters [] h.parameters (member_names h.body.members) (no_doubled_in scope (holder_judged h) e))

body_numbered : (scope : Scope) (h : Holder) (d : conform.BodyPart) (k : NumberedBody h.body d) →
    NumberedIn scope.table (number_of_holder scope h)
    (each (own_core (number_of_holder scope h) (env_of_body scope h)) h.body.members ++ [])
    (body_made (number_of_holder scope h) (env_of_body scope h) h)
    ((within_members d.members).types ++ (k.first ++ k.last)) (faults_of_body scope h)
body_numbered scope h d k =
    both_in (nameless_in scope.table (initial_operation (number_of_holder scope h) (env_of_body scope h) h) refl)
    (both_in
    (members_numbered (number_of_holder scope h) (env_of_body scope h) h.is_monitored h.body.members d.members k.members)
    (both_in (within_class (number_of_holder scope h) (k.initially (scope_of scope (holder_judged h))))
    (k.process (number_of_holder scope h) (env_of_body scope h) h.name)))

-- ---- the whole

abbrev declared_by : Holder → List Text → conform.BodyPart → DeclaredType
declared_by h parameters d = record { name = h.name; operations = operations_behind parameters d.members }

with_its_operations : (scope : Scope) (h : Holder) (d : conform.BodyPart) (k : NumberedBody h.body d) →
    Numbered scope.table (holder_made scope h)
    (declared_by h (map (λ p. p.name.text) h.parameters) d ∷ ((within_members d.members).types ++ (k.first ++ k.last)))
    (faults_in_holder scope (holder_judged h))
with_its_operations scope h d k =
    let body : NumberedIn scope.table (number_of_holder scope h)
    (each (own_core (number_of_holder scope h) (env_of_body scope h)) h.body.members ++ [])
    (body_made (number_of_holder scope h) (env_of_body scope h) h)
    ((within_members d.members).types ++ (k.first ++ k.last)) (faults_of_body scope h) = body_numbered scope h d k in
    record {
      numbers = ap (λ ns. number_of_holder scope h ∷ ns) body.numbers;
      others = λ n a. body.others n a.0 a.1;
      owned = λ e s r.
          let apart : Apart (number_of_holder scope h)
          (numbers_of (body_made (number_of_holder scope h) (env_of_body scope h) h).classes) = below_apart _ _ r.0 in (
            subst (λ os. Has scope.table os (class_core scope h))
                (sym
                (body.those apart
                ∙ append-nil (each (own_core (number_of_holder scope h) (env_of_body scope h)) h.body.members)))
                (has_its_operations (env_of_body scope h) (class_core scope h) (map (λ p. p.name.text) h.parameters) h.body.members
                d.members (members_declare h.body.members d.members k.members) (no_doubled_names scope h e) s.0),
            body.owned (no_faults_in_body scope h e) s.1 r.1 apart,
          );
    }

pub holder_numbered : (scope : Scope) (h : Holder) (d : conform.BodyPart) → NumberedBody h.body d →
    Numbered scope.table (holder_made scope h) (object_of h.name (map (λ p. p.name.text) h.parameters) d).types
    (faults_in_holder scope (holder_judged h))
holder_numbered scope h d k =
    subst
    (λ ts.
    Numbered scope.table (holder_made scope h) (declared_by h (map (λ p. p.name.text) h.parameters) d ∷ ts)
    (faults_in_holder scope (holder_judged h)))
    (sym k.types) (with_its_operations scope h d k)
