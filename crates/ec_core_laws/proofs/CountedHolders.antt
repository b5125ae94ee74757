-- How much an object constructor or a class makes, by what it declares.
use Rattle.std.proofs.Common.{◌≡◌, [], ◌++◌, map, sym, subst}
use Rattle.ec_check.proofs.Every.{none_left, none_right}
use Rattle.ec_check.proofs.NumberedHolders.{faults_of_body, no_faults_in_body}
use Rattle.ec_check.specs.Parts.{Holder, both_made, holder_judged}
use Rattle.ec_check.specs.Resolving.{class_core, env_of_body, holder_made, initial_operation, initially_made, members_made}
use Rattle.ec_check.specs.Resolving.{number_of_holder}
use Rattle.ec_check.specs.Resolving.{process_made}
use Rattle.ec_types.specs.Declarations as conform
use Rattle.ec_types.specs.Declarations.{both, object_of, object_with, within_members}
use Rattle.ec_core_laws.proofs.CountedKinds.{CountedBody, members_counted}
use Rattle.ec_core_laws.proofs.CountedParts.{Counted, OperationFits, both_counted, object_counted}
use Rattle.ec_rules.specs.Captures.{captured}
use Rattle.ec_rules.specs.Doubled.{doubled_type}
use Rattle.ec_rules.specs.Judging.{body_finished, faults_in_holder, first_finished, heading_faults}
use Rattle.ec_rules.specs.Judging.{process_finished, type_faults}
use Rattle.ec_rules.specs.Limits.{many_fields, many_operations, many_types, measured, too_large}
use Rattle.ec_rules.specs.Members.{scope_of}
use Rattle.ec_rules.specs.Names.{unknown_in_parameters}
use Rattle.ec_rules.specs.Parts as judged
use Rattle.ec_types.specs.declared.scopes.scope.Scope.{Scope}

-- ---- its body

-- Where it has no fault, neither its type nor its operation 0 is one too many.
type_fits : (scope : Scope) (h : judged.Holder) → faults_in_holder scope h ≡ [] → many_types scope.table h.name.at ≡ []
type_fits scope h e =
    none_right (doubled_type scope.table h.name) (many_types scope.table h.name.at)
    (none_left (type_faults scope.table h.name) _
    (none_right (unknown_in_parameters scope.table h.parameters) _
    (none_left (heading_faults scope h) (many_fields (captured (body_finished (scope_of scope h) h).uses) h)
    (none_right (body_finished (scope_of scope h) h).faults
    (heading_faults scope h ++ many_fields (captured (body_finished (scope_of scope h) h).uses) h) e))))

first_fits : (scope : Scope) (h : judged.Holder) → faults_in_holder scope h ≡ [] → OperationFits scope.table h.name.at
first_fits scope h e =
    none_right (too_large h.name.at 0 (first_finished (scope_of scope h) h).done) (many_operations scope.table h.name.at)
    (none_right (first_finished (scope_of scope h) h).faults (measured scope.table h.name.at 0 (first_finished (scope_of scope h) h).done)
    (none_left _ (process_finished (scope_of scope h) h.body.process).faults (none_left _ _ e)))

body_counted : (scope : Scope) (h : Holder) (d : conform.BodyPart) (k : CountedBody h.body d) →
    Counted scope.table
    (both_made (members_made (number_of_holder scope h) (env_of_body scope h) h.body.members)
    (both_made (initially_made (scope_of scope (holder_judged h)) h.body.initially)
    (process_made (number_of_holder scope h) (env_of_body scope h) h.name h.body.process)))
    (both (within_members d.members) (both k.first k.last)) (faults_of_body scope h)
body_counted scope h d k =
    both_counted
    (members_counted (number_of_holder scope h) (env_of_body scope h) h.is_monitored h.body.members d.members k.members)
    (both_counted (k.initially (scope_of scope (holder_judged h)))
    (k.process (number_of_holder scope h) (env_of_body scope h) h.name))

-- ---- the whole

pub holder_counted : (scope : Scope) (h : Holder) (d : conform.BodyPart) → CountedBody h.body d →
    Counted scope.table (holder_made scope h) (object_of h.name (map (λ p. p.name.text) h.parameters) d)
    (faults_in_holder scope (holder_judged h))
holder_counted scope h d k =
    object_counted (class_core scope h) (initial_operation (number_of_holder scope h) (env_of_body scope h) h) h.name
    (map (λ p. p.name.text) h.parameters) d.members (no_faults_in_body scope h) (type_fits scope (holder_judged h))
    (first_fits scope (holder_judged h))
    (subst
    (λ w.
    Counted scope.table
    (both_made (members_made (number_of_holder scope h) (env_of_body scope h) h.body.members)
    (both_made (initially_made (scope_of scope (holder_judged h)) h.body.initially)
    (process_made (number_of_holder scope h) (env_of_body scope h) h.name h.body.process)))
    w (faults_of_body scope h))
    (sym k.within) (body_counted scope h d k))
