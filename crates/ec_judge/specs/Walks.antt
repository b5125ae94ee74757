-- What a walk over a part of a tree finds, and what it leaves behind.
use Rattle.std.specs.Prelude.{Bool, List, [], ◌∷◌, ◌++◌, Option, Some}
use Rattle.ec_ast.specs.declared.Span.{Span}
use Rattle.ec_types.specs.declared.conform.static_type.StaticType.{StaticType}
use Rattle.ec_judge.specs.declared.walk.Looked.{Looked}
use Rattle.ec_judge.specs.declared.walk.Walk.{Walk}
use Rattle.ec_rules.specs.Calls.{type_unless}
use Rattle.ec_rules.specs.Captures.{Use}
use Rattle.ec_rules.specs.Heights.{chain_height, greatest_height, pair_height}
use Rattle.ec_rules.specs.Judging.{first_token, type_of, height_in, faults_of, uses_of}
use Rattle.ec_rules.specs.Lists.{each, plus}
use Rattle.ec_rules.specs.Nodes.{nodes_of, chain_nodes}
use Rattle.ec_rules.specs.Operands.{result_type}
use Rattle.ec_rules.specs.Parts.{AnExpression, Finished, Judgement, Part, faults_in, uses_in}
use Rattle.ec_rules.specs.Rules.{noted}
use Rattle.ec_rules.specs.Types.{boolean}
use Rattle.ec_rules.specs.declared.StaticFault.{StaticFault}
use Rattle.ec_rules.specs.declared.judged.Added.{Added}
use Rattle.ec_rules.specs.declared.judged.Judged.{Judged}
use Rattle.ec_types.specs.declared.scopes.scope.Scope.{Scope}

-- ---- what is left behind

-- these faults were met, and these names used
unfoldable pub walked : Walk → List StaticFault → List Use → Walk
walked walk faults uses = record { scope = walk.scope; faults = noted walk.faults faults; uses = walk.uses ++ uses }

abbrev pub noting : Walk → List StaticFault → Walk
noting walk faults = walked walk faults []

abbrev pub over_expression : Walk → Judgement → Walk
over_expression walk j = walked walk j.faults j.uses

abbrev pub over_part : Walk → Part → Walk
over_part walk part = walked walk (faults_in walk.scope part) (uses_in walk.scope part)

abbrev pub over_parts : Walk → List Part → Walk
over_parts walk parts = walked walk (each (faults_in walk.scope) parts) (each (uses_in walk.scope) parts)

-- an operand, and then faults
abbrev pub over_operand : Walk → Part → List StaticFault → Walk
over_operand walk part own = walked walk (faults_in walk.scope part ++ own) (uses_in walk.scope part)

abbrev pub over_operands : Walk → List Part → List StaticFault → Walk
over_operands walk parts own = walked walk (each (faults_in walk.scope) parts ++ own) (each (uses_in walk.scope) parts)

abbrev pub over_layer : Bool → Walk → AnExpression → Walk
over_layer needed walk e = walked walk (faults_of needed walk.scope e) (uses_of walk.scope e)

abbrev pub over_finished : Walk → Finished → Walk
over_finished walk f = walked walk f.faults f.uses

-- the walk in another scope
abbrev pub in_scope : Walk → Scope → Walk
in_scope walk scope = record walk { scope = scope }

-- ---- what an expression is, where no fault is within it

abbrev pub looked : Bool → Scope → AnExpression → Looked
looked needed scope e = record { at = first_token e; of = type_of needed scope e; height = height_in scope e; nodes = nodes_of scope e }

-- within which there is no fault, or one
abbrev pub judged_as : Looked → Bool → Judged
judged_as l is_clean = record { at = l.at; of = type_unless is_clean l.of; is_clean = is_clean; height = l.height; nodes = l.nodes }

-- what has no parts
abbrev pub plain : Span → Option StaticType → Looked
plain at of = record { at = at; of = of; height = 1; nodes = 1 }

-- with something before or behind it
abbrev pub prefixed : Span → Option StaticType → Judged → Looked
prefixed at of value = record { at = at; of = of; height = value.height; nodes = plus 1 value.nodes }

-- a chain of operators
abbrev pub chained : Option StaticType → Judged → List Judged → Looked
chained of head more = record { at = head.at; of = of; height = chain_height head more; nodes = chain_nodes head more }

abbrev pub compared : Judged → Judged → Looked
compared a b = record { at = a.at; of = Some boolean; height = pair_height a b; nodes = plus 1 (plus a.nodes b.nodes) }

-- truths with `and` or `or` between them
abbrev pub joined : Judged → List Judged → Looked
joined head more = record { at = head.at; of = Some boolean; height = greatest_height (head ∷ more); nodes = chain_nodes head more }

-- what the last operator of a sum gives, behind its first operand
abbrev pub type_of_sum : Option StaticType → List Added → Option StaticType
type_of_sum first [] = first
type_of_sum first (a ∷ more) = type_of_sum (Some (result_type a.operator)) more
