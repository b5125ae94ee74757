-- What is found of blocks and statements, and what these leave behind.
use Rattle.std.specs.Prelude.{ℕ, max, is_some, List, [], ◌∷◌, ◌++◌, Option, Some, None}
use Rattle.ec_ast.specs.declared.Name.{Name}
use Rattle.ec_ast.specs.declared.TypeName.{TypeName}
use Rattle.ec_judge.specs.declared.walk.Walk.{Walk}
use Rattle.ec_judge.specs.Walks.{walked, over_finished, over_part, in_scope}
use Rattle.ec_rules.specs.Doubled.{doubled_local}
use Rattle.ec_rules.specs.Forms.{Form}
use Rattle.ec_rules.specs.Heights.{pair_height}
use Rattle.ec_rules.specs.Judging.{block_finished, entries_of, statement_finished}
use Rattle.ec_rules.specs.Lists.{each_of, plus}
use Rattle.ec_rules.specs.Members.{form_type}
use Rattle.ec_rules.specs.Names.{unknown_types}
use Rattle.ec_rules.specs.Operands.{must_conform}
use Rattle.ec_rules.specs.Parts.{AStatement, Part, Piece, StatementPart}
use Rattle.ec_rules.specs.Rules.{fault_unless}
use Rattle.ec_rules.specs.Statements.{assigned_height, both, done_of, nothing_done, nothing_finished}
use Rattle.ec_rules.specs.declared.Rule.TheVariants.{Mismatch}
use Rattle.ec_rules.specs.declared.StaticFault.{StaticFault}
use Rattle.ec_rules.specs.declared.judged.Done.{Done}
use Rattle.ec_rules.specs.declared.judged.Judged.{Judged}
use Rattle.ec_types.specs.declared.scopes.entries.Entry.{Entry}
use Rattle.ec_types.specs.declared.scopes.scope.Scope.{Scope}
use Rattle.ec_types.specs.Scopes.{declaring, written_in}

-- ---- the walk behind statements

abbrev pub behind : Walk → StatementPart → Walk
behind walk s = in_scope (over_finished walk (s.finished walk.scope)) (declaring (s.declares walk.scope) walk.scope)

abbrev pub behind_layer : Walk → AStatement → Walk
behind_layer walk s = in_scope (over_finished walk (statement_finished s walk.scope)) (declaring (entries_of s walk.scope) walk.scope)

abbrev pub scope_behind : List StatementPart → Scope → Scope
scope_behind [] scope = scope
scope_behind (s ∷ more) scope = scope_behind more (declaring (s.declares scope) scope)

abbrev pub behind_all : Walk → List StatementPart → Walk
behind_all walk statements = in_scope (over_finished walk (block_finished statements walk.scope)) (scope_behind statements walk.scope)

-- faults, and then a declaration
abbrev pub declared : Walk → List StaticFault → Entry → Walk
declared walk faults entry = in_scope (walked walk faults []) (declaring (entry ∷ []) walk.scope)

-- a value that may be left out
abbrev pub over_part_if : Walk → Option Part → Walk
over_part_if walk None = walk
over_part_if walk (Some part) = over_part walk part

-- ---- what is found

-- so many tree nodes and variables of its own, and what stands in it
abbrev pub counted : ℕ → ℕ → Done → Done
counted nodes variables done = record {
  height = max done.height 0;
  nodes = plus nodes (plus done.nodes 0);
  variables = plus variables (plus done.variables 0);
}

abbrev pub done_if : Option Judged → Done
done_if None = nothing_done
done_if (Some value) = done_of value

-- one piece behind another
abbrev pub all_finished : List Piece → Piece
all_finished [] scope = nothing_finished
all_finished (p ∷ ps) scope = both (p scope) (all_finished ps scope)

abbrev pub assigned : Form → Judged → Judged → Done
assigned form to from = record { height = assigned_height form to from; nodes = plus 1 (plus to.nodes from.nodes); variables = 0 }

abbrev pub moved : Judged → Judged → Done
moved a b = record { height = pair_height a b; nodes = plus 1 (plus a.nodes b.nodes); variables = 0 }

abbrev pub tested : Judged → Done → Done
tested condition block = record {
  height = max condition.height block.height;
  nodes = plus 1 (plus condition.nodes block.nodes);
  variables = block.variables;
}

-- ---- the rules of declarations, where their values are known

abbrev pub wrong_constant : Scope → Name → Option TypeName → Form → Judged → List StaticFault
wrong_constant scope name None form value = fault_unless (is_some (form_type scope form)) Mismatch name.at
wrong_constant scope name (Some of) form value = must_conform scope.table (written_in scope of) value

abbrev pub variable_faults : Scope → Name → TypeName → Option Judged → List StaticFault
variable_faults scope name of value =
    unknown_types scope.table of ++ (doubled_local scope name ++ each_of (must_conform scope.table (written_in scope of)) value)

abbrev pub constant_faults : Scope → Name → Option TypeName → Form → Judged → List StaticFault
constant_faults scope name of form value =
    each_of (unknown_types scope.table) of ++ (doubled_local scope name ++ wrong_constant scope name of form value)
