-- What statements and blocks are found to be: their heights, their tree nodes and the locals that they declare.
use Rattle.std.specs.Prelude.{ℕ, max, true, false, List, [], ◌∷◌, ◌++◌, map, Option, Some, None}
use Rattle.ec_ast.specs.declared.Expression.TheOpen.{Statement-F}
use Rattle.ec_rules.specs.Forms.{Form, NameAlone}
use Rattle.ec_rules.specs.declared.judged.Done.{Done}
use Rattle.ec_rules.specs.declared.judged.Judged.{Judged}
use Rattle.ec_rules.specs.declared.operands.Wanted.TheVariants as wanted
use Rattle.ec_rules.specs.Heights.{pair_height}
use Rattle.ec_rules.specs.Lists.{greatest, plus, total}
use Rattle.ec_rules.specs.Operands.{wants}
use Rattle.ec_rules.specs.Parts.{Part, Piece, Judgement, Finished, ArmPart, AStatement, value_in}
use Rattle.ec_types.specs.declared.scopes.scope.Scope.{Scope}
use Rattle.ec_types.specs.Scopes.{in_a_loop}

-- ---- what stands in a statement

abbrev pub done_of : Judged → Done
done_of value = record { height = value.height; nodes = value.nodes; variables = 0 }

abbrev pub finished_with : Judgement → Finished
finished_with j = record { done = done_of j.value; uses = j.uses; faults = j.faults }

abbrev pub piece_of : Part → Piece
piece_of e scope = finished_with (e.judged true scope)

-- an expression whose value isn't needed
abbrev pub dropped : Part → Piece
dropped e scope = finished_with (e.judged false scope)

-- An arm: its condition, a Boolean, and its block. The first arm of an `if` counts one as the statement, each other one as an
-- arm.
abbrev pub tested : Judgement → Finished → Finished
tested condition block = record {
  done = record {
    height = max condition.value.height block.done.height;
    nodes = plus 1 (plus condition.value.nodes block.done.nodes);
    variables = block.done.variables;
  };
  uses = condition.uses ++ block.uses;
  faults = condition.faults ++ (wants wanted.Boolean condition.value ++ block.faults);
}

abbrev pub piece_of_arm : ArmPart → Piece
piece_of_arm arm scope = tested (arm.condition.judged true scope) (arm.block scope)

abbrev pub looped : Piece → Piece
looped block scope = block (in_a_loop scope)

abbrev pub pieces_if : Option Part → List Piece
pieces_if None = []
pieces_if (Some e) = piece_of e ∷ []

abbrev pub pieces_of_block : Option Piece → List Piece
pieces_of_block None = []
pieces_of_block (Some block) = block ∷ []

abbrev pub pieces_of : AStatement → List Piece
pieces_of (Statement-F.LocalVariable name of value) = pieces_if value
pieces_of (Statement-F.LocalConstant name of value) = piece_of value ∷ []
pieces_of (Statement-F.Assign target value) = piece_of target ∷ piece_of value ∷ []
pieces_of (Statement-F.Invoke e) = dropped e ∷ []
pieces_of (Statement-F.Print e at) = piece_of e ∷ []
pieces_of (Statement-F.If arms other at) = map piece_of_arm arms ++ pieces_of_block other
pieces_of (Statement-F.Loop block at) = looped block ∷ []
pieces_of (Statement-F.Exit when at) = pieces_if when
pieces_of (Statement-F.Return at) = []
pieces_of (Statement-F.Assert e at) = piece_of e ∷ []
pieces_of (Statement-F.Move x to at) = piece_of x ∷ piece_of to ∷ []
pieces_of (Statement-F.Fix x place at) = piece_of x ∷ piece_of place ∷ []
pieces_of (Statement-F.Refix x place at) = piece_of x ∷ piece_of place ∷ []
pieces_of (Statement-F.Unfix x at) = piece_of x ∷ []
pieces_of (Statement-F.Wait name at) = []
pieces_of (Statement-F.Signal name at) = []

-- ---- heights

-- v[i] <- e: the greatest of v's, 1 + i's and 2 + e's, where v[i] is a pair; of an assignment to a name, e's
abbrev pub assigned_height : Form → Judged → Judged → ℕ
assigned_height (NameAlone name) target value = value.height
assigned_height _ target value = max target.height (plus 2 value.height)

-- of a statement: its parts one after another; the two of a move as a pair
abbrev pub statement_height : Scope → AStatement → ℕ
statement_height scope (Statement-F.Assign target value) =
    assigned_height target.form (value_in scope target) (value_in scope value)
statement_height scope (Statement-F.Move x to at) = pair_height (value_in scope x) (value_in scope to)
statement_height scope (Statement-F.Fix x place at) = pair_height (value_in scope x) (value_in scope place)
statement_height scope (Statement-F.Refix x place at) = pair_height (value_in scope x) (value_in scope place)
statement_height scope s = greatest (λ piece. (piece scope).done.height) (pieces_of s)

-- ---- tree nodes: each declaration and statement counts one, besides what stands in it; an `if` by its arms

abbrev pub own_nodes : AStatement → ℕ
own_nodes (Statement-F.If arms other at) = 0
own_nodes s = 1

abbrev pub statement_nodes : Scope → AStatement → ℕ
statement_nodes scope s = plus (own_nodes s) (total (λ piece. (piece scope).done.nodes) (pieces_of s))

-- ---- locals

abbrev pub own_variables : AStatement → ℕ
own_variables (Statement-F.LocalVariable name of value) = 1
own_variables (Statement-F.LocalConstant name of value) = 1
own_variables s = 0

abbrev pub statement_variables : Scope → AStatement → ℕ
statement_variables scope s = plus (own_variables s) (total (λ piece. (piece scope).done.variables) (pieces_of s))

-- ---- one thing behind another

abbrev pub nothing_done : Done
nothing_done = record { height = 0; nodes = 0; variables = 0 }

abbrev pub done_both : Done → Done → Done
done_both a b = record { height = max a.height b.height; nodes = plus a.nodes b.nodes; variables = plus a.variables b.variables }

abbrev pub nothing_finished : Finished
nothing_finished = record { done = nothing_done; uses = []; faults = [] }

abbrev pub both : Finished → Finished → Finished
both a b = record { done = done_both a.done b.done; uses = a.uses ++ b.uses; faults = a.faults ++ b.faults }
