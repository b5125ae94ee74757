-- What a part of the tree holds, of its layer.
use Rattle.std.proofs.Common.{◌≡◌, map, ap}
use Rattle.ec_ast.specs.declared.Block.{Block, out-Block}
use Rattle.ec_ast.specs.declared.Expression.{Expression}
use Rattle.ec_ast.specs.declared.Statement.{Statement}
use Rattle.ec_check.proofs.Equations.{part_is_step, layer_of, statement_is_step, statement_layer, block_step_of}
use Rattle.ec_check.specs.Parts.{Part, Piece, StatementPart}
use Rattle.ec_check.specs.Places.{Env}
use Rattle.ec_check.specs.Resolving.{core_of_expression, expression_made, core_of_statement, statement_made, locals_of}
use Rattle.ec_check.specs.Resolving.{statements_core, statements_made, locals_of_statements}
use Rattle.ec_check.specs.Tree.{part_of, statement_of, block_of, expression_step, statement_step, block_step}
use Rattle.ec_check.specs.Typing.{expression_within}
use Rattle.ec_core.specs.declared.Block.{roll-Block}
use Rattle.ec_types.specs.declared.scopes.scope.Scope.{Scope}

pub part_core : (x : Expression) (env : Env) → (part_of x).core env ≡ core_of_expression (layer_of x) env
unfolding expression_step
part_core x env = ap (λ (p : Part). p.core env) (part_is_step x)

pub made_in_part : (x : Expression) (scope : Scope) → (part_of x).made scope ≡ expression_made (layer_of x) scope
unfolding expression_step
made_in_part x scope = ap (λ (p : Part). p.made scope) (part_is_step x)

pub statement_core : (x : Statement) (env : Env) → (statement_of x).core env ≡ core_of_statement (statement_layer x) env
unfolding statement_step
statement_core x env = ap (λ (p : StatementPart). p.core env) (statement_is_step x)

pub made_in_statement : (x : Statement) (scope : Scope) →
    (statement_of x).made scope ≡ statement_made (statement_layer x) scope
unfolding statement_step
made_in_statement x scope = ap (λ (p : StatementPart). p.made scope) (statement_is_step x)

pub statement_locals : (x : Statement) (scope : Scope) → (statement_of x).locals scope ≡ locals_of (statement_layer x) scope
unfolding statement_step
statement_locals x scope = ap (λ (p : StatementPart). p.locals scope) (statement_is_step x)

pub within_part : (x : Expression) (scope : Scope) → (part_of x).within scope ≡ expression_within (layer_of x) scope
unfolding expression_step
within_part x scope = ap (λ (p : Part). p.within scope) (part_is_step x)

pub block_core : (b : Block) (env : Env) →
    (block_of b).core env
    ≡ roll-Block (record { statements = statements_core (map statement_of (out-Block b).statements) env })
unfolding block_step
block_core b env = ap (λ (p : Piece). p.core env) (block_step_of b)

pub made_in_block : (b : Block) (scope : Scope) →
    (block_of b).made scope ≡ statements_made (map statement_of (out-Block b).statements) scope
unfolding block_step
made_in_block b scope = ap (λ (p : Piece). p.made scope) (block_step_of b)

pub block_locals : (b : Block) (scope : Scope) →
    (block_of b).locals scope ≡ locals_of_statements (map statement_of (out-Block b).statements) scope
unfolding block_step
block_locals b scope = ap (λ (p : Piece). p.locals scope) (block_step_of b)
