-- A statement, an arm or a block of good parts is good.
use Rattle.std.proofs.Common.{◌≡◌, true, false, List, [], ◌∷◌, ◌++◌, map, Some, None, sym, subst}
use Rattle.ec_ast.specs.declared.Statement.{roll-Statement}
use Rattle.ec_ast.specs.declared.Arm.{roll-Arm}
use Rattle.ec_ast.specs.declared.Block.{roll-Block}
use Rattle.ec_ast.specs.declared.Expression.TheOpen.{Statement-F}
use Rattle.ec_places.proofs.DeclaredRolled.{statement_declared, statement_declares, arm_declared, arm_declares, block_declared}
use Rattle.ec_places.proofs.DeclaredRolled.{block_declares}
use Rattle.ec_check.proofs.DeclaringParts.{SoundTypes, both_sound, DeclaringStatement, DeclaringArm, DeclaringPiece, EveryPair}
use Rattle.ec_check.proofs.DeclaringParts.{joined_sound}
use Rattle.ec_check.proofs.Every.{Every, every_left, every_right, every_unmap, none_left, none_right, none_each}
use Rattle.ec_check.proofs.GoodExpressions.{each_good, each_pair}
use Rattle.ec_check.proofs.Rolled.{statement_mapped, statement_rolled, arm_mapped, arm_rolled, block_mapped, block_rolled}
use Rattle.ec_check.proofs.SoundParts.{SoundStatement, SoundArm, SoundPiece}
use Rattle.ec_check.proofs.SoundStatements.{SoundParts, statement_is_sound, block_is_sound}
use Rattle.ec_check.specs.Layers.{statement_judged}
use Rattle.ec_check.specs.Parts.{StatementPart, arm_judged}
use Rattle.ec_check.specs.Tree.{statement_step, arm_step, block_step, statement_of, arm_of, block_of}
use Rattle.ec_types.specs.Declarations as conform
use Rattle.ec_types.specs.Declarations.{joined, nothing, in_expression, in_statement, in_arm, in_block}
use Rattle.ec_types.specs.declared.conform.declared.Declarations.{Declarations}
use Rattle.ec_rules.specs.Judging.{statement_part, statement_finished, block_finished}
use Rattle.ec_rules.specs.Parts as judged
use Rattle.ec_rules.specs.Statements.{piece_of_arm}
use Rattle.ec_types.specs.declared.scopes.scope.Scope.{Scope}
use Rattle.ec_types.specs.Scopes.{declaring, in_a_loop}
use Rattle.ec_check.proofs.GoodParts.{IsGoodStatement, IsGoodArm, IsGoodBlock, good}
use Rattle.ec_ast.proofs.Claims.{Held, trees, StatementWith, ArmWith, BlockWith, bare_statement, bare_arm, bare_block}

-- ---- the types within

sound_arms : (xs : List (Held IsGoodArm)) → Every SoundArm (map arm_of (trees xs))
sound_arms = each_good arm_of IsGoodArm SoundArm (λ x q. q.0)

parts_are_sound : (y : StatementWith good) → SoundParts (statement_mapped (bare_statement good y))
parts_are_sound (Statement-F.LocalVariable name of None) = tt
parts_are_sound (Statement-F.LocalVariable name of (Some x)) = x.1.0
parts_are_sound (Statement-F.LocalConstant name of x) = x.1.0
parts_are_sound (Statement-F.Assign x y) = (x.1.0, y.1.0)
parts_are_sound (Statement-F.Invoke x) = x.1.0
parts_are_sound (Statement-F.Print x at) = x.1.0
parts_are_sound (Statement-F.If arms None at) = (sound_arms arms, tt)
parts_are_sound (Statement-F.If arms (Some b) at) = (sound_arms arms, b.1.0)
parts_are_sound (Statement-F.Loop b at) = b.1.0
parts_are_sound (Statement-F.Exit None at) = tt
parts_are_sound (Statement-F.Exit (Some x) at) = x.1.0
parts_are_sound (Statement-F.Return at) = tt
parts_are_sound (Statement-F.Assert x at) = x.1.0
parts_are_sound (Statement-F.Move x y at) = (x.1.0, y.1.0)
parts_are_sound (Statement-F.Fix x y at) = (x.1.0, y.1.0)
parts_are_sound (Statement-F.Refix x y at) = (x.1.0, y.1.0)
parts_are_sound (Statement-F.Unfix x at) = x.1.0
parts_are_sound (Statement-F.Wait name at) = tt
parts_are_sound (Statement-F.Signal name at) = tt

-- ---- what is declared

arm_pairs : (xs : List (Held IsGoodArm)) → EveryPair DeclaringArm (map arm_of (trees xs)) (map in_arm (trees xs))
arm_pairs = each_pair arm_of in_arm IsGoodArm DeclaringArm (λ x q. q.1)

arms_declare : (scope : Scope) (xs : List (Held IsGoodArm)) →
    Every (λ (piece : judged.Piece). (piece scope).faults ≡ []) (map piece_of_arm (map arm_judged (map arm_of (trees xs)))) →
    SoundTypes scope.table (joined (map in_arm (trees xs)))
arms_declare scope xs e =
    joined_sound DeclaringArm scope.table (λ a. (piece_of_arm (arm_judged a) scope).faults ≡ []) (λ a d k f. k scope f)
    (map arm_of (trees xs)) (map in_arm (trees xs)) (arm_pairs xs)
    (every_unmap (λ a. (piece_of_arm a scope).faults ≡ []) arm_judged (map arm_of (trees xs))
    (every_unmap (λ (piece : judged.Piece). (piece scope).faults ≡ []) piece_of_arm
    (map arm_judged (map arm_of (trees xs))) e))

layer_declares : (y : StatementWith good) (scope : Scope) →
    (statement_finished (statement_judged (statement_mapped (bare_statement good y))) scope).faults ≡ [] →
    SoundTypes scope.table (conform.statement_step (statement_declared (bare_statement good y)))
layer_declares (Statement-F.LocalVariable name of None) scope e = tt
layer_declares (Statement-F.LocalVariable name of (Some x)) scope e =
    x.1.1.declares true scope (none_left _ _ (none_left _ _ e))
layer_declares (Statement-F.LocalConstant name of x) scope e = x.1.1.declares true scope (none_left _ _ (none_left _ _ e))
layer_declares (Statement-F.Assign x y) scope e =
    both_sound scope.table (in_expression x.0) (in_expression y.0) (x.1.1.declares true scope (none_left _ _ (none_left _ _ e)))
    (y.1.1.declares true scope (none_left _ _ (none_right _ _ (none_left _ _ e))))
layer_declares (Statement-F.Invoke x) scope e = x.1.1.declares false scope (none_left _ _ (none_left _ _ e))
layer_declares (Statement-F.Print x at) scope e = x.1.1.declares true scope (none_left _ _ (none_left _ _ e))
layer_declares (Statement-F.If arms None at) scope e =
    both_sound scope.table (joined (map in_arm (trees arms))) nothing
    (arms_declare scope arms
    (every_left (λ (piece : judged.Piece). (piece scope).faults ≡ [])
    (map piece_of_arm (map arm_judged (map arm_of (trees arms)))) []
    (none_each (λ (piece : judged.Piece). (piece scope).faults)
    (map piece_of_arm (map arm_judged (map arm_of (trees arms))) ++ []) (none_left _ _ e)))) tt
layer_declares (Statement-F.If arms (Some b) at) scope e =
    let pieces : Every (λ (piece : judged.Piece). (piece scope).faults ≡ [])
    (map piece_of_arm (map arm_judged (map arm_of (trees arms))) ++ (block_of b.0).piece ∷ []) =
    none_each (λ (piece : judged.Piece). (piece scope).faults)
    (map piece_of_arm (map arm_judged (map arm_of (trees arms))) ++ (block_of b.0).piece ∷ []) (none_left _ _ e) in
    both_sound scope.table (joined (map in_arm (trees arms))) (in_block b.0)
    (arms_declare scope arms
    (every_left (λ (piece : judged.Piece). (piece scope).faults ≡ [])
    (map piece_of_arm (map arm_judged (map arm_of (trees arms)))) ((block_of b.0).piece ∷ []) pieces))
    (b.1.1 scope
    (every_right (λ (piece : judged.Piece). (piece scope).faults ≡ [])
    (map piece_of_arm (map arm_judged (map arm_of (trees arms)))) ((block_of b.0).piece ∷ []) pieces).0)
layer_declares (Statement-F.Loop b at) scope e = b.1.1 (in_a_loop scope) (none_left _ _ (none_left _ _ e))
layer_declares (Statement-F.Exit None at) scope e = tt
layer_declares (Statement-F.Exit (Some x) at) scope e = x.1.1.declares true scope (none_left _ _ (none_left _ _ e))
layer_declares (Statement-F.Return at) scope e = tt
layer_declares (Statement-F.Assert x at) scope e = x.1.1.declares true scope (none_left _ _ (none_left _ _ e))
layer_declares (Statement-F.Move x y at) scope e =
    both_sound scope.table (in_expression x.0) (in_expression y.0) (x.1.1.declares true scope (none_left _ _ (none_left _ _ e)))
    (y.1.1.declares true scope (none_left _ _ (none_right _ _ (none_left _ _ e))))
layer_declares (Statement-F.Fix x y at) scope e =
    both_sound scope.table (in_expression x.0) (in_expression y.0) (x.1.1.declares true scope (none_left _ _ (none_left _ _ e)))
    (y.1.1.declares true scope (none_left _ _ (none_right _ _ (none_left _ _ e))))
layer_declares (Statement-F.Refix x y at) scope e =
    both_sound scope.table (in_expression x.0) (in_expression y.0) (x.1.1.declares true scope (none_left _ _ (none_left _ _ e)))
    (y.1.1.declares true scope (none_left _ _ (none_right _ _ (none_left _ _ e))))
layer_declares (Statement-F.Unfix x at) scope e = x.1.1.declares true scope (none_left _ _ (none_left _ _ e))
layer_declares (Statement-F.Wait name at) scope e = tt
layer_declares (Statement-F.Signal name at) scope e = tt

layer_is_declaring : (y : StatementWith good) →
    DeclaringStatement (statement_step (statement_mapped (bare_statement good y)))
    (conform.statement_step (statement_declared (bare_statement good y)))
unfolding statement_step statement_part
layer_is_declaring y = λ scope e. layer_declares y scope e

pub statement_at : (y : StatementWith good) → IsGoodStatement (roll-Statement (bare_statement good y))
statement_at y = (
  subst SoundStatement (sym (statement_rolled (bare_statement good y)))
      (statement_is_sound (statement_mapped (bare_statement good y)) (parts_are_sound y)),
  subst (λ x. DeclaringStatement x (in_statement (roll-Statement (bare_statement good y))))
      (sym (statement_rolled (bare_statement good y)))
      (subst (DeclaringStatement (statement_step (statement_mapped (bare_statement good y))))
      (sym (statement_declares (bare_statement good y))) (layer_is_declaring y)),
)

-- ---- arms

arm_is_sound : (y : ArmWith good) → SoundArm (arm_step (arm_mapped (bare_arm good y)))
arm_is_sound y = (y.condition.1.0, y.block.1.0)

arm_is_declaring : (y : ArmWith good) →
    DeclaringArm (arm_step (arm_mapped (bare_arm good y))) (conform.arm_step (arm_declared (bare_arm good y)))
arm_is_declaring y = λ scope e.
    both_sound scope.table (in_expression y.condition.0) (in_block y.block.0)
    (y.condition.1.1.declares true scope (none_left _ _ e)) (y.block.1.1 scope (none_right _ _ (none_right _ _ e)))

pub arm_at : (y : ArmWith good) → IsGoodArm (roll-Arm (bare_arm good y))
arm_at y = (
  subst SoundArm (sym (arm_rolled (bare_arm good y))) (arm_is_sound y),
  subst (λ x. DeclaringArm x (in_arm (roll-Arm (bare_arm good y)))) (sym (arm_rolled (bare_arm good y)))
      (subst (DeclaringArm (arm_step (arm_mapped (bare_arm good y)))) (sym (arm_declares (bare_arm good y)))
      (arm_is_declaring y)),
)

-- ---- blocks

statements_declare : (xs : List StatementPart) (ds : List Declarations) → EveryPair DeclaringStatement xs ds → (scope : Scope) →
    (block_finished (map (λ x. x.part) xs) scope).faults ≡ [] → SoundTypes scope.table (joined ds)
statements_declare [] [] h scope e = tt
statements_declare [] (d ∷ ds) h scope e = absurd h
statements_declare (x ∷ xs) [] h scope e = absurd h
statements_declare (x ∷ xs) (d ∷ ds) h scope e =
    both_sound scope.table d (joined ds) (h.0 scope (none_left _ _ e))
    (statements_declare xs ds h.1 (declaring (x.part.declares scope) scope) (none_right _ _ e))

block_is_declaring : (y : BlockWith good) →
    DeclaringPiece (block_step (block_mapped (bare_block good y))) (conform.block_step (block_declared (bare_block good y)))
unfolding block_step
block_is_declaring y = λ scope e.
    statements_declare (map statement_of (trees y.statements)) (map in_statement (trees y.statements))
    (each_pair statement_of in_statement IsGoodStatement DeclaringStatement (λ x q. q.1) y.statements) scope e

pub block_at : (y : BlockWith good) → IsGoodBlock (roll-Block (bare_block good y))
block_at y = (
  subst SoundPiece (sym (block_rolled (bare_block good y)))
      (block_is_sound (block_mapped (bare_block good y))
      (each_good statement_of IsGoodStatement SoundStatement (λ x q. q.0) y.statements)),
  subst (λ x. DeclaringPiece x (in_block (roll-Block (bare_block good y)))) (sym (block_rolled (bare_block good y)))
      (subst (DeclaringPiece (block_step (block_mapped (bare_block good y)))) (sym (block_declares (bare_block good y)))
      (block_is_declaring y)),
)
