-- Code that is emitted stands where it is.
use Rattle.std.proofs.Common.{◌≡◌, ℕ, suc, true, List, [], ◌∷◌, ◌++◌, length, Some, ap, subst}
use Rattle.ec_code.specs.declared.code.Op.{Op}
use Rattle.ec_core.specs.declared.Block.{Block}
use Rattle.ec_core.specs.declared.Operation.{Operation}
use Rattle.ec_emission.proofs.Bodies.{IsLoop, loop_stands, setting}
use Rattle.ec_emission.proofs.Operations.{around_constants, end_stands, operation_stands, program_stands}
use Rattle.ec_emission.proofs.Turns.{Placed, Setting, Standing}
use Rattle.ec_emission.specs.Statements.{default_ops, leave_ops, operation_fits, operation_ops, program_fits, program_ops}
use Rattle.ec_meaning.specs.Meaning.{constant_items, items_if}
use Rattle.ec_meaning.specs.Programs.{Source, operation_at}
use Rattle.ec_meaning.specs.Steps.{block_items, types_if}
use Rattle.ec_meaning.specs.declared.item.Item.{Item}
use Rattle.ec_meaning.specs.declared.item.Item.TheVariants as i

-- The steps of an operation are those that are emitted for it.
module _ (s : Source) (number captured : ℕ) (literals : List (List ℕ)) (o : Operation) (is : operation_at s number ≡ Some o)
    (steps : List Op) (same : operation_ops s captured literals o ≡ steps) where
  abbrev in_steps : List Op → Setting
  in_steps code = setting s number captured o.variables literals (leave_ops o) code

  pub operation_in : operation_fits s captured literals o ≡ true →
      Standing (setting s number captured o.variables literals (leave_ops o) steps) []
      (suc (length (default_ops s captured literals o))) (items_if s (Some o))
  operation_in f =
      subst (λ code. Standing (in_steps code) [] (suc (length (default_ops s captured literals o))) (items_if s (Some o))) same
      (operation_stands s number captured literals o is f)

  end_in : (q : ℕ) → Placed steps q (leave_ops o) → Standing (in_steps steps) [] q (i.Leave ∷ [])
  end_in =
      subst (λ code. (q : ℕ) → Placed code q (leave_ops o) → Standing (in_steps code) [] q (i.Leave ∷ [])) same
      (end_stands s number captured literals o is)

  pub loop_of : (top again : ℕ) (b : Block) (items : List Item) →
      IsLoop s number captured o.variables literals (leave_ops o) steps top again b →
      Standing (setting s number captured o.variables literals (leave_ops o) steps) [] (suc again) items →
      Standing (setting s number captured o.variables literals (leave_ops o) steps) [] (suc top) (block_items b ++ i.Again b ∷ items)
  loop_of = loop_stands s number captured o.variables literals (leave_ops o) steps (ap types_if is) end_in

-- The steps of the program's own operation are those that are emitted for it.
pub program_in : (s : Source) (number : ℕ) (literals : List (List ℕ)) (steps : List Op) → program_ops s literals ≡ steps →
    program_fits s literals s.core.constants ≡ true →
    Standing (around_constants s number literals steps) [] 1 (constant_items 0 s.core.constants)
program_in s number literals steps same f =
    subst (λ code. Standing (around_constants s number literals code) [] 1 (constant_items 0 s.core.constants)) same
    (program_stands s number literals f)
