-- What an action makes of a world: first what its doing leaves beside processes, then what becomes of these.
use Rattle.std.proofs.Common.{◌≡◌, ◌∙◌, ◌∷◌, ◌++◌, [], List, Some, ap, sym}
use Rattle.ec_base.proofs.Stacks.{below_of-push, top_of-push}
use Rattle.ec_base.specs.Stack.{below_of, top_of}
use Rattle.ec_cluster.specs.Cluster.{CodeWorld}
use Rattle.ec_code.specs.Activations.{code_meaning}
use Rattle.ec_code.specs.declared.activation.CodeActivation.{CodeActivation}
use Rattle.ec_cluster.specs.Acting.{Asks}
use Rattle.ec_cluster.specs.SystemSteps.{world_done, world_settled}
use Rattle.ec_world.specs.Outcomes.{acted_if, done, outcome_of}
use Rattle.ec_world.specs.World.{Action, act_if_pending, act_on, acted, outcome_at, ready_stack, stack_at, stack_if_ready}
use Rattle.ec_world.specs.declared.doing.Doing.{Doing}
use Rattle.ec_world.specs.declared.stop.Who.{Who}

module _ (w : CodeWorld) (below : List CodeActivation) (top : CodeActivation) (who : Who) (doing : Doing)
    (asks : Asks w below top who doing) where
  pub stack_is : stack_at w who.process ≡ below ++ top ∷ []
  stack_is =
      ap ready_stack asks.is_top.is ∙ ap (λ s. stack_if_ready s asks.is_top.proc.activations) asks.ready ∙ asks.is_top.stack

  pub top_is : top_of (stack_at w who.process) ≡ Some top
  top_is = ap top_of stack_is ∙ top_of-push below top

  pub below_is : below_of (stack_at w who.process) ≡ below
  below_is = ap below_of stack_is ∙ below_of-push below top

  pub outcome_is : outcome_at code_meaning w who.process below top ≡ Some (done w.common who doing)
  outcome_is =
      ap (λ x. outcome_of w.common x top.stop top.operands) (sym asks.who_is) ∙ ap (acted_if w.common who) asks.is

  pub action_is : Action code_meaning w who.process ≡ world_settled (world_done w who doing) who.process below top
      (done w.common who doing).1
  action_is =
      ap (λ b. act_on code_meaning w who.process b (top_of (stack_at w who.process))) below_is
      ∙ ap (act_on code_meaning w who.process below) top_is
      ∙ ap (act_if_pending code_meaning w who.process below top) asks.pending
      ∙ ap (acted code_meaning w who.process below top) outcome_is
