-- An action that is asked for in a world that a system runs: its stop is sound, and so is what it comes to.
use Rattle.std.proofs.Common.{◌≡◌, List, [], ◌∷◌, ◌++◌, Some, sym, ap, ◌∙◌, subst}
use Rattle.ec_base.proofs.Stacks.{below_of-push, top_of-push}
use Rattle.ec_base.specs.Stack.{below_of, top_of}
use Rattle.ec_cluster.specs.Cluster.{CodeWorld}
use Rattle.ec_code.specs.Activations.{code_meaning}
use Rattle.ec_code.specs.Typing.{Declared}
use Rattle.ec_code.specs.declared.activation.CodeActivation.{CodeActivation}
use Rattle.ec_code.specs.declared.code.Parts.{Parts}
use Rattle.ec_code.proofs.Carried.{each_get}
use Rattle.ec_code.proofs.Facts.{outcome_fine, pending_top}
use Rattle.ec_code.specs.Sound.{FineDone, SoundPending, SoundProc, SoundTower}
use Rattle.ec_cluster.specs.Acting.{Asks}
use Rattle.ec_cluster.specs.Systems.{Runs}
use Rattle.ec_cluster.specs.declared.system.System.{System}
use Rattle.ec_world.specs.Outcomes.{acted_if, done, outcome_of}
use Rattle.ec_world.specs.World.{outcome_at, ready_stack, stack_at, stack_if_ready, who_of}
use Rattle.ec_world.specs.declared.doing.Doing.{Doing}
use Rattle.ec_world.specs.declared.object.ObjectRec.{ObjectRec}
use Rattle.ec_world.specs.declared.stop.Who.{Who}

module _ (d : Declared) (s : System) (w : CodeWorld) (below : List CodeActivation) (top : CodeActivation) (who : Who) (doing : Doing)
    (runs : Runs d s w) (asks : Asks w below top who doing) where
  abbrev p : Parts
  p = s.cluster.parts

  abbrev objects : List ObjectRec
  objects = w.common.objects

  -- the stack of the process
  stack : stack_at w who.process ≡ below ++ top ∷ []
  stack = ap ready_stack asks.is_top.is ∙ ap (λ x. stack_if_ready x asks.is_top.proc.activations) asks.ready ∙ asks.is_top.stack

  top_is : top_of (stack_at w who.process) ≡ Some top
  top_is = ap top_of stack ∙ top_of-push below top

  below_is : below_of (stack_at w who.process) ≡ below
  below_is = ap below_of stack ∙ below_of-push below top

  pub its_tower : SoundTower d p objects below (Some top)
  its_tower =
      subst (λ xs. SoundTower d p objects xs (Some top)) (ap below_of asks.is_top.stack ∙ below_of-push below top)
      (subst (λ x. SoundTower d p objects (below_of asks.is_top.proc.activations) x) (ap top_of asks.is_top.stack ∙ top_of-push below top)
      (each_get (SoundProc d p objects) w.processes who.process asks.is_top.proc runs.sound.processes asks.is_top.is).tower)

  -- the stop of the top, whose action is to be done
  pub its_stop : SoundPending d p objects top
  its_stop = pending_top d p runs.steady.fine w runs.sound who.process top top_is asks.pending

  outcome_is : outcome_at code_meaning w who.process (below_of (stack_at w who.process)) top ≡ Some (done w.common who doing)
  outcome_is =
      ap (λ xs. outcome_of w.common (who_of code_meaning who.process xs top) top.stop top.operands) below_is
      ∙ ap (λ x. outcome_of w.common x top.stop top.operands) (sym asks.who_is)
      ∙ ap (acted_if w.common who) asks.is

  -- what the action comes to
  pub its_outcome : FineDone d p w.common its_stop.rests.of its_stop.rests.row.gives (done w.common who doing)
  unfolding its_stop
  its_outcome =
      outcome_fine d p runs.steady.fine w runs.sound who.process top top_is asks.pending (done w.common who doing).0
      (done w.common who doing).1
      outcome_is

  -- who acts is the activation on top
  pub its_own : who.own ≡ top.own
  its_own = ap (λ (x : Who). x.own) asks.who_is
