-- Actions, moves by the operator and turns, over any meaning of activations. No case reads a place.
use Rattle.std.specs.Prelude.{◌≡◌, ℕ, length, Bool, true, false, List, [], ◌∷◌, ◌++◌, map, reverse, Option, Some, None, slice_get}
use Rattle.std.specs.Prelude.{slice_set}
use Rattle.ec_base.specs.Stack.{top_of, below_of}
use Rattle.ec_world.specs.declared.value.Value.{Value}
use Rattle.ec_world.specs.declared.process.ProcStatus.{ProcStatus}
use Rattle.ec_world.specs.declared.process.ProcStatus.TheVariants.{Ready, Entry, Cond, Urgent, Ended, Failed}
use Rattle.ec_world.specs.declared.process.Proc.{Proc}
use Rattle.ec_world.specs.declared.object.ObjectRec.{ObjectRec}
use Rattle.ec_world.specs.declared.stop.Who.{Who}
use Rattle.ec_world.specs.declared.stop.Effect.{Effect}
use Rattle.ec_world.specs.declared.stop.Effect.TheVariants.{GoesOn, Calls, Leaves, Blocks, Ends, Fails}
use Rattle.ec_world.specs.declared.stop.Queue.{Queue}
use Rattle.ec_world.specs.declared.stop.Queue.TheVariants.{ForEntry, ForCondition, Urgently}
use Rattle.ec_world.specs.declared.doing.Outcome.{Outcome}
use Rattle.ec_world.specs.declared.doing.Section.{Section}
use Rattle.ec_world.specs.declared.common.Common.{Common}
use Rattle.ec_world.specs.declared.world.World.{World}
use Rattle.ec_world.specs.Meaning.{ActivationMeaning}
use Rattle.ec_world.specs.Outcomes.{Acted, outcome_of, dropped_each, all_granted}

module _ {A : Type 0} where
  -- the activations of a process that may go on
  abbrev pub stack_if_ready : ProcStatus → List A → List A
  stack_if_ready Ready activations = activations
  stack_if_ready (Entry o) activations = []
  stack_if_ready (Cond o) activations = []
  stack_if_ready (Urgent o) activations = []
  stack_if_ready Ended activations = []
  stack_if_ready (Failed cause line) activations = []

  -- the activations of a process that is there and Ready
  abbrev pub ready_stack : Option (Proc A) → List A
  ready_stack None = []
  ready_stack (Some proc) = stack_if_ready proc.status proc.activations

  abbrev pub stack_at : World A → ℕ → List A
  stack_at w p = ready_stack (slice_get w.processes p)

  abbrev pub readied : List (Proc A) → ℕ → Option (Proc A) → List (Proc A)
  readied processes q None = processes
  readied processes q (Some proc) = slice_set processes q (record proc { status = Ready })

  -- those that were granted a monitor are Ready, with their actions done
  abbrev pub all_readied : List (Proc A) → List ℕ → List (Proc A)
  all_readied processes [] = processes
  all_readied processes (q ∷ qs) = all_readied (readied processes q (slice_get processes q)) qs

-- where a process waits for the monitor of an object
abbrev pub waiting : Queue → ℕ → ProcStatus
waiting ForEntry oid = Entry oid
waiting ForCondition oid = Cond oid
waiting Urgently oid = Urgent oid

-- A process that fails gives up each monitor that it holds, whole, that of its innermost activation first: what its objects are then,
-- and whom this grants one. `owns` are the objects of its activations, the innermost first.
abbrev pub given_up : ℕ → List ℕ → Effect → List ObjectRec → List ObjectRec × List ℕ
given_up p owns (Fails why line) objects = dropped_each p owns objects
given_up p owns (GoesOn given) objects = (objects, [])
given_up p owns (Calls op own args) objects = (objects, [])
given_up p owns (Leaves given) objects = (objects, [])
given_up p owns (Blocks queue oid) objects = (objects, [])
given_up p owns Ends objects = (objects, [])

module _ {A : Type 0} (M : ActivationMeaning A) where
  -- the activation that acts: on top of `below`, in process p
  abbrev pub who_of : ℕ → List A → A → Who
  who_of p below top = record { process = p; depth = length below; operation = M.operation top; own = M.own top }

  abbrev pub finish_top : List A → Option A → Option Value → List A
  finish_top below None given = []
  finish_top below (Some top) given = below ++ M.finished top given ∷ []

  -- the process after an effect
  abbrev pub changed : List A → A → Effect → Proc A
  changed below top (GoesOn given) = record { activations = below ++ M.finished top given ∷ []; status = Ready }
  changed below top (Calls op own args) =
      record { activations = (below ++ M.finished top None ∷ []) ++ M.begun op own args ∷ []; status = Ready }
  changed below top (Leaves given) =
      record { activations = finish_top (below_of below) (top_of below) given; status = Ready }
  changed below top (Blocks queue oid) = record { activations = below ++ M.finished top None ∷ []; status = waiting queue oid }
  changed below top Ends = record { activations = []; status = Ended }
  changed below top (Fails why line) = record { activations = []; status = Failed why line }

  abbrev pub changed_at : List A → Option A → Effect → Option (Proc A)
  changed_at below None e = None
  changed_at below (Some top) e = Some (changed below top e)

  -- the objects of a process's activations, the innermost first
  abbrev pub owns_of : List A → A → List ℕ
  owns_of below top = M.own top ∷ reverse (map M.own below)

  -- a new process, about to run a process section
  abbrev pub begun_for : Option Section → List (Proc A)
  begun_for None = []
  begun_for (Some section) = record { activations = M.begun section.operation section.own [] ∷ []; status = Ready } ∷ []

  -- the world once an action is done that came to this outcome, and the failed process, if p has failed, has given up its monitors
  abbrev pub settled : World A → ℕ → List A → A → Common → Outcome → List ObjectRec × List ℕ → World A
  settled w p below top c o (objects, freed) = record {
    common = record c { objects = objects };
    processes = all_readied (slice_set w.processes p (changed below top o.effect)) (all_granted o.granted freed) ++ begun_for o.started;
  }

  abbrev pub acted : World A → ℕ → List A → A → Acted → World A
  acted w p below top None = w
  acted w p below top (Some (c, o)) = settled w p below top c o (given_up p (owns_of below top) o.effect c.objects)

  -- the same for the activation on top in process p
  abbrev pub acted_by : World A → ℕ → List A → Option A → Acted → World A
  acted_by w p below None a = w
  acted_by w p below (Some top) a = acted w p below top a

  abbrev pub acted_at : World A → ℕ → Acted → World A
  acted_at w p a = acted_by w p (below_of (stack_at w p)) (top_of (stack_at w p)) a

  -- what the table has for the activation on top
  abbrev pub outcome_at : World A → ℕ → List A → A → Acted
  outcome_at w p below top = outcome_of w.common (who_of p below top) (M.stop top) (M.operands top)

  abbrev pub act_if_pending : World A → ℕ → List A → A → Bool → World A
  act_if_pending w p below top true = acted w p below top (outcome_at w p below top)
  act_if_pending w p below top false = w

  abbrev pub act_on : World A → ℕ → List A → Option A → World A
  act_on w p below None = w
  act_on w p below (Some top) = act_if_pending w p below top (M.is_pending top)

  -- the action of the stop at which process p rests, where it is Ready and the action is pending
  abbrev pub Action : World A → ℕ → World A
  Action w p = act_on w p (below_of (stack_at w p)) (top_of (stack_at w p))

  -- p is Ready with an activation on top (the stack at a process that isn't there or isn't Ready is empty), and the action of
  -- that activation's stop is pending
  pub record IsPending (w : World A) (p : ℕ) : Type 0 where
    pub top : A
    pub is_top : top_of (stack_at w p) ≡ Some top
    pub pending : M.is_pending top ≡ true

-- turns, over what silent steps make of an activation and of what the world has beside its processes
module _ {A : Type 0} (M : ActivationMeaning A) (advance : Common → A → Common × A) where
  abbrev pub advanced : World A → ℕ → List A → Common × A → World A
  advanced w p below (c, top) =
      record { common = c; processes = slice_set w.processes p (record { activations = below ++ top ∷ []; status = Ready }) }

  abbrev pub go_on_unless : World A → ℕ → List A → A → Bool → World A
  go_on_unless w p below top true = w
  go_on_unless w p below top false = advanced w p below (advance w.common top)

  abbrev pub go_on : World A → ℕ → List A → Option A → World A
  go_on w p below None = w
  go_on w p below (Some top) = go_on_unless w p below top (M.is_pending top)

  -- the code behind a stop whose action is done, up to the next stop
  abbrev pub GoOn : World A → ℕ → World A
  GoOn w p = go_on w p (below_of (stack_at w p)) (top_of (stack_at w p))

  -- one turn of process p
  abbrev pub Turn : World A → ℕ → World A
  Turn w p = GoOn (Action M w p) p
