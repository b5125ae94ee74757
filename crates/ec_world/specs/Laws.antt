-- What holds of worlds, over any meaning of activations.
use Rattle.std.specs.Prelude.{◌≡◌, ℕ, false, List, Some, slice_get}
use Rattle.ec_base.specs.Stack.{top_of, below_of}
use Rattle.ec_monitors.specs.Standing.{WaitsNowhere}
use Rattle.ec_monitors.specs.declared.record.Granted.{Granted}
use Rattle.ec_monitors.specs.declared.record.MonitorRec.{MonitorRec}
use Rattle.ec_world.specs.Group.{Has}
use Rattle.ec_world.specs.Meaning.{ActivationMeaning}
use Rattle.ec_world.specs.Moves.{OperatorMove}
use Rattle.ec_world.specs.Outcomes.{monitor_of}
use Rattle.ec_world.specs.Run.{first_world, after_entry, after_entries}
use Rattle.ec_world.specs.World.{stack_at, owns_of, given_up, outcome_at, Action, GoOn}
use Rattle.ec_world.specs.declared.class.ClassRec.{ClassRec}
use Rattle.ec_world.specs.declared.common.Common.{Common}
use Rattle.ec_world.specs.declared.doing.Outcome.{Outcome}
use Rattle.ec_world.specs.declared.process.Proc.{Proc}
use Rattle.ec_world.specs.declared.run.RunEntry.{RunEntry}
use Rattle.ec_world.specs.declared.value.ValueType.{ValueType}
use Rattle.ec_world.specs.declared.world.World.{World}
use Rattle.ec_world.specs.Waiting.{AreBlocked, KeepsMonitors, QueuesTell, StatusesTell, WaitsBeside, is_blocked}

module _ {A : Type 0} (M : ActivationMeaning A) where
  -- Queues and statuses tell the same in the first world, and still do after actions, after silent steps that leave monitors alone,
  -- after moves by the operator, and so after each entry.
  pub record EntriesKeepQueues : Type 0 where
    pub at_first : (n : ℕ) (classes : List ClassRec) (globals : List ValueType) → AreBlocked (first_world M n classes globals)
    pub by_action : (w : World A) (p : ℕ) → AreBlocked w → AreBlocked (Action M w p)
    pub by_silent_steps :
        (advance : Common → A → Common × A) (w : World A) (p : ℕ) → KeepsMonitors advance → AreBlocked w → AreBlocked (GoOn M advance w p)
    pub by_move : (w : World A) (o k : ℕ) → AreBlocked w → AreBlocked (OperatorMove w o k)
    pub by_entry :
        (advance : Common → A → Common × A) (w : World A) (e : RunEntry) → KeepsMonitors advance → AreBlocked w →
        AreBlocked (after_entry M advance w e)

  -- They do in each world of each run.
  abbrev pub EachRunKeepsQueues : Type 0
  EachRunKeepsQueues =
      (advance : Common → A → Common × A) → KeepsMonitors advance →
      (n : ℕ) (classes : List ClassRec) (globals : List ValueType) (entries : List RunEntry) →
      AreBlocked (after_entries M advance (first_world M n classes globals) entries)

  -- whom an action of process p, with this activation on top, grants a monitor that it leaves, or gives up where it fails
  pub record GrantsWaiting (w : World A) (p : ℕ) (top : A) (d : Common) (o : Outcome) : Type 0 where
    pub granted : (q : Granted) → o.granted ≡ Some q → WaitsBeside w p q.process
    pub freed : (q : ℕ) → Has (given_up p (owns_of M (below_of (stack_at w p)) top) o.effect d.objects).1 q → WaitsBeside w p q

  -- Whoever an action grants a monitor is another process, which is there, is blocked, and has an activation on top.
  abbrev pub EachGrantedWaits : Type 0
  EachGrantedWaits =
      (w : World A) (p : ℕ) (top : A) (d : Common) (o : Outcome) → AreBlocked w → top_of (stack_at w p) ≡ Some top →
      outcome_at M w p (below_of (stack_at w p)) top ≡ Some (d, o) → GrantsWaiting w p top d o

-- The members of queues have the statuses of those that wait there, and stand there once.
abbrev pub EachQueueTells : (A : Type 0) → Type 0
EachQueueTells A = (w : World A) (o : ℕ) (m : MonitorRec) → AreBlocked w → monitor_of w.common o ≡ Some m → QueuesTell w o m

-- Whoever waits to enter a monitor, or to go on in it as a signaller, stands in its queue.
abbrev pub EachStatusTells : (A : Type 0) → Type 0
EachStatusTells A = (w : World A) → AreBlocked w → StatusesTell w

-- A process that isn't blocked stands in no queue.
abbrev pub UnblockedWaitNowhere : (A : Type 0) → Type 0
UnblockedWaitNowhere A =
    (w : World A) (o p : ℕ) (m : MonitorRec) (proc : Proc A) → AreBlocked w → monitor_of w.common o ≡ Some m →
    slice_get w.processes p ≡ Some proc → is_blocked proc.status ≡ false → WaitsNowhere m p
