-- When activations of one meaning follow those of another in a world, whose processes block, fail and start.
use Rattle.std.specs.Prelude.{◌≡◌, ℕ, true, false, List, [], Option, Some, None}
use Rattle.ec_base.specs.Stack.{top_of, below_of}
use Rattle.ec_world.specs.declared.value.Value.{Value}
use Rattle.ec_world.specs.declared.stop.Stop.{Stop}
use Rattle.ec_world.specs.declared.stop.Who.{Who}
use Rattle.ec_world.specs.declared.stop.Effect.TheVariants.{GoesOn, Calls, Leaves, Blocks}
use Rattle.ec_world.specs.declared.stop.Queue.{Queue}
use Rattle.ec_world.specs.declared.doing.Outcome.{Outcome}
use Rattle.ec_world.specs.declared.doing.Section.{Section}
use Rattle.ec_world.specs.declared.common.Common.{Common}
use Rattle.ec_world.specs.declared.process.Proc.{Proc}
use Rattle.ec_world.specs.declared.world.World.{World}
use Rattle.ec_world.specs.Meaning.{ActivationMeaning}
use Rattle.ec_world.specs.Outcomes.{outcome_of, dropped_each}
use Rattle.ec_world.specs.World.{stack_at, outcome_at, Action, GoOn}
use Rattle.ec_world.specs.Moves.{OperatorMove, moved_common}
use Rattle.ec_world.specs.Agree.{AllTwo, Maybe, SameRest}
use Rattle.ec_world.specs.Run.{RunState}

-- ---- what stays

-- `Later c d` says that d may come after c, of what a world has beside its processes: it may come after itself, and what an action, the
-- end of a failed process and a move by the operator make may come after what was there before. What silent steps make is said below.
pub record IsLater (Later : Common → Common → Type 0) : Type 0 where
  pub itself : (c : Common) → Later c c
  -- an action
  pub acts :
      (c d : Common) (who : Who) (stop : Stop) (operands : List Value) (o : Outcome) → outcome_of c who stop operands ≡ Some (d, o) →
      Later c d
  -- a process that has failed gives up its monitors of these objects
  pub gives_up : (c : Common) (p : ℕ) (oids : List ℕ) → Later c (record c { objects = (dropped_each p oids c.objects).0 })
  -- a move by the operator
  pub moves : (c : Common) (oid k : ℕ) → Later c (moved_common c oid k)

-- a fact that every world of one meaning has, once the first one has it
pub record IsKept {B : Type 0} (N : ActivationMeaning B) (advance : Common → B → Common × B) (Invariant : World B → Type 0) : Type 0 where
  pub acts : (v : World B) (p : ℕ) → Invariant v → Invariant (Action N v p)
  pub goes : (v : World B) (p : ℕ) → Invariant v → Invariant (GoOn N advance v p)
  pub moves : (v : World B) (oid k : ℕ) → Invariant v → Invariant (OperatorMove v oid k)

-- ---- the simulation

-- Process p of a world of the second meaning acts: b lies on its top, related to a, and the action of b, which is pending, comes to
-- outcome o, with d beside the processes then.
pub record ActsTo {A B : Type 0} (N : ActivationMeaning B) (Invariant : World B → Type 0) (On : Common → A → B → Type 0)
    (v : World B) (p : ℕ) (a : A) (b : B) (d : Common) (o : Outcome) : Type 0 where
  pub invariant : Invariant v
  pub is_top : top_of (stack_at v p) ≡ Some b
  pub on : On v.common a b
  pub pending : N.is_pending b ≡ true
  pub outcome : outcome_at N v p (below_of (stack_at v p)) b ≡ Some (d, o)

-- What silent steps make on both sides, of what is beside the processes and of an activation: both may come after what was there,
-- beside the processes they are equal, and the activations are related again.
pub record Alike {A B : Type 0} (Later : Common → Common → Type 0) (On : Common → A → B → Type 0) (c : Common) (m : Common × A)
    (n : Common × B) : Type 0 where
  pub common : m.0 ≡ n.0
  pub later : Later c n.0
  pub on : On n.0 m.1 n.1

-- `On` relates activations that lie on top of a process, whatever its status, and `Below` those that wait below another, both
-- under what the world has beside its processes. `Invariant` is what the second meaning's worlds keep.
pub record Follows {A B : Type 0} (M : ActivationMeaning A) (N : ActivationMeaning B) (advance : Common → A → Common × A)
    (advance' : Common → B → Common × B) (Later : Common → Common → Type 0) (Invariant : World B → Type 0)
    (On Below : Common → A → B → Type 0) : Type 0 where
  -- related ones rest alike
  pub same_on : (c : Common) (a : A) (b : B) → On c a b → SameRest M N a b
  pub same_below : (c : Common) (a : A) (b : B) → Below c a b → SameRest M N a b
  pub operands : (c : Common) (a : A) (b : B) → On c a b → N.is_pending b ≡ true → M.operands a ≡ N.operands b
  -- and stay related while other processes go on
  pub later_on : (c d : Common) (a : A) (b : B) → Later c d → On c a b → On d a b
  pub later_below : (c d : Common) (a : A) (b : B) → Later c d → Below c a b → Below d a b
  -- One whose action gets done stays on top.
  pub goes_on :
      (v : World B) (p : ℕ) (a : A) (b : B) (d : Common) (o : Outcome) (given : Option Value) →
      ActsTo N Invariant On v p a b d o → o.effect ≡ GoesOn given →
      On d (M.finished a given) (N.finished b given)
  -- So it does where its process blocks, with no result.
  pub blocks :
      (v : World B) (p : ℕ) (a : A) (b : B) (d : Common) (o : Outcome) (queue : Queue) (oid : ℕ) →
      ActsTo N Invariant On v p a b d o → o.effect ≡ Blocks queue oid →
      On d (M.finished a None) (N.finished b None)
  -- One that calls waits below, and a new one lies on top.
  pub calls :
      (v : World B) (p : ℕ) (a : A) (b : B) (d : Common) (o : Outcome) (op own : ℕ) (args : List Value) →
      ActsTo N Invariant On v p a b d o → o.effect ≡ Calls op own args →
      Below d (M.finished a None) (N.finished b None) × On d (M.begun op own args) (N.begun op own args)
  -- Where one leaves, that which waited just below it lies on top, with its result.
  pub leaves :
      (v : World B) (p : ℕ) (a : A) (b : B) (d : Common) (o : Outcome) (x : A) (y : B) (given : Option Value) →
      ActsTo N Invariant On v p a b d o → o.effect ≡ Leaves given →
      top_of (below_of (stack_at v p)) ≡ Some y → Below v.common x y →
      On d (M.finished x given) (N.finished y given)
  -- A process section that starts has a process of its own.
  pub starts :
      (v : World B) (p : ℕ) (a : A) (b : B) (d : Common) (o : Outcome) (section : Section) →
      ActsTo N Invariant On v p a b d o → o.started ≡ Some section →
      On d (M.begun section.operation section.own []) (N.begun section.operation section.own [])
  -- Silent steps behind an action that is done make the same beside the processes.
  pub goes :
      (v : World B) (p : ℕ) (a : A) (b : B) → Invariant v → top_of (stack_at v p) ≡ Some b → On v.common a b → N.is_pending b ≡ false →
      Alike Later On v.common (advance v.common a) (advance' v.common b)

-- ---- worlds

module _ {A B : Type 0} (On Below : A → B → Type 0) where
  -- the tops are related, and so is what waits below them
  pub record Stacked (xs : List A) (ys : List B) : Type 0 where
    pub below : AllTwo Below (below_of xs) (below_of ys)
    pub top : Maybe On (top_of xs) (top_of ys)

  -- processes of the same status, whose activations are related by where they lie
  pub record StackedProc (p : Proc A) (q : Proc B) : Type 0 where
    pub status : p.status ≡ q.status
    pub activations : Stacked p.activations q.activations

module _ {A B : Type 0} (Invariant : World B → Type 0) (On Below : Common → A → B → Type 0) where
  -- worlds that are equal in all but activations, which are related by where they lie
  pub record FollowsWorld (w : World A) (v : World B) : Type 0 where
    pub invariant : Invariant v
    pub common : w.common ≡ v.common
    pub processes : AllTwo (StackedProc (On v.common) (Below v.common)) w.processes v.processes

  -- runs so far whose worlds are so related, with the same entries done and left, and the same process of the last turn
  pub record FollowsRun (s : RunState A) (t : RunState B) : Type 0 where
    pub worlds : FollowsWorld s.world t.world
    pub left : s.left ≡ t.left
    pub last : s.last ≡ t.last
    pub done : s.done ≡ t.done
