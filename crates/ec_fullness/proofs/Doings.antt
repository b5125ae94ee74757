-- What each action brings to nodes.
use Rattle.std.proofs.Common.{◌≡◌, ◌+◌, ◌≤◌, ℕ, inl, inr, ⊎_elim, Bool, true, false, List, [], ◌∷◌, ◌++◌, map}
use Rattle.std.proofs.Common.{Option, Some, None, refl, sym, ap, ◌∙◌, subst, arith}
use Rattle.ec_base.specs.Stack.{top_of}
use Rattle.ec_cluster.specs.Cluster.{CodeWorld}
use Rattle.ec_cluster.specs.declared.cluster.Cluster.{Cluster}
use Rattle.ec_code.specs.Activations.{code_meaning}
use Rattle.ec_code.specs.Typing.{Declared}
use Rattle.ec_code.specs.declared.activation.CodeActivation.{CodeActivation}
use Rattle.ec_machine_code.specs.Limits.{HasLimits}
use Rattle.ec_fullness.proofs.Acting.{action_is}
use Rattle.ec_fullness.proofs.Blocks.{held_after, objects_same, one}
use Rattle.ec_fullness.proofs.Effects.{Brought, TakenIf, brought_now, goes_weight, leaves_weight, wanted_before}
use Rattle.ec_fullness.proofs.Fields.{fields_of, had_fields}
use Rattle.ec_fullness.proofs.Needs.{Brings}
use Rattle.ec_fullness.proofs.Objects.{changed_same, given_up_same}
use Rattle.ec_fullness.proofs.Stacks.{after}
use Rattle.ec_fullness.proofs.Values.{none_taken}
use Rattle.ec_fullness.proofs.Waiting.{goer_waits}
use Rattle.ec_fullness.specs.Fullness.{Wants, place_then}
use Rattle.ec_monitors.specs.declared.record.Entry.{Entry as Within}
use Rattle.ec_monitors.specs.declared.record.Entry.TheVariants.{Entered, Queued}
use Rattle.ec_monitors.specs.declared.record.Granted.{Granted}
use Rattle.ec_monitors.specs.declared.record.MonitorRec.{MonitorRec}
use Rattle.ec_monitors.specs.Monitors.{entered, left, signalled}
use Rattle.ec_world.specs.Held.{if_at}
use Rattle.ec_world.specs.Things.{blocks_of}
use Rattle.ec_world.specs.declared.key.Key.TheVariants.{Object}
use Rattle.ec_cluster.specs.Acting.{Asks}
use Rattle.ec_cluster.specs.Systems.{Runs}
use Rattle.ec_cluster.specs.declared.system.System.{System}
use Rattle.ec_things.proofs.Same.{stacks}
use Rattle.ec_things.proofs.Sums.{summed}
use Rattle.ec_things.specs.Things.{object_if, object_thing}
use Rattle.ec_world.specs.Group.{Has}
use Rattle.ec_world.specs.Objects.{changed_object}
use Rattle.ec_world.specs.Outcomes.{at_condition, by_holder, done, entry_effect, monitor_of, only, section_on, signal_effect}
use Rattle.ec_world.specs.Outcomes.{entry_done, left_behind, signal_done, wait_done, with_monitor}
use Rattle.ec_world.specs.World.{Action, begun_for, changed, given_up, owns_of}
use Rattle.ec_world.specs.declared.common.Common.{Common}
use Rattle.ec_world.specs.declared.doing.Doing.{Doing}
use Rattle.ec_world.specs.declared.doing.Doing.TheVariants.{Passes, Prints, Defines, Stores, Makes, MakesVector, Invokes, Returns}
use Rattle.ec_world.specs.declared.doing.Doing.TheVariants.{Moves, Unfixes, Enters, Waits, Signals, Finishes, Breaks}
use Rattle.ec_world.specs.declared.doing.Outcome.{Outcome}
use Rattle.ec_world.specs.declared.doing.Section.{Section}
use Rattle.ec_world.specs.declared.node.Kind.TheVariants.{Riscv}
use Rattle.ec_world.specs.declared.object.ObjectRec.{ObjectRec}
use Rattle.ec_world.specs.declared.stop.Effect.{Effect}
use Rattle.ec_world.specs.declared.stop.Effect.TheVariants.{GoesOn, Calls, Leaves, Blocks, Ends, Fails}
use Rattle.ec_world.specs.declared.stop.Who.{Who}
use Rattle.ec_world.specs.declared.value.Value.{Value}
use Rattle.ec_world.specs.declared.value.Value.TheVariants.{Str}

-- ---- effects

-- an effect begins no activation
abbrev pub CallsNone : Effect → Type 0
CallsNone (GoesOn given) = Unit {0}
CallsNone (Calls op own args) = ⊥
CallsNone (Leaves given) = Unit {0}
CallsNone (Blocks queue own) = Unit {0}
CallsNone Ends = Unit {0}
CallsNone (Fails why line) = Unit {0}

-- it gives nothing either
abbrev pub GivesNone : Effect → Type 0
GivesNone (GoesOn None) = Unit {0}
GivesNone (GoesOn (Some v)) = ⊥
GivesNone (Calls op own args) = ⊥
GivesNone (Leaves None) = Unit {0}
GivesNone (Leaves (Some v)) = ⊥
GivesNone (Blocks queue own) = Unit {0}
GivesNone Ends = Unit {0}
GivesNone (Fails why line) = Unit {0}

-- an action that gives nothing
abbrev pub IsSilent : Doing → Type 0
IsSilent (Passes None) = Unit {0}
IsSilent (Passes (Some v)) = ⊥
IsSilent (Prints text) = Unit {0}
IsSilent (Defines index v) = ⊥
IsSilent (Stores oid i v) = ⊥
IsSilent (Makes class given) = ⊥
IsSilent (MakesVector of n) = ⊥
IsSilent (Invokes op own args) = ⊥
IsSilent (Returns None leaves section) = Unit {0}
IsSilent (Returns (Some v) leaves section) = ⊥
IsSilent (Moves members to fixes) = ⊥
IsSilent (Unfixes x) = Unit {0}
IsSilent Enters = Unit {0}
IsSilent (Waits condition) = Unit {0}
IsSilent (Signals condition) = Unit {0}
IsSilent Finishes = Unit {0}
IsSilent (Breaks why line) = Unit {0}

calls_none : (e : Effect) → GivesNone e → CallsNone e
calls_none (GoesOn None) h = tt
calls_none (GoesOn (Some v)) h = tt
calls_none (Calls op own args) h = h
calls_none (Leaves None) h = tt
calls_none (Leaves (Some v)) h = tt
calls_none (Blocks queue own) h = tt
calls_none Ends h = tt
calls_none (Fails why line) h = tt

module _ (d : Declared) (s : System) (w : CodeWorld) (below : List CodeActivation) (top : CodeActivation) (who : Who) (doing : Doing)
    (runs : Runs d s w) (asks : Asks w below top who doing) where
  abbrev c : Cluster
  c = s.cluster

  abbrev places : ℕ → Option ℕ
  places = place_then s.cluster who.own

  -- the world once an action has come to this
  abbrev pub then : Common × Outcome → CodeWorld
  then x = after w who.process below top x.0 x.1 (given_up who.process (owns_of code_meaning below top) x.1.effect x.0.objects)

  pub action_then : Action code_meaning w who.process ≡ then (done w.common who doing)
  action_then = action_is w below top who doing asks

  limits : HasLimits s.cluster.parts
  limits = (runs.steady.images Riscv).limits

  own_is : who.own ≡ top.own
  own_is = ap (λ (x : Who). x.own) asks.who_is

  abbrev Came : Effect → ℕ → List ℕ → Type 0
  Came e = Brought s.cluster (place_then s.cluster who.own) below top e

  none_came : (e : Effect) → GivesNone e → (k : ℕ) (text : List ℕ) → Came e k text → ⊥
  none_came (GoesOn None) h k text t = none_taken t.waiting.entry.result text t.takes
  none_came (GoesOn (Some v)) h k text t = h
  none_came (Calls op own args) h k text t = h
  none_came (Leaves None) h k text t = by (top_of below) t
    where
      by : (b : Option CodeActivation) → TakenIf s.cluster (place_then s.cluster who.own) b None k text → ⊥
      by None u = u
      by (Some b) u = none_taken u.waiting.entry.result text u.takes
  none_came (Leaves (Some v)) h k text t = h
  none_came (Blocks queue own) h k text t = t
  none_came Ends h k text t = t
  none_came (Fails why line) h k text t = t

  -- ---- the blocks of activations

  abbrev weight_of : ℕ → Effect → ℕ
  weight_of k e = summed (one s.cluster (place_then s.cluster who.own) k) (changed code_meaning below top e).activations

  abbrev weight : ℕ → ℕ
  weight k = summed (one s.cluster (place_then s.cluster who.own) k) (below ++ top ∷ [])

  abbrev begun_weight : ℕ → Option Section → ℕ
  begun_weight k x = summed (summed (one s.cluster (place_then s.cluster who.own) k)) (stacks (begun_for code_meaning x))

  -- no more blocks than before
  abbrev Light : Outcome → Type 0
  Light o = (k : ℕ) → weight_of k o.effect + begun_weight k o.started ≤ weight k

  light_by : (e : Effect) (granted : Option Granted) → CallsNone e → Light (record { effect = e; granted = granted; started = None })
  light_by (GoesOn given) granted h k = let a = goes_weight c places k below top given in omega (arith, a)
  light_by (Calls op own args) granted h k = absurd h
  light_by (Leaves given) granted h k = let a = leaves_weight c places k below top given in omega (arith, a)
  light_by (Blocks queue own) granted h k = let a = goes_weight c places k below top None in omega (arith, a)
  light_by Ends granted h k = omega arith
  light_by (Fails why line) granted h k = omega arith

  -- the block of the activation that goes makes room for a section's
  light_return : (given : Option Value) (granted : Option Granted) (section : Option ℕ) →
      Light (record { effect = Leaves given; granted = granted; started = section_on who.own section })
  light_return given granted None k = light_by (Leaves given) granted tt k
  light_return given granted (Some op) k =
      let a = leaves_weight c places k below top given in
      let b = ap (λ o. if_at k 1 (place_then s.cluster who.own o)) own_is in
      omega (arith, a, b)

  -- ---- actions that bring at most what is given

  -- constants are the same, and objects have the fields and as many blocks that they had
  pub record Quiet (x : Common × Outcome) : Type 0 where
    pub globals : x.0.globals ≡ w.common.globals
    pub fields : map fields_of x.0.objects ≡ map fields_of w.common.objects
    pub blocks : map blocks_of x.0.objects ≡ map blocks_of w.common.objects
    pub light : Light x.1

  pub quiet_brings : (x : Common × Outcome) → Quiet x → Brings s.cluster (place_then s.cluster who.own) w (then x) (λ k. 0) (Came
      x.1.effect)
  quiet_brings x q = record {
    blocks = λ k.
        let e = held_after c places k w who.process below top x.0 x.1
        (given_up who.process (owns_of code_meaning below top) x.1.effect x.0.objects) asks.is_top.proc asks.is_top.is in
        let o = objects_same c places k w.common.objects objects
        (given_up_same blocks_of (λ o m. refl) who.process (owns_of code_meaning below top) x.1.effect x.0.objects ∙ q.blocks) in
        let stack = ap (summed (one c places k)) asks.is_top.stack in
        let light = q.light k in
        omega (arith, e, o, stack, light);
    before = λ k text h.
        wanted_before d c runs.steady.fine limits places w who.process below top asks.is_top.proc asks.is_top.is asks.is_top.stack k text
        inl x.0 x.1 (given_up who.process (owns_of code_meaning below top) x.1.effect x.0.objects)
        (goer_waits d s w below top who doing runs asks places x.1.effect) inr
        (λ g. inl (inr (subst (λ (vs : List Value). Has vs (Str text)) q.globals g)))
        (λ oid o is at has.
        let f = had_fields w.common.objects objects
        (given_up_same fields_of (λ y m. refl) who.process (owns_of code_meaning below top) x.1.effect x.0.objects ∙ q.fields) oid o is in
        inl (inl (record {
          key = Object oid;
          thing = object_thing oid f.object;
          is = ap (object_if oid) f.there;
          at = at;
          has = subst (λ (vs : List Value). Has vs (Str text)) (sym f.same) has;
        }))) h;
    now = λ k text b.
        brought_now d c runs.steady.fine limits places w who.process below top asks.is_top.proc asks.is_top.is asks.is_top.stack x.0 x.1
        (given_up who.process (owns_of code_meaning below top) x.1.effect x.0.objects) k text x.1.effect refl b;
  }
    where
      objects : List ObjectRec
      objects = (given_up who.process (owns_of code_meaning below top) x.1.effect x.0.objects).0

  -- nothing is given either
  pub record Silent (x : Common × Outcome) : Type 0 where
    pub quiet : Quiet x
    pub none : GivesNone x.1.effect

  same_quiet : (o : Outcome) → Light o → Quiet (w.common, o)
  same_quiet o light = record { globals = refl; fields = refl; blocks = refl; light = light }

  changed_quiet : (oid : ℕ) (change : ObjectRec → ObjectRec) → ((o : ObjectRec) → (change o).fields ≡ o.fields) →
      ((o : ObjectRec) → blocks_of (change o) ≡ blocks_of o) → (o : Outcome) → Light o →
      Quiet (record w.common { objects = changed_object w.common.objects oid change }, o)
  changed_quiet oid change fields blocks o light = record {
    globals = refl;
    fields = changed_same fields_of w.common.objects oid change fields;
    blocks = changed_same blocks_of w.common.objects oid change blocks;
    light = light;
  }

  monitor_quiet : (oid : ℕ) (m : MonitorRec) (o : Outcome) → Light o → Quiet (with_monitor w.common oid m, o)
  monitor_quiet oid m o light =
      changed_quiet oid (λ (x : ObjectRec). record x { monitor = Some m }) (λ x. refl) (λ x. refl) o light

  same_silent : (e : Effect) → GivesNone e → Silent (w.common, only e)
  same_silent e h = record { quiet = same_quiet (only e) (light_by e None (calls_none e h)); none = h }

  monitor_silent : (oid : ℕ) (m : MonitorRec) (e : Effect) (granted : Option Granted) → GivesNone e →
      Silent (with_monitor w.common oid m, record { effect = e; granted = granted; started = None })
  monitor_silent oid m e granted h =
      record { quiet = monitor_quiet oid m _ (light_by e granted (calls_none e h)); none = h }

  entry_silent : (m : Option MonitorRec) → Silent (entry_done w.common who m)
  entry_silent None = same_silent (GoesOn None) tt
  entry_silent (Some m) = by (entered m who.process).0 (entered m who.process).1
    where
      by : (n : MonitorRec) (x : Within) → Silent (with_monitor w.common who.own n, only (entry_effect who.own x))
      by n Entered = monitor_silent who.own n (GoesOn None) None tt
      by n Queued = monitor_silent who.own n (entry_effect who.own Queued) None tt

  wait_silent : (condition : ℕ) (m : Option MonitorRec) → Silent (wait_done w.common who condition m)
  wait_silent condition None = same_silent (GoesOn None) tt
  wait_silent condition (Some m) = monitor_silent who.own _ _ _ tt

  signal_silent : (condition : ℕ) (m : Option MonitorRec) → Silent (signal_done w.common who condition m)
  signal_silent condition None = same_silent (GoesOn None) tt
  signal_silent condition (Some m) = by (by_holder who.process m (at_condition m condition (signalled m condition))).0
      (by_holder who.process m (at_condition m condition (signalled m condition))).1
    where
      by : (n : MonitorRec) (x : Option Granted) →
          Silent (with_monitor w.common who.own n, record { effect = signal_effect who.own x; granted = x; started = None })
      by n None = monitor_silent who.own n (GoesOn None) None tt
      by n (Some q) = monitor_silent who.own n (signal_effect who.own (Some q)) (Some q) tt

  left_quiet : (given : Option Value) (section : Option ℕ) (m : Option MonitorRec) →
      Quiet (left_behind w.common who given (section_on who.own section) m)
  left_quiet given section None = same_quiet _ (light_return given None section)
  left_quiet given section (Some m) = monitor_quiet who.own _ _ (light_return given (by_holder who.process m (left m)).1 section)

  left_effect : (given : Option Value) (section : Option Section) (m : Option MonitorRec) →
      (left_behind w.common who given section m).1.effect ≡ Leaves given
  left_effect given section None = refl
  left_effect given section (Some m) = refl

  return_quiet : (given : Option Value) (leaves : Bool) (section : Option ℕ) → Quiet (done w.common who (Returns given leaves section))
  return_quiet given true section = left_quiet given section (monitor_of w.common who.own)
  return_quiet given false section = left_quiet given section None

  return_effect : (given : Option Value) (leaves : Bool) (section : Option ℕ) →
      (done w.common who (Returns given leaves section)).1.effect ≡ Leaves given
  return_effect given true section = left_effect given (section_on who.own section) (monitor_of w.common who.own)
  return_effect given false section = left_effect given (section_on who.own section) None

  is_silent : (x : Doing) → IsSilent x → Silent (done w.common who x)
  is_silent (Passes None) h = same_silent (GoesOn None) tt
  is_silent (Passes (Some v)) h = absurd h
  is_silent (Prints text) h = record {
    quiet = record { globals = refl; fields = refl; blocks = refl; light = light_by (GoesOn None) None tt };
    none = tt;
  }
  is_silent (Defines index v) h = absurd h
  is_silent (Stores oid i v) h = absurd h
  is_silent (Makes class given) h = absurd h
  is_silent (MakesVector of n) h = absurd h
  is_silent (Invokes op own args) h = absurd h
  is_silent (Returns None leaves section) h = record {
    quiet = return_quiet None leaves section;
    none = subst GivesNone (sym (return_effect None leaves section)) tt;
  }
  is_silent (Returns (Some v) leaves section) h = absurd h
  is_silent (Moves members to fixes) h = absurd h
  is_silent (Unfixes x) h = record {
    quiet = changed_quiet x (λ (o : ObjectRec). record o { fixed = false }) (λ o. refl) (λ o. refl) (only (GoesOn None))
        (light_by (GoesOn None) None tt);
    none = tt;
  }
  is_silent Enters h = entry_silent (monitor_of w.common who.own)
  is_silent (Waits condition) h = wait_silent condition (monitor_of w.common who.own)
  is_silent (Signals condition) h = signal_silent condition (monitor_of w.common who.own)
  is_silent Finishes h = same_silent Ends tt
  is_silent (Breaks why line) h = same_silent (Fails why line) tt

  pub silent_brings : (x : Doing) → IsSilent x →
      Brings s.cluster (place_then s.cluster who.own) w (then (done w.common who x)) (λ k. 0) (λ k text. ⊥)
  silent_brings x h =
      let silent = is_silent x h in
      let b = quiet_brings (done w.common who x) silent.quiet in
      record {
        blocks = b.blocks;
        before = λ k text wants. ⊎_elim
            (λ (old : Wants s.cluster (place_then s.cluster who.own) w k text). inl old)
            (λ (new : Came (done w.common who x).1.effect k text). absurd (none_came (done w.common who x).1.effect silent.none k text new))
            (b.before k text wants);
        now = λ k text none. absurd none;
      }

  -- a value is given to the activation that goes on, or to the one below
  pub passes_brings : (given : Option Value) →
      Brings s.cluster (place_then s.cluster who.own) w (then (done w.common who (Passes given))) (λ k. 0) (Came (GoesOn given))
  passes_brings given = quiet_brings (done w.common who (Passes given)) (same_quiet (only (GoesOn given)) (light_by (GoesOn given) None tt))

  pub returns_bring : (given : Option Value) (leaves : Bool) (section : Option ℕ) →
      Brings s.cluster (place_then s.cluster who.own) w (then (done w.common who (Returns given leaves section))) (λ k. 0)
      (Came (Leaves given))
  returns_bring given leaves section =
      subst (λ (e : Effect). Brings s.cluster (place_then s.cluster who.own) w (then (done w.common who (Returns given leaves section)))
      (λ k. 0) (Came e)) (return_effect given leaves section)
      (quiet_brings (done w.common who (Returns given leaves section)) (return_quiet given leaves section))
