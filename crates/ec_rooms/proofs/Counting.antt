-- An action makes at most one object, and has an event of it; so the events of a world go on to place each of its objects.
use Rattle.std.proofs.Common.{◌≡◌, ◌≤◌, ◌+◌, ℕ, suc, Bool, true, false, List, [], ◌∷◌, ◌++◌, length, replicate, Option, Some, None}
use Rattle.std.proofs.Common.{refl, ap, ◌∙◌, arith}
use Rattle.ec_base.specs.Stack.{top_of, below_of}
use Rattle.ec_cluster.specs.Cluster.{CodeWorld}
use Rattle.ec_code.specs.Activations.{code_meaning}
use Rattle.ec_code.specs.declared.activation.CodeActivation.{CodeActivation}
use Rattle.ec_acts.proofs.ObjectsLemmas.{length_changed}
use Rattle.ec_monitors.specs.Monitors.{Granting, entered, left, signalled, waited}
use Rattle.ec_monitors.specs.declared.record.Entry.{Entry as Within}
use Rattle.ec_monitors.specs.declared.record.Granted.{Granted}
use Rattle.ec_monitors.specs.declared.record.MonitorRec.{MonitorRec}
use Rattle.ec_acts.proofs.Mirrored.{given_length}
use Rattle.ec_world.proofs.Placement.{length-places, made_by}
use Rattle.ec_world.specs.Doings.{Asked, doing_of}
use Rattle.ec_world.specs.Objects.{changed_object, class_at, element_kind}
use Rattle.ec_world.specs.Outcomes.{Acted, Done, acted_if, acting, at_condition, by_holder, done, entering, entry_done, gone, left_behind}
use Rattle.ec_world.specs.Outcomes.{made_object, made_vector, monitor_for, monitor_of, return_done, section_on, signal_done, signal_effect}
use Rattle.ec_world.specs.Outcomes.{wait_done, with_element, with_object}
use Rattle.ec_world.specs.Places.{places}
use Rattle.ec_world.specs.Sights.{sight_of}
use Rattle.ec_world.specs.Values.{default_of, new_fields}
use Rattle.ec_world.specs.World.{Action, act_if_pending, act_on, acted, given_up, outcome_at, owns_of, settled, stack_at, who_of}
use Rattle.ec_world.specs.declared.class.ClassNo.{ClassNo}
use Rattle.ec_world.specs.declared.class.ClassNo.TheVariants.{Vector}
use Rattle.ec_world.specs.declared.class.ClassRec.{ClassRec}
use Rattle.ec_world.specs.declared.class.VectorType.{VectorType}
use Rattle.ec_world.specs.declared.common.Common.{Common}
use Rattle.ec_world.specs.declared.doing.Doing.{Doing}
use Rattle.ec_world.specs.declared.doing.Doing.TheVariants.{Passes, Prints, Defines, Stores, Makes, MakesVector, Invokes, Returns}
use Rattle.ec_world.specs.declared.doing.Doing.TheVariants.{Moves, Unfixes, Enters, Waits, Signals, Finishes, Breaks}
use Rattle.ec_world.specs.declared.doing.Outcome.{Outcome}
use Rattle.ec_world.specs.declared.doing.Section.{Section}
use Rattle.ec_world.specs.declared.event.Event.{Event}
use Rattle.ec_world.specs.declared.event.Event.TheVariants.{Created, Moved}
use Rattle.ec_world.specs.declared.object.ObjectRec.{ObjectRec}
use Rattle.ec_world.specs.declared.stop.Effect.{Effect}
use Rattle.ec_world.specs.declared.stop.Effect.TheVariants.{Blocks, Leaves}
use Rattle.ec_world.specs.declared.stop.Queue.TheVariants.{ForCondition}
use Rattle.ec_world.specs.declared.stop.Who.{Who}
use Rattle.ec_world.specs.declared.value.Value.{Value}

-- its events place each of its objects, and no others
abbrev pub Placed : Common → Type 0
Placed c = length (places c.nodes c.events) ≡ length c.objects

-- There are as many nodes, and at most one object more, of which the events tell.
pub record Grows (c c' : Common) : Type 0 where
  pub nodes : c'.nodes ≡ c.nodes
  pub more : ℕ
  pub few : more ≤ 1
  pub objects : length c'.objects ≡ length c.objects + more
  pub events : made_by c'.events ≡ made_by c.events + more

pub placed_after : (c c' : Common) → Grows c c' → Placed c → Placed c'
placed_after c c' g h =
    omega (arith, length-places c.nodes c.events, length-places c'.nodes c'.events, g.nodes, g.objects, g.events, h)

-- ---- events

pub made_push : (es : List Event) (e : Event) → made_by (es ++ e ∷ []) ≡ made_by es + made_by (e ∷ [])
made_push [] e = omega arith
made_push (Created oid maker ∷ es) e = let rest = made_push es e in omega (arith, rest)
made_push (Moved members target ∷ es) e = made_push es e

pub length_push : (xs : List ObjectRec) (x : ObjectRec) → length (xs ++ x ∷ []) ≡ length xs + 1
length_push [] x = omega arith
length_push (y ∷ ys) x = let rest = length_push ys x in omega (arith, rest)

-- no object more
pub as_many : (c c' : Common) → c'.nodes ≡ c.nodes → length c'.objects ≡ length c.objects → made_by c'.events ≡ made_by c.events →
    Grows c c'
as_many c c' nodes objects events =
    record { nodes = nodes; more = 0; few = omega arith; objects = omega (arith, objects); events = omega (arith, events) }

-- There are as many nodes and objects, and the same events.
pub record Stays (c c' : Common) : Type 0 where
  pub nodes : c'.nodes ≡ c.nodes
  pub events : c'.events ≡ c.events
  pub objects : length c'.objects ≡ length c.objects

pub stays_same : (c : Common) → Stays c c
stays_same c = record { nodes = refl; events = refl; objects = refl }

pub stays_grows : (c c' : Common) → Stays c c' → Grows c c'
stays_grows c c' s = as_many c c' s.nodes s.objects (ap made_by s.events)

-- ---- moves

pub gone_grows : (c : Common) (members : List ℕ) (to : ℕ) (fixes : Option ℕ) → Grows c (gone c members to fixes)
gone_grows c members to None =
    as_many c (gone c members to None) refl refl (let m = made_push c.events (Moved members to) in omega (arith, m))
gone_grows c members to (Some x) =
    as_many c (gone c members to (Some x)) refl (length_changed c.objects (λ o. record o { fixed = true }) x)
    (let m = made_push c.events (Moved members to) in omega (arith, m))

-- ---- the table of actions

module _ (c : Common) (who : Who) where
  abbrev Same : Done → Type 0
  Same d = Stays c d.0

  abbrev After : Done → Type 0
  After d = Grows c d.0

  same : Stays c c
  same = stays_same c

  one_changed : (oid : ℕ) (change : ObjectRec → ObjectRec) → Stays c (record c { objects = changed_object c.objects oid change })
  one_changed oid change = record { nodes = refl; events = refl; objects = length_changed c.objects change oid }

  -- ---- monitors

  monitored : (oid : ℕ) (m : MonitorRec) →
      Stays c (record c { objects = changed_object c.objects oid (λ o. record o { monitor = Some m }) })
  monitored oid m = one_changed oid (λ o. record o { monitor = Some m })

  entering_stays : (own : ℕ) (x : MonitorRec × Within) → Same (entering c own x)
  entering_stays own (m, within) = monitored own m

  entry_stays : (m : Option MonitorRec) → Same (entry_done c who m)
  entry_stays None = same
  entry_stays (Some m) = entering_stays who.own (entered m who.process)

  acting_stays : (own : ℕ) (effect : Option Granted → Effect) (started : Option Section) (g : Granting) →
      Same (acting c own effect started g)
  acting_stays own effect started (m, granted) = monitored own m

  wait_stays : (condition : ℕ) (m : Option MonitorRec) → Same (wait_done c who condition m)
  wait_stays condition None = same
  wait_stays condition (Some m) =
      acting_stays who.own (λ granted. Blocks ForCondition who.own) None
      (by_holder who.process m (at_condition m condition (waited m condition)))

  signal_stays : (condition : ℕ) (m : Option MonitorRec) → Same (signal_done c who condition m)
  signal_stays condition None = same
  signal_stays condition (Some m) =
      acting_stays who.own (signal_effect who.own) None (by_holder who.process m (at_condition m condition (signalled m condition)))

  left_stays : (given : Option Value) (started : Option Section) (m : Option MonitorRec) → Same (left_behind c who given started m)
  left_stays given started None = same
  left_stays given started (Some m) = acting_stays who.own (λ granted. Leaves given) started (by_holder who.process m (left m))

  return_stays : (given : Option Value) (leaves : Bool) (started : Option Section) → Same (return_done c who given leaves started)
  return_stays given true started = left_stays given started (monitor_of c who.own)
  return_stays given false started = left_stays given started None

  -- ---- what makes nothing and moves nothing

  -- a doing of which the events tell nothing
  abbrev pub SameAfter : Doing → Type 0
  SameAfter (Makes class given) = Unit {0}
  SameAfter (MakesVector of n) = Unit {0}
  SameAfter (Moves members to fixes) = Unit {0}
  SameAfter doing = Same (done c who doing)

  pub done_stays : (doing : Doing) → SameAfter doing
  done_stays (Passes given) = same
  done_stays (Prints s) = record { nodes = refl; events = refl; objects = refl }
  done_stays (Defines index v) = record { nodes = refl; events = refl; objects = refl }
  done_stays (Stores oid i v) = one_changed oid (with_element i v)
  done_stays (Makes class given) = tt
  done_stays (MakesVector of n) = tt
  done_stays (Invokes op own args) = same
  done_stays (Returns given leaves section) = return_stays given leaves (section_on who.own section)
  done_stays (Moves members to fixes) = tt
  done_stays (Unfixes x) = one_changed x (λ o. record o { fixed = false })
  done_stays Enters = entry_stays (monitor_of c who.own)
  done_stays (Waits condition) = wait_stays condition (monitor_of c who.own)
  done_stays (Signals condition) = signal_stays condition (monitor_of c who.own)
  done_stays Finishes = same
  done_stays (Breaks why line) = same

  -- ---- new objects

  pub one_made : (o : ObjectRec) → Grows c (with_object c who o)
  one_made o = record {
    nodes = refl;
    more = 1;
    few = omega arith;
    objects = length_push c.objects o;
    events = made_push c.events (Created (suc (length c.objects)) who.own);
  }

  makes_grows : (class : ClassNo) (given : List Value) (x : Option ClassRec) → After (made_object c who class given x)
  makes_grows class given None = stays_grows c c same
  makes_grows class given (Some k) =
      one_made (record { class = class; fields = new_fields given k.fields; fixed = false; monitor = monitor_for k })

  vector_grows : (of : VectorType) (n : ℕ) → After (made_vector c who of n)
  vector_grows of n =
      one_made (record { class = Vector of; fields = replicate n (default_of (element_kind of)); fixed = false; monitor = None })

  -- ---- all of them

  done_grows : (doing : Doing) → After (done c who doing)
  done_grows (Makes class given) = makes_grows class given (class_at c.classes class)
  done_grows (MakesVector of n) = vector_grows of n
  done_grows (Moves members to fixes) = gone_grows c members to fixes
  done_grows doing = stays_grows c (done c who doing).0 (done_stays doing)

-- ---- actions

abbrev GrowsActed : Common → Acted → Type 0
GrowsActed c None = Unit {0}
GrowsActed c (Some d) = Grows c d.0

asked_grows : (c : Common) (who : Who) (asked : Asked) → GrowsActed c (acted_if c who asked)
asked_grows c who None = tt
asked_grows c who (Some doing) = done_grows c who doing

module _ (w : CodeWorld) (p : ℕ) (below : List CodeActivation) where
  -- who gives up monitors leaves as many objects
  settled_grows : (top : CodeActivation) (c : Common) (o : Outcome) (given : List ObjectRec × List ℕ) → Grows w.common c →
      length given.0 ≡ length c.objects → Grows w.common (settled code_meaning w p below top c o given).common
  settled_grows top c o (objects, freed) g many =
      record { nodes = g.nodes; more = g.more; few = g.few; objects = many ∙ g.objects; events = g.events }

  acted_grows : (top : CodeActivation) (a : Acted) → GrowsActed w.common a → Grows w.common (acted code_meaning w p below top a).common
  acted_grows top None h = stays_grows w.common w.common (stays_same w.common)
  acted_grows top (Some (c, o)) h =
      settled_grows top c o (given_up p (owns_of code_meaning below top) o.effect c.objects) h
      (given_length p (owns_of code_meaning below top) o.effect c.objects)

  pending_grows : (top : CodeActivation) (pending : Bool) → Grows w.common (act_if_pending code_meaning w p below top pending).common
  pending_grows top false = stays_grows w.common w.common (stays_same w.common)
  pending_grows top true =
      acted_grows top (outcome_at code_meaning w p below top)
      (asked_grows w.common (who_of code_meaning p below top)
      (doing_of (sight_of w.common) (who_of code_meaning p below top) top.stop top.operands))

  on_grows : (top : Option CodeActivation) → Grows w.common (act_on code_meaning w p below top).common
  on_grows None = stays_grows w.common w.common (stays_same w.common)
  on_grows (Some top) = pending_grows top top.pending

pub action_grows : (w : CodeWorld) (p : ℕ) → Grows w.common (Action code_meaning w p).common
action_grows w p = on_grows w p (below_of (stack_at w p)) (top_of (stack_at w p))
