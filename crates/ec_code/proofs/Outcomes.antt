-- What is done to a world beside its processes keeps it in range, and so is what becomes of these: one lemma a doing.
use Rattle.std.proofs.Common.{ℕ, ◌≤◌, Bool, true, false, List, [], ◌∷◌, ◌++◌, replicate, Option, Some, None, sym, subst}
use Rattle.std.proofs.lemmas.List.{length-replicate}
use Rattle.std.specs.List.{AllByRecursion as Each}
use Rattle.std.specs.Prelude.{slice_get}
use Rattle.ec_monitors.specs.declared.record.Entry.{Entry as Within}
use Rattle.ec_monitors.specs.declared.record.Entry.TheVariants.{Entered, Queued}
use Rattle.ec_monitors.specs.declared.record.Granted.{Granted}
use Rattle.ec_monitors.specs.declared.record.MonitorRec.{MonitorRec}
use Rattle.ec_monitors.specs.Monitors.{Granting, entered, left, waited, signalled}
use Rattle.ec_code.proofs.Carried.{each_append, each_replicate, each_set}
use Rattle.ec_world.specs.Doings.{doing_of, largest}
use Rattle.ec_world.specs.Objects.{changed_object, class_at, element_kind}
use Rattle.ec_world.specs.Outcomes.{acted_if, acting, at_condition, by_holder, done, entering, entry_done, entry_effect, flagged}
use Rattle.ec_world.specs.Outcomes.{gone, left_behind, made_object, made_vector, monitor_for, monitor_of, outcome_of, return_done}
use Rattle.ec_world.specs.Outcomes.{section_on}
use Rattle.ec_world.specs.Outcomes.{signal_done, signal_effect, wait_done, with_element, with_monitor, with_object}
use Rattle.ec_world.specs.Sights.{sight_of}
use Rattle.ec_world.specs.Values.{default_of, new_fields}
use Rattle.ec_world.specs.declared.class.ClassNo.{ClassNo}
use Rattle.ec_world.specs.declared.class.ClassNo.TheVariants.{Node, Program, Made, Vector}
use Rattle.ec_world.specs.declared.class.ClassRec.{ClassRec}
use Rattle.ec_world.specs.declared.class.VectorType.{VectorType}
use Rattle.ec_world.specs.declared.common.Common.{Common}
use Rattle.ec_world.specs.declared.doing.Doing.{Doing}
use Rattle.ec_world.specs.declared.doing.Doing.TheVariants.{Passes, Prints, Defines, Stores, Makes, MakesVector, Invokes, Returns}
use Rattle.ec_world.specs.declared.doing.Doing.TheVariants.{Moves, Unfixes, Enters, Waits, Signals, Finishes, Breaks}
use Rattle.ec_world.specs.declared.doing.Section.{Section}
use Rattle.ec_world.specs.declared.event.Event.TheVariants.{Moved}
use Rattle.ec_world.specs.declared.object.ObjectRec.{ObjectRec}
use Rattle.ec_world.specs.declared.stop.Effect.{Effect}
use Rattle.ec_world.specs.declared.stop.Effect.TheVariants.{Leaves, Blocks}
use Rattle.ec_world.specs.declared.stop.Queue.TheVariants.{ForCondition}
use Rattle.ec_world.specs.declared.stop.Stop.{Stop}
use Rattle.ec_world.specs.declared.stop.Who.{Who}
use Rattle.ec_world.specs.declared.value.Value.{Value}
use Rattle.ec_code.specs.Actions.{RangedAsked, RangedDoing, RangedDone, RangedEffect}
use Rattle.ec_code.specs.RangesValues.{AllInRange, GivenInRange, InRange}
use Rattle.ec_code.specs.Worlds.{RangedCommon, RangedObject}
use Rattle.ec_code.proofs.Doings.{doing_ranged}
use Rattle.ec_code.proofs.RangesLists.{IfThere}
use Rattle.ec_code.proofs.RangesObjects.{changed_ranged, default_ranged, element_ranged, new_fields_ranged, sight_ranged}

-- ---- one part changed

-- other objects, each in range
pub with_objects : (c : Common) → RangedCommon c → (objects : List ObjectRec) → Each RangedObject objects
    → RangedCommon (record c { objects = objects })
with_objects c h objects os = record { nodes = h.nodes; objects = os; constants = h.constants }

-- one object changed, which keeps its class and its fields
kept : (c : Common) → RangedCommon c → (oid : ℕ) (change : ObjectRec → ObjectRec)
    → ((o : ObjectRec) → RangedObject o → RangedObject (change o))
    → RangedCommon (record c { objects = changed_object c.objects oid change })
kept c h oid change f =
    with_objects c h (changed_object c.objects oid change) (changed_ranged c.objects oid change h.objects f)

added : (c : Common) → RangedCommon c → (who : Who) (o : ObjectRec) → RangedObject o → RangedCommon (with_object c who o)
added c h who o r =
    record { nodes = h.nodes; objects = each_append RangedObject c.objects (o ∷ []) h.objects (r, tt); constants = h.constants }

-- ---- objects

made_ranged : (c : Common) → RangedCommon c → (who : Who) (k : ℕ) (given : List Value) (class : Option ClassRec) → AllInRange given
    → RangedDone (made_object c who (Made k) given class)
made_ranged c h who k given None r = (h, tt)
made_ranged c h who k given (Some class) r = (
  added c h who (record { class = Made k; fields = new_fields given class.fields; fixed = false; monitor = monitor_for class })
      (record { values = new_fields_ranged given class.fields r; few = tt }),
  tt,
)

makes_ranged : (c : Common) → RangedCommon c → (who : Who) (class : ClassNo) (given : List Value) → AllInRange given
    → RangedDone (made_object c who class given (class_at c.classes class))
makes_ranged c h who (Made k) given r = made_ranged c h who k given (slice_get c.classes k) r
makes_ranged c h who Node given r = (h, tt)
makes_ranged c h who Program given r = (h, tt)
makes_ranged c h who (Vector of) given r = (h, tt)

vector_ranged : (c : Common) → RangedCommon c → (who : Who) (of : VectorType) (n : ℕ) → n ≤ largest → RangedDone (made_vector c who of n)
vector_ranged c h who of n few =
    let element : Value = default_of (element_kind of) in (
      added c h who (record { class = Vector of; fields = replicate n element; fixed = false; monitor = None })
          (record {
            values = each_replicate InRange n element (default_ranged (element_kind of));
            few = subst (λ m. m ≤ largest) (sym (length-replicate n element)) few;
          }),
      tt,
    )

-- ---- moves

flag_ranged : (c : Common) → RangedCommon c → (x : ℕ) (flag : Bool) → RangedCommon (flagged c x flag)
flag_ranged c h x flag = kept c h x (λ o. record o { fixed = flag }) (λ o r. r)

abbrev sent : Common → List ℕ → ℕ → Common
sent c members to = record c { events = c.events ++ Moved members to ∷ [] }

sent_ranged : (c : Common) → RangedCommon c → (members : List ℕ) (to : ℕ) → RangedCommon (sent c members to)
sent_ranged c h members to = record { nodes = h.nodes; objects = h.objects; constants = h.constants }

gone_ranged : (c : Common) → RangedCommon c → (members : List ℕ) (to : ℕ) (fixes : Option ℕ) → RangedCommon (gone c members to fixes)
gone_ranged c h members to None = sent_ranged c h members to
gone_ranged c h members to (Some x) = flag_ranged (sent c members to) (sent_ranged c h members to) x true

-- ---- monitors

module _ (c : Common) (h : RangedCommon c) (who : Who) where
  monitored : (oid : ℕ) (m : MonitorRec) → RangedCommon (with_monitor c oid m)
  monitored oid m = kept c h oid (λ o. record o { monitor = Some m }) (λ o r. r)

  within_ranged : (own : ℕ) (w : Within) → RangedEffect (entry_effect own w)
  within_ranged own Entered = tt
  within_ranged own Queued = tt

  entering_ranged : (own : ℕ) (x : MonitorRec × Within) → RangedDone (entering c own x)
  entering_ranged own (m, w) = (monitored own m, within_ranged own w)

  entry_ranged : (m : Option MonitorRec) → RangedDone (entry_done c who m)
  entry_ranged None = (h, tt)
  entry_ranged (Some m) = entering_ranged who.own (entered m who.process)

  acting_ranged : (own : ℕ) (effect : Option Granted → Effect) (started : Option Section) (g : Granting)
      → ((granted : Option Granted) → RangedEffect (effect granted)) → RangedDone (acting c own effect started g)
  acting_ranged own effect started (m, granted) f = (monitored own m, f granted)

  wait_ranged : (condition : ℕ) (m : Option MonitorRec) → RangedDone (wait_done c who condition m)
  wait_ranged condition None = (h, tt)
  wait_ranged condition (Some m) =
      acting_ranged who.own (λ granted. Blocks ForCondition who.own) None
      (by_holder who.process m (at_condition m condition (waited m condition))) (λ granted. tt)

  signalling : (granted : Option Granted) → RangedEffect (signal_effect who.own granted)
  signalling None = tt
  signalling (Some q) = tt

  signal_ranged : (condition : ℕ) (m : Option MonitorRec) → RangedDone (signal_done c who condition m)
  signal_ranged condition None = (h, tt)
  signal_ranged condition (Some m) =
      acting_ranged who.own (signal_effect who.own) None
      (by_holder who.process m (at_condition m condition (signalled m condition))) signalling

  -- ---- returns

  left_ranged : (given : Option Value) (started : Option Section) (m : Option MonitorRec) → GivenInRange given
      → RangedDone (left_behind c who given started m)
  left_ranged given started None r = (h, r)
  left_ranged given started (Some m) r =
      acting_ranged who.own (λ granted. Leaves given) started (by_holder who.process m (left m)) (λ granted. r)

  return_ranged : (given : Option Value) (leaves : Bool) (started : Option Section) → GivenInRange given
      → RangedDone (return_done c who given leaves started)
  return_ranged given true started r = left_ranged given started (monitor_of c who.own) r
  return_ranged given false started r = left_ranged given started None r

  -- ---- the table

  pub done_ranged : (doing : Doing) → RangedDoing doing → RangedDone (done c who doing)
  done_ranged (Passes given) r = (h, r)
  done_ranged (Prints s) r = (record { nodes = h.nodes; objects = h.objects; constants = h.constants }, tt)
  done_ranged (Defines index v) r =
      (record { nodes = h.nodes; objects = h.objects; constants = each_set InRange c.globals index v h.constants r }, tt)
  done_ranged (Stores oid i v) r = (kept c h oid (with_element i v) (element_ranged i v r), tt)
  done_ranged (Makes class given) r = makes_ranged c h who class given r
  done_ranged (MakesVector of n) r = vector_ranged c h who of n r
  done_ranged (Invokes op own args) r = (h, r)
  done_ranged (Returns given leaves section) r = return_ranged given leaves (section_on who.own section) r
  done_ranged (Moves members to fixes) r = (gone_ranged c h members to fixes, tt)
  done_ranged (Unfixes x) r = (flag_ranged c h x false, tt)
  done_ranged Enters r = entry_ranged (monitor_of c who.own)
  done_ranged (Waits condition) r = wait_ranged condition (monitor_of c who.own)
  done_ranged (Signals condition) r = signal_ranged condition (monitor_of c who.own)
  done_ranged Finishes r = (h, tt)
  done_ranged (Breaks why line) r = (h, tt)

  acted_ranged : (asked : Option Doing) → RangedAsked asked → IfThere RangedDone (acted_if c who asked)
  acted_ranged None r = tt
  acted_ranged (Some doing) r = done_ranged doing r

  -- both steps
  pub outcome_ranged : (action : Stop) (vs : List Value) → AllInRange vs → IfThere RangedDone (outcome_of c who action vs)
  outcome_ranged action vs r =
      acted_ranged (doing_of (sight_of c) who action vs) (doing_ranged (sight_of c) (sight_ranged c h) who action vs r)
