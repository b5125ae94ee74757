-- What is done to a world beside its processes leaves the program's own object without fields: one lemma a doing.
use Rattle.std.proofs.Common.{ℕ, Bool, true, false, List, [], ◌∷◌, replicate, Option, Some, None, ap}
use Rattle.std.specs.List.{AllByRecursion as Each}
use Rattle.std.specs.Prelude.{slice_get, slice_set}
use Rattle.ec_code.specs.Idle.{IsPlain}
use Rattle.ec_monitors.specs.declared.record.Entry.{Entry as Within}
use Rattle.ec_monitors.specs.declared.record.Granted.{Granted}
use Rattle.ec_monitors.specs.declared.record.MonitorRec.{MonitorRec}
use Rattle.ec_monitors.specs.Monitors.{Granting, dropped, entered, left, waited, signalled}
use Rattle.ec_code.proofs.Carried.{each_append, each_changed, each_object}
use Rattle.ec_world.specs.Objects.{changed_object, class_at, element_kind, object_at}
use Rattle.ec_world.specs.Outcomes.{Done, acting, at_condition, by_holder, done, dropped_at, dropped_each, dropped_if, entering, entry_done}
use Rattle.ec_world.specs.Outcomes.{gone, left_behind, made_object, made_vector, monitor_for, monitor_if, monitor_of, return_done}
use Rattle.ec_world.specs.Outcomes.{section_on, signal_done, signal_effect, wait_done, with_element, with_object}
use Rattle.ec_world.specs.Values.{default_of, new_fields}
use Rattle.ec_world.specs.World.{given_up}
use Rattle.ec_world.specs.declared.class.ClassNo.{ClassNo}
use Rattle.ec_world.specs.declared.class.ClassNo.TheVariants.{Node, Program, Made, Vector}
use Rattle.ec_world.specs.declared.class.ClassRec.{ClassRec}
use Rattle.ec_world.specs.declared.class.VectorType.{VectorType}
use Rattle.ec_world.specs.declared.common.Common.{Common}
use Rattle.ec_world.specs.declared.doing.Doing.{Doing}
use Rattle.ec_world.specs.declared.doing.Doing.TheVariants.{Passes, Prints, Defines, Stores, Makes, MakesVector, Invokes, Returns}
use Rattle.ec_world.specs.declared.doing.Doing.TheVariants.{Moves, Unfixes, Enters, Waits, Signals, Finishes, Breaks}
use Rattle.ec_world.specs.declared.doing.Section.{Section}
use Rattle.ec_world.specs.declared.object.ObjectRec.{ObjectRec}
use Rattle.ec_world.specs.declared.stop.Effect.{Effect}
use Rattle.ec_world.specs.declared.stop.Effect.TheVariants.{GoesOn, Calls, Leaves, Blocks, Ends, Fails}
use Rattle.ec_world.specs.declared.stop.Queue.TheVariants.{ForCondition}
use Rattle.ec_world.specs.declared.stop.Who.{Who}
use Rattle.ec_world.specs.declared.value.Value.{Value}

abbrev pub Plain : List ObjectRec → Type 0
Plain = Each IsPlain

abbrev pub PlainDone : Done → Type 0
PlainDone (c, outcome) = Plain c.objects

pub plain_done : (done : Done) → PlainDone done → Plain done.0.objects
plain_done (c, outcome) h = h

-- ---- one object changed

pub element_plain : (i : ℕ) (v : Value) (o : ObjectRec) → IsPlain o → IsPlain (with_element i v o)
element_plain i v o h e = ap (λ vs. slice_set vs i v) (h e)

pub changed_plain : (objects : List ObjectRec) (oid : ℕ) (change : ObjectRec → ObjectRec) → Plain objects →
    ((o : ObjectRec) → IsPlain o → IsPlain (change o)) → Plain (changed_object objects oid change)
changed_plain objects oid change h f =
    each_changed IsPlain objects oid change h (λ o at. f o (each_object IsPlain objects oid o h at))

-- ---- a new object

added : (c : Common) (who : Who) (o : ObjectRec) → Plain c.objects → IsPlain o → Plain (with_object c who o).objects
added c who o h f = each_append IsPlain c.objects (o ∷ []) h (f, tt)

made_plain : (c : Common) (who : Who) (k : ℕ) (given : List Value) (class : Option ClassRec) → Plain c.objects →
    PlainDone (made_object c who (Made k) given class)
made_plain c who k given None h = h
made_plain c who k given (Some class) h =
    added c who (record { class = Made k; fields = new_fields given class.fields; fixed = false; monitor = monitor_for class }) h
    (λ e. absurd (let no = e in cc))

makes_plain : (c : Common) (who : Who) (class : ClassNo) (given : List Value) → Plain c.objects →
    PlainDone (made_object c who class given (class_at c.classes class))
makes_plain c who (Made k) given h = made_plain c who k given (slice_get c.classes k) h
makes_plain c who Node given h = h
makes_plain c who Program given h = h
makes_plain c who (Vector of) given h = h

vector_plain : (c : Common) (who : Who) (of : VectorType) (n : ℕ) → Plain c.objects → PlainDone (made_vector c who of n)
vector_plain c who of n h =
    added c who
    (record { class = Vector of; fields = replicate n (default_of (element_kind of)); fixed = false; monitor = None }) h
    (λ e. absurd (let no = e in cc))

-- ---- monitors

module _ (c : Common) (who : Who) (h : Plain c.objects) where
  monitored : (oid : ℕ) (m : MonitorRec) → Plain (changed_object c.objects oid (λ o. record o { monitor = Some m }))
  monitored oid m = changed_plain c.objects oid (λ o. record o { monitor = Some m }) h (λ o p. p)

  fixed : (oid : ℕ) (flag : Bool) → Plain (changed_object c.objects oid (λ o. record o { fixed = flag }))
  fixed oid flag = changed_plain c.objects oid (λ o. record o { fixed = flag }) h (λ o p. p)

  gone_plain : (members : List ℕ) (to : ℕ) (fixes : Option ℕ) → Plain (gone c members to fixes).objects
  gone_plain members to None = h
  gone_plain members to (Some x) = fixed x true

  entering_plain : (own : ℕ) (x : MonitorRec × Within) → PlainDone (entering c own x)
  entering_plain own (m, within) = monitored own m

  entry_plain : (m : Option MonitorRec) → PlainDone (entry_done c who m)
  entry_plain None = h
  entry_plain (Some m) = entering_plain who.own (entered m who.process)

  acting_plain : (own : ℕ) (effect : Option Granted → Effect) (started : Option Section) (g : Granting) →
      PlainDone (acting c own effect started g)
  acting_plain own effect started (m, granted) = monitored own m

  wait_plain : (condition : ℕ) (m : Option MonitorRec) → PlainDone (wait_done c who condition m)
  wait_plain condition None = h
  wait_plain condition (Some m) =
      acting_plain who.own (λ granted. Blocks ForCondition who.own) None
      (by_holder who.process m (at_condition m condition (waited m condition)))

  signal_plain : (condition : ℕ) (m : Option MonitorRec) → PlainDone (signal_done c who condition m)
  signal_plain condition None = h
  signal_plain condition (Some m) =
      acting_plain who.own (signal_effect who.own) None (by_holder who.process m (at_condition m condition (signalled m condition)))

  left_plain : (given : Option Value) (started : Option Section) (m : Option MonitorRec) → PlainDone (left_behind c who given started m)
  left_plain given started None = h
  left_plain given started (Some m) = acting_plain who.own (λ granted. Leaves given) started (by_holder who.process m (left m))

  return_plain : (given : Option Value) (leaves : Bool) (started : Option Section) → PlainDone (return_done c who given leaves started)
  return_plain given true started = left_plain given started (monitor_of c who.own)
  return_plain given false started = left_plain given started None

  -- ---- the table

  pub done_plain : (doing : Doing) → PlainDone (done c who doing)
  done_plain (Passes given) = h
  done_plain (Prints s) = h
  done_plain (Defines index v) = h
  done_plain (Stores oid i v) = changed_plain c.objects oid (with_element i v) h (element_plain i v)
  done_plain (Makes class given) = makes_plain c who class given h
  done_plain (MakesVector of n) = vector_plain c who of n h
  done_plain (Invokes op own args) = h
  done_plain (Returns given leaves section) = return_plain given leaves (section_on who.own section)
  done_plain (Moves members to fixes) = gone_plain members to fixes
  done_plain (Unfixes x) = fixed x false
  done_plain Enters = entry_plain (monitor_of c who.own)
  done_plain (Waits condition) = wait_plain condition (monitor_of c who.own)
  done_plain (Signals condition) = signal_plain condition (monitor_of c who.own)
  done_plain Finishes = h
  done_plain (Breaks why line) = h

-- ---- what a failed process gives up

drop_plain : (objects : List ObjectRec) (n oid : ℕ) → Plain objects → (m : Option MonitorRec) → Plain (dropped_if objects n oid m).0
drop_plain objects n oid h None = h
drop_plain objects n oid h (Some m) =
    changed_plain objects oid (λ o. record o { monitor = Some (by_holder n m (dropped m)).0 }) h (λ o p. p)

drops_plain : (n : ℕ) (oids : List ℕ) (objects : List ObjectRec) → Plain objects → Plain (dropped_each n oids objects).0
drops_plain n [] objects h = h
drops_plain n (oid ∷ oids) objects h =
    drops_plain n oids (dropped_at objects n oid).0 (drop_plain objects n oid h (monitor_if (object_at objects oid)))

pub given_up_plain : (n : ℕ) (owns : List ℕ) (e : Effect) (objects : List ObjectRec) → Plain objects →
    Plain (given_up n owns e objects).0
given_up_plain n owns (Fails why line) objects h = drops_plain n owns objects h
given_up_plain n owns (GoesOn given) objects h = h
given_up_plain n owns (Calls op own args) objects h = h
given_up_plain n owns (Leaves given) objects h = h
given_up_plain n owns (Blocks queue oid) objects h = h
given_up_plain n owns Ends objects h = h
