-- Whatever a world does, each object that is there stays there, of the same class.
use Rattle.std.proofs.Common.{◌≡◌, ℕ, Bool, true, false, List, [], ◌∷◌, replicate, Option, Some, None, refl, subst}
use Rattle.ec_world.specs.Follows.{IsLater}
use Rattle.ec_monitors.specs.Monitors.{Granting, dropped, entered, left, signalled, waited}
use Rattle.ec_monitors.specs.declared.record.Entry.{Entry as Within}
use Rattle.ec_monitors.specs.declared.record.Granted.{Granted}
use Rattle.ec_monitors.specs.declared.record.MonitorRec.{MonitorRec}
use Rattle.ec_code.proofs.Carried.{later_append, later_changed, later_same, later_then}
use Rattle.ec_code.specs.SoundValues.{Later}
use Rattle.ec_world.specs.Doings.{Asked, doing_of}
use Rattle.ec_world.specs.Objects.{class_at, element_kind, object_at}
use Rattle.ec_world.specs.Outcomes.{Done, acted_if, acting, at_condition, by_holder, done, dropped_at, dropped_each, dropped_if, entering}
use Rattle.ec_world.specs.Outcomes.{entry_done, flagged, gone, left_behind, made_object, monitor_for, monitor_if, monitor_of, return_done}
use Rattle.ec_world.specs.Outcomes.{section_on, signal_done, signal_effect, wait_done, with_element, with_monitor}
use Rattle.ec_world.specs.Sights.{sight_of}
use Rattle.ec_world.specs.Values.{default_of, new_fields}
use Rattle.ec_world.specs.declared.class.ClassNo.{ClassNo}
use Rattle.ec_world.specs.declared.class.ClassNo.TheVariants.{Vector}
use Rattle.ec_world.specs.declared.class.ClassRec.{ClassRec}
use Rattle.ec_world.specs.declared.common.Common.{Common}
use Rattle.ec_world.specs.declared.doing.Doing.{Doing}
use Rattle.ec_world.specs.declared.doing.Doing.TheVariants.{Passes, Prints, Defines, Stores, Makes, MakesVector, Invokes, Returns}
use Rattle.ec_world.specs.declared.doing.Doing.TheVariants.{Moves, Unfixes, Enters, Waits, Signals, Finishes, Breaks}
use Rattle.ec_world.specs.declared.doing.Outcome.{Outcome}
use Rattle.ec_world.specs.declared.doing.Section.{Section}
use Rattle.ec_world.specs.declared.object.ObjectRec.{ObjectRec}
use Rattle.ec_world.specs.declared.stop.Effect.{Effect}
use Rattle.ec_world.specs.declared.stop.Effect.TheVariants.{Blocks, Leaves}
use Rattle.ec_world.specs.declared.stop.Queue.TheVariants.{ForCondition}
use Rattle.ec_world.specs.declared.stop.Who.{Who}
use Rattle.ec_world.specs.declared.value.Value.{Value}

-- each object of one is one of the other, of the same class
abbrev pub Stays : Common → Common → Type 0
Stays c d = Later c.objects d.objects

-- ---- what an action makes

module _ (c : Common) where
  flagged_stays : (x : ℕ) (flag : Bool) → Stays c (flagged c x flag)
  flagged_stays x flag = later_changed c.objects x (λ o. record o { fixed = flag }) (λ r. refl)

  gone_stays : (members : List ℕ) (to : ℕ) (fixes : Option ℕ) → Stays c (gone c members to fixes)
  gone_stays members to None = later_same c.objects
  gone_stays members to (Some x) = flagged_stays x true

  made_stays : (who : Who) (class : ClassNo) (given : List Value) (k : Option ClassRec) → Stays c (made_object c who class given k).0
  made_stays who class given None = later_same c.objects
  made_stays who class given (Some k) =
      later_append c.objects
      (record { class = class; fields = new_fields given k.fields; fixed = false; monitor = monitor_for k } ∷ [])

  monitor_stays : (own : ℕ) (m : MonitorRec) → Stays c (with_monitor c own m)
  monitor_stays own m = later_changed c.objects own (λ o. record o { monitor = Some m }) (λ r. refl)

  acting_stays : (own : ℕ) (effect : Option Granted → Effect) (started : Option Section) (g : Granting) →
      Stays c (acting c own effect started g).0
  acting_stays own effect started (m, granted) = monitor_stays own m

  entering_stays : (own : ℕ) (e : MonitorRec × Within) → Stays c (entering c own e).0
  entering_stays own (m, within) = monitor_stays own m

  entry_stays : (who : Who) (m : Option MonitorRec) → Stays c (entry_done c who m).0
  entry_stays who None = later_same c.objects
  entry_stays who (Some m) = entering_stays who.own (entered m who.process)

  wait_stays : (who : Who) (condition : ℕ) (m : Option MonitorRec) → Stays c (wait_done c who condition m).0
  wait_stays who condition None = later_same c.objects
  wait_stays who condition (Some m) =
      acting_stays who.own (λ granted. Blocks ForCondition who.own) None
      (by_holder who.process m (at_condition m condition (waited m condition)))

  signal_stays : (who : Who) (condition : ℕ) (m : Option MonitorRec) → Stays c (signal_done c who condition m).0
  signal_stays who condition None = later_same c.objects
  signal_stays who condition (Some m) =
      acting_stays who.own (signal_effect who.own) None (by_holder who.process m (at_condition m condition (signalled m condition)))

  left_stays : (who : Who) (given : Option Value) (started : Option Section) (m : Option MonitorRec) →
      Stays c (left_behind c who given started m).0
  left_stays who given started None = later_same c.objects
  left_stays who given started (Some m) =
      acting_stays who.own (λ granted. Leaves given) started (by_holder who.process m (left m))

  return_stays : (who : Who) (given : Option Value) (leaves : Bool) (started : Option Section) →
      Stays c (return_done c who given leaves started).0
  return_stays who given true started = left_stays who given started (monitor_of c who.own)
  return_stays who given false started = left_stays who given started None

  done_stays : (who : Who) (doing : Doing) → Stays c (done c who doing).0
  done_stays who (Passes given) = later_same c.objects
  done_stays who (Prints s) = later_same c.objects
  done_stays who (Defines index v) = later_same c.objects
  done_stays who (Stores oid i v) = later_changed c.objects oid (with_element i v) (λ r. refl)
  done_stays who (Makes class given) = made_stays who class given (class_at c.classes class)
  done_stays who (MakesVector of n) =
      later_append c.objects
      (record { class = Vector of; fields = replicate n (default_of (element_kind of)); fixed = false; monitor = None } ∷ [])
  done_stays who (Invokes op own args) = later_same c.objects
  done_stays who (Returns given leaves section) = return_stays who given leaves (section_on who.own section)
  done_stays who (Moves members to fixes) = gone_stays members to fixes
  done_stays who (Unfixes x) = flagged_stays x false
  done_stays who Enters = entry_stays who (monitor_of c who.own)
  done_stays who (Waits condition) = wait_stays who condition (monitor_of c who.own)
  done_stays who (Signals condition) = signal_stays who condition (monitor_of c who.own)
  done_stays who Finishes = later_same c.objects
  done_stays who (Breaks why line) = later_same c.objects

  asked_stays : (who : Who) (asked : Asked) (d : Common) (o : Outcome) → acted_if c who asked ≡ Some (d, o) → Stays c d
  asked_stays who None d o e = absurd cc
  asked_stays who (Some doing) d o e =
      let s : done c who doing ≡ (d, o) = cc in
      subst (λ (t : Done). Stays c t.0) s (done_stays who doing)

-- ---- what a process gives up that has failed

dropped_stays : (objects : List ObjectRec) (p oid : ℕ) (m : Option MonitorRec) → Later objects (dropped_if objects p oid m).0
dropped_stays objects p oid None = later_same objects
dropped_stays objects p oid (Some m) =
    later_changed objects oid (λ o. record o { monitor = Some (by_holder p m (dropped m)).0 }) (λ r. refl)

each_stays : (p : ℕ) (oids : List ℕ) (objects : List ObjectRec) → Later objects (dropped_each p oids objects).0
each_stays p [] objects = later_same objects
each_stays p (oid ∷ oids) objects =
    let first : List ObjectRec × Option Granted = dropped_at objects p oid in
    later_then objects first.0 (dropped_each p oids first.0).0 (dropped_stays objects p oid (monitor_if (object_at objects oid)))
    (each_stays p oids first.0)

pub stays : IsLater Stays
stays = record {
  itself = λ c. later_same c.objects;
  acts = λ c d who stop operands o e. asked_stays c who (doing_of (sight_of c) who stop operands) d o e;
  gives_up = λ c p oids. each_stays p oids c.objects;
  moves = λ c oid k. later_same c.objects;
}
