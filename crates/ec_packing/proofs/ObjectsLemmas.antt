-- What is done to a world beside its processes leaves nodes fixed and each monitor with a spelling: one lemma a doing.
use Rattle.std.proofs.Common.{◌≡◌, ℕ, ◌<◌, ◌^◌, Bool, true, false, List, [], ◌∷◌, replicate, Option, Some, None, refl, sym, ap}
use Rattle.std.proofs.Common.{◌∙◌, arith}
use Rattle.std.proofs.lemmas.Bool.{true≢false}
use Rattle.std.specs.List.{AllByRecursion as Each}
use Rattle.std.specs.Prelude.{slice_get, if◌then◌else◌}
use Rattle.ec_packing.proofs.Acts.{dropped_spelled, entered_spelled, left_spelled, made_spelled, signalled_spelled, waited_spelled}
use Rattle.ec_packing.specs.Between.{CanBeSpelled}
use Rattle.ec_monitors.specs.Monitors.{Granting, dropped, entered, left, made, signalled, waited}
use Rattle.ec_monitors.specs.declared.record.Entry.{Entry as Within}
use Rattle.ec_monitors.specs.declared.record.Granted.{Granted}
use Rattle.ec_monitors.specs.declared.record.MonitorRec.{MonitorRec}
use Rattle.ec_code.proofs.Carried.{each_append, each_changed, each_object}
use Rattle.ec_generate.specs.Limits.{FewConditionsIn}
use Rattle.ec_world.specs.Doings.{Asked, doing_of, is_node}
use Rattle.ec_world.specs.Objects.{changed_object, class_at, element_kind, is_node_class, object_at}
use Rattle.ec_world.specs.Outcomes.{Acted, Done, acted_if, acting, at_condition, by_holder, done, dropped_at, dropped_each, dropped_if}
use Rattle.ec_world.specs.Outcomes.{entering, entry_done, gone, left_behind, made_object, made_vector, monitor_for, monitor_if, monitor_of}
use Rattle.ec_world.specs.Outcomes.{outcome_of, return_done, section_on, signal_done, signal_effect, wait_done, with_element, with_object}
use Rattle.ec_world.specs.Sights.{Sight, class_of, sight_of}
use Rattle.ec_world.specs.Values.{default_of, new_fields}
use Rattle.ec_world.specs.World.{given_up}
use Rattle.ec_world.specs.declared.class.ClassNo.{ClassNo}
use Rattle.ec_world.specs.declared.class.ClassNo.TheVariants.{Node, Program, Made, Vector}
use Rattle.ec_world.specs.declared.class.ClassRec.{ClassRec}
use Rattle.ec_world.specs.declared.class.VectorType.{VectorType}
use Rattle.ec_world.specs.declared.common.Common.{Common}
use Rattle.ec_world.specs.declared.doing.Doing.{Doing}
use Rattle.ec_world.specs.declared.doing.Doing.TheVariants.{Passes, Prints, Defines, Stores, Makes, MakesVector, Invokes, Returns}
use Rattle.ec_world.specs.declared.doing.Doing.TheVariants.{Moves, Unfixes, Enters, Waits, Signals, Finishes, Breaks}
use Rattle.ec_world.specs.declared.doing.Section.{Section}
use Rattle.ec_world.specs.declared.object.ObjectRec.{ObjectRec}
use Rattle.ec_world.specs.declared.stop.Effect.{Effect}
use Rattle.ec_world.specs.declared.stop.Effect.TheVariants.{GoesOn, Calls, Leaves, Blocks, Ends, Fails}
use Rattle.ec_world.specs.declared.stop.Queue.TheVariants.{ForCondition}
use Rattle.ec_world.specs.declared.stop.Stop.{Stop}
use Rattle.ec_world.specs.declared.stop.Who.{Who}
use Rattle.ec_world.specs.declared.value.Value.{Value}

-- ---- objects

-- where there is a monitor, it has a spelling
abbrev pub SpelledIf : Option MonitorRec → Type 0
SpelledIf None = Unit {0}
SpelledIf (Some m) = CanBeSpelled m

-- The monitor of an object has a spelling, and a node is fixed.
pub record IsKept (o : ObjectRec) : Type 0 where
  pub monitor : SpelledIf o.monitor
  pub node : o.class ≡ Node → o.fixed ≡ true

abbrev pub AreKept : List ObjectRec → Type 0
AreKept = Each IsKept

abbrev KeptDone : Done → Type 0
KeptDone (c, outcome) = AreKept c.objects

kept_done : (x : Done) → KeptDone x → AreKept x.0.objects
kept_done (c, outcome) h = h

-- what is done leaves them so
abbrev pub KeptActed : Acted → Type 0
KeptActed None = Unit {0}
KeptActed (Some x) = AreKept x.0.objects

-- ---- one object changed

pub element_kept : (i : ℕ) (v : Value) (o : ObjectRec) → IsKept o → IsKept (with_element i v o)
element_kept i v o h = record { monitor = h.monitor; node = h.node }

pub changed_kept : (objects : List ObjectRec) (oid : ℕ) (change : ObjectRec → ObjectRec) → AreKept objects →
    ((o : ObjectRec) → object_at objects oid ≡ Some o → IsKept o → IsKept (change o)) → AreKept (changed_object objects oid change)
changed_kept objects oid change h f =
    each_changed IsKept objects oid change h (λ o at. f o at (each_object IsKept objects oid o h at))

-- the monitor of an object that is there has a spelling
there_spelled : (o : Option ObjectRec) → ((x : ObjectRec) → o ≡ Some x → IsKept x) → SpelledIf (monitor_if o)
there_spelled None f = tt
there_spelled (Some x) f = (f x refl).monitor

own_spelled : (objects : List ObjectRec) (oid : ℕ) → AreKept objects → SpelledIf (monitor_if (object_at objects oid))
own_spelled objects oid h = there_spelled (object_at objects oid) (λ o at. each_object IsKept objects oid o h at)

-- ---- a new object

for_spelled : (k : ClassRec) → k.conditions < 2 ^ 32 → SpelledIf (monitor_for k)
for_spelled k few = by k.monitored
  where
    by : (monitored : Bool) → SpelledIf (if monitored then Some (made (replicate k.conditions [])) else None)
    by true = made_spelled k.conditions few
    by false = tt

added : (c : Common) (who : Who) (o : ObjectRec) → AreKept c.objects → IsKept o → AreKept (with_object c who o).objects
added c who o h f = each_append IsKept c.objects (o ∷ []) h (f, tt)

new_kept : (c : Common) (who : Who) (k : ℕ) (given : List Value) (class : Option ClassRec) → AreKept c.objects →
    ((r : ClassRec) → class ≡ Some r → r.conditions < 2 ^ 32) → KeptDone (made_object c who (Made k) given class)
new_kept c who k given None h few = h
new_kept c who k given (Some class) h few =
    added c who (record { class = Made k; fields = new_fields given class.fields; fixed = false; monitor = monitor_for class }) h
    (record { monitor = for_spelled class (few class refl); node = λ e. absurd (let no = e in cc) })

makes_kept : (c : Common) (who : Who) (class : ClassNo) (given : List Value) → AreKept c.objects → FewConditionsIn c.classes →
    KeptDone (made_object c who class given (class_at c.classes class))
makes_kept c who (Made k) given h few = new_kept c who k given (slice_get c.classes k) h (λ r at. few k r at)
makes_kept c who Node given h few = h
makes_kept c who Program given h few = h
makes_kept c who (Vector of) given h few = h

vector_kept : (c : Common) (who : Who) (of : VectorType) (n : ℕ) → AreKept c.objects → KeptDone (made_vector c who of n)
vector_kept c who of n h =
    added c who
    (record { class = Vector of; fields = replicate n (default_of (element_kind of)); fixed = false; monitor = None }) h
    (record { monitor = tt; node = λ e. absurd (let no = e in cc) })

-- ---- what is unfixed is no node

unfixed : (s : Sight) (who : Who) (it : Stop) (vs : List Value) (x : ℕ) → doing_of s who it vs ≡ Some (Unfixes x) →
    is_node (s.class x) ≡ false
unfixed s who it vs x e = grind arith

no_node : (class : ClassNo) → is_node_class class ≡ false → class ≡ Node → ⊥
no_node class e is = true≢false (sym (ap is_node_class is) ∙ e)

-- a doing that unfixes an object unfixes one that is no node
abbrev LeavesNodes : Common → Doing → Type 0
LeavesNodes c doing = (x : ℕ) → doing ≡ Unfixes x → is_node (class_of (object_at c.objects x)) ≡ false

module _ (c : Common) (who : Who) (h : AreKept c.objects) where
  -- ---- flags

  fixes : (oid : ℕ) → AreKept (changed_object c.objects oid (λ o. record o { fixed = true }))
  fixes oid =
      changed_kept c.objects oid (λ o. record o { fixed = true }) h (λ o at k. record { monitor = k.monitor; node = λ e. refl })

  unfixes : (oid : ℕ) → is_node (class_of (object_at c.objects oid)) ≡ false →
      AreKept (changed_object c.objects oid (λ o. record o { fixed = false }))
  unfixes oid other =
      changed_kept c.objects oid (λ o. record o { fixed = false }) h
      (λ o at k.
      record { monitor = k.monitor; node = λ e. absurd (no_node o.class (ap (λ x. is_node (class_of x)) (sym at) ∙ other) e) })

  gone_kept : (members : List ℕ) (to : ℕ) (fixed : Option ℕ) → AreKept (gone c members to fixed).objects
  gone_kept members to None = h
  gone_kept members to (Some x) = fixes x

  -- ---- monitors

  monitored : (oid : ℕ) (m : MonitorRec) → CanBeSpelled m → AreKept (changed_object c.objects oid (λ o. record o { monitor = Some m }))
  monitored oid m s =
      changed_kept c.objects oid (λ o. record o { monitor = Some m }) h (λ o at k. record { monitor = s; node = k.node })

  entering_kept : (own : ℕ) (x : MonitorRec × Within) → CanBeSpelled x.0 → KeptDone (entering c own x)
  entering_kept own (m, within) s = monitored own m s

  entry_kept : (m : Option MonitorRec) → SpelledIf m → KeptDone (entry_done c who m)
  entry_kept None s = h
  entry_kept (Some m) s = entering_kept who.own (entered m who.process) (entered_spelled m who.process s)

  acting_kept : (own : ℕ) (effect : Option Granted → Effect) (started : Option Section) (g : Granting) → CanBeSpelled g.0 →
      KeptDone (acting c own effect started g)
  acting_kept own effect started (m, granted) s = monitored own m s

  wait_kept : (condition : ℕ) (m : Option MonitorRec) → SpelledIf m → KeptDone (wait_done c who condition m)
  wait_kept condition None s = h
  wait_kept condition (Some m) s =
      acting_kept who.own (λ granted. Blocks ForCondition who.own) None
      (by_holder who.process m (at_condition m condition (waited m condition))) (waited_spelled m who.process s condition)

  signal_kept : (condition : ℕ) (m : Option MonitorRec) → SpelledIf m → KeptDone (signal_done c who condition m)
  signal_kept condition None s = h
  signal_kept condition (Some m) s =
      acting_kept who.own (signal_effect who.own) None (by_holder who.process m (at_condition m condition (signalled m condition)))
      (signalled_spelled m who.process s condition)

  left_kept : (given : Option Value) (started : Option Section) (m : Option MonitorRec) → SpelledIf m →
      KeptDone (left_behind c who given started m)
  left_kept given started None s = h
  left_kept given started (Some m) s =
      acting_kept who.own (λ granted. Leaves given) started (by_holder who.process m (left m)) (left_spelled m who.process s)

  own_has : SpelledIf (monitor_of c who.own)
  own_has = own_spelled c.objects who.own h

  return_kept : (given : Option Value) (leaves : Bool) (started : Option Section) → KeptDone (return_done c who given leaves started)
  return_kept given true started = left_kept given started (monitor_of c who.own) own_has
  return_kept given false started = h

  -- ---- the table

  module _ (few : FewConditionsIn c.classes) where
    done_kept : (doing : Doing) → LeavesNodes c doing → KeptDone (done c who doing)
    done_kept (Passes given) l = h
    done_kept (Prints s) l = h
    done_kept (Defines index v) l = h
    done_kept (Stores oid i v) l = changed_kept c.objects oid (with_element i v) h (λ o at k. element_kept i v o k)
    done_kept (Makes class given) l = makes_kept c who class given h few
    done_kept (MakesVector of n) l = vector_kept c who of n h
    done_kept (Invokes op oid args) l = h
    done_kept (Returns given leaves section) l = return_kept given leaves (section_on who.own section)
    done_kept (Moves members to fixed) l = gone_kept members to fixed
    done_kept (Unfixes x) l = unfixes x (l x refl)
    done_kept Enters l = entry_kept (monitor_of c who.own) own_has
    done_kept (Waits condition) l = wait_kept condition (monitor_of c who.own) own_has
    done_kept (Signals condition) l = signal_kept condition (monitor_of c who.own) own_has
    done_kept Finishes l = h
    done_kept (Breaks why line) l = h

    kept_if : (asked : Asked) → ((x : ℕ) → asked ≡ Some (Unfixes x) → is_node (class_of (object_at c.objects x)) ≡ false) →
        KeptActed (acted_if c who asked)
    kept_if None l = tt
    kept_if (Some doing) l = kept_done (done c who doing) (done_kept doing (λ x e. l x (ap Some e)))

    pub outcome_kept : (it : Stop) (vs : List Value) → KeptActed (outcome_of c who it vs)
    outcome_kept it vs = kept_if (doing_of (sight_of c) who it vs) (unfixed (sight_of c) who it vs)

-- ---- what a failed process gives up

drop_kept : (objects : List ObjectRec) (n oid : ℕ) → AreKept objects → (m : Option MonitorRec) → SpelledIf m →
    AreKept (dropped_if objects n oid m).0
drop_kept objects n oid h None s = h
drop_kept objects n oid h (Some m) s =
    changed_kept objects oid (λ o. record o { monitor = Some (by_holder n m (dropped m)).0 }) h
    (λ o at k. record { monitor = dropped_spelled m n s; node = k.node })

drops_kept : (n : ℕ) (oids : List ℕ) (objects : List ObjectRec) → AreKept objects → AreKept (dropped_each n oids objects).0
drops_kept n [] objects h = h
drops_kept n (oid ∷ oids) objects h =
    drops_kept n oids (dropped_at objects n oid).0
    (drop_kept objects n oid h (monitor_if (object_at objects oid)) (own_spelled objects oid h))

pub given_up_kept : (n : ℕ) (owns : List ℕ) (e : Effect) (objects : List ObjectRec) → AreKept objects →
    AreKept (given_up n owns e objects).0
given_up_kept n owns (Fails why line) objects h = drops_kept n owns objects h
given_up_kept n owns (GoesOn given) objects h = h
given_up_kept n owns (Calls op own args) objects h = h
given_up_kept n owns (Leaves given) objects h = h
given_up_kept n owns (Blocks queue oid) objects h = h
given_up_kept n owns Ends objects h = h
