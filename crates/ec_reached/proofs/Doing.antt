-- What an action makes of the monitors of objects, by its doing.
use Rattle.std.proofs.Common.{◌≡◌, ◌≢◌, ◌∙◌, ◌⊎◌, ◌∷◌, ◌++◌, ℕ, suc, Bool, true, false, [], List, length, replicate, Option, Some, None}
use Rattle.std.proofs.Common.{⊎_elim, inl, inr, ap, refl, sym, subst}
use Rattle.ec_monitors.specs.Monitors.{Granting, dropped, entered, left, signalled, waited}
use Rattle.ec_monitors.specs.declared.record.Entry.{Entry as Within}
use Rattle.ec_monitors.specs.declared.record.Granted.{Granted}
use Rattle.ec_monitors.specs.declared.record.MonitorRec.{MonitorRec}
use Rattle.ec_world.proofs.Keys.{same_or_not}
use Rattle.ec_world.specs.declared.class.ClassNo.{ClassNo}
use Rattle.ec_world.specs.declared.class.ClassNo.TheVariants.{Vector}
use Rattle.ec_world.specs.declared.class.ClassRec.{ClassRec}
use Rattle.ec_world.specs.declared.common.Common.{Common}
use Rattle.ec_world.specs.declared.doing.Doing.{Doing}
use Rattle.ec_world.specs.declared.doing.Doing.TheVariants.{Passes, Prints, Defines, Stores, Makes, MakesVector, Invokes, Returns}
use Rattle.ec_world.specs.declared.doing.Doing.TheVariants.{Moves, Unfixes, Enters, Waits, Signals, Finishes, Breaks}
use Rattle.ec_world.specs.declared.doing.Section.{Section}
use Rattle.ec_world.specs.declared.object.ObjectRec.{ObjectRec}
use Rattle.ec_world.specs.declared.stop.Effect.{Effect}
use Rattle.ec_world.specs.declared.stop.Effect.TheVariants.{GoesOn, Calls, Leaves, Blocks, Ends, Fails}
use Rattle.ec_world.specs.declared.stop.Queue.TheVariants.{ForCondition}
use Rattle.ec_world.specs.declared.stop.Who.{Who}
use Rattle.ec_world.specs.declared.value.Value.{Value}
use Rattle.ec_world.specs.Objects.{class_at, changed_object, element_kind, object_at}
use Rattle.ec_world.specs.Outcomes.{acting, at_condition, by_holder, done, dropped_at, dropped_each, dropped_if, entering, entry_done, flagged}
use Rattle.ec_world.specs.Outcomes.{gone, left_behind, made_object, monitor_for, monitor_if, monitor_of, return_done, section_on, signal_done}
use Rattle.ec_world.specs.Outcomes.{signal_effect, stored_in, wait_done, with_element, with_monitor, with_object}
use Rattle.ec_world.specs.Sights.{class_if, class_of}
use Rattle.ec_world.specs.Values.{default_of, new_fields}
use Rattle.ec_world.specs.World.{given_up}
use Rattle.ec_reached.proofs.Later.{Later, Stays, same_later, stays_by}
use Rattle.ec_reached.proofs.Objects.{added_here, added_other, changed_kept, changed_other, changed_same, none_there}
use Rattle.ec_reached.specs.Stacks.{class_on}

-- what a doing of process p makes of the own monitor
abbrev pub monitor_after : ℕ → Doing → MonitorRec → MonitorRec
monitor_after p Enters m = (entered m p).0
monitor_after p (Returns given true section) m = (by_holder p m (left m)).0
monitor_after p (Waits condition) m = (by_holder p m (at_condition m condition (waited m condition))).0
monitor_after p (Signals condition) m = (by_holder p m (at_condition m condition (signalled m condition))).0
monitor_after p _ m = m

-- an object is as it was, but perhaps for its fields and whether it is fixed
pub record IsAsBefore (c d : Common) (x : ℕ) : Type 0 where
  pub class : class_on d x ≡ class_on c x
  pub monitor : monitor_of d x ≡ monitor_of c x

-- an object is there that wasn't, of a class of the program, with a new monitor where its class has one
pub record IsAdded (c d : Common) (x : ℕ) : Type 0 where
  pub none : monitor_of c x ≡ None
  pub of : ClassRec
  pub class : class_on d x ≡ Some of
  pub monitor : monitor_of d x ≡ monitor_for of

-- what a doing makes of what processes share
pub record Does (c d : Common) (who : Who) (doing : Doing) : Type 0 where
  pub later : Later c d
  pub own : (m : MonitorRec) → monitor_of c who.own ≡ Some m → monitor_of d who.own ≡ Some (monitor_after who.process doing m)
  pub others : (x : ℕ) → (who.own ≢ x) ⊎ (monitor_of c who.own ≡ None) → IsAsBefore c d x ⊎ IsAdded c d x

-- the classes and monitors of objects are what they were
pub record Alike (c d : Common) : Type 0 where
  pub later : Later c d
  pub each : (x : ℕ) → IsAsBefore c d x

module _ (c : Common) (who : Who) where
  plainly : (d : Common) (doing : Doing) → Alike c d → ((m : MonitorRec) → monitor_after who.process doing m ≡ m) → Does c d who doing
  plainly d doing h same = record {
    later = h.later;
    own = λ m e. (h.each who.own).monitor ∙ e ∙ ap Some (sym (same m));
    others = λ x n. inl (h.each x);
  }

  alike_itself : Alike c c
  alike_itself = record { later = same_later c; each = λ x. record { class = refl; monitor = refl } }

  -- one object is changed, but neither its class nor its monitor
  alike_changed : (oid : ℕ) (change : ObjectRec → ObjectRec) → ((r : ObjectRec) → class_of (Some (change r)) ≡ class_of (Some r)) →
      ((r : ObjectRec) → (change r).monitor ≡ r.monitor) → Alike c (record c { objects = changed_object c.objects oid change })
  alike_changed oid change class monitor = record {
    later = record {
      nodes = refl;
      classes = refl;
      objects = stays_by c.objects (changed_object c.objects oid change) (changed_kept c.objects change class_of class oid);
    };
    each = λ x. record {
      class = ap (class_if c.classes) (changed_kept c.objects change class_of class oid x);
      monitor = changed_kept c.objects change monitor_if monitor oid x;
    };
  }

  -- ---- an object more

  added_later : (r : ObjectRec) → Later c (with_object c who r)
  added_later r = record { nodes = refl; classes = refl; objects = stays }
    where
      stays : Stays c.objects (c.objects ++ r ∷ [])
      stays o k e = ⊎_elim
          (λ (i : o ≡ suc (length c.objects)).
          absurd (let n = ap class_of (none_there c.objects) in let g = ap (λ z. class_of (object_at c.objects z)) i in cc))
          (λ (n : o ≢ suc (length c.objects)). ap class_of (added_other c.objects r o n) ∙ e)
          (same_or_not o (suc (length c.objects)))

  abbrev next : ℕ
  next = suc (length c.objects)

  adds : (r : ObjectRec) (doing : Doing) → ((m : MonitorRec) → monitor_after who.process doing m ≡ m) →
      IsAsBefore c (with_object c who r) next ⊎ IsAdded c (with_object c who r) next → Does c (with_object c who r) who doing
  adds r doing same new = record {
    later = added_later r;
    own = λ m e. ⊎_elim
        (λ (i : who.own ≡ next).
        absurd (let n = ap monitor_if (none_there c.objects) in let g = ap (λ z. monitor_if (object_at c.objects z)) i in cc))
        (λ (n : who.own ≢ next). ap monitor_if (added_other c.objects r who.own n) ∙ e ∙ ap Some (sym (same m)))
        (same_or_not who.own next);
    others = λ x n. ⊎_elim
        (λ (i : x ≡ next). subst (λ z. IsAsBefore c (with_object c who r) z ⊎ IsAdded c (with_object c who r) z) (sym i) new)
        (λ (n : x ≢ next).
        inl
        (record {
          class = ap (λ t. class_if c.classes (class_of t)) (added_other c.objects r x n);
          monitor = ap monitor_if (added_other c.objects r x n);
        }))
        (same_or_not x next);
  }

  made : (class : ClassNo) (given : List Value) (k : Option ClassRec) → class_at c.classes class ≡ k →
      Does c (made_object c who class given k).0 who (Makes class given)
  made class given None is = plainly c (Makes class given) alike_itself (λ m. refl)
  made class given (Some k) is =
      let r : ObjectRec = record { class = class; fields = new_fields given k.fields; fixed = false; monitor = monitor_for k } in
      adds r (Makes class given) (λ m. refl)
      (inr
      (record {
        none = ap monitor_if (none_there c.objects);
        of = k;
        class = ap (λ t. class_if c.classes (class_of t)) (added_here c.objects r) ∙ is;
        monitor = ap monitor_if (added_here c.objects r);
      }))

  -- ---- monitors

  -- the own monitor is another one then, where there is one
  set : (doing : Doing) (m : MonitorRec) (new : MonitorRec) → monitor_of c who.own ≡ Some m → monitor_after who.process doing m ≡ new →
      Does c (with_monitor c who.own new) who doing
  set doing m new at is = record {
    later = record {
      nodes = refl;
      classes = refl;
      objects =
          stays_by c.objects (changed_object c.objects who.own (λ o. record o { monitor = Some new }))
          (changed_kept c.objects (λ o. record o { monitor = Some new }) class_of (λ r. refl) who.own);
    };
    own = λ old e.
        given (object_at c.objects who.own) refl old e
        ∙ ap Some (sym is ∙ ap (monitor_after who.process doing) (let f = at in cc));
    others = λ x n. ⊎_elim
        (λ (n : who.own ≢ x).
        inl
        (record {
          class = ap (λ t. class_if c.classes (class_of t)) (changed_other c.objects (λ o. record o { monitor = Some new }) who.own x n);
          monitor = ap monitor_if (changed_other c.objects (λ o. record o { monitor = Some new }) who.own x n);
        }))
        (λ (none : monitor_of c who.own ≡ None). absurd (let f = at in cc))
        n;
  }
    where
      given : (t : Option ObjectRec) → object_at c.objects who.own ≡ t → (old : MonitorRec) → monitor_of c who.own ≡ Some old →
          monitor_of (with_monitor c who.own new) who.own ≡ Some new
      given None e old f = absurd (let g = ap monitor_if e in cc)
      given (Some r) e old f = ap monitor_if (changed_same c.objects (λ o. record o { monitor = Some new }) who.own r e)

  -- where there is none nothing is done to monitors
  none : (doing : Doing) → monitor_of c who.own ≡ None → Does c c who doing
  none doing at = record {
    later = same_later c;
    own = λ m e. absurd (let f = at in cc);
    others = λ x n. inl (record { class = refl; monitor = refl });
  }

  enters : (m : MonitorRec) (g : MonitorRec × Within) → monitor_of c who.own ≡ Some m → (entered m who.process).0 ≡ g.0 →
      Does c (entering c who.own g).0 who Enters
  enters m (new, within) at is = set Enters m new at is

  entry : (t : Option MonitorRec) → monitor_of c who.own ≡ t → Does c (entry_done c who t).0 who Enters
  entry None at = none Enters at
  entry (Some m) at = enters m (entered m who.process) at refl

  acts : (doing : Doing) (m : MonitorRec) (effect : Option Granted → Effect) (started : Option Section) (g : Granting) →
      monitor_of c who.own ≡ Some m → monitor_after who.process doing m ≡ g.0 → Does c (acting c who.own effect started g).0 who doing
  acts doing m effect started (new, granted) at is = set doing m new at is

  waits : (condition : ℕ) (t : Option MonitorRec) → monitor_of c who.own ≡ t →
      Does c (wait_done c who condition t).0 who (Waits condition)
  waits condition None at = none (Waits condition) at
  waits condition (Some m) at =
      acts (Waits condition) m (λ granted. Blocks ForCondition who.own) None
      (by_holder who.process m (at_condition m condition (waited m condition))) at refl

  signals : (condition : ℕ) (t : Option MonitorRec) → monitor_of c who.own ≡ t →
      Does c (signal_done c who condition t).0 who (Signals condition)
  signals condition None at = none (Signals condition) at
  signals condition (Some m) at =
      acts (Signals condition) m (signal_effect who.own) None
      (by_holder who.process m (at_condition m condition (signalled m condition))) at refl

  leaves : (given : Option Value) (section : Option ℕ) (started : Option Section) (t : Option MonitorRec) → monitor_of c who.own ≡ t →
      Does c (left_behind c who given started t).0 who (Returns given true section)
  leaves given section started None at = none (Returns given true section) at
  leaves given section started (Some m) at =
      acts (Returns given true section) m (λ granted. Leaves given) started (by_holder who.process m (left m)) at refl

  returns : (given : Option Value) (inside : Bool) (section : Option ℕ) (started : Option Section) →
      Does c (return_done c who given inside started).0 who (Returns given inside section)
  returns given true section started = leaves given section started (monitor_of c who.own) refl
  returns given false section started = plainly c (Returns given false section) alike_itself (λ m. refl)

  -- ---- moves

  flags : (oid : ℕ) (flag : Bool) → Alike c (flagged c oid flag)
  flags oid flag = alike_changed oid (λ o. record o { fixed = flag }) (λ r. refl) (λ r. refl)

module _ (c : Common) (who : Who) where
  goes : (members : List ℕ) (to : ℕ) (fixes : Option ℕ) → Alike c (gone c members to fixes)
  goes members to None = record { later = record { nodes = refl; classes = refl; objects = λ o k e. e }; each = λ x. record { class = refl; monitor = refl } }
  goes members to (Some x) =
      let f = flags (gone c members to None) who x true in
      record {
        later = record { nodes = f.later.nodes; classes = f.later.classes; objects = f.later.objects };
        each = λ y. record { class = (f.each y).class; monitor = (f.each y).monitor };
      }

  elsewhere : (d : Common) → d.nodes ≡ c.nodes → d.classes ≡ c.classes → d.objects ≡ c.objects → Alike c d
  elsewhere d n k o = record {
    later = record { nodes = n; classes = k; objects = stays_by c.objects d.objects (λ x. ap (λ os. class_of (object_at os x)) o) };
    each = λ x. record {
      class = ap (λ os. class_if d.classes (class_of (object_at os x))) o ∙ ap (λ ks. class_if ks (class_of (object_at c.objects x))) k;
      monitor = ap (λ os. monitor_if (object_at os x)) o;
    };
  }

  -- ---- the table

  pub does : (doing : Doing) → Does c (done c who doing).0 who doing
  does (Passes given) = plainly c who c (Passes given) (alike_itself c who) (λ m. refl)
  does (Prints s) = plainly c who (done c who (Prints s)).0 (Prints s) (elsewhere (done c who (Prints s)).0 refl refl refl) (λ m. refl)
  does (Defines index v) =
      plainly c who (done c who (Defines index v)).0 (Defines index v) (elsewhere (done c who (Defines index v)).0 refl refl refl) (λ m. refl)
  does (Stores oid i v) =
      plainly c who (stored_in c oid i v) (Stores oid i v) (alike_changed c who oid (with_element i v) (λ r. refl) (λ r. refl)) (λ m. refl)
  does (Makes class given) = made c who class given (class_at c.classes class) refl
  does (MakesVector of n) =
      let r : ObjectRec =
      record { class = Vector of; fields = replicate n (default_of (element_kind of)); fixed = false; monitor = None } in
      adds c who r (MakesVector of n) (λ m. refl)
      (inl
      (record {
        class =
            ap (λ t. class_if c.classes (class_of t)) (added_here c.objects r)
            ∙ sym (ap (λ t. class_if c.classes (class_of t)) (none_there c.objects));
        monitor = ap monitor_if (added_here c.objects r) ∙ sym (ap monitor_if (none_there c.objects));
      }))
  does (Invokes op own args) = plainly c who c (Invokes op own args) (alike_itself c who) (λ m. refl)
  does (Returns given inside section) = returns c who given inside section (section_on who.own section)
  does (Moves members to fixes) = plainly c who (gone c members to fixes) (Moves members to fixes) (goes members to fixes) (λ m. refl)
  does (Unfixes x) = plainly c who (flagged c x false) (Unfixes x) (flags c who x false) (λ m. refl)
  does Enters = entry c who (monitor_of c who.own) refl
  does (Waits condition) = waits c who condition (monitor_of c who.own) refl
  does (Signals condition) = signals c who condition (monitor_of c who.own) refl
  does Finishes = plainly c who c Finishes (alike_itself c who) (λ m. refl)
  does (Breaks why line) = plainly c who c (Breaks why line) (alike_itself c who) (λ m. refl)

-- ---- what a failed process gives up

pub record Drops (objects after : List ObjectRec) (p oid : ℕ) : Type 0 where
  pub classes : (x : ℕ) → class_of (object_at after x) ≡ class_of (object_at objects x)
  pub own : (m : MonitorRec) → monitor_if (object_at objects oid) ≡ Some m →
      monitor_if (object_at after oid) ≡ Some (by_holder p m (dropped m)).0
  pub others : (x : ℕ) → (oid ≢ x) ⊎ (monitor_if (object_at objects oid) ≡ None) →
      monitor_if (object_at after x) ≡ monitor_if (object_at objects x)

module _ (objects : List ObjectRec) (p own : ℕ) (m : MonitorRec) (at : monitor_if (object_at objects own) ≡ Some m) where
  abbrev change : ObjectRec → ObjectRec
  change o = record o { monitor = Some (by_holder p m (dropped m)).0 }

  given_by : (t : Option ObjectRec) → object_at objects own ≡ t →
      monitor_if (object_at (changed_object objects own change) own) ≡ Some (by_holder p m (dropped m)).0
  given_by None e = absurd (let g = ap monitor_if e in let f = at in cc)
  given_by (Some r) e = ap monitor_if (changed_same objects change own r e)

  drops_some : Drops objects (dropped_if objects p own (Some m)).0 p own
  drops_some = record {
    classes = changed_kept objects change class_of (λ r. refl) own;
    own = λ old e.
        let same : m ≡ old = (let f = at in cc) in
        given_by (object_at objects own) refl ∙ ap (λ z. Some (by_holder p z (dropped z)).0) same;
    others = λ x n. ⊎_elim
        (λ (n : own ≢ x). ap monitor_if (changed_other objects change own x n))
        (λ (none : monitor_if (object_at objects own) ≡ None). absurd (let f = at in cc))
        n;
  }

drops_if : (objects : List ObjectRec) (p own : ℕ) (t : Option MonitorRec) → monitor_if (object_at objects own) ≡ t →
    Drops objects (dropped_if objects p own t).0 p own
drops_if objects p own None at = record {
  classes = λ x. refl;
  own = λ m e. absurd (let f = at in cc);
  others = λ x n. refl;
}
drops_if objects p own (Some m) at = drops_some objects p own m at

pub drops : (objects : List ObjectRec) (p own : ℕ) → Drops objects (dropped_at objects p own).0 p own
drops objects p own = drops_if objects p own (monitor_if (object_at objects own)) refl

pub dropped_classes : (p : ℕ) (owns : List ℕ) (objects : List ObjectRec) (x : ℕ) →
    class_of (object_at (dropped_each p owns objects).0 x) ≡ class_of (object_at objects x)
dropped_classes p [] objects x = refl
dropped_classes p (own ∷ owns) objects x =
    dropped_classes p owns (dropped_at objects p own).0 x ∙ (drops objects p own).classes x

pub given_classes : (p : ℕ) (owns : List ℕ) (e : Effect) (objects : List ObjectRec) (x : ℕ) →
    class_of (object_at (given_up p owns e objects).0 x) ≡ class_of (object_at objects x)
given_classes p owns (Fails why line) objects x = dropped_classes p owns objects x
given_classes p owns (GoesOn given) objects x = refl
given_classes p owns (Calls op own args) objects x = refl
given_classes p owns (Leaves given) objects x = refl
given_classes p owns (Blocks queue own) objects x = refl
given_classes p owns Ends objects x = refl
