-- What the effect of an action is, by its stop: what is called, where a process blocks, and which section begins.
use Rattle.std.proofs.Common.{◌≡◌, ℕ, suc, Bool, true, false, List, length, Option, Some, None, refl, sym, ap, subst}
use Rattle.ec_monitors.specs.Monitors.{Granting, entered, left, signalled, waited}
use Rattle.ec_monitors.specs.declared.record.Entry.{Entry as Within}
use Rattle.ec_monitors.specs.declared.record.Entry.TheVariants.{Entered, Queued}
use Rattle.ec_monitors.specs.declared.record.Granted.{Granted}
use Rattle.ec_monitors.specs.declared.record.MonitorRec.{MonitorRec}
use Rattle.ec_world.specs.declared.class.ClassNo.{ClassNo}
use Rattle.ec_world.specs.declared.class.ClassRec.{ClassRec}
use Rattle.ec_world.specs.declared.common.Common.{Common}
use Rattle.ec_world.specs.declared.doing.Doing.{Doing}
use Rattle.ec_world.specs.declared.doing.Doing.TheVariants.{Passes, Prints, Defines, Stores, Makes, MakesVector, Invokes, Returns}
use Rattle.ec_world.specs.declared.doing.Doing.TheVariants.{Moves, Unfixes, Enters, Waits, Signals, Finishes, Breaks}
use Rattle.ec_world.specs.declared.doing.Section.{Section}
use Rattle.ec_world.specs.declared.object.ObjectRec.{ObjectRec}
use Rattle.ec_world.specs.declared.stop.Effect.{Effect}
use Rattle.ec_world.specs.declared.stop.Effect.TheVariants.{GoesOn, Calls, Leaves, Blocks, Ends, Fails}
use Rattle.ec_world.specs.declared.stop.Queue.{Queue}
use Rattle.ec_world.specs.declared.stop.Queue.TheVariants.{ForEntry, ForCondition, Urgently}
use Rattle.ec_world.specs.declared.stop.Stop.{Stop}
use Rattle.ec_world.specs.declared.stop.Stop.TheVariants as stop
use Rattle.ec_world.specs.declared.stop.Who.{Who}
use Rattle.ec_world.specs.declared.value.Value.{Value}
use Rattle.ec_world.specs.Doings.{doing_of, is_inside, runs_inside, section_in}
use Rattle.ec_world.specs.Objects.{class_at}
use Rattle.ec_world.specs.Outcomes.{acting, at_condition, by_holder, done, entering, entry_done, entry_effect, left_behind, made_object}
use Rattle.ec_world.specs.Outcomes.{monitor_for, monitor_of, return_done, section_on, signal_done, signal_effect, wait_done}
use Rattle.ec_world.specs.Sights.{class_of, sight_of}
use Rattle.ec_world.specs.Values.{new_fields}
use Rattle.ec_reached.proofs.Doing.{does}
use Rattle.ec_reached.proofs.Later.{Later, class_stays, inside_later}
use Rattle.ec_reached.proofs.Objects.{added_here}
use Rattle.ec_reached.proofs.Table.{enters, invokes, makes, names, receives, returns_section, signals, waits}
use Rattle.ec_reached.specs.Meant.{is_entry}
use Rattle.ec_reached.specs.Stacks.{IsCalled, class_on, is_signal, is_wait}

abbrev pub stands_for : Queue → Stop → Bool
stands_for ForEntry it = is_entry it
stands_for ForCondition it = is_wait it
stands_for Urgently it = is_signal it

-- a process blocks at the monitor of the own object, in which its operation runs, and at a stop of this queue
pub record BlocksAt (d : Common) (who : Who) (it : Stop) (queue : Queue) (own : ℕ) : Type 0 where
  pub own_is : own ≡ who.own
  pub stands : stands_for queue it ≡ true
  pub within : runs_inside (class_on d who.own) who.operation ≡ true

abbrev pub EffectFits : Common → Who → Stop → List Value → Effect → Type 0
EffectFits d who it vs (GoesOn given) = Unit {0}
EffectFits d who it vs (Calls op own args) = IsCalled d it vs op own
EffectFits d who it vs (Leaves given) = Unit {0}
EffectFits d who it vs (Blocks queue own) = BlocksAt d who it queue own
EffectFits d who it vs Ends = Unit {0}
EffectFits d who it vs (Fails why line) = Unit {0}

-- it is the process section of its object
pub record IsSection (d : Common) (s : Section) : Type 0 where
  pub of : ClassRec
  pub is : class_on d s.own ≡ Some of
  pub section : of.process ≡ Some s.operation

abbrev pub SectionFits : Common → Option Section → Type 0
SectionFits d None = Unit {0}
SectionFits d (Some s) = IsSection d s

module _ (c : Common) (who : Who) (it : Stop) (vs : List Value) where
  abbrev Asks : Doing → Type 0
  Asks doing = doing_of (sight_of c) who it vs ≡ Some doing

  -- ---- calls

  invoked : (op own : ℕ) (args : List Value) → Asks (Invokes op own args) → IsCalled c it vs op own
  invoked op own args e =
      let s = invokes (sight_of c) who it vs op own args e in
      subst (λ t. IsCalled c t vs op own) (sym s.1.1)
      (record {
        arguments = args;
        receiver = receives (sight_of c) who it vs op own args e;
        named = names (sight_of c) who it vs op own s.0 s.1.0 args e s.1.1;
      })

  made : (class : ClassNo) (given : List Value) (k : Option ClassRec) → class_at c.classes class ≡ k → it ≡ stop.New class →
      EffectFits (made_object c who class given k).0 who it vs (made_object c who class given k).1.effect
  made class given None at e = tt
  made class given (Some k) at e =
      let r : ObjectRec = record { class = class; fields = new_fields given k.fields; fixed = false; monitor = monitor_for k } in
      subst (λ t. IsCalled (made_object c who class given (Some k)).0 t vs k.initial (suc (length c.objects))) (sym e)
      (record { is_class = ap class_of (added_here c.objects r); of = k; is = at; initial = refl })

  made_none : (class : ClassNo) (given : List Value) (k : Option ClassRec) →
      SectionFits (made_object c who class given k).0 (made_object c who class given k).1.started
  made_none class given None = tt
  made_none class given (Some k) = tt

  -- ---- monitors

  module _ (within : is_inside (sight_of c) who ≡ true) where
    blocks : (d : Common) (queue : Queue) → Later c d → stands_for queue it ≡ true → BlocksAt d who it queue who.own
    blocks d queue l e = record { own_is = refl; stands = e; within = inside_later c d l who.own who.operation within }

    entry_by : (d : Common) (w : Within) → Later c d → is_entry it ≡ true → EffectFits d who it vs (entry_effect who.own w)
    entry_by d Entered l e = tt
    entry_by d Queued l e = blocks d ForEntry l e

    entry_of : (g : MonitorRec × Within) → Later c (entering c who.own g).0 → is_entry it ≡ true →
        EffectFits (entering c who.own g).0 who it vs (entering c who.own g).1.effect
    entry_of (m, w) l e = entry_by (entering c who.own (m, w)).0 w l e

    entry : (t : Option MonitorRec) → Later c (entry_done c who t).0 → is_entry it ≡ true →
        EffectFits (entry_done c who t).0 who it vs (entry_done c who t).1.effect
    entry None l e = tt
    entry (Some m) l e = entry_of (entered m who.process) l e

    acts : (effect : Option Granted → Effect) (g : Granting) →
        Later c (acting c who.own effect None g).0 →
        ((d : Common) (r : Option Granted) → Later c d → EffectFits d who it vs (effect r)) →
        EffectFits (acting c who.own effect None g).0 who it vs (acting c who.own effect None g).1.effect
    acts effect (m, r) l h = h (acting c who.own effect None (m, r)).0 r l

    waits_by : (condition : ℕ) (t : Option MonitorRec) → Later c (wait_done c who condition t).0 → is_wait it ≡ true →
        EffectFits (wait_done c who condition t).0 who it vs (wait_done c who condition t).1.effect
    waits_by condition None l e = tt
    waits_by condition (Some m) l e =
        acts (λ granted. Blocks ForCondition who.own)
        (by_holder who.process m (at_condition m condition (waited m condition))) l (λ d r later. blocks d ForCondition later e)

    signal_by : (d : Common) (r : Option Granted) → Later c d → is_signal it ≡ true → EffectFits d who it vs (signal_effect who.own r)
    signal_by d None l e = tt
    signal_by d (Some q) l e = blocks d Urgently l e

    signals_by : (condition : ℕ) (t : Option MonitorRec) → Later c (signal_done c who condition t).0 → is_signal it ≡ true →
        EffectFits (signal_done c who condition t).0 who it vs (signal_done c who condition t).1.effect
    signals_by condition None l e = tt
    signals_by condition (Some m) l e =
        acts (signal_effect who.own) (by_holder who.process m (at_condition m condition (signalled m condition))) l
        (λ d r later. signal_by d r later e)

  entry_none : (t : Option MonitorRec) → SectionFits (entry_done c who t).0 (entry_done c who t).1.started
  entry_none None = tt
  entry_none (Some m) = by (entered m who.process)
    where
      by : (g : MonitorRec × Within) → SectionFits (entering c who.own g).0 (entering c who.own g).1.started
      by (m, w) = tt

  acts_none : (effect : Option Granted → Effect) (g : Granting) →
      SectionFits (acting c who.own effect None g).0 (acting c who.own effect None g).1.started
  acts_none effect (m, r) = tt

  wait_none : (condition : ℕ) (t : Option MonitorRec) → SectionFits (wait_done c who condition t).0 (wait_done c who condition t).1.started
  wait_none condition None = tt
  wait_none condition (Some m) =
      acts_none (λ granted. Blocks ForCondition who.own) (by_holder who.process m (at_condition m condition (waited m condition)))

  signal_none : (condition : ℕ) (t : Option MonitorRec) →
      SectionFits (signal_done c who condition t).0 (signal_done c who condition t).1.started
  signal_none condition None = tt
  signal_none condition (Some m) =
      acts_none (signal_effect who.own) (by_holder who.process m (at_condition m condition (signalled m condition)))

  -- ---- returns

  leaves_by : (given : Option Value) (started : Option Section) (g : Granting) →
      EffectFits (acting c who.own (λ granted. Leaves given) started g).0 who it vs (acting c who.own (λ granted. Leaves given) started g).1.effect
  leaves_by given started (m, r) = tt

  leaves : (given : Option Value) (started : Option Section) (t : Option MonitorRec) →
      EffectFits (left_behind c who given started t).0 who it vs (left_behind c who given started t).1.effect
  leaves given started None = tt
  leaves given started (Some m) = leaves_by given started (by_holder who.process m (left m))

  returns : (given : Option Value) (inside : Bool) (started : Option Section) →
      EffectFits (return_done c who given inside started).0 who it vs (return_done c who given inside started).1.effect
  returns given true started = leaves given started (monitor_of c who.own)
  returns given false started = tt

  begins_by : (given : Option Value) (started : Option Section) (g : Granting) →
      ((d : Common) → Later c d → SectionFits d started) → Later c (acting c who.own (λ granted. Leaves given) started g).0 →
      SectionFits (acting c who.own (λ granted. Leaves given) started g).0 (acting c who.own (λ granted. Leaves given) started g).1.started
  begins_by given started (m, r) h l = h (acting c who.own (λ granted. Leaves given) started (m, r)).0 l

  begins_behind : (given : Option Value) (started : Option Section) (t : Option MonitorRec) →
      ((d : Common) → Later c d → SectionFits d started) → Later c (left_behind c who given started t).0 →
      SectionFits (left_behind c who given started t).0 (left_behind c who given started t).1.started
  begins_behind given started None h l = h c l
  begins_behind given started (Some m) h l = begins_by given started (by_holder who.process m (left m)) h l

  begins : (given : Option Value) (inside : Bool) (started : Option Section) →
      ((d : Common) → Later c d → SectionFits d started) → Later c (return_done c who given inside started).0 →
      SectionFits (return_done c who given inside started).0 (return_done c who given inside started).1.started
  begins given true started h l = begins_behind given started (monitor_of c who.own) h l
  begins given false started h l = h c l

  -- the section of the own object's class
  section_if : (op : ℕ) (t : Option ClassRec) → class_on c who.own ≡ t → section_in t ≡ Some op → (d : Common) → Later c d →
      IsSection d (record { operation = op; own = who.own })
  section_if op None at e d l = absurd cc
  section_if op (Some k) at e d l = record { of = k; is = class_stays c d l who.own k at; section = e }

  section_fits : (given : Option Value) (inside : Bool) (section : Option ℕ) → Asks (Returns given inside section) → (d : Common) →
      Later c d → SectionFits d (section_on who.own section)
  section_fits given inside None e d l = tt
  section_fits given inside (Some op) e d l =
      section_if op (class_on c who.own) refl (returns_section (sight_of c) who it vs given inside op e) d l

  -- ---- the table

  pub effect_fits : (doing : Doing) → Asks doing → EffectFits (done c who doing).0 who it vs (done c who doing).1.effect
  effect_fits (Passes given) e = tt
  effect_fits (Prints s) e = tt
  effect_fits (Defines index v) e = tt
  effect_fits (Stores oid i v) e = tt
  effect_fits (Makes class given) e = made class given (class_at c.classes class) refl (makes (sight_of c) who it vs class given e)
  effect_fits (MakesVector of n) e = tt
  effect_fits (Invokes op own args) e = invoked op own args e
  effect_fits (Returns given inside section) e = returns given inside (section_on who.own section)
  effect_fits (Moves members to fixes) e = tt
  effect_fits (Unfixes x) e = tt
  effect_fits Enters e =
      let s = enters (sight_of c) who it vs e in
      entry s.1 (monitor_of c who.own) (does c who Enters).later (ap is_entry s.0)
  effect_fits (Waits condition) e =
      let s = waits (sight_of c) who it vs condition e in
      waits_by s.1 condition (monitor_of c who.own) (does c who (Waits condition)).later (ap is_wait s.0)
  effect_fits (Signals condition) e =
      let s = signals (sight_of c) who it vs condition e in
      signals_by s.1 condition (monitor_of c who.own) (does c who (Signals condition)).later (ap is_signal s.0)
  effect_fits Finishes e = tt
  effect_fits (Breaks why line) e = tt

  pub started_fits : (doing : Doing) → Asks doing → SectionFits (done c who doing).0 (done c who doing).1.started
  started_fits (Passes given) e = tt
  started_fits (Prints s) e = tt
  started_fits (Defines index v) e = tt
  started_fits (Stores oid i v) e = tt
  started_fits (Makes class given) e = made_none class given (class_at c.classes class)
  started_fits (MakesVector of n) e = tt
  started_fits (Invokes op own args) e = tt
  started_fits (Returns given inside section) e =
      begins given inside (section_on who.own section) (section_fits given inside section e)
      (does c who (Returns given inside section)).later
  started_fits (Moves members to fixes) e = tt
  started_fits (Unfixes x) e = tt
  started_fits Enters e = entry_none (monitor_of c who.own)
  started_fits (Waits condition) e = wait_none condition (monitor_of c who.own)
  started_fits (Signals condition) e = signal_none condition (monitor_of c who.own)
  started_fits Finishes e = tt
  started_fits (Breaks why line) e = tt
