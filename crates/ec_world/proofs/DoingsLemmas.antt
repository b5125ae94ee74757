-- What each doing makes of queues: somebody may go from one, who is granted the monitor, and the process that acts may come to one.
use Rattle.std.proofs.Common.{◌≡◌, ℕ, ◌+◌, ◌≤◌, ◌==◌, Bool, true, false, List, [], ◌∷◌, Option, Some, None, refl, sym, ap, subst}
use Rattle.std.proofs.Common.{⊎_elim, arith}
use Rattle.std.specs.Prelude.{replicate}
use Rattle.ec_monitors.specs.Monitors.{Granting, entered, left, waited, signalled, dropped}
use Rattle.ec_monitors.specs.declared.record.Entry.{Entry}
use Rattle.ec_monitors.specs.declared.record.Entry.TheVariants.{Entered, Queued}
use Rattle.ec_monitors.specs.declared.record.Granted.{Granted}
use Rattle.ec_monitors.specs.declared.record.MonitorRec.{MonitorRec}
use Rattle.ec_world.proofs.Members.{has_none, has_parts}
use Rattle.ec_world.specs.Doings.{Asked}
use Rattle.ec_world.specs.Group.{Has}
use Rattle.ec_world.specs.Objects.{object_at, class_at, element_kind}
use Rattle.ec_world.specs.Outcomes.{Done, monitor_if, monitor_of, monitor_for, made_object, with_element, stored_in, flagged}
use Rattle.ec_world.specs.Outcomes.{gone, entry_effect, entry_done, by_holder, at_condition, acting, wait_done, signal_effect}
use Rattle.ec_world.specs.Outcomes.{signal_done, section_on, left_behind, return_done, done, acted_if, dropped_if, dropped_at, all_granted}
use Rattle.ec_world.specs.Outcomes.{dropped_each}
use Rattle.ec_world.specs.Values.{new_fields, default_of}
use Rattle.ec_world.specs.World.{given_up}
use Rattle.ec_world.specs.declared.class.ClassNo.{ClassNo}
use Rattle.ec_world.specs.declared.class.ClassNo.TheVariants.{Vector}
use Rattle.ec_world.specs.declared.class.ClassRec.{ClassRec}
use Rattle.ec_world.specs.declared.common.Common.{Common}
use Rattle.ec_world.specs.declared.doing.Doing.{Doing}
use Rattle.ec_world.specs.declared.doing.Doing.TheVariants.{Passes, Prints, Defines, Stores, Makes, MakesVector, Invokes, Returns}
use Rattle.ec_world.specs.declared.doing.Doing.TheVariants.{Moves, Unfixes, Enters, Waits, Signals, Finishes, Breaks}
use Rattle.ec_world.specs.declared.doing.Outcome.{Outcome}
use Rattle.ec_world.specs.declared.doing.Section.{Section}
use Rattle.ec_world.specs.declared.object.ObjectRec.{ObjectRec}
use Rattle.ec_world.specs.declared.stop.Effect.{Effect}
use Rattle.ec_world.specs.declared.stop.Effect.TheVariants.{GoesOn, Calls, Leaves, Blocks, Ends, Fails}
use Rattle.ec_world.specs.declared.stop.Queue.{Queue}
use Rattle.ec_world.specs.declared.stop.Queue.TheVariants.{ForEntry, ForCondition}
use Rattle.ec_world.specs.declared.stop.Who.{Who}
use Rattle.ec_world.specs.declared.value.Value.{Value}
use Rattle.ec_world.specs.Waiting.{times_queued, times_queued_if}
use Rattle.ec_world.proofs.Counting.{count_if, count_none, went, went_one, came, comes, equal_case, Fits, fits_same, fits_least}
use Rattle.ec_world.proofs.Acts.{Balanced, left_balanced, dropped_balanced, entered_balanced, waited_balanced, signalled_balanced}
use Rattle.ec_world.proofs.Objects.{told, told_kept, with_monitor, told_set, told_push, new_times}

-- the queues of monitors in d are those in c, but for who was granted the own monitor, and for the process that acts
pub record Does (c d : Common) (who : Who) (o : Outcome) : Type 0 where
  pub from : Queue
  pub fits :
      (queue : Queue) (x q : ℕ) →
      Fits queue (told d.objects queue x q + count_if (who.own == x) (went from o.granted queue q))
      (told c.objects queue x q + comes who.process o.effect queue x q)
  -- whoever is granted a monitor waited for it
  pub stood : (r : Granted) → o.granted ≡ Some r → 1 ≤ told c.objects from who.own r.process

-- ---- monitors are left alone

abbrev idle_outcome : Effect → Option Section → Outcome
idle_outcome e started = record { effect = e; granted = None; started = started }

idly : (c d : Common) (who : Who) (e : Effect) (started : Option Section) →
    ((queue : Queue) (x q : ℕ) → comes who.process e queue x q ≡ 0) →
    ((queue : Queue) (x q : ℕ) → told d.objects queue x q ≡ told c.objects queue x q) → Does c d who (idle_outcome e started)
idly c d who e started idle same = record {
  from = ForEntry;
  fits = λ queue x q.
      let a = same queue x q in
      let b = idle queue x q in
      let z = count_none (who.own == x) in
      fits_same queue (told d.objects queue x q + count_if (who.own == x) 0)
      (told c.objects queue x q + comes who.process e queue x q) (omega arith);
  stood = λ r is. absurd cc;
}

goes_on : (c d : Common) (who : Who) (given : Option Value) →
    ((queue : Queue) (x q : ℕ) → told d.objects queue x q ≡ told c.objects queue x q) → Does c d who (idle_outcome (GoesOn given) None)
goes_on c d who given same = idly c d who (GoesOn given) None (λ queue x q. refl) same

flagged_same : (c : Common) (oid : ℕ) (flag : Bool) (queue : Queue) (x q : ℕ) →
    told (flagged c oid flag).objects queue x q ≡ told c.objects queue x q
flagged_same c oid flag queue x q = told_kept c.objects (λ o. record o { fixed = flag }) (λ r. refl) oid queue x q

gone_same : (c : Common) (members : List ℕ) (to : ℕ) (fixes : Option ℕ) (queue : Queue) (x q : ℕ) →
    told (gone c members to fixes).objects queue x q ≡ told c.objects queue x q
gone_same c members to None queue x q = refl
gone_same c members to (Some oid) queue x q = flagged_same (gone c members to None) oid true queue x q

abbrev new_object : ClassNo → List Value → ClassRec → ObjectRec
new_object class given k = record { class = class; fields = new_fields given k.fields; fixed = false; monitor = monitor_for k }

makes : (c : Common) (who : Who) (class : ClassNo) (given : List Value) (k : Option ClassRec) →
    Does c (made_object c who class given k).0 who (made_object c who class given k).1
makes c who class given None = goes_on c c who None (λ queue x q. refl)
makes c who class given (Some k) =
    let d : Done = made_object c who class given (Some k) in
    idly c d.0 who d.1.effect None (λ queue x q. refl)
    (told_push c.objects (new_object class given k) (new_times k))

-- ---- acts on the own monitor

acts : (c : Common) (who : Who) (effect : Option Granted → Effect) (started : Option Section) (m : MonitorRec) (g : Granting) →
    monitor_of c who.own ≡ Some m → Balanced m who.process effect g →
    ((r : Option Granted) (queue : Queue) (x q : ℕ) →
    count_if (who.own == x) (came who.process (effect r) queue q) ≡ comes who.process (effect r) queue x q) →
    Does c (acting c who.own effect started g).0 who (acting c who.own effect started g).1
acts c who effect started m (m', granted) at b same = record {
  from = b.from;
  fits = λ queue x q.
      subst
      (λ n. Fits queue (told (with_monitor c.objects who.own m') queue x q + count_if (who.own == x) (went b.from granted queue q))
      (told c.objects queue x q + n)) (same granted queue x q)
      (told_set c.objects who.own m' m (went b.from granted) (came who.process (effect granted)) at b.fits queue x q);
  stood = λ r is.
      let e : told c.objects b.from who.own r.process ≡ times_queued b.from m r.process =
      ap (λ (t : Option MonitorRec). times_queued_if b.from t r.process) at in
      let k : 1 ≤ times_queued b.from m r.process = b.stood r is in
      omega arith;
}

own_entry : (p own : ℕ) (within : Entry) (queue : Queue) (x q : ℕ) →
    count_if (own == x) (came p (entry_effect own within) queue q) ≡ comes p (entry_effect own within) queue x q
own_entry p own Entered queue x q = count_none (own == x)
own_entry p own Queued queue x q = refl

enters : (c : Common) (who : Who) (t : Option MonitorRec) → monitor_of c who.own ≡ t →
    Does c (entry_done c who t).0 who (entry_done c who t).1
enters c who None at = goes_on c c who None (λ queue x q. refl)
enters c who (Some m) at =
    acts c who (λ r. entry_effect who.own (entered m who.process).1) None m ((entered m who.process).0, None) at
    (entered_balanced m who.process who.own) (λ r. own_entry who.process who.own (entered m who.process).1)

waits : (c : Common) (who : Who) (condition : ℕ) (t : Option MonitorRec) → monitor_of c who.own ≡ t →
    Does c (wait_done c who condition t).0 who (wait_done c who condition t).1
waits c who condition None at = goes_on c c who None (λ queue x q. refl)
waits c who condition (Some m) at =
    acts c who (λ r. Blocks ForCondition who.own) None m (by_holder who.process m (at_condition m condition (waited m condition))) at
    (waited_balanced m who.process who.own condition) (λ r queue x q. refl)

own_signal : (p own : ℕ) (r : Option Granted) (queue : Queue) (x q : ℕ) →
    count_if (own == x) (came p (signal_effect own r) queue q) ≡ comes p (signal_effect own r) queue x q
own_signal p own None queue x q = count_none (own == x)
own_signal p own (Some g) queue x q = refl

signals : (c : Common) (who : Who) (condition : ℕ) (t : Option MonitorRec) → monitor_of c who.own ≡ t →
    Does c (signal_done c who condition t).0 who (signal_done c who condition t).1
signals c who condition None at = goes_on c c who None (λ queue x q. refl)
signals c who condition (Some m) at =
    acts c who (signal_effect who.own) None m (by_holder who.process m (at_condition m condition (signalled m condition))) at
    (signalled_balanced m who.process who.own condition) (own_signal who.process who.own)

leaves : (c : Common) (who : Who) (given : Option Value) (started : Option Section) (t : Option MonitorRec) → monitor_of c who.own ≡ t →
    Does c (left_behind c who given started t).0 who (left_behind c who given started t).1
leaves c who given started None at = idly c c who (Leaves given) started (λ queue x q. refl) (λ queue x q. refl)
leaves c who given started (Some m) at =
    acts c who (λ r. Leaves given) started m (by_holder who.process m (left m)) at
    (left_balanced m who.process (λ r. Leaves given) (λ r queue q. refl)) (λ r queue x q. count_none (who.own == x))

returns : (c : Common) (who : Who) (given : Option Value) (inside : Bool) (started : Option Section) →
    Does c (return_done c who given inside started).0 who (return_done c who given inside started).1
returns c who given true started = leaves c who given started (monitor_of c who.own) refl
returns c who given false started = idly c c who (Leaves given) started (λ queue x q. refl) (λ queue x q. refl)

-- ---- the table

pub does : (c : Common) (who : Who) (doing : Doing) → Does c (done c who doing).0 who (done c who doing).1
does c who (Passes given) = goes_on c c who given (λ queue x q. refl)
does c who (Prints s) = goes_on c (done c who (Prints s)).0 who None (λ queue x q. refl)
does c who (Defines index v) = goes_on c (done c who (Defines index v)).0 who None (λ queue x q. refl)
does c who (Stores oid i v) =
    goes_on c (stored_in c oid i v) who None (told_kept c.objects (with_element i v) (λ r. refl) oid)
does c who (Makes class given) = makes c who class given (class_at c.classes class)
does c who (MakesVector of n) =
    let d : Done = done c who (MakesVector of n) in
    idly c d.0 who d.1.effect None (λ queue x q. refl)
    (told_push c.objects (record { class = Vector of; fields = replicate n (default_of (element_kind of)); fixed = false; monitor = None })
    (λ queue q. refl))
does c who (Invokes op own args) = idly c c who (Calls op own args) None (λ queue x q. refl) (λ queue x q. refl)
does c who (Returns given inside section) = returns c who given inside (section_on who.own section)
does c who (Moves members to fixes) = goes_on c (gone c members to fixes) who None (gone_same c members to fixes)
does c who (Unfixes x) = goes_on c (flagged c x false) who None (flagged_same c x false)
does c who Enters = enters c who (monitor_of c who.own) refl
does c who (Waits condition) = waits c who condition (monitor_of c who.own) refl
does c who (Signals condition) = signals c who condition (monitor_of c who.own) refl
does c who Finishes = idly c c who Ends None (λ queue x q. refl) (λ queue x q. refl)
does c who (Breaks why line) = idly c c who (Fails why line) None (λ queue x q. refl) (λ queue x q. refl)

pub does_asked : (c : Common) (who : Who) (asked : Asked) (d : Common) (o : Outcome) → acted_if c who asked ≡ Some (d, o) → Does c d who o
does_asked c who None d o e = absurd cc
does_asked c who (Some doing) d o e =
    let s : done c who doing ≡ (d, o) = cc in
    subst (λ (t : Done). Does c t.0 who t.1) s (does c who doing)

-- ---- what a failed process gives up

-- a monitor of those that it holds
pub record Drops (objects : List ObjectRec) (own : ℕ) (d : List ObjectRec × Option Granted) : Type 0 where
  pub from : Queue
  pub fits :
      (queue : Queue) (x q : ℕ) →
      Fits queue (told d.0 queue x q + count_if (own == x) (went from d.1 queue q)) (told objects queue x q)

drops_if : (objects : List ObjectRec) (p own : ℕ) (t : Option MonitorRec) → monitor_if (object_at objects own) ≡ t →
    Drops objects own (dropped_if objects p own t)
drops_if objects p own None at = record {
  from = ForEntry;
  fits = λ queue x q.
      let z = count_none (own == x) in
      fits_same queue (told objects queue x q + count_if (own == x) 0) (told objects queue x q) (omega arith);
}
drops_if objects p own (Some m) at =
    let g : Granting = by_holder p m (dropped m) in
    let b = dropped_balanced m p (λ r. GoesOn None) (λ r queue q. refl) in
    record {
      from = b.from;
      fits = λ queue x q.
          let z = count_none (own == x) in
          let e : told objects queue x q + count_if (own == x) 0 ≡ told objects queue x q = omega arith in
          subst
          (λ n. Fits queue (told (with_monitor objects own g.0) queue x q + count_if (own == x) (went b.from g.1 queue q)) n) e
          (told_set objects own g.0 m (went b.from g.1) (λ queue q. 0) at b.fits queue x q);
    }

pub drops : (objects : List ObjectRec) (p own : ℕ) → Drops objects own (dropped_at objects p own)
drops objects p own = drops_if objects p own (monitor_if (object_at objects own)) refl

-- q waits for the monitor of some object
pub record Stood (objects : List ObjectRec) (q : ℕ) : Type 0 where
  pub from : Queue
  pub own : ℕ
  pub stands : 1 ≤ told objects from own q

first_stood : (objects : List ObjectRec) (own : ℕ) (first : List ObjectRec × Option Granted) (g : Granted) → Drops objects own first →
    first.1 ≡ Some g → Stood objects g.process
first_stood objects own first g d is =
    let one : count_if (own == own) (went d.from first.1 d.from g.process) ≡ 1 =
    equal_case (λ b. count_if b (went d.from first.1 d.from g.process) ≡ 1) own own
    (λ e. went_one d.from first.1 g is) (λ n. absurd (n refl)) in
    let h = fits_least d.from (told first.0 d.from own g.process + count_if (own == own) (went d.from first.1 d.from g.process))
    (told objects d.from own g.process) (d.fits d.from own g.process) in
    record { from = d.from; own = own; stands = omega arith }

later_stood : (objects : List ObjectRec) (own : ℕ) (first : List ObjectRec × Option Granted) (q : ℕ) → Drops objects own first →
    Stood first.0 q → Stood objects q
later_stood objects own first q d s =
    let h = fits_least s.from (told first.0 s.from s.own q + count_if (own == s.own) (went d.from first.1 s.from q))
    (told objects s.from s.own q) (d.fits s.from s.own q) in
    let k = s.stands in
    record { from = s.from; own = s.own; stands = omega arith }

-- those that are granted first, and those later
has_granted : (granted : Option Granted) (more : List ℕ) (q : ℕ) (P : Type 0) → Has (all_granted granted more) q →
    ((g : Granted) → granted ≡ Some g → q ≡ g.process → P) → (Has more q → P) → P
has_granted None more q P h f g = g h
has_granted (Some r) more q P h f g = ⊎_elim (λ (e : q ≡ r.process). f r refl e) (λ (k : Has more q). g k) (has_parts r.process q more h)

pub each_stood : (p : ℕ) (owns : List ℕ) (objects : List ObjectRec) (q : ℕ) → Has (dropped_each p owns objects).1 q → Stood objects q
each_stood p [] objects q h = absurd (has_none q h)
each_stood p (own ∷ owns) objects q h =
    let first : List ObjectRec × Option Granted = dropped_at objects p own in
    let d = drops objects p own in
    has_granted first.1 (dropped_each p owns first.0).1 q (Stood objects q) h
    (λ g is e. subst (λ n. Stood objects n) (sym e) (first_stood objects own first g d is))
    (λ k. later_stood objects own first q d (each_stood p owns first.0 q k))

-- only a process that fails gives monitors up
pub given_stood : (p : ℕ) (owns : List ℕ) (c d : Common) (who : Who) (o : Outcome) (e : Effect) (q : ℕ) → o.effect ≡ e → Does c d who o →
    Has (given_up p owns e d.objects).1 q → Stood c.objects q
given_stood p owns c d who o (GoesOn given) q is made h = absurd (has_none q h)
given_stood p owns c d who o (Calls op own args) q is made h = absurd (has_none q h)
given_stood p owns c d who o (Leaves given) q is made h = absurd (has_none q h)
given_stood p owns c d who o (Blocks queue own) q is made h = absurd (has_none q h)
given_stood p owns c d who o Ends q is made h = absurd (has_none q h)
given_stood p owns c d who o (Fails why line) q is made h =
    let s = each_stood p owns d.objects q h in
    let f = made.fits s.from s.own q in
    let z : comes who.process o.effect s.from s.own q ≡ 0 = ap (λ (t : Effect). comes who.process t s.from s.own q) is in
    let l = fits_least s.from (told d.objects s.from s.own q + count_if (who.own == s.own) (went made.from o.granted s.from q))
    (told c.objects s.from s.own q + comes who.process o.effect s.from s.own q) f in
    let k = s.stands in
    record { from = s.from; own = s.own; stands = omega arith }
