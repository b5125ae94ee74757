-- Who holds a monitor after an act: who held it before, who was granted it, or who entered.
use Rattle.std.proofs.Common.{◌≡◌, ◌∙◌, ◌⊎◌, ◌∷◌, ◌++◌, ◌==◌, ℕ, Bool, true, false, [], List, length, Option, Some, None}
use Rattle.std.proofs.Common.{⊎_elim, inl, inr, refl, sym, ap, subst, arith}
use Rattle.std.proofs.lemmas.Bool.Decides.{Decides-eqb}
use Rattle.std.specs.Prelude.{if◌then◌else◌, nat_lt, replicate, slice_set}
use Rattle.ec_base.specs.Stack.{top_of}
use Rattle.ec_monitors.proofs.Standing.{waiting-top}
use Rattle.ec_monitors.specs.Monitors.{Granting, dropped, enter_by, enter_held, entered, first_of_entry, is_held_by, is_hold_of, leave_by, leave_held}
use Rattle.ec_monitors.specs.Monitors.{left, made, released, resumed, signal_by, signalled, top_of_urgent, wait_by, waited, waiting_for}
use Rattle.ec_monitors.specs.Standing.{WaitsNowhere, one_if, times_entering, times_waiting}
use Rattle.ec_monitors.specs.declared.record.Entry.{Entry as Within}
use Rattle.ec_monitors.specs.declared.record.Granted.{Granted}
use Rattle.ec_monitors.specs.declared.record.Hold.{Hold}
use Rattle.ec_monitors.specs.declared.record.MonitorRec.{MonitorRec}
use Rattle.ec_world.proofs.Counting.{if_case}
use Rattle.ec_world.proofs.Members.{has_first, has_later}
use Rattle.ec_world.specs.declared.class.ClassRec.{ClassRec}
use Rattle.ec_world.specs.declared.class.ClassNo.{ClassNo}
use Rattle.ec_world.specs.declared.common.Common.{Common}
use Rattle.ec_world.specs.declared.doing.Doing.{Doing}
use Rattle.ec_world.specs.declared.doing.Doing.TheVariants.{Passes, Prints, Defines, Stores, Makes, MakesVector, Invokes, Returns}
use Rattle.ec_world.specs.declared.doing.Doing.TheVariants.{Moves, Unfixes, Enters, Waits, Signals, Finishes, Breaks}
use Rattle.ec_world.specs.declared.doing.Section.{Section}
use Rattle.ec_world.specs.declared.object.ObjectRec.{ObjectRec}
use Rattle.ec_world.specs.declared.stop.Effect.{Effect}
use Rattle.ec_world.specs.declared.stop.Effect.TheVariants.{GoesOn, Calls, Leaves, Blocks, Ends, Fails}
use Rattle.ec_world.specs.declared.stop.Queue.TheVariants.{ForCondition}
use Rattle.ec_world.specs.declared.stop.Who.{Who}
use Rattle.ec_world.specs.declared.value.Value.{Value}
use Rattle.ec_world.specs.Group.{Has}
use Rattle.ec_world.specs.Objects.{class_at}
use Rattle.ec_world.specs.Outcomes.{acting, all_granted, at_condition, by_holder, done, dropped_at, dropped_each, dropped_if, entering, entry_done}
use Rattle.ec_world.specs.Outcomes.{left_behind, made_object, monitor_for, monitor_of, section_on, signal_done, signal_effect, wait_done}
use Rattle.ec_world.specs.World.{given_up}
use Rattle.ec_reached.proofs.Doing.{does, drops, monitor_after}
use Rattle.ec_reached.proofs.Monitors.{monitor_in, relate, relate_drop}

-- ---- one act

pub record IsGranted (granted : Option Granted) (q : ℕ) : Type 0 where
  pub to : Granted
  pub is : granted ≡ Some to
  pub process : to.process ≡ q

-- whoever holds the monitor after an act held it before, or was granted it
abbrev Passed : MonitorRec → ℕ → Granting → Type 0
Passed m q g = is_held_by g.0 q ≡ true → (is_held_by m q ≡ true) ⊎ IsGranted g.1 q

same_held : (m : MonitorRec) (q : ℕ) → Passed m q (m, None)
same_held m q e = inl e

-- whoever holds it was granted it
abbrev Fresh : ℕ → Granting → Type 0
Fresh q g = is_held_by g.0 q ≡ true → IsGranted g.1 q

first_fresh : (m : MonitorRec) (es : List ℕ) (q : ℕ) → Fresh q (first_of_entry m es)
first_fresh m [] q e = absurd cc
first_fresh m (x ∷ xs) q e = record { to = record { process = x }; is = refl; process = (Decides-eqb x q).0 e }

top_fresh : (m : MonitorRec) (o : Option Hold) (q : ℕ) → Fresh q (top_of_urgent m o)
top_fresh m None q e = first_fresh m m.entry q e
top_fresh m (Some h) q e = record { to = record { process = h.process }; is = refl; process = (Decides-eqb h.process q).0 e }

released_fresh : (m : MonitorRec) (q : ℕ) → Fresh q (released m)
released_fresh m q e = top_fresh m (top_of m.urgent) q e

less_passed : (m : MonitorRec) (h : Hold) (b : Bool) (q : ℕ) → m.holder ≡ Some h → Passed m q (leave_held m h b)
less_passed m h true q at e = inl (ap (is_hold_of q) at ∙ e)
less_passed m h false q at e = inr (released_fresh m q e)

leave_passed : (m : MonitorRec) (o : Option Hold) (q : ℕ) → m.holder ≡ o → Passed m q (leave_by m o)
leave_passed m None q at e = inl e
leave_passed m (Some h) q at e = less_passed m h (nat_lt 1 h.depth) q at e

wait_passed : (m : MonitorRec) (c : ℕ) (o : Option Hold) (q : ℕ) → Passed m q (wait_by m c o)
wait_passed m c None q e = inl e
wait_passed m c (Some h) q e =
    inr (released_fresh (record m { holder = None; conditions = slice_set m.conditions c (waiting_for m c ++ h ∷ []) }) q e)

resumed_passed : (m : MonitorRec) (c : ℕ) (h : Hold) (hs : List Hold) (q : ℕ) → Passed m q (resumed m c h hs)
resumed_passed m c h [] q e = inl e
resumed_passed m c h (x ∷ xs) q e = inr (record { to = record { process = x.process }; is = refl; process = (Decides-eqb x.process q).0 e })

signal_passed : (m : MonitorRec) (c : ℕ) (o : Option Hold) (q : ℕ) → Passed m q (signal_by m c o)
signal_passed m c None q e = inl e
signal_passed m c (Some h) q e = resumed_passed m c h (waiting_for m c) q e

holder_passed : (m : MonitorRec) (p q : ℕ) (g : Granting) → Passed m q g → Passed m q (by_holder p m g)
holder_passed m p q g h = if_case (λ (x : Granting). Passed m q x) (is_held_by m p) g (m, None) (λ e. h) (λ e. same_held m q)

condition_passed : (m : MonitorRec) (c q : ℕ) (g : Granting) → Passed m q g → Passed m q (at_condition m c g)
condition_passed m c q g h =
    if_case (λ (x : Granting). Passed m q x) (nat_lt c (length m.conditions)) g (m, None) (λ e. h) (λ e. same_held m q)

held_enters : (m : MonitorRec) (p : ℕ) (h : Hold) (b : Bool) (q : ℕ) → m.holder ≡ Some h → is_held_by (enter_held m p h b).0 q ≡ true →
    (is_held_by m q ≡ true) ⊎ (q ≡ p)
held_enters m p h true q at e = inr (sym ((Decides-eqb p q).0 e))
held_enters m p h false q at e = inl e

enter_enters : (m : MonitorRec) (p : ℕ) (o : Option Hold) (q : ℕ) → m.holder ≡ o → is_held_by (enter_by m p o).0 q ≡ true →
    (is_held_by m q ≡ true) ⊎ (q ≡ p)
enter_enters m p None q at e = inr (sym ((Decides-eqb p q).0 e))
enter_enters m p (Some h) q at e = held_enters m p h (h.process == p) q at e

-- ---- a doing

-- whom a doing of process p grants the own monitor
abbrev pub granted_after : ℕ → Doing → MonitorRec → Option Granted
granted_after p (Returns given true section) m = (by_holder p m (left m)).1
granted_after p (Waits condition) m = (by_holder p m (at_condition m condition (waited m condition))).1
granted_after p (Signals condition) m = (by_holder p m (at_condition m condition (signalled m condition))).1
granted_after p _ m = None

abbrev pub Holds : MonitorRec → Option Granted → ℕ → ℕ → Type 0
Holds m granted p q = ((is_held_by m q ≡ true) ⊎ IsGranted granted q) ⊎ (q ≡ p)

holds_after : (p : ℕ) (doing : Doing) (m : MonitorRec) (q : ℕ) → is_held_by (monitor_after p doing m) q ≡ true →
    Holds m (granted_after p doing m) p q
holds_after p Enters m q e =
    ⊎_elim (λ (h : is_held_by m q ≡ true). inl (inl h)) (λ (h : q ≡ p). inr h) (enter_enters m p m.holder q refl e)
holds_after p (Returns given true section) m q e = inl (holder_passed m p q (left m) (leave_passed m m.holder q refl) e)
holds_after p (Waits c) m q e =
    inl (holder_passed m p q (at_condition m c (waited m c)) (condition_passed m c q (waited m c) (wait_passed m c m.holder q)) e)
holds_after p (Signals c) m q e =
    inl (holder_passed m p q (at_condition m c (signalled m c)) (condition_passed m c q (signalled m c) (signal_passed m c m.holder q)) e)
holds_after p (Returns given false section) m q e = inl (inl e)
holds_after p (Passes given) m q e = inl (inl e)
holds_after p (Prints s) m q e = inl (inl e)
holds_after p (Defines index v) m q e = inl (inl e)
holds_after p (Stores oid i v) m q e = inl (inl e)
holds_after p (Makes class given) m q e = inl (inl e)
holds_after p (MakesVector of n) m q e = inl (inl e)
holds_after p (Invokes op own args) m q e = inl (inl e)
holds_after p (Moves members to fixes) m q e = inl (inl e)
holds_after p (Unfixes x) m q e = inl (inl e)
holds_after p Finishes m q e = inl (inl e)
holds_after p (Breaks why line) m q e = inl (inl e)

module _ (c : Common) (who : Who) where
  acts_grant : (effect : Option Granted → Effect) (started : Option Section) (g : Granting) →
      (acting c who.own effect started g).1.granted ≡ g.1
  acts_grant effect started (m, r) = refl

  enter_grant : (g : MonitorRec × Within) → (entering c who.own g).1.granted ≡ None
  enter_grant (m, w) = refl

  made_grant : (class : ClassNo) (given : List Value) (k : Option ClassRec) → (made_object c who class given k).1.granted ≡ None
  made_grant class given None = refl
  made_grant class given (Some k) = refl

  left_grant : (given : Option Value) (started : Option Section) (t : Option MonitorRec) (m : MonitorRec) → t ≡ Some m →
      (left_behind c who given started t).1.granted ≡ (by_holder who.process m (left m)).1
  left_grant given started None m e = absurd cc
  left_grant given started (Some n) m e =
      let same : n ≡ m = cc in
      acts_grant (λ granted. Leaves given) started (by_holder who.process n (left n)) ∙ ap (λ x. (by_holder who.process x (left x)).1) same

  wait_grant : (condition : ℕ) (t : Option MonitorRec) (m : MonitorRec) → t ≡ Some m →
      (wait_done c who condition t).1.granted ≡ granted_after who.process (Waits condition) m
  wait_grant condition None m e = absurd cc
  wait_grant condition (Some n) m e =
      let same : n ≡ m = cc in
      acts_grant (λ granted. Blocks ForCondition who.own) None (by_holder who.process n (at_condition n condition (waited n condition)))
      ∙ ap (granted_after who.process (Waits condition)) same

  signal_grant : (condition : ℕ) (t : Option MonitorRec) (m : MonitorRec) → t ≡ Some m →
      (signal_done c who condition t).1.granted ≡ granted_after who.process (Signals condition) m
  signal_grant condition None m e = absurd cc
  signal_grant condition (Some n) m e =
      let same : n ≡ m = cc in
      acts_grant (signal_effect who.own) None (by_holder who.process n (at_condition n condition (signalled n condition)))
      ∙ ap (granted_after who.process (Signals condition)) same

  entry_grant : (t : Option MonitorRec) → (entry_done c who t).1.granted ≡ None
  entry_grant None = refl
  entry_grant (Some m) = enter_grant (entered m who.process)

  -- the outcome tells whom
  grants : (doing : Doing) (m : MonitorRec) → monitor_of c who.own ≡ Some m →
      (done c who doing).1.granted ≡ granted_after who.process doing m
  grants Enters m at = entry_grant (monitor_of c who.own)
  grants (Returns given true section) m at = left_grant given (section_on who.own section) (monitor_of c who.own) m at
  grants (Returns given false section) m at = refl
  grants (Waits condition) m at = wait_grant condition (monitor_of c who.own) m at
  grants (Signals condition) m at = signal_grant condition (monitor_of c who.own) m at
  grants (Passes given) m at = refl
  grants (Prints s) m at = refl
  grants (Defines index v) m at = refl
  grants (Stores oid i v) m at = refl
  grants (Makes class given) m at = made_grant class given (class_at c.classes class)
  grants (MakesVector of n) m at = refl
  grants (Invokes op own args) m at = refl
  grants (Moves members to fixes) m at = refl
  grants (Unfixes x) m at = refl
  grants Finishes m at = refl
  grants (Breaks why line) m at = refl

-- a process holds a monitor, where there is one
abbrev pub holds_if : Option MonitorRec → ℕ → Bool
holds_if None q = false
holds_if (Some m) q = is_held_by m q

new_free : (k : ClassRec) (q : ℕ) → holds_if (monitor_for k) q ≡ false
new_free k q =
    if_case (λ (t : Option MonitorRec). holds_if t q ≡ false) k.monitored (Some (made (replicate k.conditions []))) None (λ e. refl) (λ e. refl)

abbrev pub HeldBy : Option MonitorRec → Option Granted → ℕ → ℕ → Type 0
HeldBy before granted p q = ((holds_if before q ≡ true) ⊎ IsGranted granted q) ⊎ (q ≡ p)

-- whoever holds a monitor after an action held it before, was granted it, or is the one that acted
pub held_after : (c : Common) (who : Who) (doing : Doing) (x q : ℕ) → holds_if (monitor_of (done c who doing).0 x) q ≡ true →
    HeldBy (monitor_of c x) (done c who doing).1.granted who.process q
held_after c who doing x q =
    relate c (done c who doing).0 who doing (does c who doing)
    (λ y k t k' t'. holds_if t' q ≡ true → HeldBy t (done c who doing).1.granted who.process q)
    (λ m k at e.
    subst (λ (r : Option Granted). HeldBy (Some m) r who.process q) (sym (grants c who doing m at)) (holds_after who.process doing m q e))
    (λ k at e. absurd cc)
    (λ y k t n e. inl (inl e))
    (λ y k of e. absurd (let f = new_free of q in cc)) x

-- ---- giving up

drop_passed : (m : MonitorRec) (p q : ℕ) → Passed m q (by_holder p m (dropped m))
drop_passed m p q = holder_passed m p q (dropped m) (λ e. inr (released_fresh m q e))

dropped_grant : (objects : List ObjectRec) (p oid : ℕ) (t : Option MonitorRec) (m : MonitorRec) → t ≡ Some m →
    (dropped_if objects p oid t).1 ≡ (by_holder p m (dropped m)).1
dropped_grant objects p oid None m e = absurd cc
dropped_grant objects p oid (Some n) m e = let same : n ≡ m = cc in ap (λ x. (by_holder p x (dropped x)).1) same

drop_after : (objects : List ObjectRec) (p oid x q : ℕ) → holds_if (monitor_in (dropped_at objects p oid).0 x) q ≡ true →
    (holds_if (monitor_in objects x) q ≡ true) ⊎ IsGranted (dropped_at objects p oid).1 q
drop_after objects p oid x q =
    relate_drop objects (dropped_at objects p oid).0 p oid (drops objects p oid)
    (λ y t t'. holds_if t' q ≡ true → (holds_if t q ≡ true) ⊎ IsGranted (dropped_at objects p oid).1 q)
    (λ m at e.
    subst (λ (r : Option Granted). (is_held_by m q ≡ true) ⊎ IsGranted r q) (sym (dropped_grant objects p oid (monitor_in objects oid) m at))
    (drop_passed m p q e))
    (λ at e. absurd cc) (λ y t n e. inl e) x

pub granted_has : (granted : Option Granted) (more : List ℕ) (q : ℕ) → IsGranted granted q → Has (all_granted granted more) q
granted_has None more q h = absurd (let i = h.is in cc)
granted_has (Some r) more q h =
    let same : r ≡ h.to = (let i = h.is in cc) in
    let e : r.process ≡ q = ap (λ (z : Granted). z.process) same ∙ h.process in
    subst (λ z. Has (r.process ∷ more) z) e (has_first r.process more)

pub later_has : (granted : Option Granted) (more : List ℕ) (q : ℕ) → Has more q → Has (all_granted granted more) q
later_has None more q h = h
later_has (Some r) more q h = has_later r.process q more h

each_after : (p : ℕ) (owns : List ℕ) (objects : List ObjectRec) (x q : ℕ) →
    holds_if (monitor_in (dropped_each p owns objects).0 x) q ≡ true →
    (holds_if (monitor_in objects x) q ≡ true) ⊎ Has (dropped_each p owns objects).1 q
each_after p [] objects x q e = inl e
each_after p (oid ∷ owns) objects x q e =
    let first = dropped_at objects p oid in
    ⊎_elim
    (λ (h : holds_if (monitor_in (dropped_at objects p oid).0 x) q ≡ true). ⊎_elim
    (λ (k : holds_if (monitor_in objects x) q ≡ true). inl k)
    (λ (k : IsGranted (dropped_at objects p oid).1 q).
    inr (granted_has (dropped_at objects p oid).1 (dropped_each p owns (dropped_at objects p oid).0).1 q k))
    (drop_after objects p oid x q h))
    (λ (h : Has (dropped_each p owns (dropped_at objects p oid).0).1 q).
    inr (later_has (dropped_at objects p oid).1 (dropped_each p owns (dropped_at objects p oid).0).1 q h))
    (each_after p owns (dropped_at objects p oid).0 x q e)

pub given_after : (p : ℕ) (owns : List ℕ) (e : Effect) (objects : List ObjectRec) (x q : ℕ) →
    holds_if (monitor_in (given_up p owns e objects).0 x) q ≡ true →
    (holds_if (monitor_in objects x) q ≡ true) ⊎ Has (given_up p owns e objects).1 q
given_after p owns (Fails why line) objects x q h = each_after p owns objects x q h
given_after p owns (GoesOn given) objects x q h = inl h
given_after p owns (Calls op own args) objects x q h = inl h
given_after p owns (Leaves given) objects x q h = inl h
given_after p owns (Blocks queue own) objects x q h = inl h
given_after p owns Ends objects x q h = inl h

-- ---- who waits for a condition holds the monitor no more

zero_not : (b : Bool) → one_if b ≡ 0 → b ≡ false
zero_not true e = absurd cc
zero_not false e = refl

first_not : (m : MonitorRec) (es : List ℕ) (p : ℕ) → times_entering p es ≡ 0 → is_held_by (first_of_entry m es).0 p ≡ false
first_not m [] p e = refl
first_not m (x ∷ xs) p e = zero_not (x == p) (omega arith)

top_not : (m : MonitorRec) (o : Option Hold) (p : ℕ) → top_of m.urgent ≡ o → times_entering p m.entry ≡ 0 → times_waiting p m.urgent ≡ 0 →
    is_held_by (top_of_urgent m o).0 p ≡ false
top_not m None p at e u = first_not m m.entry p e
top_not m (Some h) p at e u = zero_not (h.process == p) (let k = waiting-top p m.urgent h at in omega arith)

released_not : (m : MonitorRec) (p : ℕ) → times_entering p m.entry ≡ 0 → times_waiting p m.urgent ≡ 0 → is_held_by (released m).0 p ≡ false
released_not m p e u = top_not m (top_of m.urgent) p refl e u

waited_by_not : (m : MonitorRec) (c : ℕ) (o : Option Hold) (p : ℕ) → is_hold_of p o ≡ true → WaitsNowhere m p →
    is_held_by (wait_by m c o).0 p ≡ false
waited_by_not m c None p held n = absurd cc
waited_by_not m c (Some h) p held n =
    released_not (record m { holder = None; conditions = slice_set m.conditions c (waiting_for m c ++ h ∷ []) }) p (omega arith) (omega arith)

pub waits_not : (m : MonitorRec) (c p : ℕ) → is_held_by m p ≡ true → WaitsNowhere m p → nat_lt c (length m.conditions) ≡ true →
    is_held_by (monitor_after p (Waits c) m) p ≡ false
waits_not m c p held n there =
    ap (λ b. is_held_by (if b then at_condition m c (waited m c) else (m, None)).0 p) held
    ∙ ap (λ b. is_held_by (if b then waited m c else (m, None)).0 p) there ∙ waited_by_not m c m.holder p held n
