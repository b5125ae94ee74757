-- Monitors stay those of their classes, and keep what each act keeps.
use Rattle.std.proofs.Common.{◌≡◌, ◌≢◌, ◌∙◌, ◌∷◌, ◌++◌, ◌<◌, ℕ, zero, suc, Bool, true, false, [], List, length, replicate, Option, Some, None}
use Rattle.std.proofs.Common.{⊎_elim, inl, inr, refl, sym, ap, subst, arith}
use Rattle.std.proofs.lemmas.Bool.Decides.{nat_tests}
use Rattle.std.proofs.lemmas.List.{length-replicate}
use Rattle.std.specs.Prelude.{if◌then◌else◌, nat_lt, slice_get, slice_set}
use Rattle.ec_base.proofs.Lists.{length_set}
use Rattle.ec_base.specs.Stack.{below_of, top_of}
use Rattle.ec_monitors.specs.Laws.{KeptByEachAct}
use Rattle.ec_monitors.specs.Monitors.{Granting, dropped, enter_by, enter_held, first_of_entry, is_held_by, leave_by, leave_held, left, made}
use Rattle.ec_monitors.specs.Monitors.{released, resumed, signal_by, signalled, top_of_urgent, wait_by, waited, waiting_for}
use Rattle.ec_monitors.specs.Standing.{WaitsNowhere}
use Rattle.ec_monitors.specs.declared.record.Hold.{Hold}
use Rattle.ec_monitors.specs.declared.record.MonitorRec.{MonitorRec}
use Rattle.ec_world.proofs.Counting.{if_case}
use Rattle.ec_world.proofs.Keys.{same_or_not}
use Rattle.ec_world.proofs.Queues.{unblocked_nowhere}
use Rattle.ec_world.proofs.Worlds.{action_blocked, first_blocked, go_on_blocked, move_blocked}
use Rattle.ec_world.specs.declared.class.ClassRec.{ClassRec}
use Rattle.ec_world.specs.declared.common.Common.{Common}
use Rattle.ec_world.specs.declared.doing.Doing.{Doing}
use Rattle.ec_world.specs.declared.doing.Doing.TheVariants.{Passes, Prints, Defines, Stores, Makes, MakesVector, Invokes, Returns}
use Rattle.ec_world.specs.declared.doing.Doing.TheVariants.{Moves, Unfixes, Enters, Waits, Signals, Finishes, Breaks}
use Rattle.ec_world.specs.declared.doing.Outcome.{Outcome}
use Rattle.ec_world.specs.declared.object.ObjectRec.{ObjectRec}
use Rattle.ec_world.specs.declared.run.RunEntry.{RunEntry}
use Rattle.ec_world.specs.declared.stop.Effect.{Effect}
use Rattle.ec_world.specs.declared.stop.Effect.TheVariants.{GoesOn, Calls, Leaves, Blocks, Ends, Fails}
use Rattle.ec_world.specs.declared.stop.Who.{Who}
use Rattle.ec_world.specs.declared.value.ValueType.{ValueType}
use Rattle.ec_world.specs.declared.world.World.{World}
use Rattle.ec_world.specs.Follows.{IsKept}
use Rattle.ec_world.specs.Meaning.{ActivationMeaning}
use Rattle.ec_world.specs.Objects.{object_at}
use Rattle.ec_world.specs.Outcomes.{Done, at_condition, by_holder, done, dropped_at, dropped_each, monitor_for, monitor_if, monitor_of}
use Rattle.ec_world.specs.Run.{after_entries, first_world, node_object, program_object}
use Rattle.ec_world.specs.Sights.{class_if, class_of}
use Rattle.ec_world.specs.Waiting.{AreBlocked, is_blocked}
use Rattle.ec_world.specs.World.{Action, advanced, given_up, owns_of, settled, stack_at, who_of}
use Rattle.ec_reached.proofs.Doing.{Does, Drops, IsAdded, IsAsBefore, does, drops, monitor_after}
use Rattle.ec_reached.proofs.Later.{class_same}
use Rattle.ec_reached.proofs.Steps.{by_action, by_entries, by_move, by_silent, is_there}
use Rattle.ec_reached.specs.Depths.{MonitorFits}
use Rattle.ec_reached.specs.Meant.{StepsStay}
use Rattle.ec_reached.specs.Stacks.{class_on}

-- ---- what an action makes of each monitor, by that of the object on which it acts

module _ (c d : Common) (who : Who) (doing : Doing) (h : Does c d who doing) where
  class_by : (t : Option ObjectRec) → object_at c.objects who.own ≡ t → (m : MonitorRec) → monitor_of c who.own ≡ Some m →
      class_on d who.own ≡ class_on c who.own
  class_by None e m at = absurd (let g = ap monitor_if e in cc)
  class_by (Some r) e m at = class_same c d h.later who.own r.class (ap class_of e)

  module _ (R : ℕ → Option ClassRec → Option MonitorRec → Option ClassRec → Option MonitorRec → Type 0)
      (own : (m : MonitorRec) (k : Option ClassRec) → monitor_of c who.own ≡ Some m →
      R who.own k (Some m) k (Some (monitor_after who.process doing m)))
      (none : (k : Option ClassRec) → monitor_of c who.own ≡ None → R who.own k None k None)
      (others : (x : ℕ) (k : Option ClassRec) (t : Option MonitorRec) → who.own ≢ x → R x k t k t)
      (added : (x : ℕ) (k : Option ClassRec) (of : ClassRec) → R x k None (Some of) (monitor_for of)) where
    before : (x : ℕ) → IsAsBefore c d x → ((k : Option ClassRec) (t : Option MonitorRec) → monitor_of c x ≡ t → R x k t k t) →
        R x (class_on c x) (monitor_of c x) (class_on d x) (monitor_of d x)
    before x b f =
        subst (λ k. R x (class_on c x) (monitor_of c x) k (monitor_of d x)) (sym b.class)
        (subst (λ t. R x (class_on c x) (monitor_of c x) (class_on c x) t) (sym b.monitor) (f (class_on c x) (monitor_of c x) refl))

    is_added : (x : ℕ) → IsAdded c d x → R x (class_on c x) (monitor_of c x) (class_on d x) (monitor_of d x)
    is_added x b =
        subst (λ t. R x (class_on c x) t (class_on d x) (monitor_of d x)) (sym b.none)
        (subst (λ k. R x (class_on c x) None k (monitor_of d x)) (sym b.class)
        (subst (λ t. R x (class_on c x) None (Some b.of) t) (sym b.monitor) (added x (class_on c x) b.of)))

    at_own : (t : Option MonitorRec) → monitor_of c who.own ≡ t →
        R who.own (class_on c who.own) (monitor_of c who.own) (class_on d who.own) (monitor_of d who.own)
    at_own None e = ⊎_elim
        (λ (b : IsAsBefore c d who.own).
        before who.own b (λ k t i. let n : None ≡ t = sym e ∙ i in subst (λ u. R who.own k u k u) n (none k e)))
        (λ (b : IsAdded c d who.own). is_added who.own b)
        (h.others who.own (inr e))
    at_own (Some m) e =
        subst (λ t. R who.own (class_on c who.own) t (class_on d who.own) (monitor_of d who.own)) (sym e)
        (subst (λ k. R who.own (class_on c who.own) (Some m) k (monitor_of d who.own)) (sym (class_by (object_at c.objects who.own) refl m e))
        (subst (λ t. R who.own (class_on c who.own) (Some m) (class_on c who.own) t) (sym (h.own m e)) (own m (class_on c who.own) e)))

    pub relate : (x : ℕ) → R x (class_on c x) (monitor_of c x) (class_on d x) (monitor_of d x)
    relate x = ⊎_elim
        (λ (e : who.own ≡ x). subst (λ y. R y (class_on c y) (monitor_of c y) (class_on d y) (monitor_of d y)) e
        (at_own (monitor_of c who.own) refl))
        (λ (n : who.own ≢ x). ⊎_elim
        (λ (b : IsAsBefore c d x). before x b (λ k t i. others x k t n))
        (λ (b : IsAdded c d x). is_added x b)
        (h.others x (inl n)))
        (same_or_not who.own x)

abbrev pub monitor_in : List ObjectRec → ℕ → Option MonitorRec
monitor_in objects x = monitor_if (object_at objects x)

-- what giving up makes of each monitor
module _ (objects after : List ObjectRec) (p oid : ℕ) (h : Drops objects after p oid)
    (R : ℕ → Option MonitorRec → Option MonitorRec → Type 0)
    (own : (m : MonitorRec) → monitor_in objects oid ≡ Some m → R oid (Some m) (Some (by_holder p m (dropped m)).0))
    (none : monitor_in objects oid ≡ None → R oid None None)
    (others : (x : ℕ) (t : Option MonitorRec) → oid ≢ x → R x t t) where
  drop_own : (t : Option MonitorRec) → monitor_in objects oid ≡ t → R oid (monitor_in objects oid) (monitor_in after oid)
  drop_own None e =
      subst (λ t. R oid t (monitor_in after oid)) (sym e)
      (subst (λ t. R oid None t) (sym (h.others oid (inr e) ∙ e)) (none e))
  drop_own (Some m) e =
      subst (λ t. R oid t (monitor_in after oid)) (sym e) (subst (λ t. R oid (Some m) t) (sym (h.own m e)) (own m e))

  pub relate_drop : (x : ℕ) → R x (monitor_in objects x) (monitor_in after x)
  relate_drop x = ⊎_elim
      (λ (e : oid ≡ x). subst (λ y. R y (monitor_in objects y) (monitor_in after y)) e (drop_own (monitor_in objects oid) refl))
      (λ (n : oid ≢ x).
      subst (λ t. R x (monitor_in objects x) t) (sym (h.others x (inl n))) (others x (monitor_in objects x) n))
      (same_or_not oid x)

-- ---- as many queues of conditions

first_conditions : (m : MonitorRec) (es : List ℕ) → (first_of_entry m es).0.conditions ≡ m.conditions
first_conditions m [] = refl
first_conditions m (x ∷ xs) = refl

top_conditions : (m : MonitorRec) (o : Option Hold) → (top_of_urgent m o).0.conditions ≡ m.conditions
top_conditions m None = first_conditions m m.entry
top_conditions m (Some h) = refl

pub released_conditions : (m : MonitorRec) → (released m).0.conditions ≡ m.conditions
released_conditions m = top_conditions m (top_of m.urgent)

held_conditions : (m : MonitorRec) (p : ℕ) (h : Hold) (b : Bool) → (enter_held m p h b).0.conditions ≡ m.conditions
held_conditions m p h true = refl
held_conditions m p h false = refl

pub enter_conditions : (m : MonitorRec) (p : ℕ) (o : Option Hold) → (enter_by m p o).0.conditions ≡ m.conditions
enter_conditions m p None = refl
enter_conditions m p (Some h) = held_conditions m p h _

less_conditions : (m : MonitorRec) (h : Hold) (b : Bool) → (leave_held m h b).0.conditions ≡ m.conditions
less_conditions m h true = refl
less_conditions m h false = released_conditions m

pub leave_conditions : (m : MonitorRec) (o : Option Hold) → (leave_by m o).0.conditions ≡ m.conditions
leave_conditions m None = refl
leave_conditions m (Some h) = less_conditions m h (nat_lt 1 h.depth)

abbrev Long : ℕ → Granting → Type 0
Long n g = length g.0.conditions ≡ n

wait_long : (m : MonitorRec) (c : ℕ) (o : Option Hold) → Long (length m.conditions) (wait_by m c o)
wait_long m c None = refl
wait_long m c (Some h) =
    ap length (released_conditions (record m { holder = None; conditions = slice_set m.conditions c (waiting_for m c ++ h ∷ []) }))
    ∙ length_set m.conditions c (waiting_for m c ++ h ∷ [])

resumed_long : (m : MonitorRec) (c : ℕ) (h : Hold) (hs : List Hold) → Long (length m.conditions) (resumed m c h hs)
resumed_long m c h [] = refl
resumed_long m c h (x ∷ xs) = length_set m.conditions c xs

signal_long : (m : MonitorRec) (c : ℕ) (o : Option Hold) → Long (length m.conditions) (signal_by m c o)
signal_long m c None = refl
signal_long m c (Some h) = resumed_long m c h (waiting_for m c)

-- by the holder, or nothing
holder_case : (P : MonitorRec → Type 0) (m : MonitorRec) (p : ℕ) (g : Granting) → P m → P g.0 → P (by_holder p m g).0
holder_case P m p g h k = if_case (λ (x : Granting). P x.0) (is_held_by m p) g (m, None) (λ e. k) (λ e. h)

condition_case : (P : MonitorRec → Type 0) (m : MonitorRec) (c : ℕ) (g : Granting) → P m → (c < length m.conditions → P g.0) →
    P (at_condition m c g).0
condition_case P m c g h k =
    if_case (λ (x : Granting). P x.0) (nat_lt c (length m.conditions)) g (m, None) (λ e. k (grind (arith, nat_tests))) (λ e. h)

pub after_long : (p : ℕ) (doing : Doing) (m : MonitorRec) → length (monitor_after p doing m).conditions ≡ length m.conditions
after_long p Enters m = ap length (enter_conditions m p m.holder)
after_long p (Returns given true section) m =
    holder_case (λ x. length x.conditions ≡ length m.conditions) m p (left m) refl (ap length (leave_conditions m m.holder))
after_long p (Returns given false section) m = refl
after_long p (Waits c) m =
    holder_case (λ x. length x.conditions ≡ length m.conditions) m p (at_condition m c (waited m c)) refl
    (condition_case (λ x. length x.conditions ≡ length m.conditions) m c (waited m c) refl (λ l. wait_long m c m.holder))
after_long p (Signals c) m =
    holder_case (λ x. length x.conditions ≡ length m.conditions) m p (at_condition m c (signalled m c)) refl
    (condition_case (λ x. length x.conditions ≡ length m.conditions) m c (signalled m c) refl (λ l. signal_long m c m.holder))
after_long p (Passes given) m = refl
after_long p (Prints s) m = refl
after_long p (Defines index v) m = refl
after_long p (Stores oid i v) m = refl
after_long p (Makes class given) m = refl
after_long p (MakesVector of n) m = refl
after_long p (Invokes op own args) m = refl
after_long p (Moves members to fixes) m = refl
after_long p (Unfixes x) m = refl
after_long p Finishes m = refl
after_long p (Breaks why line) m = refl

pub dropped_long : (p : ℕ) (m : MonitorRec) → length (by_holder p m (dropped m)).0.conditions ≡ length m.conditions
dropped_long p m =
    holder_case (λ x. length x.conditions ≡ length m.conditions) m p (dropped m) refl (ap length (released_conditions m))

-- ---- what each act keeps

module _ (P : MonitorRec → Type 0) (kept : KeptByEachAct P) where
  after_kept : (p : ℕ) (doing : Doing) (m : MonitorRec) → WaitsNowhere m p → P m → P (monitor_after p doing m)
  after_kept p Enters m n h = kept.by_entering m p n h
  after_kept p (Returns given true section) m n h = holder_case P m p (left m) h (kept.by_leaving m h)
  after_kept p (Returns given false section) m n h = h
  after_kept p (Waits c) m n h =
      holder_case P m p (at_condition m c (waited m c)) h (condition_case P m c (waited m c) h (λ l. kept.by_waiting m c l h))
  after_kept p (Signals c) m n h =
      holder_case P m p (at_condition m c (signalled m c)) h (condition_case P m c (signalled m c) h (λ l. kept.by_signalling m c l h))
  after_kept p (Passes given) m n h = h
  after_kept p (Prints s) m n h = h
  after_kept p (Defines index v) m n h = h
  after_kept p (Stores oid i v) m n h = h
  after_kept p (Makes class given) m n h = h
  after_kept p (MakesVector of s) m n h = h
  after_kept p (Invokes op own args) m n h = h
  after_kept p (Moves members to fixes) m n h = h
  after_kept p (Unfixes x) m n h = h
  after_kept p Finishes m n h = h
  after_kept p (Breaks why line) m n h = h

  drop_kept : (p : ℕ) (m : MonitorRec) → P m → P (by_holder p m (dropped m)).0
  drop_kept p m h = holder_case P m p (dropped m) h (kept.by_dropping m h)

-- ---- together

-- the monitor of a class, of which P holds
abbrev pub GoodIf : (MonitorRec → Type 0) → Option MonitorRec → Type 0
GoodIf P None = Unit {0}
GoodIf P (Some m) = P m

pub record Good (P : MonitorRec → Type 0) (k : Option ClassRec) (t : Option MonitorRec) : Type 0 where
  pub fits : MonitorFits k t
  pub holds : GoodIf P t

abbrev pub EachGood : (MonitorRec → Type 0) → Common → Type 0
EachGood P c = (x : ℕ) → Good P (class_on c x) (monitor_of c x)

module _ (P : MonitorRec → Type 0) (kept : KeptByEachAct P) where
  fits_long : (k : Option ClassRec) (m n : MonitorRec) → length n.conditions ≡ length m.conditions → MonitorFits k (Some m) →
      MonitorFits k (Some n)
  fits_long None m n e h = h
  fits_long (Some k) m n e h = (h.0, e ∙ h.1)

  new_by : (k : ClassRec) (b : Bool) → k.monitored ≡ b → Good P (Some k) (if b then Some (made (replicate k.conditions [])) else None)
  new_by k true e = record { fits = (e, length-replicate k.conditions []); holds = kept.of_new k.conditions }
  new_by k false e = record { fits = e; holds = tt }

  new_good : (k : ClassRec) → Good P (Some k) (monitor_for k)
  new_good k = new_by k k.monitored refl

  does_good : (c d : Common) (who : Who) (doing : Doing) → Does c d who doing →
      ((m : MonitorRec) → monitor_of c who.own ≡ Some m → WaitsNowhere m who.process) → EachGood P c → EachGood P d
  does_good c d who doing h nowhere good x =
      relate c d who doing h (λ x k t k' t'. Good P k t → Good P k' t')
      (λ m k at g. record {
        fits = fits_long k m (monitor_after who.process doing m) (after_long who.process doing m) g.fits;
        holds = after_kept P kept who.process doing m (nowhere m at) g.holds;
      })
      (λ k at g. g) (λ x k t n g. g) (λ x k of g. new_good of) x (good x)

  -- by objects alone
  drop_good : (classes : List ClassRec) (objects : List ObjectRec) (p oid : ℕ) →
      ((x : ℕ) → Good P (class_if classes (class_of (object_at objects x))) (monitor_in objects x)) →
      (x : ℕ) → Good P (class_if classes (class_of (object_at (dropped_at objects p oid).0 x))) (monitor_in (dropped_at objects p oid).0 x)
  drop_good classes objects p oid good x =
      let d = drops objects p oid in
      subst (λ k. Good P (class_if classes k) (monitor_in (dropped_at objects p oid).0 x)) (sym (d.classes x))
      (relate_drop objects (dropped_at objects p oid).0 p oid d
      (λ x t t'. (k : Option ClassRec) → Good P k t → Good P k t')
      (λ m at k g. record {
        fits = fits_long k m (by_holder p m (dropped m)).0 (dropped_long p m) g.fits;
        holds = drop_kept P kept p m g.holds;
      })
      (λ at k g. g) (λ x t n k g. g) x (class_if classes (class_of (object_at objects x))) (good x))

  each_drop_good : (classes : List ClassRec) (p : ℕ) (owns : List ℕ) (objects : List ObjectRec) →
      ((x : ℕ) → Good P (class_if classes (class_of (object_at objects x))) (monitor_in objects x)) →
      (x : ℕ) → Good P (class_if classes (class_of (object_at (dropped_each p owns objects).0 x))) (monitor_in (dropped_each p owns objects).0 x)
  each_drop_good classes p [] objects good = good
  each_drop_good classes p (oid ∷ owns) objects good =
      each_drop_good classes p owns (dropped_at objects p oid).0 (drop_good classes objects p oid good)

  given_good : (classes : List ClassRec) (p : ℕ) (owns : List ℕ) (e : Effect) (objects : List ObjectRec) →
      ((x : ℕ) → Good P (class_if classes (class_of (object_at objects x))) (monitor_in objects x)) →
      (x : ℕ) → Good P (class_if classes (class_of (object_at (given_up p owns e objects).0 x))) (monitor_in (given_up p owns e objects).0 x)
  given_good classes p owns (Fails why line) objects good = each_drop_good classes p owns objects good
  given_good classes p owns (GoesOn given) objects good = good
  given_good classes p owns (Calls op own args) objects good = good
  given_good classes p owns (Leaves given) objects good = good
  given_good classes p owns (Blocks queue own) objects good = good
  given_good classes p owns Ends objects good = good

  module _ {A : Type 0} (M : ActivationMeaning A) where
    pub record Holds (w : World A) : Type 0 where
      pub blocked : AreBlocked w
      pub good : EachGood P w.common

    pub nowhere : (w : World A) (p : ℕ) (top : A) → AreBlocked w → top_of (stack_at w p) ≡ Some top → (o : ℕ) (m : MonitorRec) →
        monitor_of w.common o ≡ Some m → WaitsNowhere m p
    nowhere w p top blocked is o m at =
        let there = is_there w p top is in
        unblocked_nowhere w o p m there.proc blocked at there.there (ap is_blocked there.ready)

    settled_good : (w : World A) (p : ℕ) (top : A) (d : Common) (o : Outcome) (g : List ObjectRec × List ℕ) →
        ((x : ℕ) → Good P (class_if d.classes (class_of (object_at g.0 x))) (monitor_in g.0 x)) →
        EachGood P (settled M w p (below_of (stack_at w p)) top d o g).common
    settled_good w p top d o (objects, freed) h = h

    action_good : (w : World A) (p : ℕ) → Holds w → EachGood P (Action M w p).common
    action_good w p h =
        by_action M w p (λ v. EachGood P v.common) h.good
        (λ a d o e g k.
        let who = who_of M p (below_of (stack_at w p)) a.top in
        settled_good w p a.top d o g
        (subst (λ (t : List ObjectRec × List ℕ). (x : ℕ) → Good P (class_if d.classes (class_of (object_at t.0 x))) (monitor_in t.0 x)) k
        (given_good d.classes p (owns_of M (below_of (stack_at w p)) a.top) o.effect d.objects
        (subst (λ (t : Done). EachGood P t.0) e
        (does_good w.common (done w.common who a.doing).0 who a.doing (does w.common who a.doing)
        (λ m at. nowhere w p a.top h.blocked a.is_top who.own m at) h.good)))))

    module _ (advance : Common → A → Common × A) (steps : StepsStay M advance) where
      advanced_good : (w : World A) (p : ℕ) (x : Common × A) → EachGood P x.0 → EachGood P (advanced M advance w p (below_of (stack_at w p)) x).common
      advanced_good w p (c, top) h = h

      step_good : (c : Common) (a : A) → EachGood P c → EachGood P (advance c a).0
      step_good c a good x =
          subst (λ t. Good P (class_on (advance c a).0 x) t) (sym (steps.monitors c a x))
          (subst (λ k. Good P k (monitor_of c x))
          (sym (ap (λ ks. class_if ks (class_of (object_at (advance c a).0.objects x))) (steps.classes c a)
          ∙ ap (class_if c.classes) (steps.objects c a x))) (good x))

      pub kept_good : IsKept M advance Holds
      kept_good = record {
        acts = λ w p h. record { blocked = action_blocked M w p h.blocked; good = action_good w p h };
        goes = λ w p h. record {
          blocked = go_on_blocked M advance steps.monitors w p h.blocked;
          good =
              by_silent M w p (λ v. EachGood P v.common) h.good advance
              (λ top is done x e.
              advanced_good w p x (subst (λ (t : Common × A). EachGood P t.0) e (step_good w.common top h.good)));
        };
        moves = λ w o k h. record {
          blocked = move_blocked M w o k h.blocked;
          good = by_move M w (λ v. EachGood P v.common) h.good (λ events x. h.good x) o k;
        };
      }

    first_at : (classes : List ClassRec) (n i : ℕ) →
        Good P (class_if classes (class_of (slice_get (replicate n node_object ++ program_object ∷ []) i)))
        (monitor_if (slice_get (replicate n node_object ++ program_object ∷ []) i))
    first_at classes zero zero = record { fits = tt; holds = tt }
    first_at classes zero (suc i) = record { fits = tt; holds = tt }
    first_at classes (suc n) zero = record { fits = tt; holds = tt }
    first_at classes (suc n) (suc i) = first_at classes n i

    first_good : (n : ℕ) (classes : List ClassRec) (globals : List ValueType) → EachGood P (first_world M n classes globals).common
    first_good n classes globals zero = record { fits = tt; holds = tt }
    first_good n classes globals (suc i) = first_at classes n i

    pub first_holds : (n : ℕ) (classes : List ClassRec) (globals : List ValueType) → Holds (first_world M n classes globals)
    first_holds n classes globals = record { blocked = first_blocked M n classes globals; good = first_good n classes globals }

    pub runs_good : (advance : Common → A → Common × A) → StepsStay M advance → (n : ℕ) (classes : List ClassRec) (globals : List ValueType)
        (es : List RunEntry) → Holds (after_entries M advance (first_world M n classes globals) es)
    runs_good advance steps n classes globals es =
        by_entries M advance Holds (kept_good advance steps) (first_world M n classes globals) es (first_holds n classes globals)
