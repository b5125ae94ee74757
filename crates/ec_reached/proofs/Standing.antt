-- Who is blocked stands in the one queue that its status tells, entry by entry.
use Rattle.std.proofs.Common.{◌≡◌, ◌∙◌, ◌⊎◌, ◌∷◌, ◌++◌, ◌≤◌, ◌==◌, ℕ, zero, suc, Bool, true, false, [], List, length, Option}
use Rattle.std.proofs.Common.{Some, None, ⊎_elim, inl, inr, refl, sym, ap, subst, arith}
use Rattle.std.proofs.lemmas.Bool.Decides.{Decides-eqb}
use Rattle.std.proofs.lemmas.List.{append-nil}
use Rattle.std.specs.Prelude.{◌&&◌, nat_lt, slice_get, slice_set}
use Rattle.ec_base.proofs.Stacks.{stack_parts}
use Rattle.ec_base.specs.Stack.{below_of, top_of}
use Rattle.ec_monitors.specs.Monitors.{Granting, entered, is_held_by, left, signalled, waited}
use Rattle.ec_monitors.specs.Standing.{one_if, times_entering, times_in_queues, times_waiting}
use Rattle.ec_monitors.specs.declared.record.Entry.{Entry as Within}
use Rattle.ec_monitors.specs.declared.record.Entry.TheVariants.{Entered, Queued}
use Rattle.ec_monitors.specs.declared.record.Granted.{Granted}
use Rattle.ec_monitors.specs.declared.record.MonitorRec.{MonitorRec}
use Rattle.ec_world.proofs.Counting.{equal_case, one_itself}
use Rattle.ec_world.proofs.Members.{has_none, has_parts}
use Rattle.ec_world.proofs.Processes.{stands}
use Rattle.ec_world.specs.declared.class.ClassNo.{ClassNo}
use Rattle.ec_world.specs.declared.class.ClassRec.{ClassRec}
use Rattle.ec_world.specs.declared.common.Common.{Common}
use Rattle.ec_world.specs.declared.doing.Doing.{Doing}
use Rattle.ec_world.specs.declared.doing.Doing.TheVariants.{Passes, Prints, Defines, Stores, Makes, MakesVector, Invokes, Returns}
use Rattle.ec_world.specs.declared.doing.Doing.TheVariants.{Moves, Unfixes, Enters, Waits, Signals, Finishes, Breaks}
use Rattle.ec_world.specs.declared.doing.Outcome.{Outcome}
use Rattle.ec_world.specs.declared.doing.Section.{Section}
use Rattle.ec_world.specs.declared.object.ObjectRec.{ObjectRec}
use Rattle.ec_world.specs.declared.process.Proc.{Proc}
use Rattle.ec_world.specs.declared.process.ProcStatus.{ProcStatus}
use Rattle.ec_world.specs.declared.process.ProcStatus.TheVariants.{Ready, Entry, Cond, Urgent, Ended, Failed}
use Rattle.ec_world.specs.declared.run.RunEntry.{RunEntry}
use Rattle.ec_world.specs.declared.stop.Effect.{Effect}
use Rattle.ec_world.specs.declared.stop.Effect.TheVariants.{GoesOn, Calls, Leaves, Blocks, Ends, Fails}
use Rattle.ec_world.specs.declared.stop.Queue.{Queue}
use Rattle.ec_world.specs.declared.stop.Queue.TheVariants.{ForEntry, ForCondition, Urgently}
use Rattle.ec_world.specs.declared.stop.Stop.TheVariants as stop
use Rattle.ec_world.specs.declared.stop.Who.{Who}
use Rattle.ec_world.specs.declared.value.Value.{Value}
use Rattle.ec_world.specs.declared.value.ValueType.{ValueType}
use Rattle.ec_world.specs.declared.world.World.{World}
use Rattle.ec_world.specs.Doings.{conditions_of, doing_of}
use Rattle.ec_world.specs.Follows.{IsKept}
use Rattle.ec_world.specs.Group.{Has}
use Rattle.ec_world.specs.Meaning.{ActivationMeaning}
use Rattle.ec_world.specs.Objects.{class_at}
use Rattle.ec_world.specs.Outcomes.{Done, acting, all_granted, at_condition, by_holder, done, entering, entry_done, entry_effect, left_behind}
use Rattle.ec_world.specs.Outcomes.{made_object, monitor_of, return_done, section_on, signal_done, signal_effect, wait_done}
use Rattle.ec_world.specs.Run.{after_entries, first_world}
use Rattle.ec_world.specs.Sights.{sight_of}
use Rattle.ec_world.specs.Waiting.{times_blocked, times_blocked_if, times_queued_if}
use Rattle.ec_world.specs.World.{advanced, all_readied, begun_for, changed, given_up, owns_of, readied, settled, stack_at, who_of}
use Rattle.ec_reached.proofs.Asking.{and_false, asked_push, come_asks, may_ask}
use Rattle.ec_reached.proofs.DeepWorlds.{Whole, first_monitors, kept_whole, may_leave, no_queue, top_ends, first_whole}
use Rattle.ec_reached.proofs.Depths.{among_none, deep, hold_none, in_queues_none}
use Rattle.ec_reached.proofs.Doing.{does, monitor_after}
use Rattle.ec_reached.proofs.Holders.{HeldBy, IsGranted, given_after, granted_has, held_after, holds_if, later_has, waits_not}
use Rattle.ec_reached.proofs.Monitors.{monitor_in}
use Rattle.ec_reached.proofs.Procs.{EachAt, each_push, each_readied, each_set}
use Rattle.ec_reached.proofs.Steps.{Acting, by_action, by_entries, by_move, by_silent}
use Rattle.ec_reached.proofs.Table.{waits}
use Rattle.ec_reached.specs.Depths.{EachStands, MonitorFits, asked_of, times_asked, times_asked_if}
use Rattle.ec_reached.specs.Meant.{StaysItself, StepsStay, StepsStop, is_coming, is_entry}
use Rattle.ec_reached.specs.Stacks.{RestsAs, WaitsAt, class_on, is_wait}

-- ---- who begins to wait for a condition

abbrev is_waiting : Effect → Bool
is_waiting (Blocks ForCondition own) = true
is_waiting _ = false

module _ (c : Common) (who : Who) where
  made : (class : ClassNo) (given : List Value) (k : Option ClassRec) → is_waiting (made_object c who class given k).1.effect ≡ false
  made class given None = refl
  made class given (Some k) = refl

  entry_by : (w : Within) → is_waiting (entry_effect who.own w) ≡ false
  entry_by Entered = refl
  entry_by Queued = refl

  entering_by : (g : MonitorRec × Within) → is_waiting (entering c who.own g).1.effect ≡ false
  entering_by (m, w) = entry_by w

  entry : (t : Option MonitorRec) → is_waiting (entry_done c who t).1.effect ≡ false
  entry None = refl
  entry (Some m) = entering_by (entered m who.process)

  acts : (effect : Option Granted → Effect) (started : Option Section) (g : Granting) →
      ((r : Option Granted) → is_waiting (effect r) ≡ false) → is_waiting (acting c who.own effect started g).1.effect ≡ false
  acts effect started (m, r) h = h r

  signal_by : (r : Option Granted) → is_waiting (signal_effect who.own r) ≡ false
  signal_by None = refl
  signal_by (Some q) = refl

  signals : (condition : ℕ) (t : Option MonitorRec) → is_waiting (signal_done c who condition t).1.effect ≡ false
  signals condition None = refl
  signals condition (Some m) =
      acts (signal_effect who.own) None (by_holder who.process m (at_condition m condition (signalled m condition))) signal_by

  leaves : (given : Option Value) (started : Option Section) (t : Option MonitorRec) →
      is_waiting (left_behind c who given started t).1.effect ≡ false
  leaves given started None = refl
  leaves given started (Some m) = acts (λ granted. Leaves given) started (by_holder who.process m (left m)) (λ r. refl)

  returns : (given : Option Value) (inside : Bool) (started : Option Section) →
      is_waiting (return_done c who given inside started).1.effect ≡ false
  returns given true started = leaves given started (monitor_of c who.own)
  returns given false started = refl

  pub waits_by : (condition : ℕ) (t : Option MonitorRec) (m : MonitorRec) → t ≡ Some m →
      (wait_done c who condition t).1.effect ≡ Blocks ForCondition who.own
  waits_by condition None m e = absurd cc
  waits_by condition (Some n) m e = by (by_holder who.process n (at_condition n condition (waited n condition)))
    where
      by : (g : Granting) → (acting c who.own (λ granted. Blocks ForCondition who.own) None g).1.effect ≡ Blocks ForCondition who.own
      by (m, r) = refl

module _ {A : Type 0} (M : ActivationMeaning A) where
  waits_free : (below : List A) (top : A) (e : Effect) (x : ℕ) → is_waiting e ≡ false →
      times_blocked ForCondition x (changed M below top e).status ≡ 0
  waits_free below top (GoesOn given) x e = refl
  waits_free below top (Calls op own args) x e = refl
  waits_free below top (Leaves given) x e = refl
  waits_free below top (Blocks ForEntry own) x e = refl
  waits_free below top (Blocks ForCondition own) x e = absurd cc
  waits_free below top (Blocks Urgently own) x e = refl
  waits_free below top Ends x e = refl
  waits_free below top (Fails why line) x e = refl

  -- whoever holds a monitor doesn't wait for a condition of it
  abbrev pub GoesOnIf : Option MonitorRec → ℕ → ℕ → Proc A → Type 0
  GoesOnIf t x q proc = holds_if t q ≡ true → times_blocked ForCondition x proc.status ≡ 0

  abbrev pub HoldersGoOn : World A → Type 0
  HoldersGoOn w = (x : ℕ) → EachAt (GoesOnIf (monitor_of w.common x) x) w.processes

  pub record Ordered (classes : List ClassRec) (stays : StaysItself M) (w : World A) : Type 0 where
    pub whole : Whole M stays classes w
    pub holders : HoldersGoOn w

-- who was granted a monitor is Ready
set_ready : {A : Type 0} (ps : List (Proc A)) (g : ℕ) (t : Option (Proc A)) → slice_get ps g ≡ t →
    EachAt (λ q proc. q ≡ g → proc.status ≡ Ready) (readied ps g t)
set_ready ps g None e = λ q proc f s. absurd (let k : slice_get ps q ≡ slice_get ps g = ap (slice_get ps) s in cc)
set_ready ps g (Some old) e =
    each_set (λ q proc. q ≡ g → proc.status ≡ Ready) ps g (record old { status = Ready }) (λ q proc n f s. absurd (n s)) (λ s. refl)

granted_ready : {A : Type 0} (ps : List (Proc A)) (gs : List ℕ) (q : ℕ) (proc : Proc A) → Has gs q →
    slice_get (all_readied ps gs) q ≡ Some proc → proc.status ≡ Ready
granted_ready ps [] q proc h e = absurd (has_none q h)
granted_ready {A = A} ps (g ∷ gs) q proc h e = ⊎_elim
    (λ (s : q ≡ g).
    each_readied (λ (r : ℕ) (one : Proc A). r ≡ g → one.status ≡ Ready) (λ r one k i. refl) (readied ps g (slice_get ps g)) gs
    (set_ready ps g (slice_get ps g) refl) q proc e s)
    (λ (k : Has gs q). granted_ready (readied ps g (slice_get ps g)) gs q proc k e)
    (has_parts g q gs h)

module _ {A : Type 0} (M : ActivationMeaning A) (stays : StaysItself M) (classes : List ClassRec) where
  module _ (w : World A) (p : ℕ) (h : Ordered M classes stays w) (a : Acting M w p) where
    abbrev c : Common
    c = w.common

    abbrev below : List A
    below = below_of (stack_at w p)

    abbrev who : Who
    who = who_of M p below a.top

    abbrev owns : List ℕ
    owns = owns_of M below a.top

    -- ---- the process that acts

    abbrev Mine : Done → Type 0
    Mine t =
        (x : ℕ) → holds_if (monitor_in (given_up p owns t.1.effect t.0.objects).0 x) p ≡ true →
        times_blocked ForCondition x (changed M below a.top t.1.effect).status ≡ 0

    wait_coming : (condition : ℕ) → M.stop a.top ≡ stop.Wait condition → is_coming M a.top ≡ false
    wait_coming condition e = ap (λ t. is_entry t && M.is_pending a.top) e

    known : (condition : ℕ) (k : Option ClassRec) (m : MonitorRec) → MonitorFits k (Some m) → nat_lt condition (conditions_of k) ≡ true →
        nat_lt condition (length m.conditions) ≡ true
    known condition None m f e = absurd f
    known condition (Some k) m f e = ap (λ n. nat_lt condition n) f.1 ∙ e

    wait_mine : (condition : ℕ) → doing_of (sight_of c) who (M.stop a.top) (M.operands a.top) ≡ Some (Waits condition) →
        Mine (done c who (Waits condition))
    wait_mine condition e x =
        let s = waits (sight_of c) who (M.stop a.top) (M.operands a.top) condition e in
        let may = may_leave M stays w p h.whole.stacks h.whole.good h.whole.depths a (top_ends M stays classes w p a h.whole)
        (wait_coming condition s.0) s.1 in
        let n = no_queue M stays w p h.whole.stacks h.whole.good h.whole.depths a (top_ends M stays classes w p a h.whole) who.own may.monitor may.is in
        let fits : MonitorFits (class_on c who.own) (Some may.monitor) =
        subst (λ t. MonitorFits (class_on c who.own) t) may.is (h.whole.good.good who.own).fits in
        let lets : is_held_by (monitor_after p (Waits condition) may.monitor) p ≡ false =
        waits_not may.monitor condition p may.held n (known condition (class_on c who.own) may.monitor fits s.2) in
        let d : Common = (done c who (Waits condition)).0 in
        let now : monitor_of d who.own ≡ Some (monitor_after p (Waits condition) may.monitor) =
        (does c who (Waits condition)).own may.monitor may.is in
        subst
        (λ (t : Effect).
        holds_if (monitor_in (given_up p owns t d.objects).0 x) p ≡ true → times_blocked ForCondition x (changed M below a.top t).status ≡ 0)
        (sym (waits_by c who condition (monitor_of c who.own) may.monitor may.is))
        (λ held.
        equal_case (λ b. one_if (true && b) ≡ 0) who.own x
        (λ same.
        absurd
        (let k : holds_if (monitor_of d who.own) p ≡ true = subst (λ y. holds_if (monitor_of d y) p ≡ true) (sym same) held in
        let f : holds_if (monitor_of d who.own) p ≡ false = ap (λ t. holds_if t p) now ∙ lets in
        cc))
        (λ other. refl))

    mine : (doing : Doing) → doing_of (sight_of c) who (M.stop a.top) (M.operands a.top) ≡ Some doing → Mine (done c who doing)
    mine (Waits condition) e = wait_mine condition e
    mine (Returns given inside section) e =
        λ x held. waits_free M below a.top (done c who (Returns given inside section)).1.effect x
        (returns c who given inside (section_on who.own section))
    mine (Makes class given) e =
        λ x held. waits_free M below a.top (done c who (Makes class given)).1.effect x (made c who class given (class_at c.classes class))
    mine Enters e = λ x held. waits_free M below a.top (done c who Enters).1.effect x (entry c who (monitor_of c who.own))
    mine (Signals condition) e =
        λ x held. waits_free M below a.top (done c who (Signals condition)).1.effect x (signals c who condition (monitor_of c who.own))
    mine (Passes given) e = λ x held. refl
    mine (Prints s) e = λ x held. refl
    mine (Defines index v) e = λ x held. refl
    mine (Stores oid i v) e = λ x held. refl
    mine (MakesVector of n) e = λ x held. refl
    mine (Invokes op own args) e = λ x held. refl
    mine (Moves members to fixes) e = λ x held. refl
    mine (Unfixes x) e = λ y held. refl
    mine Finishes e = λ x held. refl
    mine (Breaks why line) e = λ x held. refl

    -- ---- all

    record Facts (t : Done) : Type 0 where
      pub mine : Mine t
      pub held : (x q : ℕ) → holds_if (monitor_of t.0 x) q ≡ true → HeldBy (monitor_of c x) t.1.granted p q

    facts : Facts (done c who a.doing)
    facts = record { mine = mine a.doing a.asks; held = held_after c who a.doing }

    module _ (d : Common) (o : Outcome) (f : Facts (d, o)) (objects : List ObjectRec) (freed : List ℕ)
        (is : given_up p owns o.effect d.objects ≡ (objects, freed)) (x : ℕ) where
      abbrev ps : List (Proc A)
      ps = slice_set w.processes p (changed M below a.top o.effect)

      abbrev gs : List ℕ
      gs = all_granted o.granted freed

      abbrev Known : ℕ → Type 0
      Known q = (holds_if (monitor_of c x) q ≡ true) ⊎ (q ≡ p)

      -- whoever holds a monitor did before, or is the one that acted, or was granted it
      from_given : (q : ℕ) → holds_if (monitor_in objects x) q ≡ true → (holds_if (monitor_of d x) q ≡ true) ⊎ Has freed q
      from_given q held =
          subst
          (λ (t : List ObjectRec × List ℕ). holds_if (monitor_in t.0 x) q ≡ true → (holds_if (monitor_of d x) q ≡ true) ⊎ Has t.1 q) is
          (given_after p owns o.effect d.objects x q) held

      where_from : (q : ℕ) → holds_if (monitor_in objects x) q ≡ true → Known q ⊎ Has gs q
      where_from q held = ⊎_elim
          (λ (k : holds_if (monitor_of d x) q ≡ true). ⊎_elim
          (λ (i : (holds_if (monitor_of c x) q ≡ true) ⊎ IsGranted o.granted q). ⊎_elim
          (λ (j : holds_if (monitor_of c x) q ≡ true). inl (inl j))
          (λ (j : IsGranted o.granted q). inr (granted_has o.granted freed q j))
          i)
          (λ (i : q ≡ p). inl (inr i))
          (f.held x q k))
          (λ (k : Has freed q). inr (later_has o.granted freed q k))
          (from_given q held)

      abbrev Goes : ℕ → Proc A → Type 0
      Goes q proc = holds_if (monitor_in objects x) q ≡ true → Known q → times_blocked ForCondition x proc.status ≡ 0

      p_goes : Goes p (changed M below a.top o.effect)
      p_goes held k =
          subst
          (λ (t : List ObjectRec × List ℕ). holds_if (monitor_in t.0 x) p ≡ true →
          times_blocked ForCondition x (changed M below a.top o.effect).status ≡ 0) is (f.mine x) held

      set_goes : EachAt Goes ps
      set_goes =
          each_set Goes w.processes p (changed M below a.top o.effect)
          (λ q proc n e held k. ⊎_elim
          (λ (i : holds_if (monitor_of c x) q ≡ true). h.holders x q proc e i)
          (λ (i : q ≡ p). absurd (n i)) k)
          p_goes

      all_goes : EachAt Goes (all_readied ps gs)
      all_goes = each_readied Goes (λ q proc g held k. refl) ps gs set_goes

      all_hold : EachAt (GoesOnIf M (monitor_in objects x) x) (all_readied ps gs)
      all_hold q proc e held = ⊎_elim
          (λ (k : Known q). all_goes q proc e held k)
          (λ (k : Has gs q). ap (times_blocked ForCondition x) (granted_ready ps gs q proc k e))
          (where_from q held)

      begun_hold : (started : Option Section) → EachAt (GoesOnIf M (monitor_in objects x) x) (all_readied ps gs ++ begun_for M started)
      begun_hold None = subst (λ zs. EachAt (GoesOnIf M (monitor_in objects x) x) zs) (sym (append-nil (all_readied ps gs))) all_hold
      begun_hold (Some s) =
          each_push (GoesOnIf M (monitor_in objects x) x) (all_readied ps gs)
          (record { activations = M.begun s.operation s.own [] ∷ []; status = Ready }) all_hold (λ held. refl)

    settled_by : (d : Common) (o : Outcome) → Facts (d, o) → (g : List ObjectRec × List ℕ) → given_up p owns o.effect d.objects ≡ g →
        HoldersGoOn M (settled M w p below a.top d o g)
    settled_by d o f (objects, freed) is x = begun_hold d o f objects freed is x o.started

    acting_hold : (d : Common) (o : Outcome) → done c who a.doing ≡ (d, o) → (g : List ObjectRec × List ℕ) →
        given_up p owns o.effect d.objects ≡ g → HoldersGoOn M (settled M w p below a.top d o g)
    acting_hold d o e g k = settled_by d o (subst (λ t. Facts t) e facts) g k

  module _ (advance : Common → A → Common × A) (steps : StepsStay M advance) (stop_at : StepsStop M advance classes) where
    advanced_hold : (w : World A) (p : ℕ) → HoldersGoOn M w → (x : Common × A) →
        ((o : ℕ) → monitor_of x.0 o ≡ monitor_of w.common o) → HoldersGoOn M (advanced M advance w p (below_of (stack_at w p)) x)
    advanced_hold w p h (c, top) same o =
        each_set (GoesOnIf M (monitor_of c o) o) w.processes p
        (record { activations = below_of (stack_at w p) ++ top ∷ []; status = Ready })
        (λ q proc n e held. h o q proc e (subst (λ t. holds_if t q ≡ true) (same o) held)) (λ held. refl)

    pub kept_ordered : IsKept M advance (Ordered M classes stays)
    kept_ordered = record {
      acts = λ w p h. record {
        whole = (kept_whole M stays classes advance steps stop_at).acts w p h.whole;
        holders =
            by_action M w p (λ v. HoldersGoOn M v) h.holders (λ a d o e g k. acting_hold w p h a d o e g k);
      };
      goes = λ w p h. record {
        whole = (kept_whole M stays classes advance steps stop_at).goes w p h.whole;
        holders =
            by_silent M w p (λ v. HoldersGoOn M v) h.holders advance
            (λ top is done x e.
            advanced_hold w p h.holders x
            (subst (λ (t : Common × A). (o : ℕ) → monitor_of t.0 o ≡ monitor_of w.common o) e (steps.monitors w.common top)));
      };
      moves = λ w o k h. record {
        whole = (kept_whole M stays classes advance steps stop_at).moves w o k h.whole;
        holders = by_move M w (λ v. HoldersGoOn M v) h.holders (λ events. h.holders) o k;
      };
    }

    pub first_ordered : (n : ℕ) (globals : List ValueType) → Ordered M classes stays (first_world M n classes globals)
    first_ordered n globals = record {
      whole = first_whole M stays classes advance steps stop_at n globals;
      holders = λ x q proc e held. absurd (let k = ap (λ t. holds_if t q) (first_monitors n x) in cc);
    }

    pub runs_ordered : (n : ℕ) (globals : List ValueType) (es : List RunEntry) →
        Ordered M classes stays (after_entries M advance (first_world M n classes globals) es)
    runs_ordered n globals es =
        by_entries M advance (Ordered M classes stays) kept_ordered (first_world M n classes globals) es (first_ordered n globals)

  -- ---- what it tells of queues

  module _ (w : World A) (h : Ordered M classes stays w) where
    queue_some : (o q : ℕ) (m : MonitorRec) (proc : Proc A) → monitor_of w.common o ≡ Some m → slice_get w.processes q ≡ Some proc →
        proc.status ≡ Cond o → 1 ≤ deep m q → 1 ≤ times_in_queues q m.conditions
    queue_some o q m proc at there is l = by (times_in_queues q m.conditions) refl
      where
        shown : (queue : Queue) → times_blocked_if queue o (slice_get w.processes q) ≡ times_blocked queue o (Cond o)
        shown queue = ap (λ (t : Option (Proc A)). times_blocked_if queue o t) there ∙ ap (times_blocked queue o) is

        one : times_blocked ForCondition o proc.status ≡ 1
        one = ap (times_blocked ForCondition o) is ∙ one_itself o o refl

        free : is_held_by m q ≡ false
        free = not_held (is_held_by m q) refl
          where
            not_held : (b : Bool) → is_held_by m q ≡ b → is_held_by m q ≡ false
            not_held false e = e
            not_held true e =
                absurd (let z = h.holders o q proc there (ap (λ t. holds_if t q) at ∙ e) in let i = one in omega arith)

        by : (n : ℕ) → times_in_queues q m.conditions ≡ n → 1 ≤ times_in_queues q m.conditions
        by (suc n) e = omega arith
        by zero e =
            let c = in_queues_none q m.conditions e in
            let d = hold_none q m.holder free in
            let en : times_entering q m.entry ≡ 0 =
            ap (λ (t : Option MonitorRec). times_queued_if ForEntry t q) (sym at) ∙ h.whole.good.blocked.entry o q ∙ shown ForEntry in
            let ur : times_waiting q m.urgent ≡ 0 =
            ap (λ (t : Option MonitorRec). times_queued_if Urgently t q) (sym at) ∙ h.whole.good.blocked.urgent o q ∙ shown Urgently in
            let among = among_none q m.urgent ur in
            absurd (omega arith)

    monitor_some : (o q : ℕ) (t : Option MonitorRec) → monitor_of w.common o ≡ t → 1 ≤ asked_of t q → (proc : Proc A) →
        slice_get w.processes q ≡ Some proc → proc.status ≡ Cond o → 1 ≤ times_queued_if ForCondition t q
    monitor_some o q None at l proc there is = absurd (omega arith)
    monitor_some o q (Some m) at l proc there is = queue_some o q m proc at there is l

    asked_top : (o : ℕ) (all : List A) → WaitsAt M w.common is_wait o (top_of all) → 1 ≤ times_asked M w.common o all
    asked_top o all k =
        let parts = stack_parts all k.of k.is_top in
        let coming : is_coming M k.of ≡ false = ap (λ b. is_entry (M.stop k.of) && b) k.done ∙ and_false (is_entry (M.stop k.of)) in
        let one = come_asks M w.common o k.of coming in
        let may : may_ask M w.common o k.of ≡ 1 =
        ap (λ b. one_if ((M.own k.of == o) && b)) k.within ∙ ap (λ b. one_if (b && true)) ((Decides-eqb (M.own k.of) o).1 k.own) in
        let push = asked_push M w.common o (below_of all) k.of in
        let same : times_asked M w.common o all ≡ times_asked M w.common o (below_of all ++ k.of ∷ []) = ap (times_asked M w.common o) parts in
        omega arith

    waiting_stands : (o q : ℕ) → 1 ≤ times_blocked_if ForCondition o (slice_get w.processes q) →
        1 ≤ times_queued_if ForCondition (monitor_of w.common o) q
    waiting_stands o q l =
        let s = stands w.processes ForCondition o q l in
        let f = h.whole.stacks q s.proc s.there in
        let rests : WaitsAt M w.common is_wait o (top_of s.proc.activations) =
        subst (λ t. RestsAs M w.common t (top_of s.proc.activations)) s.is f.rests in
        let asked = asked_top o s.proc.activations rests in
        let depths = h.whole.depths o q in
        let e : times_asked_if M w.common o (slice_get w.processes q) ≡ times_asked M w.common o s.proc.activations =
        ap (times_asked_if M w.common o) s.there in
        monitor_some o q (monitor_of w.common o) refl (omega arith) s.proc s.there s.is

    at_most : (o q : ℕ) → times_blocked_if ForCondition o (slice_get w.processes q) ≤ 1
    at_most o q = by (slice_get w.processes q)
      where
        one : (b : Bool) → one_if b ≤ 1
        one true = omega arith
        one false = omega arith

        status : (s : ProcStatus) → times_blocked ForCondition o s ≤ 1
        status Ready = omega arith
        status (Entry x) = omega arith
        status (Cond x) = one (x == o)
        status (Urgent x) = omega arith
        status Ended = omega arith
        status (Failed why line) = omega arith

        by : (t : Option (Proc A)) → times_blocked_if ForCondition o t ≤ 1
        by None = omega arith
        by (Some proc) = status proc.status

    pub each_stands : EachStands w
    each_stands ForEntry o q = h.whole.good.blocked.entry o q
    each_stands Urgently o q = h.whole.good.blocked.urgent o q
    each_stands ForCondition o q =
        by (times_blocked_if ForCondition o (slice_get w.processes q)) refl (h.whole.good.blocked.condition o q) (at_most o q)
        (waiting_stands o q)
      where
        by : (n : ℕ) → times_blocked_if ForCondition o (slice_get w.processes q) ≡ n →
            times_queued_if ForCondition (monitor_of w.common o) q ≤ times_blocked_if ForCondition o (slice_get w.processes q) →
            times_blocked_if ForCondition o (slice_get w.processes q) ≤ 1 →
            (1 ≤ times_blocked_if ForCondition o (slice_get w.processes q) → 1 ≤ times_queued_if ForCondition (monitor_of w.common o) q) →
            times_queued_if ForCondition (monitor_of w.common o) q ≡ times_blocked_if ForCondition o (slice_get w.processes q)
        by zero e l m f = omega arith
        by (suc n) e l m f = let k = f (omega arith) in omega arith
