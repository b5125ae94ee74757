-- Whoever stands in the queue of a condition waits for this one, in worlds entry by entry.
use Rattle.std.proofs.Common.{◌≡◌, ◌≢◌, ◌∙◌, ◌⊎◌, ◌∷◌, ◌++◌, ℕ, zero, suc, false, [], List, Option, Some, None}
use Rattle.std.proofs.Common.{⊎_elim, inl, inr, refl, sym, ap, subst}
use Rattle.std.specs.Prelude.{◌&&◌, slice_get, slice_set}
use Rattle.ec_base.proofs.Lists.{get_set_other, get_set_same, get_within}
use Rattle.ec_base.proofs.Stacks.{top_of-push}
use Rattle.ec_base.specs.Stack.{below_of, top_of}
use Rattle.ec_monitors.proofs.Depths.{each_deep}
use Rattle.ec_monitors.specs.Laws.{HasDepths}
use Rattle.ec_monitors.specs.Standing.{WaitsNowhere}
use Rattle.ec_monitors.specs.declared.record.Hold.{Hold}
use Rattle.ec_monitors.specs.declared.record.MonitorRec.{MonitorRec}
use Rattle.ec_world.proofs.Keys.{same_or_not}
use Rattle.ec_world.specs.declared.class.ClassRec.{ClassRec}
use Rattle.ec_world.specs.declared.common.Common.{Common}
use Rattle.ec_world.specs.declared.doing.Doing.{Doing}
use Rattle.ec_world.specs.declared.doing.Doing.TheVariants.{Passes, Prints, Defines, Stores, Makes, MakesVector, Invokes, Returns}
use Rattle.ec_world.specs.declared.doing.Doing.TheVariants.{Moves, Unfixes, Enters, Waits, Signals, Finishes, Breaks}
use Rattle.ec_world.specs.declared.doing.Outcome.{Outcome}
use Rattle.ec_world.specs.declared.object.ObjectRec.{ObjectRec}
use Rattle.ec_world.specs.declared.process.Proc.{Proc}
use Rattle.ec_world.specs.declared.process.ProcStatus.TheVariants.{Ready}
use Rattle.ec_world.specs.declared.stop.Effect.{Effect}
use Rattle.ec_world.specs.declared.stop.Stop.TheVariants as stop
use Rattle.ec_world.specs.declared.stop.Who.{Who}
use Rattle.ec_world.specs.declared.value.ValueType.{ValueType}
use Rattle.ec_world.specs.declared.world.World.{World}
use Rattle.ec_world.specs.Doings.{doing_of}
use Rattle.ec_world.specs.Meaning.{ActivationMeaning}
use Rattle.ec_world.specs.Moves.{OperatorMove}
use Rattle.ec_world.specs.Outcomes.{Done, all_granted, done, monitor_of}
use Rattle.ec_world.specs.Run.{first_world}
use Rattle.ec_world.specs.Sights.{sight_of}
use Rattle.ec_world.specs.World.{Action, GoOn, advanced, all_readied, begun_for, changed, given_up, owns_of, readied, settled, stack_at, who_of}
use Rattle.ec_reached.proofs.Conditions.{IsInIf, does_in, given_in, nowhere_in, waits_for}
use Rattle.ec_reached.proofs.DeepWorlds.{first_monitors, may_leave, top_ends}
use Rattle.ec_reached.proofs.Monitors.{monitor_in, nowhere}
use Rattle.ec_reached.proofs.Standing.{Ordered, waits_by}
use Rattle.ec_reached.proofs.Steps.{Acting, by_action, by_move, by_silent, is_there}
use Rattle.ec_reached.proofs.Table.{waits}
use Rattle.ec_reached.specs.Depths.{QueuesFit, WaitsFor}
use Rattle.ec_reached.specs.Meant.{StaysItself, StepsStay, is_coming, is_entry}

-- ---- processes stay

module _ {A : Type 0} where
  -- a process is there with these activations
  record Has (ps : List (Proc A)) (q : ℕ) (all : List A) : Type 0 where
    pub proc : Proc A
    pub there : slice_get ps q ≡ Some proc
    pub is : proc.activations ≡ all

  set_has : (ps : List (Proc A)) (i q : ℕ) (new : Proc A) (all : List A) → q ≢ i → Has ps q all → Has (slice_set ps i new) q all
  set_has ps i q new all n h = record { proc = h.proc; there = get_set_other ps i q new n ∙ h.there; is = h.is }

  one_readied : (ps : List (Proc A)) (g q : ℕ) (t : Option (Proc A)) → slice_get ps g ≡ t → (all : List A) → Has ps q all →
      Has (readied ps g t) q all
  one_readied ps g q None e all h = h
  one_readied ps g q (Some old) e all h = ⊎_elim
      (λ (s : q ≡ g).
      let same : h.proc ≡ old = (let f = h.there in let k : slice_get ps q ≡ slice_get ps g = ap (slice_get ps) s in cc) in
      subst (λ z. Has (slice_set ps g (record old { status = Ready })) z all) (sym s)
      (record {
        proc = record old { status = Ready };
        there = get_set_same ps g (record old { status = Ready }) (get_within ps g old e);
        is = ap (λ (z : Proc A). z.activations) (sym same) ∙ h.is;
      }))
      (λ (n : q ≢ g). set_has ps g q (record old { status = Ready }) all n h)
      (same_or_not q g)

  readied_has : (ps : List (Proc A)) (gs : List ℕ) (q : ℕ) (all : List A) → Has ps q all → Has (all_readied ps gs) q all
  readied_has ps [] q all h = h
  readied_has ps (g ∷ gs) q all h =
      readied_has (readied ps g (slice_get ps g)) gs q all (one_readied ps g q (slice_get ps g) refl all h)

  front_get : (xs ys : List (Proc A)) (q : ℕ) (x : Proc A) → slice_get xs q ≡ Some x → slice_get (xs ++ ys) q ≡ Some x
  front_get [] ys q x e = absurd cc
  front_get (y ∷ xs) ys zero x e = e
  front_get (y ∷ xs) ys (suc q) x e = front_get xs ys q x e

  front_has : (xs ys : List (Proc A)) (q : ℕ) (all : List A) → Has xs q all → Has (xs ++ ys) q all
  front_has xs ys q all h = record { proc = h.proc; there = front_get xs ys q h.proc h.there; is = h.is }

wait_is : (doing : Doing) (i : ℕ) → waits_for doing ≡ Some i → doing ≡ Waits i
wait_is (Waits n) i e = let same : n ≡ i = cc in ap Waits same
wait_is (Passes given) i e = absurd cc
wait_is (Prints s) i e = absurd cc
wait_is (Defines index v) i e = absurd cc
wait_is (Stores oid n v) i e = absurd cc
wait_is (Makes class given) i e = absurd cc
wait_is (MakesVector of n) i e = absurd cc
wait_is (Invokes op own args) i e = absurd cc
wait_is (Returns given inside section) i e = absurd cc
wait_is (Moves members to fixes) i e = absurd cc
wait_is (Unfixes x) i e = absurd cc
wait_is Enters i e = absurd cc
wait_is (Signals n) i e = absurd cc
wait_is Finishes i e = absurd cc
wait_is (Breaks why line) i e = absurd cc

module _ {A : Type 0} (M : ActivationMeaning A) where
  -- an activation on top rests at a wait for the condition of a number
  record TopWaits (all : List A) (i : ℕ) : Type 0 where
    pub of : A
    pub is_top : top_of all ≡ Some of
    pub rests : M.stop of ≡ stop.Wait i

  waits_has : (ps : List (Proc A)) (i q : ℕ) (w : WaitsFor M ps i q) → Has ps q w.proc.activations
  waits_has ps i q w = record { proc = w.proc; there = w.there; is = refl }

  has_waits : (ps : List (Proc A)) (i q : ℕ) (all : List A) → TopWaits all i → Has ps q all → WaitsFor M ps i q
  has_waits ps i q all t h = record { proc = h.proc; there = h.there; of = t.of; is_top = ap top_of h.is ∙ t.is_top; rests = t.rests }

  top_waits : (ps : List (Proc A)) (i q : ℕ) (w : WaitsFor M ps i q) → TopWaits w.proc.activations i
  top_waits ps i q w = record { of = w.of; is_top = w.is_top; rests = w.rests }

  -- by monitors that may be there
  abbrev Queued : World A → Type 0
  Queued w = (x i : ℕ) (h : Hold) → IsInIf (monitor_of w.common x) i h → WaitsFor M w.processes i h.process

  by_option : (ps : List (Proc A)) (t : Option MonitorRec) (i : ℕ) (h : Hold) →
      ((m : MonitorRec) (queue : List Hold) → t ≡ Some m → slice_get m.conditions i ≡ Some queue → Rattle.ec_world.specs.Group.Has queue h →
      WaitsFor M ps i h.process) → IsInIf t i h → WaitsFor M ps i h.process
  by_option ps None i h f k = absurd k
  by_option ps (Some m) i h f k = f m k.queue refl k.is k.has

  queued : (w : World A) → QueuesFit M w → Queued w
  queued w f x i h k = by_option w.processes (monitor_of w.common x) i h (λ m queue at is has. f x i m queue h at is has) k

  fit : (w : World A) → Queued w → QueuesFit M w
  fit w f x i m queue h at is has =
      f x i h (subst (λ t. IsInIf t i h) (sym at) (record { queue = queue; is = is; has = has }))

  -- a process that waits nowhere stands in no queue
  apart : (t : Option MonitorRec) (p i : ℕ) (h : Hold) → ((m : MonitorRec) → t ≡ Some m → WaitsNowhere m p) → IsInIf t i h → h.process ≢ p
  apart None p i h n k e = k
  apart (Some m) p i h n k e = nowhere_in m i h (subst (λ q. WaitsNowhere m q) (sym e) (n m refl)) k

  module _ (stays : StaysItself M) (classes : List ClassRec) where
    module _ (w : World A) (p : ℕ) (h : Ordered M classes stays w) (old : Queued w) (a : Acting M w p) where
      abbrev c : Common
      c = w.common

      abbrev below : List A
      below = below_of (stack_at w p)

      abbrev who : Who
      who = who_of M p below a.top

      abbrev owns : List ℕ
      owns = owns_of M below a.top

      abbrev after : Effect → Proc A
      after e = changed M below a.top e

      -- who stands in a queue stood there before, or is the one that acts, which waits
      record Facts (t : Done) : Type 0 where
        pub each :
            (x i : ℕ) (k : Hold) → IsInIf (monitor_of t.0 x) i k →
            IsInIf (monitor_of c x) i k ⊎ (TopWaits (after t.1.effect).activations i × (k.process ≡ p))

      wait_coming : (i : ℕ) → M.stop a.top ≡ stop.Wait i → is_coming M a.top ≡ false
      wait_coming i e = ap (λ t. is_entry t && M.is_pending a.top) e

      waiting_top : (i : ℕ) → doing_of (sight_of c) who (M.stop a.top) (M.operands a.top) ≡ Some (Waits i) →
          TopWaits (after (done c who (Waits i)).1.effect).activations i
      waiting_top i e =
          let s = waits (sight_of c) who (M.stop a.top) (M.operands a.top) i e in
          let may = may_leave M stays w p h.whole.stacks h.whole.good h.whole.depths a (top_ends M stays classes w p a h.whole)
          (wait_coming i s.0) s.1 in
          subst (λ (t : Effect). TopWaits (after t).activations i) (sym (waits_by c who i (monitor_of c who.own) may.monitor may.is))
          (record {
            of = M.finished a.top None;
            is_top = top_of-push below (M.finished a.top None);
            rests = (stays.finished a.top None).stop ∙ s.0;
          })

      mine : (doing : Doing) (i : ℕ) → doing ≡ Waits i → doing_of (sight_of c) who (M.stop a.top) (M.operands a.top) ≡ Some doing →
          TopWaits (after (done c who doing).1.effect).activations i
      mine doing i e asks =
          subst (λ (t : Doing). TopWaits (after (done c who t).1.effect).activations i) (sym e)
          (waiting_top i (subst (λ t. doing_of (sight_of c) who (M.stop a.top) (M.operands a.top) ≡ Some t) e asks))

      facts : Facts (done c who a.doing)
      facts = record {
        each = λ x i k j. ⊎_elim
            (λ (l : IsInIf (monitor_of c x) i k). inl l)
            (λ (l : (waits_for a.doing ≡ Some i) × (k.process ≡ p)). inr (mine a.doing i (wait_is a.doing i l.0) a.asks, l.1))
            (does_in c who a.doing x i k j);
      }

      module _ (d : Common) (o : Outcome) (f : Facts (d, o)) (objects : List ObjectRec) (freed : List ℕ)
          (is : (given_up p owns o.effect d.objects).0 ≡ objects) where
        abbrev ps : List (Proc A)
        ps = slice_set w.processes p (after o.effect)

        abbrev all : List (Proc A)
        all = all_readied ps (all_granted o.granted freed) ++ begun_for M o.started

        kept_on : (q : ℕ) (xs : List A) → Has ps q xs → Has all q xs
        kept_on q xs k =
            front_has (all_readied ps (all_granted o.granted freed)) (begun_for M o.started) q xs
            (readied_has ps (all_granted o.granted freed) q xs k)

        before : (x i : ℕ) (k : Hold) → IsInIf (monitor_in objects x) i k → IsInIf (monitor_of d x) i k
        before x i k j =
            given_in p owns o.effect d.objects x i k (subst (λ (os : List ObjectRec). IsInIf (monitor_in os x) i k) (sym is) j)

        old_waits : (x i : ℕ) (k : Hold) → IsInIf (monitor_of c x) i k → WaitsFor M all i k.process
        old_waits x i k j =
            let v = old x i k j in
            let n = apart (monitor_of c x) p i k (λ m at. nowhere HasDepths each_deep M w p a.top h.whole.good.blocked a.is_top x m at) j in
            has_waits all i k.process v.proc.activations (top_waits w.processes i k.process v)
            (kept_on k.process v.proc.activations
            (set_has w.processes p k.process (after o.effect) v.proc.activations n (waits_has w.processes i k.process v)))

        new_waits : (i : ℕ) (k : Hold) → TopWaits (after o.effect).activations i → k.process ≡ p → WaitsFor M all i k.process
        new_waits i k t e =
            let there = is_there w p a.top a.is_top in
            subst (λ q. WaitsFor M all i q) (sym e)
            (has_waits all i p (after o.effect).activations t
            (kept_on p (after o.effect).activations
            (record {
              proc = after o.effect;
              there = get_set_same w.processes p (after o.effect) (get_within w.processes p there.proc there.there);
              is = refl;
            })))

        settled_queued : (x i : ℕ) (k : Hold) → IsInIf (monitor_in objects x) i k → WaitsFor M all i k.process
        settled_queued x i k j = ⊎_elim
            (λ (l : IsInIf (monitor_of c x) i k). old_waits x i k l)
            (λ (l : TopWaits (after o.effect).activations i × (k.process ≡ p)). new_waits i k l.0 l.1)
            (f.each x i k (before x i k j))

      settled_by : (d : Common) (o : Outcome) → Facts (d, o) → (g : List ObjectRec × List ℕ) → (given_up p owns o.effect d.objects).0 ≡ g.0 →
          Queued (settled M w p below a.top d o g)
      settled_by d o f (objects, freed) is = settled_queued d o f objects freed is

    pub action_queued : (w : World A) (p : ℕ) → Ordered M classes stays w → QueuesFit M w → QueuesFit M (Action M w p)
    action_queued w p h q =
        fit (Action M w p)
        (by_action M w p (λ v. Queued v) (queued w q)
        (λ a d o e g k.
        settled_by w p h (queued w q) a d o (subst (λ t. Facts w p h (queued w q) a t) e (facts w p h (queued w q) a)) g
        (ap (λ (t : List ObjectRec × List ℕ). t.0) k)))

    module _ (advance : Common → A → Common × A) (steps : StepsStay M advance) where
      advanced_queued : (w : World A) (p : ℕ) → Ordered M classes stays w → Queued w → (top : A) → top_of (stack_at w p) ≡ Some top →
          (x : Common × A) → ((o : ℕ) → monitor_of x.0 o ≡ monitor_of w.common o) → Queued (advanced M advance w p (below_of (stack_at w p)) x)
      advanced_queued w p h old top is (c, new) same x i k j =
          let was : IsInIf (monitor_of w.common x) i k = subst (λ t. IsInIf t i k) (same x) j in
          let v = old x i k was in
          let n = apart (monitor_of w.common x) p i k (λ m at. nowhere HasDepths each_deep M w p top h.whole.good.blocked is x m at) was in
          let one : Proc A = record { activations = below_of (stack_at w p) ++ new ∷ []; status = Ready } in
          has_waits (slice_set w.processes p one) i k.process v.proc.activations (top_waits w.processes i k.process v)
          (set_has w.processes p k.process one v.proc.activations n (waits_has w.processes i k.process v))

      pub go_queued : (w : World A) (p : ℕ) → Ordered M classes stays w → QueuesFit M w → QueuesFit M (GoOn M advance w p)
      go_queued w p h q =
          fit (GoOn M advance w p)
          (by_silent M w p (λ v. Queued v) (queued w q) advance
          (λ top is done x e.
          advanced_queued w p h (queued w q) top is x
          (subst (λ (t : Common × A). (o : ℕ) → monitor_of t.0 o ≡ monitor_of w.common o) e (steps.monitors w.common top))))

    pub move_queued : (w : World A) (o k : ℕ) → QueuesFit M w → QueuesFit M (OperatorMove w o k)
    move_queued w o k q = by_move M w (λ v. QueuesFit M v) q (λ events. q) o k

    pub first_queued : (n : ℕ) (globals : List ValueType) → QueuesFit M (first_world M n classes globals)
    first_queued n globals x i m queue h at is has = absurd (let k = first_monitors n x in cc)
