-- What monitors and statuses tell still fits, entry by entry; whoever is granted a monitor waits for it.
use Rattle.std.proofs.Common.{◌≡◌, ℕ, suc, ◌+◌, ◌==◌, Bool, true, false, List, [], ◌∷◌, ◌++◌, replicate, Option, Some, None, refl, sym}
use Rattle.std.proofs.Common.{ap, ◌∙◌, subst, arith}
use Rattle.std.specs.Prelude.{slice_set}
use Rattle.std.proofs.lemmas.List.{append-nil}
use Rattle.ec_base.proofs.Stacks.{top_of-push}
use Rattle.ec_base.specs.Stack.{top_of, below_of}
use Rattle.ec_monitors.specs.declared.record.Granted.{Granted}
use Rattle.ec_monitors.specs.declared.record.MonitorRec.{MonitorRec}
use Rattle.ec_world.specs.Doings.{Asked, doing_of}
use Rattle.ec_world.specs.Meaning.{ActivationMeaning}
use Rattle.ec_world.specs.Moves.{OperatorMove, moved_unless, is_idle_move}
use Rattle.ec_world.specs.Outcomes.{Done, acted_if, all_granted, dropped_at, dropped_each}
use Rattle.ec_world.specs.Run.{node_object, program_object, first_world, after_entry, after_entries}
use Rattle.ec_world.specs.Sights.{sight_of}
use Rattle.ec_world.specs.World.{stack_at, all_readied, given_up, who_of, changed, owns_of, begun_for, settled, acted}
use Rattle.ec_world.specs.World.{act_if_pending, act_on, Action, advanced, go_on_unless, go_on, GoOn, Turn}
use Rattle.ec_world.specs.declared.class.ClassRec.{ClassRec}
use Rattle.ec_world.specs.declared.common.Common.{Common}
use Rattle.ec_world.specs.declared.doing.Outcome.{Outcome}
use Rattle.ec_world.specs.declared.doing.Section.{Section}
use Rattle.ec_world.specs.declared.object.ObjectRec.{ObjectRec}
use Rattle.ec_world.specs.declared.process.Proc.{Proc}
use Rattle.ec_world.specs.declared.process.ProcStatus.TheVariants.{Ready}
use Rattle.ec_world.specs.declared.run.RunEntry.{RunEntry}
use Rattle.ec_world.specs.declared.run.RunEntry.TheVariants.{TurnOf, MoveOf}
use Rattle.ec_world.specs.declared.stop.Effect.{Effect}
use Rattle.ec_world.specs.declared.stop.Effect.TheVariants.{GoesOn, Calls, Leaves, Blocks, Ends, Fails}
use Rattle.ec_world.specs.declared.stop.Queue.{Queue}
use Rattle.ec_world.specs.declared.stop.Queue.TheVariants.{ForEntry, ForCondition, Urgently}
use Rattle.ec_world.specs.declared.value.ValueType.{ValueType}
use Rattle.ec_world.specs.declared.world.World.{World}
use Rattle.ec_world.specs.Laws.{EntriesKeepQueues, EachRunKeepsQueues, EachGrantedWaits}
use Rattle.ec_world.specs.Waiting.{AreBlocked, KeepsMonitors, HasStatus, WaitsBeside, is_blocked, times_queued_if}
use Rattle.ec_world.specs.Waiting.{times_blocked_if}
use Rattle.ec_world.proofs.Counting.{count_if, went, comes, Fits, fits_same, fits_least, fits_by, fits_chain, fits_act}
use Rattle.ec_world.proofs.Objects.{told, get_push, told_first}
use Rattle.ec_world.proofs.Processes.{shown, shown_act, status_after, stands, ready_granted, all_ready, granted_fits, each_set}
use Rattle.ec_world.proofs.Processes.{each_push, HasTop, EachHasTop, all_readied_top, is_ready, waiting_blocked}
use Rattle.ec_world.proofs.DoingsLemmas.{Does, does, does_asked, drops, Stood, given_stood}

module _ {A : Type 0} where
  abbrev pub AllFit : List ObjectRec → List (Proc A) → Type 0
  AllFit objects ps = (queue : Queue) (o q : ℕ) → Fits queue (told objects queue o q) (shown ps queue o q)

  pub all_fit : (w : World A) → AreBlocked w → AllFit w.common.objects w.processes
  all_fit w h ForEntry o q = h.entry o q
  all_fit w h ForCondition o q = h.condition o q
  all_fit w h Urgently o q = h.urgent o q

  are_blocked : (w : World A) → AllFit w.common.objects w.processes → EachHasTop w.processes → AreBlocked w
  are_blocked w fits tops = record {
    entry = fits ForEntry;
    urgent = fits Urgently;
    condition = fits ForCondition;
    top = tops;
  }

  -- other objects and processes of which the same is told
  same_fit : (before after : List ObjectRec) (ps qs : List (Proc A)) →
      ((queue : Queue) (o q : ℕ) → told after queue o q ≡ told before queue o q) →
      ((queue : Queue) (o q : ℕ) → shown qs queue o q ≡ shown ps queue o q) → AllFit before ps → AllFit after qs
  same_fit before after ps qs objects processes fits queue o q =
      fits_by queue (told before queue o q) (told after queue o q) (shown ps queue o q) (shown qs queue o q)
      (objects queue o q) (processes queue o q) (fits queue o q)

  -- ---- a failed process gives up its monitors

  dropped_fit : (p : ℕ) (owns : List ℕ) (objects : List ObjectRec) (ps : List (Proc A)) → AllFit objects ps →
      AllFit (dropped_each p owns objects).0 (all_readied ps (dropped_each p owns objects).1)
  dropped_fit p [] objects ps fits = fits
  dropped_fit p (own ∷ owns) objects ps fits =
      let first : List ObjectRec × Option Granted = dropped_at objects p own in
      let others : List ObjectRec × List ℕ = dropped_each p owns first.0 in
      let d = drops objects p own in
      subst (λ (qs : List (Proc A)). AllFit others.0 qs) (sym (all_ready ps first.1 others.1))
      (dropped_fit p owns first.0 (ready_granted ps first.1)
      (granted_fits ps (told first.0) own d.from first.1
      (λ queue o q.
      fits_chain queue (told first.0 queue o q + count_if (own == o) (went d.from first.1 queue q)) (told objects queue o q)
      (shown ps queue o q) (d.fits queue o q) (fits queue o q))))

  given_fit : (p : ℕ) (owns : List ℕ) (e : Effect) (objects : List ObjectRec) (ps : List (Proc A)) → AllFit objects ps →
      AllFit (given_up p owns e objects).0 (all_readied ps (given_up p owns e objects).1)
  given_fit p owns (GoesOn given) objects ps fits = fits
  given_fit p owns (Calls op own args) objects ps fits = fits
  given_fit p owns (Leaves given) objects ps fits = fits
  given_fit p owns (Blocks queue own) objects ps fits = fits
  given_fit p owns Ends objects ps fits = fits
  given_fit p owns (Fails why line) objects ps fits = dropped_fit p owns objects ps fits

module _ {A : Type 0} (M : ActivationMeaning A) where
  -- ---- new processes

  abbrev begun : Section → Proc A
  begun s = record { activations = M.begun s.operation s.own [] ∷ []; status = Ready }

  begun_shown : (started : Option Section) (ps : List (Proc A)) (queue : Queue) (o q : ℕ) →
      shown (ps ++ begun_for M started) queue o q ≡ shown ps queue o q
  begun_shown None ps queue o q = ap (λ (qs : List (Proc A)). shown qs queue o q) (append-nil ps)
  begun_shown (Some s) ps queue o q = get_push (λ (t : Option (Proc A)). times_blocked_if queue o t) ps (begun s) refl q

  begun_top : (started : Option Section) (ps : List (Proc A)) → EachHasTop ps → EachHasTop (ps ++ begun_for M started)
  begun_top None ps h = subst (λ (qs : List (Proc A)). EachHasTop qs) (sym (append-nil ps)) h
  begun_top (Some s) ps h = each_push HasTop ps (begun s) h (λ e. absurd cc)

  -- ---- the process that acts

  changed_status : (below : List A) (top : A) (e : Effect) → (changed M below top e).status ≡ status_after e
  changed_status below top (GoesOn given) = refl
  changed_status below top (Calls op own args) = refl
  changed_status below top (Leaves given) = refl
  changed_status below top (Blocks queue own) = refl
  changed_status below top Ends = refl
  changed_status below top (Fails why line) = refl

  changed_top : (below : List A) (top : A) (e : Effect) → HasTop (changed M below top e)
  changed_top below top (GoesOn given) = λ e. absurd cc
  changed_top below top (Calls op own args) = λ e. absurd cc
  changed_top below top (Leaves given) = λ e. absurd cc
  changed_top below top (Blocks queue own) = λ e. rw (top_of-push below (M.finished top None)) refl
  changed_top below top Ends = λ e. absurd cc
  changed_top below top (Fails why line) = λ e. absurd cc

  module _ (w : World A) (p : ℕ) (below : List A) (top : A) (ready : HasStatus w.processes p Ready) (blocked : AreBlocked w) where
    -- once the action is done, and who was granted a monitor by it is Ready
    granted_fit : (d : Common) (o : Outcome) → Does w.common d (who_of M p below top) o →
        AllFit d.objects (ready_granted (slice_set w.processes p (changed M below top o.effect)) o.granted)
    granted_fit d o h =
        let ps : List (Proc A) = slice_set w.processes p (changed M below top o.effect) in
        granted_fits ps (told d.objects) (M.own top) h.from o.granted
        (λ queue x q.
        fits_act queue (told w.common.objects queue x q) (told d.objects queue x q)
        (count_if (M.own top == x) (went h.from o.granted queue q)) (comes p o.effect queue x q)
        (shown w.processes queue x q) (shown ps queue x q) (h.fits queue x q) (all_fit w blocked queue x q)
        (shown_act w.processes p (changed M below top o.effect) o.effect ready (changed_status below top o.effect) queue x q))

    settled_blocked : (d : Common) (o : Outcome) (g : List ObjectRec × List ℕ) →
        AllFit g.0 (all_readied (slice_set w.processes p (changed M below top o.effect)) (all_granted o.granted g.1)) →
        AreBlocked (settled M w p below top d o g)
    settled_blocked d o (objects, freed) fits =
        let ps : List (Proc A) = slice_set w.processes p (changed M below top o.effect) in
        let qs : List (Proc A) = all_readied ps (all_granted o.granted freed) in
        are_blocked (settled M w p below top d o (objects, freed))
        (same_fit objects objects qs (qs ++ begun_for M o.started) (λ queue x q. refl) (begun_shown o.started qs) fits)
        (begun_top o.started qs
        (all_readied_top ps (all_granted o.granted freed)
        (each_set HasTop w.processes p (changed M below top o.effect) blocked.top (changed_top below top o.effect))))

    done_blocked : (d : Done) → Does w.common d.0 (who_of M p below top) d.1 → AreBlocked (acted M w p below top (Some d))
    done_blocked (d, o) h =
        let ps : List (Proc A) = slice_set w.processes p (changed M below top o.effect) in
        let g : List ObjectRec × List ℕ = given_up p (owns_of M below top) o.effect d.objects in
        settled_blocked d o (given_up p (owns_of M below top) o.effect d.objects)
        (subst (λ (qs : List (Proc A)). AllFit g.0 qs) (sym (all_ready ps o.granted g.1))
        (given_fit p (owns_of M below top) o.effect d.objects (ready_granted ps o.granted) (granted_fit d o h)))

    asked_blocked : (asked : Asked) → AreBlocked (acted M w p below top (acted_if w.common (who_of M p below top) asked))
    asked_blocked None = blocked
    asked_blocked (Some doing) = done_blocked _ (does w.common (who_of M p below top) doing)

    pending_blocked : (b : Bool) → AreBlocked (act_if_pending M w p below top b)
    pending_blocked true = asked_blocked (doing_of (sight_of w.common) (who_of M p below top) (M.stop top) (M.operands top))
    pending_blocked false = blocked

  act_blocked : (w : World A) (p : ℕ) (t : Option A) → top_of (stack_at w p) ≡ t → AreBlocked w →
      AreBlocked (act_on M w p (below_of (stack_at w p)) t)
  act_blocked w p None e blocked = blocked
  act_blocked w p (Some top) e blocked =
      pending_blocked w p (below_of (stack_at w p)) top (is_ready w p top e) blocked (M.is_pending top)

  pub action_blocked : (w : World A) (p : ℕ) → AreBlocked w → AreBlocked (Action M w p)
  action_blocked w p blocked = act_blocked w p (top_of (stack_at w p)) refl blocked

  -- ---- silent steps

  module _ (advance : Common → A → Common × A) (keeps : KeepsMonitors advance) where
    advanced_blocked : (w : World A) (p : ℕ) (below : List A) (n : Common × A) → HasStatus w.processes p Ready →
        ((queue : Queue) (o q : ℕ) → told n.0.objects queue o q ≡ told w.common.objects queue o q) → AreBlocked w →
        AreBlocked (advanced M advance w p below n)
    advanced_blocked w p below (c, top) ready same blocked =
        let new : Proc A = record { activations = below ++ top ∷ []; status = Ready } in
        are_blocked (advanced M advance w p below (c, top))
        (same_fit w.common.objects c.objects w.processes (slice_set w.processes p new) same
        (λ queue o q.
        let s = shown_act w.processes p new (GoesOn None) ready refl queue o q in
        omega arith)
        (all_fit w blocked))
        (each_set HasTop w.processes p new blocked.top (λ e. absurd cc))

    unless_blocked : (w : World A) (p : ℕ) (below : List A) (top : A) (b : Bool) → HasStatus w.processes p Ready → AreBlocked w →
        AreBlocked (go_on_unless M advance w p below top b)
    unless_blocked w p below top true ready blocked = blocked
    unless_blocked w p below top false ready blocked =
        advanced_blocked w p below (advance w.common top) ready
        (λ queue o q. ap (λ (t : Option MonitorRec). times_queued_if queue t q) (keeps w.common top o)) blocked

    go_blocked : (w : World A) (p : ℕ) (t : Option A) → top_of (stack_at w p) ≡ t → AreBlocked w →
        AreBlocked (go_on M advance w p (below_of (stack_at w p)) t)
    go_blocked w p None e blocked = blocked
    go_blocked w p (Some top) e blocked =
        unless_blocked w p (below_of (stack_at w p)) top (M.is_pending top) (is_ready w p top e) blocked

    pub go_on_blocked : (w : World A) (p : ℕ) → AreBlocked w → AreBlocked (GoOn M advance w p)
    go_on_blocked w p blocked = go_blocked w p (top_of (stack_at w p)) refl blocked

    pub turn_blocked : (w : World A) (p : ℕ) → AreBlocked w → AreBlocked (Turn M advance w p)
    turn_blocked w p blocked = go_on_blocked (Action M w p) p (action_blocked w p blocked)

  -- ---- entries

  moved_blocked : (w : World A) (o k : ℕ) (idle : Bool) → AreBlocked w → AreBlocked (record w { common = moved_unless w.common o k idle })
  moved_blocked w o k true blocked = are_blocked (record w { common = w.common }) (all_fit w blocked) blocked.top
  moved_blocked w o k false blocked =
      are_blocked (record w { common = moved_unless w.common o k false }) (all_fit w blocked) blocked.top

  pub move_blocked : (w : World A) (o k : ℕ) → AreBlocked w → AreBlocked (OperatorMove w o k)
  move_blocked w o k blocked = moved_blocked w o k (is_idle_move w.common o k) blocked

  pub entry_blocked : (advance : Common → A → Common × A) (w : World A) (e : RunEntry) → KeepsMonitors advance → AreBlocked w →
      AreBlocked (after_entry M advance w e)
  entry_blocked advance w (TurnOf p) keeps blocked = turn_blocked advance keeps w p blocked
  entry_blocked advance w (MoveOf o k) keeps blocked = move_blocked w o k blocked

  pub entries_blocked : (advance : Common → A → Common × A) → KeepsMonitors advance → (w : World A) (es : List RunEntry) → AreBlocked w →
      AreBlocked (after_entries M advance w es)
  entries_blocked advance keeps w [] blocked = blocked
  entries_blocked advance keeps w (e ∷ es) blocked =
      entries_blocked advance keeps (after_entry M advance w e) es (entry_blocked advance w e keeps blocked)

  -- ---- the first world

  pub first_blocked : (n : ℕ) (classes : List ClassRec) (globals : List ValueType) → AreBlocked (first_world M n classes globals)
  first_blocked n classes globals =
      let first : Proc A = record { activations = M.begun 0 (suc n) [] ∷ []; status = Ready } in
      are_blocked (first_world M n classes globals)
      (λ queue o q.
      fits_same queue (told (replicate n node_object ++ program_object ∷ []) queue o q) (shown (first ∷ []) queue o q)
      (told_first n queue o q ∙ sym (get_push (λ (t : Option (Proc A)). times_blocked_if queue o t) [] first refl q)))
      (each_push HasTop [] first (λ q proc e. absurd cc) (λ e. absurd cc))

  pub entries_keep : EntriesKeepQueues M
  entries_keep = record {
    at_first = first_blocked;
    by_action = action_blocked;
    by_silent_steps = λ advance w p keeps blocked. go_on_blocked advance keeps w p blocked;
    by_move = move_blocked;
    by_entry = entry_blocked;
  }

  pub runs_keep : EachRunKeepsQueues M
  runs_keep advance keeps n classes globals es =
      entries_blocked advance keeps (first_world M n classes globals) es (first_blocked n classes globals)

  -- ---- whom an action grants a monitor

  module _ (w : World A) (p : ℕ) (ready : HasStatus w.processes p Ready) (blocked : AreBlocked w) where
    stood_beside : (q : ℕ) → Stood w.common.objects q → WaitsBeside w p q
    stood_beside q s =
        let h = fits_least s.from (told w.common.objects s.from s.own q) (shown w.processes s.from s.own q)
        (all_fit w blocked s.from s.own q) in
        let k = s.stands in
        let waits = stands w.processes s.from s.own q (omega arith) in
        let is : is_blocked waits.proc.status ≡ true = ap is_blocked waits.is ∙ waiting_blocked s.from s.own in
        record {
          proc = waits.proc;
          there = waits.there;
          blocked = is;
          top = blocked.top q waits.proc waits.there is;
          other = λ e.
              let same : waits.proc ≡ ready.proc = (let a = waits.there in let b = ready.there in cc) in
              let one : is_blocked waits.proc.status ≡ is_blocked ready.proc.status = ap (λ (t : Proc A). is_blocked t.status) same in
              let none : is_blocked ready.proc.status ≡ false = ap is_blocked ready.is in
              cc;
        }

  pub granted_waits : EachGrantedWaits M
  granted_waits w p top d o blocked on_top is =
      let below : List A = below_of (stack_at w p) in
      let who = who_of M p below top in
      let ready = is_ready w p top on_top in
      let h = does_asked w.common who (doing_of (sight_of w.common) who (M.stop top) (M.operands top)) d o is in
      record {
        granted = λ r e.
            stood_beside w p ready blocked r.process (record { from = h.from; own = M.own top; stands = h.stood r e });
        freed = λ q k.
            stood_beside w p ready blocked q (given_stood p (owns_of M below top) w.common d who o o.effect q refl h k);
      }
