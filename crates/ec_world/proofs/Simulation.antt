-- A simulation of activations makes worlds agree after every list of entries, and whole runs agree too.
use Rattle.std.proofs.Common.{◌≡◌, ℕ, zero, suc, List, [], ◌∷◌, ◌++◌, map, reverse, Option, Some, None, Bool, true, false, refl}
use Rattle.std.proofs.Common.{sym, ap, ◌∙◌}
use Rattle.std.specs.Prelude.{slice_get}
use Rattle.ec_world.specs.declared.value.Value.{Value}
use Rattle.ec_world.specs.declared.process.ProcStatus.{ProcStatus}
use Rattle.ec_world.specs.declared.process.ProcStatus.TheVariants.{Ready, Entry as AtEntry, Cond, Urgent, Ended, Failed}
use Rattle.ec_world.specs.declared.process.Proc.{Proc}
use Rattle.ec_world.specs.declared.stop.Effect.{Effect}
use Rattle.ec_world.specs.declared.stop.Effect.TheVariants.{GoesOn, Calls, Leaves, Blocks, Ends, Fails}
use Rattle.ec_world.specs.declared.doing.Outcome.{Outcome}
use Rattle.ec_world.specs.declared.doing.Section.{Section}
use Rattle.ec_world.specs.declared.object.ObjectRec.{ObjectRec}
use Rattle.ec_world.specs.declared.common.Common.{Common}
use Rattle.ec_world.specs.declared.world.World.{World}
use Rattle.ec_world.specs.declared.run.Entry.{Entry}
use Rattle.ec_world.specs.declared.run.RunEntry.{RunEntry}
use Rattle.ec_world.specs.declared.run.RunEntry.TheVariants.{TurnOf, MoveOf}
use Rattle.ec_world.specs.declared.run.RunEnd.{RunEnd}
use Rattle.ec_base.specs.Stack.{top_of, below_of}
use Rattle.ec_world.specs.Meaning.{ActivationMeaning}
use Rattle.ec_world.specs.Outcomes.{Acted, all_granted}
use Rattle.ec_world.specs.World.{stack_if_ready, ready_stack, stack_at, readied, all_readied, given_up, finish_top, changed}
use Rattle.ec_world.specs.World.{owns_of, begun_for, settled, acted, outcome_at, act_if_pending, act_on, Action, advanced}
use Rattle.ec_world.specs.World.{go_on_unless, go_on, Turn}
use Rattle.ec_world.specs.Moves.{OperatorMove, moved_unless, is_idle_move}
use Rattle.ec_world.specs.Agree.{AllTwo, SameRest, AgreeProc, AgreeBy, Agree, Maybe}
use Rattle.ec_world.specs.Run.{RunState, statuses_of, next_entry, tail_of, last_of, end_of, after_entry, after_entries, stepped}
use Rattle.ec_world.specs.Run.{step_run, run_after, Reaches, Run}
use Rattle.ec_world.specs.Simulation.{IsSimulation, AgreeRun}
use Rattle.ec_world.proofs.Related.{all-append, all-length, tops, belows, all-map, all-set, all-get}

module _ {A B : Type 0} (R : A → B → Type 0) where
  statuses_alike : (xs : List (Proc A)) (ys : List (Proc B)) → AllTwo (AgreeProc R) xs ys → map (λ p. p.status) xs ≡ map (λ p. p.status) ys
  statuses_alike [] [] h = refl
  statuses_alike (x ∷ xs) (y ∷ ys) h = let e = h.0.status in let r = statuses_alike xs ys h.1 in cc
  statuses_alike [] (y ∷ ys) h = absurd h
  statuses_alike (x ∷ xs) [] h = absurd h

  pub statuses_agree : (w : World A) (v : World B) → AgreeBy R w v → statuses_of w ≡ statuses_of v
  statuses_agree w v h = statuses_alike w.processes v.processes h.processes

  -- agreeing runs end alike
  pub ends_agree : (budget : ℕ) (s : RunState A) (t : RunState B) → AgreeRun R s t → end_of budget s ≡ end_of budget t
  ends_agree budget s t h = rw (h.left, statuses_agree s.world t.world h.worlds, h.done) refl

  stack_agree : (s : ProcStatus) (xs : List A) (ys : List B) → AllTwo R xs ys → AllTwo R (stack_if_ready s xs) (stack_if_ready s ys)
  stack_agree Ready xs ys h = h
  stack_agree (AtEntry o) xs ys h = tt
  stack_agree (Cond o) xs ys h = tt
  stack_agree (Urgent o) xs ys h = tt
  stack_agree Ended xs ys h = tt
  stack_agree (Failed cause line) xs ys h = tt

  ready_agree : (x : Option (Proc A)) (y : Option (Proc B)) → Maybe (AgreeProc R) x y → AllTwo R (ready_stack x) (ready_stack y)
  ready_agree None None h = tt
  ready_agree (Some a) (Some b) h = rw h.status (stack_agree b.status a.activations b.activations h.activations)
  ready_agree None (Some b) h = absurd h
  ready_agree (Some a) None h = absurd h

  pub stacks_agree : (w : World A) (v : World B) (p : ℕ) → AgreeBy R w v → AllTwo R (stack_at w p) (stack_at v p)
  stacks_agree w v p h = ready_agree (slice_get w.processes p) (slice_get v.processes p)
      (all-get (AgreeProc R) w.processes v.processes p h.processes)

  -- those that were granted a monitor are Ready alike
  readied_agree : (ps : List (Proc A)) (qs : List (Proc B)) (q : ℕ) (x : Option (Proc A)) (y : Option (Proc B)) →
      AllTwo (AgreeProc R) ps qs → Maybe (AgreeProc R) x y → AllTwo (AgreeProc R) (readied ps q x) (readied qs q y)
  readied_agree ps qs q None None h k = h
  readied_agree ps qs q (Some x) (Some y) h k = all-set (AgreeProc R) ps qs q _ _ h (record { status = refl; activations = k.activations })
  readied_agree ps qs q None (Some y) h k = absurd k
  readied_agree ps qs q (Some x) None h k = absurd k

  all_readied_agree : (ps : List (Proc A)) (qs : List (Proc B)) (granted : List ℕ) → AllTwo (AgreeProc R) ps qs →
      AllTwo (AgreeProc R) (all_readied ps granted) (all_readied qs granted)
  all_readied_agree ps qs [] h = h
  all_readied_agree ps qs (q ∷ more) h =
      all_readied_agree (readied ps q (slice_get ps q)) (readied qs q (slice_get qs q)) more
      (readied_agree ps qs q (slice_get ps q) (slice_get qs q) h (all-get (AgreeProc R) ps qs q h))

  pub moves_agree : (w : World A) (v : World B) (o k : ℕ) → AgreeBy R w v → AgreeBy R (OperatorMove w o k) (OperatorMove v o k)
  moves_agree w v o k h = record { common = ap (λ c. moved_unless c o k (is_idle_move c o k)) h.common; processes = h.processes }

module _ {A B : Type 0} (M : ActivationMeaning A) (N : ActivationMeaning B) (advance : Common → A → Common × A)
    (advance' : Common → B → Common × B) (R : A → B → Type 0) (sim : IsSimulation M N advance advance' R) where
  finish_tops : (xs : List A) (ys : List B) (x : Option A) (y : Option B) (r : Option Value) → AllTwo R xs ys → Maybe R x y →
      AllTwo R (finish_top M xs x r) (finish_top N ys y r)
  finish_tops xs ys None None r h k = tt
  finish_tops xs ys (Some a) (Some b) r h k = all-append R xs _ ys _ h (sim.finished a b r k, tt)
  finish_tops xs ys None (Some b) r h k = absurd k
  finish_tops xs ys (Some a) None r h k = absurd k

  changed_agree : (xs : List A) (ys : List B) (a : A) (b : B) (e : Effect) → AllTwo R xs ys → R a b →
      AgreeProc R (changed M xs a e) (changed N ys b e)
  changed_agree xs ys a b (GoesOn r) h k = record { status = refl; activations = all-append R xs _ ys _ h (sim.finished a b r k, tt) }
  changed_agree xs ys a b (Calls op own args) h k =
      let below : AllTwo R (xs ++ M.finished a None ∷ []) (ys ++ N.finished b None ∷ []) =
      all-append R xs _ ys _ h (sim.finished a b None k, tt) in
      record {
        status = refl;
        activations =
            all-append R (xs ++ M.finished a None ∷ []) _ (ys ++ N.finished b None ∷ []) _ below (sim.begun op own args, tt);
      }
  changed_agree xs ys a b (Leaves r) h k =
      record {
        status = refl;
        activations =
            finish_tops (below_of xs) (below_of ys) (top_of xs) (top_of ys) r (belows R xs ys h) (tops R xs ys h);
      }
  changed_agree xs ys a b (Blocks queue oid) h k =
      record { status = refl; activations = all-append R xs _ ys _ h (sim.finished a b None k, tt) }
  changed_agree xs ys a b Ends h k = record { status = refl; activations = tt }
  changed_agree xs ys a b (Fails why line) h k = record { status = refl; activations = tt }

  own_agree : (xs : List A) (ys : List B) → AllTwo R xs ys → map M.own xs ≡ map N.own ys
  own_agree [] [] h = refl
  own_agree (x ∷ xs) (y ∷ ys) h = let o = (sim.same x y h.0).own in let r = own_agree xs ys h.1 in cc
  own_agree [] (y ∷ ys) h = absurd h
  own_agree (x ∷ xs) [] h = absurd h

  owns_agree : (xs : List A) (ys : List B) (a : A) (b : B) → AllTwo R xs ys → R a b → owns_of M xs a ≡ owns_of N ys b
  owns_agree xs ys a b h r = let o = (sim.same a b r).own in let e = ap (λ (os : List ℕ). reverse os) (own_agree xs ys h) in cc

  begun_agree : (started : Option Section) → AllTwo (AgreeProc R) (begun_for M started) (begun_for N started)
  begun_agree None = tt
  begun_agree (Some section) = (record { status = refl; activations = (sim.begun section.operation section.own [], tt) }, tt)

  settled_agree : (w : World A) (v : World B) (p : ℕ) (xs : List A) (ys : List B) (a : A) (b : B) (c : Common) (o : Outcome)
      (g g' : List ObjectRec × List ℕ) → g ≡ g' → AgreeBy R w v → AllTwo R xs ys → R a b →
      AgreeBy R (settled M w p xs a c o g) (settled N v p ys b c o g')
  settled_agree w v p xs ys a b c o g g' e h k r = rw e (part g')
    where
      part : (g : List ObjectRec × List ℕ) → AgreeBy R (settled M w p xs a c o g) (settled N v p ys b c o g)
      part (objects, freed) = record {
        common = refl;
        processes =
            all-append (AgreeProc R) _ _ _ _
            (all_readied_agree R _ _ (all_granted o.granted freed)
            (all-set (AgreeProc R) w.processes v.processes p _ _ h.processes (changed_agree xs ys a b o.effect k r)))
            (begun_agree o.started);
      }

  acted_agree : (w : World A) (v : World B) (p : ℕ) (xs : List A) (ys : List B) (a : A) (b : B) (o : Acted) → AgreeBy R w v →
      AllTwo R xs ys → R a b → AgreeBy R (acted M w p xs a o) (acted N v p ys b o)
  acted_agree w v p xs ys a b None h k r = h
  acted_agree w v p xs ys a b (Some (c, o)) h k r =
      settled_agree w v p xs ys a b c o (given_up p (owns_of M xs a) o.effect c.objects) (given_up p (owns_of N ys b) o.effect c.objects)
      (ap (λ (os : List ℕ). given_up p os o.effect c.objects) (owns_agree xs ys a b k r)) h k r

  outcomes_agree : (w : World A) (v : World B) (p : ℕ) (xs : List A) (ys : List B) (a : A) (b : B) → AgreeBy R w v →
      AllTwo R xs ys → R a b → outcome_at M w p xs a ≡ outcome_at N v p ys b
  outcomes_agree w v p xs ys a b h k r =
      let s = sim.same a b r in
      rw (h.common, all-length R xs ys k, s.operation, s.own, s.stop, sim.operands a b r) refl

  pending_agree : (w : World A) (v : World B) (p : ℕ) (xs : List A) (ys : List B) (a : A) (b : B) (d : Bool) → AgreeBy R w v →
      AllTwo R xs ys → R a b → AgreeBy R (act_if_pending M w p xs a d) (act_if_pending N v p ys b d)
  pending_agree w v p xs ys a b false h k r = h
  pending_agree w v p xs ys a b true h k r =
      rw (outcomes_agree w v p xs ys a b h k r) (acted_agree w v p xs ys a b (outcome_at N v p ys b) h k r)

  act_agree : (w : World A) (v : World B) (p : ℕ) (xs : List A) (ys : List B) (x : Option A) (y : Option B) → AgreeBy R w v →
      AllTwo R xs ys → Maybe R x y → AgreeBy R (act_on M w p xs x) (act_on N v p ys y)
  act_agree w v p xs ys None None h k r = h
  act_agree w v p xs ys (Some a) (Some b) h k r = rw (sim.same a b r).pending (pending_agree w v p xs ys a b (N.is_pending b) h k r)
  act_agree w v p xs ys None (Some b) h k r = absurd r
  act_agree w v p xs ys (Some a) None h k r = absurd r

  pub action_agree : (w : World A) (v : World B) (p : ℕ) → AgreeBy R w v → AgreeBy R (Action M w p) (Action N v p)
  action_agree w v p h =
      let s = stacks_agree R w v p h in
      act_agree w v p (below_of (stack_at w p)) (below_of (stack_at v p)) (top_of (stack_at w p)) (top_of (stack_at v p)) h
      (belows R _ _ s) (tops R _ _ s)

  advanced_agree : (w : World A) (v : World B) (p : ℕ) (xs : List A) (ys : List B) (m : Common × A) (n : Common × B) →
      AgreeBy R w v → AllTwo R xs ys → m.0 ≡ n.0 → R m.1 n.1 → AgreeBy R (advanced M advance w p xs m) (advanced N advance' v p ys n)
  advanced_agree w v p xs ys (c, a) (d, b) h k e r =
      record {
        common = e;
        processes =
            all-set (AgreeProc R) w.processes v.processes p _ _ h.processes
            (record { status = refl; activations = all-append R xs _ ys _ k (r, tt) });
      }

  unless_agree : (w : World A) (v : World B) (p : ℕ) (xs : List A) (ys : List B) (a : A) (b : B) (d : Bool) → M.is_pending a ≡ d →
      AgreeBy R w v → AllTwo R xs ys → R a b → AgreeBy R (go_on_unless M advance w p xs a d) (go_on_unless N advance' v p ys b d)
  unless_agree w v p xs ys a b true e h k r = h
  unless_agree w v p xs ys a b false e h k r =
      let c : (advance w.common a).0 ≡ (advance' v.common b).0 = rw h.common (sim.commons v.common a b r e) in
      let s : R (advance w.common a).1 (advance' v.common b).1 = rw h.common (sim.activations v.common a b r e) in
      advanced_agree w v p xs ys (advance w.common a) (advance' v.common b) h k c s

  on_agree : (w : World A) (v : World B) (p : ℕ) (xs : List A) (ys : List B) (x : Option A) (y : Option B) → AgreeBy R w v →
      AllTwo R xs ys → Maybe R x y → AgreeBy R (go_on M advance w p xs x) (go_on N advance' v p ys y)
  on_agree w v p xs ys None None h k r = h
  on_agree w v p xs ys (Some a) (Some b) h k r = let e =
      (sim.same a b r).pending in rw e (unless_agree w v p xs ys a b (N.is_pending b) e h k r)
  on_agree w v p xs ys None (Some b) h k r = absurd r
  on_agree w v p xs ys (Some a) None h k r = absurd r

  pub turn_agree : (w : World A) (v : World B) (p : ℕ) → AgreeBy R w v → AgreeBy R (Turn M advance w p) (Turn N advance' v p)
  turn_agree w v p h =
      let a = action_agree w v p h in
      let s = stacks_agree R (Action M w p) (Action N v p) p a in
      on_agree (Action M w p) (Action N v p) p _ _ _ _ a (belows R _ _ s) (tops R _ _ s)

  pub entry_agree : (w : World A) (v : World B) (e : RunEntry) → AgreeBy R w v →
      AgreeBy R (after_entry M advance w e) (after_entry N advance' v e)
  entry_agree w v (TurnOf p) h = turn_agree w v p h
  entry_agree w v (MoveOf o k) h = moves_agree R w v o k h

  pub entries_agree : (w : World A) (v : World B) (es : List RunEntry) → AgreeBy R w v →
      AgreeBy R (after_entries M advance w es) (after_entries N advance' v es)
  entries_agree w v [] h = h
  entries_agree w v (e ∷ es) h = entries_agree (after_entry M advance w e) (after_entry N advance' v e) es (entry_agree w v e h)

  -- related activations rest alike
  pub agree_by_same : (w : World A) (v : World B) → AgreeBy R w v → Agree M N w v
  agree_by_same w v h = record {
    common = h.common;
    processes = all-map (AgreeProc R) (AgreeProc (SameRest M N))
        (λ x y q.
        record { status = q.status; activations = all-map R (SameRest M N) sim.same x.activations y.activations q.activations })
        w.processes v.processes h.processes;
  }

  -- ---- whole runs

  stepped_agree : (s : RunState A) (t : RunState B) (e : Option RunEntry) → AgreeRun R s t →
      AgreeRun R (stepped M advance s e) (stepped N advance' t e)
  stepped_agree s t None h = h
  stepped_agree s t (Some e) h = record {
    worlds = entry_agree s.world t.world e h.worlds;
    left = ap tail_of h.left;
    last = ap (last_of e) h.last;
    done = ap (λ es. es ++ e ∷ []) h.done;
  }

  pub step_agree : (s : RunState A) (t : RunState B) → AgreeRun R s t → AgreeRun R (step_run M advance s) (step_run N advance' t)
  step_agree s t h =
      let e : next_entry s.left (statuses_of s.world) s.last ≡ next_entry t.left (statuses_of t.world) t.last =
      rw (h.left, statuses_agree R s.world t.world h.worlds, h.last) refl in
      rw e (stepped_agree s t (next_entry t.left (statuses_of t.world) t.last) h)

  -- after so many entries of a schedule, and then of round robin, the runs agree
  pub runs_agree : (w : World A) (v : World B) (schedule : List Entry) (k : ℕ) → AgreeBy R w v →
      AgreeRun R (run_after M advance w schedule k) (run_after N advance' v schedule k)
  unfolding run_after
  runs_agree w v schedule zero h = record { worlds = h; left = refl; last = refl; done = refl }
  runs_agree w v schedule (suc k) h =
      step_agree (run_after M advance w schedule k) (run_after N advance' v schedule k) (runs_agree w v schedule k h)

  run_ends_agree : (w : World A) (v : World B) (schedule : List Entry) (budget k : ℕ) → AgreeBy R w v →
      end_of budget (run_after M advance w schedule k) ≡ end_of budget (run_after N advance' v schedule k)
  run_ends_agree w v schedule budget k h =
      ends_agree R budget (run_after M advance w schedule k) (run_after N advance' v schedule k) (runs_agree w v schedule k h)

  -- where the one run comes after k entries, the other comes to a state that agrees
  pub reaches_agree : (w : World A) (v : World B) (schedule : List Entry) (budget k : ℕ) (s : RunState A) → AgreeBy R w v →
      Reaches M advance w schedule budget k s →
      Reaches N advance' v schedule budget k (run_after N advance' v schedule k) × AgreeRun R s (run_after N advance' v schedule k)
  reaches_agree w v schedule budget k s h r = (
    record { is = refl; going = λ j l. sym (run_ends_agree w v schedule budget j h) ∙ r.going j l },
    rw r.is (runs_agree w v schedule k h),
  )

  pub reaches_agree_back : (w : World A) (v : World B) (schedule : List Entry) (budget k : ℕ) (t : RunState B) → AgreeBy R w v →
      Reaches N advance' v schedule budget k t →
      Reaches M advance w schedule budget k (run_after M advance w schedule k) × AgreeRun R (run_after M advance w schedule k) t
  reaches_agree_back w v schedule budget k t h r = (
    record { is = refl; going = λ j l. run_ends_agree w v schedule budget j h ∙ r.going j l },
    rw r.is (runs_agree w v schedule k h),
  )

  -- the one run's end after k entries is the other's
  pub run_agree : (w : World A) (v : World B) (schedule : List Entry) (budget k : ℕ) (s : RunState A) (how : RunEnd) →
      AgreeBy R w v → Run M advance w schedule budget k s how →
      Run N advance' v schedule budget k (run_after N advance' v schedule k) how × AgreeRun R s (run_after N advance' v schedule k)
  run_agree w v schedule budget k s how h r =
      let (reached, agreed) = reaches_agree w v schedule budget k s h r.reaches in
      (record { reaches = reached; ends = sym (ends_agree R budget s _ agreed) ∙ r.ends }, agreed)

  pub run_agree_back : (w : World A) (v : World B) (schedule : List Entry) (budget k : ℕ) (t : RunState B) (how : RunEnd) →
      AgreeBy R w v → Run N advance' v schedule budget k t how →
      Run M advance w schedule budget k (run_after M advance w schedule k) how × AgreeRun R (run_after M advance w schedule k) t
  run_agree_back w v schedule budget k t how h r =
      let (reached, agreed) = reaches_agree_back w v schedule budget k t h r.reaches in
      (record { reaches = reached; ends = ends_agree R budget _ t agreed ∙ r.ends }, agreed)
