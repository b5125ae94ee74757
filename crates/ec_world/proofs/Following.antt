-- Where activations follow others, worlds agree after every list of entries, and runs along every schedule.
use Rattle.std.proofs.Common.{◌≡◌, ℕ, zero, suc, List, [], ◌∷◌, ◌++◌, map, Option, Some, None, Bool, true, false, refl, sym, ap, ◌∙◌, subst}
use Rattle.std.specs.Prelude.{slice_get, slice_set, reverse}
use Rattle.ec_base.specs.Stack.{top_of, below_of}
use Rattle.ec_world.specs.declared.value.Value.{Value}
use Rattle.ec_world.specs.declared.value.ValueType.{ValueType}
use Rattle.ec_world.specs.declared.class.ClassRec.{ClassRec}
use Rattle.ec_world.specs.declared.process.Proc.{Proc}
use Rattle.ec_world.specs.declared.stop.Effect.{Effect}
use Rattle.ec_world.specs.declared.stop.Effect.TheVariants.{GoesOn, Calls, Leaves, Blocks, Ends, Fails}
use Rattle.ec_world.specs.declared.doing.Outcome.{Outcome}
use Rattle.ec_world.specs.declared.doing.Section.{Section}
use Rattle.ec_world.specs.declared.object.ObjectRec.{ObjectRec}
use Rattle.ec_world.specs.declared.common.Common.{Common}
use Rattle.ec_world.specs.declared.world.World.{World}
use Rattle.ec_world.specs.declared.run.Entry.{Entry}
use Rattle.ec_world.specs.declared.run.RunEntry.{RunEntry}
use Rattle.ec_world.specs.declared.run.RunEntry.TheVariants.{TurnOf, MoveOf}
use Rattle.ec_world.specs.Meaning.{ActivationMeaning}
use Rattle.ec_world.specs.Outcomes.{Acted, all_granted}
use Rattle.ec_world.specs.World.{stack_at, given_up, finish_top, changed, who_of, owns_of, begun_for, settled, acted, outcome_at}
use Rattle.ec_world.specs.World.{act_if_pending, act_on, Action, advanced, go_on_unless, go_on, GoOn, Turn}
use Rattle.ec_world.specs.Moves.{OperatorMove, moved_unless, is_idle_move}
use Rattle.ec_world.specs.Agree.{AllTwo, SameRest, AgreeProc, Agree, Maybe}
use Rattle.ec_world.specs.Run.{RunState, statuses_of, next_entry, tail_of, last_of, after_entry, after_entries, stepped, step_run}
use Rattle.ec_world.specs.Run.{run_after, first_common, first_world}
use Rattle.ec_world.specs.Simulation.{AgreeRun}
use Rattle.ec_world.proofs.Related.{all-append, all-length, tops, belows, all-map, all-set, all-get}
use Rattle.ec_world.proofs.Simulation.{statuses_agree}
use Rattle.ec_world.specs.Follows.{IsLater, IsKept, ActsTo, Alike, Follows, Stacked, StackedProc, FollowsWorld, FollowsRun}
use Rattle.ec_world.proofs.Stacks.{stacked_push, stacked_none, stacked_all, ready_alike, all_readied_alike, procs_map}

module _ {A B : Type 0} (M : ActivationMeaning A) (N : ActivationMeaning B) (advance : Common → A → Common × A)
    (advance' : Common → B → Common × B) (Later : Common → Common → Type 0) (Invariant : World B → Type 0)
    (On Below : Common → A → B → Type 0) (is_later : IsLater Later) (kept : IsKept N advance' Invariant)
    (sim : Follows M N advance advance' Later Invariant On Below) where
  abbrev Procs : Common → List (Proc A) → List (Proc B) → Type 0
  Procs c = AllTwo (StackedProc (On c) (Below c))

  abbrev Worlds : World A → World B → Type 0
  Worlds = FollowsWorld Invariant On Below

  later_procs : (c d : Common) (ps : List (Proc A)) (qs : List (Proc B)) → Later c d → Procs c ps qs → Procs d ps qs
  later_procs c d ps qs l h =
      procs_map (On c) (Below c) (On d) (Below d) (λ a b. sim.later_on c d a b l) (λ a b. sim.later_below c d a b l) ps qs h

  later_waiting : (c d : Common) (xs : List A) (ys : List B) → Later c d → AllTwo (Below c) xs ys → AllTwo (Below d) xs ys
  later_waiting c d xs ys l h = all-map (Below c) (Below d) (λ a b. sim.later_below c d a b l) xs ys h

  -- one process changed under what comes later
  set_proc : (c d : Common) (ps : List (Proc A)) (qs : List (Proc B)) (p : ℕ) (x : Proc A) (y : Proc B) → Later c d → Procs c ps qs →
      StackedProc (On d) (Below d) x y → Procs d (slice_set ps p x) (slice_set qs p y)
  set_proc c d ps qs p x y l h k = all-set (StackedProc (On d) (Below d)) ps qs p x y (later_procs c d ps qs l h) k

  stacks_alike : (w : World A) (v : World B) (p : ℕ) → Worlds w v → Stacked (On v.common) (Below v.common) (stack_at w p) (stack_at v p)
  stacks_alike w v p h =
      ready_alike (On v.common) (Below v.common) (slice_get w.processes p) (slice_get v.processes p)
      (all-get (StackedProc (On v.common) (Below v.common)) w.processes v.processes p h.processes)

  -- activations that wait are of the same objects
  own_alike : (c : Common) (xs : List A) (ys : List B) → AllTwo (Below c) xs ys → map M.own xs ≡ map N.own ys
  own_alike c [] [] h = refl
  own_alike c (x ∷ xs) (y ∷ ys) h = let e = (sim.same_below c x y h.0).own in let r = own_alike c xs ys h.1 in cc
  own_alike c [] (y ∷ ys) h = absurd h
  own_alike c (x ∷ xs) [] h = absurd h

  owns_alike : (c : Common) (xs : List A) (ys : List B) (a : A) (b : B) → AllTwo (Below c) xs ys → On c a b →
      owns_of M xs a ≡ owns_of N ys b
  owns_alike c xs ys a b h r =
      ap (λ own. own ∷ reverse (map M.own xs)) (sim.same_on c a b r).own
      ∙ ap (λ (owns : List ℕ). N.own b ∷ reverse owns) (own_alike c xs ys h)

  -- what a process gives up that has failed, and nothing where it hasn't
  later_given : (p : ℕ) (owns : List ℕ) (e : Effect) (d : Common) → Later d (record d { objects = (given_up p owns e d.objects).0 })
  later_given p owns (GoesOn given) d = is_later.itself d
  later_given p owns (Calls op own args) d = is_later.itself d
  later_given p owns (Leaves given) d = is_later.itself d
  later_given p owns (Blocks queue oid) d = is_later.itself d
  later_given p owns Ends d = is_later.itself d
  later_given p owns (Fails cause line) d = is_later.gives_up d p owns

  -- ---- actions

  module _ (w : World A) (v : World B) (p : ℕ) (h : Worlds w v) where
    module _ (xs : List A) (ys : List B) (a : A) (b : B) (is_below : ys ≡ below_of (stack_at v p))
        (is_top : top_of (stack_at v p) ≡ Some b) (k : AllTwo (Below v.common) xs ys) (r : On v.common a b)
        (t : N.is_pending b ≡ true) where
      -- the activation on top comes to outcome o, with d then beside the processes
      module _ (d : Common) (o : Outcome) (is : outcome_at N v p ys b ≡ Some (d, o)) where
        acts : ActsTo N Invariant On v p a b d o
        acts = record {
          invariant = h.invariant;
          is_top = is_top;
          on = r;
          pending = t;
          outcome = subst (λ z. outcome_at N v p z b ≡ Some (d, o)) is_below is;
        }

        later : Later v.common d
        later = is_later.acts v.common d (who_of N p ys b) (N.stop b) (N.operands b) o is

        left_alike : (given : Option Value) → o.effect ≡ Leaves given → (x : Option A) (y : Option B) → top_of ys ≡ y →
            Maybe (Below v.common) x y →
            Stacked (On d) (Below d) (finish_top M (below_of xs) x given) (finish_top N (below_of ys) y given)
        left_alike given e None None f m = stacked_none (On d) (Below d)
        left_alike given e (Some x) (Some y) f m =
            stacked_push (On d) (Below d) (below_of xs) (below_of ys) (M.finished x given) (N.finished y given)
            (later_waiting v.common d (below_of xs) (below_of ys) later (belows (Below v.common) xs ys k))
            (sim.leaves v p a b d o x y given acts e (subst (λ z. top_of z ≡ Some y) is_below f) m)
        left_alike given e None (Some y) f m = absurd m
        left_alike given e (Some x) None f m = absurd m

        -- the process that acted
        changed_alike : (e : Effect) → o.effect ≡ e → StackedProc (On d) (Below d) (changed M xs a e) (changed N ys b e)
        changed_alike (GoesOn given) e = record {
          status = refl;
          activations = stacked_push (On d) (Below d) xs ys (M.finished a given) (N.finished b given)
              (later_waiting v.common d xs ys later k) (sim.goes_on v p a b d o given acts e);
        }
        changed_alike (Calls op own args) e =
            let both = sim.calls v p a b d o op own args acts e in
            let waiting : AllTwo (Below d) (xs ++ M.finished a None ∷ []) (ys ++ N.finished b None ∷ []) =
            all-append (Below d) xs (M.finished a None ∷ []) ys (N.finished b None ∷ []) (later_waiting v.common d xs ys later k)
            (both.0, tt) in
            record {
              status = refl;
              activations = stacked_push (On d) (Below d) _ _ (M.begun op own args) (N.begun op own args) waiting both.1;
            }
        changed_alike (Leaves given) e = record {
          status = refl;
          activations = left_alike given e (top_of xs) (top_of ys) refl (tops (Below v.common) xs ys k);
        }
        changed_alike (Blocks queue oid) e = record {
          status = refl;
          activations = stacked_push (On d) (Below d) xs ys (M.finished a None) (N.finished b None)
              (later_waiting v.common d xs ys later k) (sim.blocks v p a b d o queue oid acts e);
        }
        changed_alike Ends e = record { status = refl; activations = stacked_none (On d) (Below d) }
        changed_alike (Fails cause line) e = record { status = refl; activations = stacked_none (On d) (Below d) }

        -- a process that starts
        begun_alike : (started : Option Section) → o.started ≡ started → Procs d (begun_for M started) (begun_for N started)
        begun_alike None e = tt
        begun_alike (Some section) e = (
          record {
            status = refl;
            activations = stacked_push (On d) (Below d) [] [] _ _ tt (sim.starts v p a b d o section acts e);
          },
          tt,
        )

        settled_alike : (g : List ObjectRec × List ℕ) → Later d (record d { objects = g.0 }) → Invariant (settled N v p ys b d o g) →
            Worlds (settled M w p xs a d o g) (settled N v p ys b d o g)
        settled_alike (objects, freed) l i = record {
          invariant = i;
          common = refl;
          processes =
              later_procs d (record d { objects = objects }) _ _ l
              (all-append (StackedProc (On d) (Below d)) _ _ _ _
              (all_readied_alike (On d) (Below d) _ _ (all_granted o.granted freed)
              (set_proc v.common d w.processes v.processes p _ _ later h.processes (changed_alike o.effect refl)))
              (begun_alike o.started refl));
        }

      acted_alike : (o : Acted) → outcome_at N v p ys b ≡ o → Invariant (acted N v p ys b o) →
          Worlds (acted M w p xs a o) (acted N v p ys b o)
      acted_alike None is i = h
      acted_alike (Some (d, o)) is i =
          subst
          (λ (owns : List ℕ). Worlds (settled M w p xs a d o (given_up p owns o.effect d.objects))
          (settled N v p ys b d o (given_up p (owns_of N ys b) o.effect d.objects)))
          (sym (owns_alike v.common xs ys a b k r))
          (settled_alike d o is (given_up p (owns_of N ys b) o.effect d.objects) (later_given p (owns_of N ys b) o.effect d) i)

      outcomes_alike : outcome_at M w p xs a ≡ outcome_at N v p ys b
      outcomes_alike =
          let s = sim.same_on v.common a b r in
          rw (h.common, all-length (Below v.common) xs ys k, s.operation, s.own, s.stop, sim.operands v.common a b r t) refl

    pending_alike : (xs : List A) (ys : List B) (a : A) (b : B) (d : Bool) → N.is_pending b ≡ d → ys ≡ below_of (stack_at v p) →
        top_of (stack_at v p) ≡ Some b → AllTwo (Below v.common) xs ys → On v.common a b → Invariant (act_if_pending N v p ys b d) →
        Worlds (act_if_pending M w p xs a d) (act_if_pending N v p ys b d)
    pending_alike xs ys a b false e f g k r i = h
    pending_alike xs ys a b true e f g k r i =
        let o = outcomes_alike xs ys a b f g k r e in
        rw o (acted_alike xs ys a b f g k r e (outcome_at N v p ys b) refl i)

    act_alike : (xs : List A) (ys : List B) (x : Option A) (y : Option B) → ys ≡ below_of (stack_at v p) →
        top_of (stack_at v p) ≡ y → AllTwo (Below v.common) xs ys → Maybe (On v.common) x y → Invariant (act_on N v p ys y) →
        Worlds (act_on M w p xs x) (act_on N v p ys y)
    act_alike xs ys None None f g k r i = h
    act_alike xs ys (Some a) (Some b) f g k r i =
        let e = (sim.same_on v.common a b r).pending in
        rw e (pending_alike xs ys a b (N.is_pending b) refl f g k r i)
    act_alike xs ys None (Some b) f g k r i = absurd r
    act_alike xs ys (Some a) None f g k r i = absurd r

    -- Related worlds stay so by an action.
    pub action_alike : FollowsWorld Invariant On Below (Action M w p) (Action N v p)
    action_alike =
        let s = stacks_alike w v p h in
        act_alike (below_of (stack_at w p)) (below_of (stack_at v p)) (top_of (stack_at w p)) (top_of (stack_at v p)) refl refl s.below
        s.top (kept.acts v p h.invariant)

    -- ---- silent steps

    advanced_alike : (xs : List A) (ys : List B) (m : Common × A) (n : Common × B) → AllTwo (Below v.common) xs ys →
        Alike Later On v.common m n → Invariant (advanced N advance' v p ys n) →
        Worlds (advanced M advance w p xs m) (advanced N advance' v p ys n)
    advanced_alike xs ys (c, a) (d, b) k s i = record {
      invariant = i;
      common = s.common;
      processes =
          set_proc v.common d w.processes v.processes p _ _ s.later h.processes
          (record {
            status = refl;
            activations = stacked_push (On d) (Below d) xs ys a b (later_waiting v.common d xs ys s.later k) s.on;
          });
    }

    unless_alike : (xs : List A) (ys : List B) (a : A) (b : B) (d : Bool) → N.is_pending b ≡ d → top_of (stack_at v p) ≡ Some b →
        AllTwo (Below v.common) xs ys → On v.common a b → Invariant (go_on_unless N advance' v p ys b d) →
        Worlds (go_on_unless M advance w p xs a d) (go_on_unless N advance' v p ys b d)
    unless_alike xs ys a b true e g k r i = h
    unless_alike xs ys a b false e g k r i =
        let s : Alike Later On v.common (advance w.common a) (advance' v.common b) = rw h.common (sim.goes v p a b h.invariant g r e) in
        advanced_alike xs ys (advance w.common a) (advance' v.common b) k s i

    on_alike : (xs : List A) (ys : List B) (x : Option A) (y : Option B) → top_of (stack_at v p) ≡ y →
        AllTwo (Below v.common) xs ys → Maybe (On v.common) x y → Invariant (go_on N advance' v p ys y) →
        Worlds (go_on M advance w p xs x) (go_on N advance' v p ys y)
    on_alike xs ys None None g k r i = h
    on_alike xs ys (Some a) (Some b) g k r i =
        let e = (sim.same_on v.common a b r).pending in
        rw e (unless_alike xs ys a b (N.is_pending b) refl g k r i)
    on_alike xs ys None (Some b) g k r i = absurd r
    on_alike xs ys (Some a) None g k r i = absurd r

    -- and by silent steps
    pub go_alike : FollowsWorld Invariant On Below (GoOn M advance w p) (GoOn N advance' v p)
    go_alike =
        let s = stacks_alike w v p h in
        on_alike (below_of (stack_at w p)) (below_of (stack_at v p)) (top_of (stack_at w p)) (top_of (stack_at v p)) refl s.below s.top
        (kept.goes v p h.invariant)

  -- ---- entries

  -- The first worlds are related, if what begins them is.
  pub first_alike : (n : ℕ) (classes : List ClassRec) (globals : List ValueType) → Invariant (first_world N n classes globals) →
      On (first_common n classes globals) (M.begun 0 (suc n) []) (N.begun 0 (suc n) []) →
      FollowsWorld Invariant On Below (first_world M n classes globals) (first_world N n classes globals)
  first_alike n classes globals i r = record {
    invariant = i;
    common = refl;
    processes = (
      record {
        status = refl;
        activations =
            stacked_push (On (first_common n classes globals)) (Below (first_common n classes globals)) [] [] _ _ tt r;
      },
      tt,
    );
  }

  pub turn_alike : (w : World A) (v : World B) (p : ℕ) → FollowsWorld Invariant On Below w v →
      FollowsWorld Invariant On Below (Turn M advance w p) (Turn N advance' v p)
  turn_alike w v p h = go_alike (Action M w p) (Action N v p) p (action_alike w v p h)

  moved_later : (c : Common) (oid k : ℕ) (is_idle : Bool) → Later c (moved_unless c oid k is_idle)
  moved_later c oid k true = is_later.itself c
  moved_later c oid k false = is_later.moves c oid k

  moves_alike : (w : World A) (v : World B) (oid k : ℕ) → Worlds w v → Worlds (OperatorMove w oid k) (OperatorMove v oid k)
  moves_alike w v oid k h = record {
    invariant = kept.moves v oid k h.invariant;
    common = ap (λ c. moved_unless c oid k (is_idle_move c oid k)) h.common;
    processes =
        later_procs v.common (moved_unless v.common oid k (is_idle_move v.common oid k)) w.processes v.processes
        (moved_later v.common oid k (is_idle_move v.common oid k)) h.processes;
  }

  pub entry_alike : (w : World A) (v : World B) (e : RunEntry) → FollowsWorld Invariant On Below w v →
      FollowsWorld Invariant On Below (after_entry M advance w e) (after_entry N advance' v e)
  entry_alike w v (TurnOf p) h = turn_alike w v p h
  entry_alike w v (MoveOf oid k) h = moves_alike w v oid k h

  pub entries_alike : (w : World A) (v : World B) (es : List RunEntry) → FollowsWorld Invariant On Below w v →
      FollowsWorld Invariant On Below (after_entries M advance w es) (after_entries N advance' v es)
  entries_alike w v [] h = h
  entries_alike w v (e ∷ es) h = entries_alike (after_entry M advance w e) (after_entry N advance' v e) es (entry_alike w v e h)

  -- All activations of related worlds rest alike.
  pub agree_by_following : (w : World A) (v : World B) → FollowsWorld Invariant On Below w v → Agree M N w v
  agree_by_following w v h = record {
    common = h.common;
    processes =
        all-map (StackedProc (On v.common) (Below v.common)) (AgreeProc (SameRest M N))
        (λ x y q.
        record {
          status = q.status;
          activations =
              stacked_all (On v.common) (Below v.common) (SameRest M N) (sim.same_on v.common) (sim.same_below v.common) x.activations
              y.activations q.activations.below q.activations.top;
        })
        w.processes v.processes h.processes;
  }

  -- Worlds agree after every list of entries.
  pub entries_agree : (w : World A) (v : World B) (es : List RunEntry) → FollowsWorld Invariant On Below w v →
      Agree M N (after_entries M advance w es) (after_entries N advance' v es)
  entries_agree w v es h = agree_by_following _ _ (entries_alike w v es h)

  -- ---- whole runs

  stepped_alike : (s : RunState A) (t : RunState B) (e : Option RunEntry) → FollowsRun Invariant On Below s t →
      FollowsRun Invariant On Below (stepped M advance s e) (stepped N advance' t e)
  stepped_alike s t None h = h
  stepped_alike s t (Some e) h = record {
    worlds = entry_alike s.world t.world e h.worlds;
    left = ap tail_of h.left;
    last = ap (last_of e) h.last;
    done = ap (λ es. es ++ e ∷ []) h.done;
  }

  step_alike : (s : RunState A) (t : RunState B) → FollowsRun Invariant On Below s t →
      FollowsRun Invariant On Below (step_run M advance s) (step_run N advance' t)
  step_alike s t h =
      let statuses = statuses_agree (SameRest M N) s.world t.world (agree_by_following s.world t.world h.worlds) in
      let e : next_entry s.left (statuses_of s.world) s.last ≡ next_entry t.left (statuses_of t.world) t.last =
      rw (h.left, statuses, h.last) refl in
      rw e (stepped_alike s t (next_entry t.left (statuses_of t.world) t.last) h)

  -- Runs stay related after so many entries of a schedule, and then of round robin.
  pub runs_alike : (w : World A) (v : World B) (schedule : List Entry) (k : ℕ) → FollowsWorld Invariant On Below w v →
      FollowsRun Invariant On Below (run_after M advance w schedule k) (run_after N advance' v schedule k)
  unfolding run_after
  runs_alike w v schedule zero h = record { worlds = h; left = refl; last = refl; done = refl }
  runs_alike w v schedule (suc k) h =
      step_alike (run_after M advance w schedule k) (run_after N advance' v schedule k) (runs_alike w v schedule k h)

  -- Related runs agree.
  pub run_agrees_by_following : (s : RunState A) (t : RunState B) → FollowsRun Invariant On Below s t → AgreeRun (SameRest M N) s t
  run_agrees_by_following s t h = record {
    worlds = agree_by_following s.world t.world h.worlds;
    left = h.left;
    last = h.last;
    done = h.done;
  }

  -- Runs agree along every schedule.
  pub runs_agree : (w : World A) (v : World B) (schedule : List Entry) (k : ℕ) → FollowsWorld Invariant On Below w v →
      AgreeRun (SameRest M N) (run_after M advance w schedule k) (run_after N advance' v schedule k)
  runs_agree w v schedule k h = run_agrees_by_following _ _ (runs_alike w v schedule k h)
