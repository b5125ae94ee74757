-- A sound world stays sound, entry by entry.
use Rattle.std.proofs.Common.{◌≡◌, ◌≢◌, ℕ, zero, suc, ◌<◌, ◌⊎◌, inl, inr, Bool, true, false, List, [], ◌∷◌, ◌++◌, map, replicate, Option}
use Rattle.std.proofs.Common.{Some, None}
use Rattle.std.proofs.Common.{refl, sym, ◌∙◌, ap, subst, arith}
use Rattle.std.specs.Prelude.{slice_get, slice_set, IsSome}
use Rattle.std.specs.List.{AllByRecursion as Each}
use Rattle.ec_base.specs.Stack.{top_of, below_of}
use Rattle.ec_code.specs.Activations.{code_meaning, code_silent}
use Rattle.ec_code.specs.declared.activation.CodeActivation.{CodeActivation}
use Rattle.ec_code.specs.declared.code.Operation.{Operation}
use Rattle.ec_code.specs.declared.code.Parts.{Parts}
use Rattle.ec_code.specs.Fine.{Fine}
use Rattle.ec_code.specs.Typing.{Declared, kind_of}
use Rattle.ec_types.specs.declared.conform.static_type.StaticType.{StaticType}
use Rattle.ec_types.specs.Known.{IsOfProgram}
use Rattle.ec_monitors.specs.declared.record.Granted.{Granted}
use Rattle.ec_monitors.specs.declared.record.MonitorRec.{MonitorRec}
use Rattle.ec_monitors.specs.Monitors.{dropped}
use Rattle.ec_world.proofs.Worlds.{entries_keep, granted_waits}
use Rattle.ec_world.specs.Laws.{GrantsWaiting}
use Rattle.ec_world.specs.Waiting.{WaitsBeside}
use Rattle.ec_world.specs.Agree.{AllTwo}
use Rattle.ec_world.specs.Group.{Has}
use Rattle.ec_world.specs.Moves.{OperatorMove, is_idle_move, moved_common, moved_unless}
use Rattle.ec_world.specs.Objects.{object_at}
use Rattle.ec_world.specs.Outcomes.{Acted, all_granted, by_holder, dropped_at, dropped_each, dropped_if, monitor_if}
use Rattle.ec_world.specs.Run.{after_entries, after_entry, first_world, node_object, program_object}
use Rattle.ec_world.specs.Sights.{class_of}
use Rattle.ec_world.specs.Values.{defaults_of}
use Rattle.ec_world.specs.World.{Action, GoOn, act_if_pending, act_on, acted, advanced, all_readied, begun_for, changed, given_up, go_on}
use Rattle.ec_world.specs.World.{go_on_unless, outcome_at, owns_of, readied, ready_stack, settled, stack_at, stack_if_ready}
use Rattle.ec_world.specs.declared.class.ClassNo.TheVariants.{Node, Program}
use Rattle.ec_world.specs.declared.common.Common.{Common}
use Rattle.ec_world.specs.declared.doing.Outcome.{Outcome}
use Rattle.ec_world.specs.declared.doing.Section.{Section}
use Rattle.ec_world.specs.declared.object.ObjectRec.{ObjectRec}
use Rattle.ec_world.specs.declared.process.Proc.{Proc}
use Rattle.ec_world.specs.declared.process.ProcStatus.{ProcStatus}
use Rattle.ec_world.specs.declared.process.ProcStatus.TheVariants.{Ready, Entry as AtEntry, Cond, Urgent, Ended, Failed}
use Rattle.ec_world.specs.declared.run.RunEntry.{RunEntry}
use Rattle.ec_world.specs.declared.run.RunEntry.TheVariants.{TurnOf, MoveOf}
use Rattle.ec_world.specs.declared.stop.Effect.{Effect}
use Rattle.ec_world.specs.declared.stop.Effect.TheVariants.{GoesOn, Calls, Leaves, Blocks, Ends, Fails}
use Rattle.ec_world.specs.declared.world.World.{World}
use Rattle.ec_code.specs.Sound.{Chain, FineActed, FineEffect, FineObject, FineSection, IsLowest, LiveBehind, SoundCommon, SoundPending}
use Rattle.ec_code.specs.Sound.{SoundProc}
use Rattle.ec_code.specs.Sound.{SoundTower, SoundWorld, TopIs, lowest_of}
use Rattle.ec_code.specs.SoundValues.{HasType, Later}
use Rattle.ec_code.proofs.Carried.{each_append, each_get, each_object, each_replicate, each_set, later_changed, later_same, later_then}
use Rattle.ec_code.proofs.Carried.{procs_later}
use Rattle.ec_code.proofs.Carried.{behind_later, chain_later, pending_later, with_changed, with_events}
use Rattle.ec_code.proofs.Monitors.{silent_keeps_monitors}
use Rattle.ec_code.proofs.Silent.{Advanced, silent_sound}
use Rattle.ec_code.proofs.SoundStacks.{begins_sound, changed_sound, has_pushed, outcome_continues, outcome_sound, tower}
use Rattle.ec_code.proofs.Table.{Continues, EffectGoes, effect_more}
use Rattle.ec_code.proofs.Typed.{default_fits}

-- ---- lists

-- what stands in a list where one item was set
pub set_get : {A : Type 0} (xs : List A) (n i : ℕ) (y q : A) → slice_get (slice_set xs n y) i ≡ Some q
    → ((i ≡ n) × (y ≡ q)) ⊎ ((i ≢ n) × (slice_get xs i ≡ Some q))
set_get [] n i y q e = cc
set_get (x ∷ xs) zero zero y q e = inl (refl, (let s : y ≡ q = cc in s))
set_get (x ∷ xs) zero (suc i) y q e = inr ((λ s. cc), e)
set_get (x ∷ xs) (suc n) zero y q e = inr ((λ s. cc), e)
set_get (x ∷ xs) (suc n) (suc i) y q e = by (set_get xs n i y q e)
  where
    by : ((i ≡ n) × (y ≡ q)) ⊎ ((i ≢ n) × (slice_get xs i ≡ Some q))
        → ((suc i ≡ suc n) × (y ≡ q)) ⊎ ((suc i ≢ suc n) × (slice_get xs i ≡ Some q))
    by (inl s) = inl (ap suc s.0, s.1)
    by (inr s) = inr ((λ t. s.0 (let u : i ≡ n = cc in u)), s.1)

each_had : (P : ℕ → Type 0) (xs : List ℕ) → ((x : ℕ) → Has xs x → P x) → Each P xs
each_had P [] f = tt
each_had P (x ∷ xs) f = (f x (record { at = 0; is = refl }), each_had P xs (λ y h. f y (record { at = suc h.at; is = h.is })))

each_granted : (P : ℕ → Type 0) (granted : Option Granted) (freed : List ℕ) → ((q : Granted) → granted ≡ Some q → P q.process)
    → Each P freed
    → Each P (all_granted granted freed)
each_granted P None freed f h = h
each_granted P (Some q) freed f h = (f q refl, h)

module _ (d : Declared) (p : Parts) (fine : Fine d p) where
  -- ---- the stack of a process

  status_tower : (objects : List ObjectRec) (s : ProcStatus) (xs : List CodeActivation) → SoundTower d p objects (below_of xs) (top_of xs)
      → SoundTower d p objects (below_of (stack_if_ready s xs)) (top_of (stack_if_ready s xs))
  status_tower objects Ready xs h = h
  status_tower objects (AtEntry o) xs h = tt
  status_tower objects (Cond o) xs h = tt
  status_tower objects (Urgent o) xs h = tt
  status_tower objects Ended xs h = tt
  status_tower objects (Failed why line) xs h = tt

  ready_tower : (objects : List ObjectRec) (ps : List (Proc CodeActivation)) (n : ℕ) → Each (SoundProc d p objects) ps
      → (q : Option (Proc CodeActivation)) → slice_get ps n ≡ q → SoundTower d p objects (below_of (ready_stack q)) (top_of (ready_stack q))
  ready_tower objects ps n h None e = tt
  ready_tower objects ps n h (Some q) e = status_tower objects q.status q.activations (each_get (SoundProc d p objects) ps n q h e).tower

  -- the common part and the processes of a world
  abbrev pub Parted : World CodeActivation → Type 0
  Parted w = SoundCommon d p w.common × Each (SoundProc d p w.common.objects) w.processes

  pub tower_at : (w : World CodeActivation) (n : ℕ) → Parted w
      → SoundTower d p w.common.objects (below_of (stack_at w n)) (top_of (stack_at w n))
  tower_at w n s = ready_tower w.common.objects w.processes n s.1 (slice_get w.processes n) refl

  -- ---- who is granted a monitor goes on

  -- a process that is there has an activation on top
  abbrev TopAt : List (Proc CodeActivation) → ℕ → Type 0
  TopAt ps q = (proc : Proc CodeActivation) → slice_get ps q ≡ Some proc → IsSome (top_of proc.activations)

  readied_sound : (objects : List ObjectRec) (ps : List (Proc CodeActivation)) (q : ℕ) → Each (SoundProc d p objects) ps → TopAt ps q
      → (proc : Option (Proc CodeActivation)) → slice_get ps q ≡ proc → Each (SoundProc d p objects) (readied ps q proc)
  readied_sound objects ps q h t None e = h
  readied_sound objects ps q h t (Some proc) e =
      each_set (SoundProc d p objects) ps q (record proc { status = Ready }) h
      (record { tower = (each_get (SoundProc d p objects) ps q proc h e).tower; top = t proc e })

  readied_top : (ps : List (Proc CodeActivation)) (q r : ℕ) → TopAt ps r → (proc : Option (Proc CodeActivation)) → slice_get ps q ≡ proc
      → TopAt (readied ps q proc) r
  readied_top ps q r t None e = t
  readied_top ps q r t (Some proc) e = λ other at. by other (set_get ps q r (record proc { status = Ready }) other at)
    where
      by : (other : Proc CodeActivation)
          → ((r ≡ q) × (record proc { status = Ready } ≡ other)) ⊎ ((r ≢ q) × (slice_get ps r ≡ Some other))
          → IsSome (top_of other.activations)
      by other (inl s) =
          subst (λ (z : Proc CodeActivation). IsSome (top_of z.activations)) s.1
          (t proc (ap (λ i. slice_get ps i) s.0 ∙ e))
      by other (inr s) = t other s.1

  tops_kept : (ps : List (Proc CodeActivation)) (q : ℕ) (qs : List ℕ) → Each (TopAt ps) qs → Each (TopAt (readied ps q (slice_get ps q))) qs
  tops_kept ps q [] h = tt
  tops_kept ps q (r ∷ rs) h = (readied_top ps q r h.0 (slice_get ps q) refl, tops_kept ps q rs h.1)

  all_readied_sound : (objects : List ObjectRec) (ps : List (Proc CodeActivation)) (qs : List ℕ) → Each (SoundProc d p objects) ps
      → Each (TopAt ps) qs
      → Each (SoundProc d p objects) (all_readied ps qs)
  all_readied_sound objects ps [] h t = h
  all_readied_sound objects ps (q ∷ qs) h t =
      all_readied_sound objects (readied ps q (slice_get ps q)) qs (readied_sound objects ps q h t.0 (slice_get ps q) refl)
      (tops_kept ps q qs t.1)

  -- who waits beside process n still has a top, once n has changed
  beside : (w : World CodeActivation) (n q : ℕ) (new : Proc CodeActivation) → WaitsBeside w n q → TopAt (slice_set w.processes n new) q
  beside w n q new b = λ proc at. by proc (set_get w.processes n q new proc at)
    where
      by : (proc : Proc CodeActivation) → ((q ≡ n) × (new ≡ proc)) ⊎ ((q ≢ n) × (slice_get w.processes q ≡ Some proc))
          → IsSome (top_of proc.activations)
      by proc (inl s) = absurd (b.other s.0)
      by proc (inr s) =
          let same : b.proc ≡ proc = (let e = b.there in let k = s.1 in cc) in
          subst (λ (z : Proc CodeActivation). IsSome (top_of z.activations)) same b.top

  begun_sound : (objects : List ObjectRec) (started : Option Section) → FineSection d p objects started
      → Each (SoundProc d p objects) (begun_for code_meaning started)
  begun_sound objects None h = tt
  begun_sound objects (Some section) h =
      let b = h.2 in
      (begins_sound d p fine objects section.operation section.own b.operation b.is (h.1 ∙ ap Some (sym b.of)) b.lowest b.parameters, tt)

  -- ---- what a failed process gives up

  -- the objects after, with the common part that has them
  abbrev Follows : Common → List ObjectRec → Type 0
  Follows c objects = Later c.objects objects × SoundCommon d p (record c { objects = objects })

  same_follows : (c : Common) → SoundCommon d p c → Follows c c.objects
  same_follows c s =
      (later_same c.objects, record { classes = s.classes; objects = s.objects; constants = s.constants; nodes = s.nodes })

  drop_sound : (c : Common) (n oid : ℕ) → SoundCommon d p c → (m : Option MonitorRec) → Follows c (dropped_if c.objects n oid m).0
  drop_sound c n oid s None = same_follows c s
  drop_sound c n oid s (Some m) =
      let after : Option MonitorRec = Some (by_holder n m (dropped m)).0 in (
        later_changed c.objects oid (λ r. record r { monitor = after }) (λ r. refl),
        with_changed d p c s oid (λ r. record r { monitor = after }) (λ r. refl)
            (λ r at. each_object (FineObject d p c.objects) c.objects oid r s.objects at),
      )

  drops_sound : (c : Common) (n : ℕ) (oids : List ℕ) → SoundCommon d p c → Follows c (dropped_each n oids c.objects).0
  drops_sound c n [] s = same_follows c s
  drops_sound c n (oid ∷ oids) s =
      let first : List ObjectRec = (dropped_at c.objects n oid).0 in
      let f = drop_sound c n oid s (monitor_if (object_at c.objects oid)) in
      let rest = drops_sound (record c { objects = first }) n oids f.1 in
      (later_then c.objects first (dropped_each n oids first).0 f.0 rest.0, rest.1)

  given_up_sound : (c : Common) (n : ℕ) (owns : List ℕ) (e : Effect) → SoundCommon d p c → Follows c (given_up n owns e c.objects).0
  given_up_sound c n owns (Fails why line) s = drops_sound c n owns s
  given_up_sound c n owns (GoesOn v) s = same_follows c s
  given_up_sound c n owns (Calls op own args) s = same_follows c s
  given_up_sound c n owns (Leaves v) s = same_follows c s
  given_up_sound c n owns (Blocks queue oid) s = same_follows c s
  given_up_sound c n owns Ends s = same_follows c s

  -- ---- actions

  settled_sound : (w : World CodeActivation) (n : ℕ) (below : List CodeActivation) (top : CodeActivation) (c : Common) (o : Outcome)
      → SoundProc d p c.objects (changed code_meaning below top o.effect) → Each (SoundProc d p c.objects) w.processes
      → FineSection d p c.objects o.started → (x : List ObjectRec × List ℕ) → Follows c x.0
      → Each (TopAt (slice_set w.processes n (changed code_meaning below top o.effect))) (all_granted o.granted x.1)
      → Parted (settled code_meaning w n below top c o x)
  settled_sound w n below top c o new ps section (objects, freed) f tops =
      let set : List (Proc CodeActivation) = slice_set w.processes n (changed code_meaning below top o.effect) in
      let ready = all_readied set (all_granted o.granted freed) in
      let begun = begun_for code_meaning o.started in (
        f.1,
        procs_later d p c.objects objects f.0 (ready ++ begun)
            (each_append (SoundProc d p c.objects) ready begun
            (all_readied_sound c.objects set (all_granted o.granted freed)
            (each_set (SoundProc d p c.objects) w.processes n (changed code_meaning below top o.effect) ps new) tops)
            (begun_sound c.objects o.started section)),
      )

  granted_tops : (w : World CodeActivation) (n : ℕ) (top : CodeActivation) (c : Common) (o : Outcome) (new : Proc CodeActivation)
      → GrantsWaiting code_meaning w n top c o
      → Each (TopAt (slice_set w.processes n new))
      (all_granted o.granted (given_up n (owns_of code_meaning (below_of (stack_at w n)) top) o.effect c.objects).1)
  granted_tops w n top c o new g =
      let freed : List ℕ = (given_up n (owns_of code_meaning (below_of (stack_at w n)) top) o.effect c.objects).1 in
      each_granted (TopAt (slice_set w.processes n new)) o.granted freed (λ q e. beside w n q.process new (g.granted q e))
      (each_had (TopAt (slice_set w.processes n new)) freed (λ q h. beside w n q new (g.freed q h)))

  changed_later : (old new : List ObjectRec) → Later old new → (below : List CodeActivation) (top : CodeActivation) (e : Effect)
      → Chain d p old below top.operation → IsLowest d p (lowest_of d p below top.operation) → (h : SoundPending d p old top)
      → FineEffect d p new h.rests.of h.rests.row.gives e → EffectGoes (LiveBehind d p old top h.rests.of h.rests.row.gives) e
      → SoundProc d p new (changed code_meaning below top e)
  changed_later old new later below top e k b h f g =
      let o : Operation = h.rests.of in
      let given : Option StaticType = h.rests.row.gives in
      changed_sound d p fine new below top e (chain_later d p old new later below top.operation k) b (pending_later d p old new later top h)
      f
      (effect_more (LiveBehind d p old top o given) (LiveBehind d p new top o given) (behind_later d p old new later top o given) e g)

  -- the action of a pending top
  acted_sound : (w : World CodeActivation) (n : ℕ) (top : CodeActivation) → SoundWorld d p w → top_of (stack_at w n) ≡ Some top
      → (h : SoundPending d p w.common.objects top) → Chain d p w.common.objects (below_of (stack_at w n)) top.operation
      → IsLowest d p (lowest_of d p (below_of (stack_at w n)) top.operation) → (a : Acted)
      → outcome_at code_meaning w n (below_of (stack_at w n)) top ≡ a
      → FineActed d p w.common h.rests.of h.rests.row.gives a
      → Continues (LiveBehind d p w.common.objects top h.rests.of h.rests.row.gives) a
      → Parted (acted code_meaning w n (below_of (stack_at w n)) top a)
  acted_sound w n top s e h k b None at f g = absurd f
  acted_sound w n top s e h k b (Some (c, o)) at f g =
      let below : List CodeActivation = below_of (stack_at w n) in
      let objects : List ObjectRec = w.common.objects in
      let owns : List ℕ = owns_of code_meaning below top in
      let later = f.0 in
      let new : SoundProc d p c.objects (changed code_meaning below top o.effect) =
      changed_later objects c.objects later below top o.effect k b h f.2 g in
      settled_sound w n below top c o new (procs_later d p objects c.objects later w.processes s.processes) f.3
      (given_up n owns o.effect c.objects)
      (given_up_sound c n owns o.effect f.1)
      (granted_tops w n top c o (changed code_meaning below top o.effect) (granted_waits code_meaning w n top c o s.waiting e at))

  act_sound : (w : World CodeActivation) (n : ℕ) (top : CodeActivation) (pending : Bool) → SoundWorld d p w
      → top_of (stack_at w n) ≡ Some top
      → Chain d p w.common.objects (below_of (stack_at w n)) top.operation
      → IsLowest d p (lowest_of d p (below_of (stack_at w n)) top.operation) → TopIs d p w.common.objects top pending
      → Parted (act_if_pending code_meaning w n (below_of (stack_at w n)) top pending)
  act_sound w n top false s e k b h = (s.common, s.processes)
  act_sound w n top true s e k b h =
      let below : List CodeActivation = below_of (stack_at w n) in
      acted_sound w n top s e h k b (outcome_at code_meaning w n below top) refl (outcome_sound d p fine w.common s.common top h n below)
      (outcome_continues d p fine w.common s.common top h n below)

  act_on_sound : (w : World CodeActivation) (n : ℕ) (top : Option CodeActivation) → SoundWorld d p w → top_of (stack_at w n) ≡ top
      → SoundTower d p w.common.objects (below_of (stack_at w n)) top → Parted (act_on code_meaning w n (below_of (stack_at w n)) top)
  act_on_sound w n None s e h = (s.common, s.processes)
  act_on_sound w n (Some top) s e h = act_sound w n top top.pending s e h.0 h.1 h.2

  pub action_sound : (w : World CodeActivation) (n : ℕ) → SoundWorld d p w → SoundWorld d p (Action code_meaning w n)
  action_sound w n s =
      let q = act_on_sound w n (top_of (stack_at w n)) s refl (tower_at w n (s.common, s.processes)) in
      record { common = q.0; processes = q.1; waiting = (entries_keep code_meaning).by_action w n s.waiting }

  -- ---- silent steps

  advanced_sound : (w : World CodeActivation) (n : ℕ) (below : List CodeActivation) (top : CodeActivation) → SoundWorld d p w
      → Chain d p w.common.objects below top.operation → IsLowest d p (lowest_of d p below top.operation) → (m : Common × CodeActivation)
      → Advanced d p w.common top m.0 m.1 → Parted (advanced code_meaning (code_silent p) w n below m)
  advanced_sound w n below top s k low (c, b) a = (
    a.common,
    each_set (SoundProc d p c.objects) w.processes n (record { activations = below ++ b ∷ []; status = Ready })
        (procs_later d p w.common.objects c.objects a.later w.processes s.processes)
        (record {
          tower =
              tower d p fine c.objects below b
              (subst (λ o. Chain d p c.objects below o) (sym a.operation)
              (chain_later d p w.common.objects c.objects a.later below top.operation k))
              (subst (λ o. IsLowest d p (lowest_of d p below o)) (sym a.operation) low)
              (subst (λ t. TopIs d p c.objects b t) (sym a.pending) a.top);
          top = has_pushed d p fine c.objects below b;
        }),
  )

  unless_sound : (w : World CodeActivation) (n : ℕ) (below : List CodeActivation) (top : CodeActivation) (pending : Bool) → SoundWorld d p w
      → Chain d p w.common.objects below top.operation → IsLowest d p (lowest_of d p below top.operation)
      → TopIs d p w.common.objects top pending
      → Parted (go_on_unless code_meaning (code_silent p) w n below top pending)
  unless_sound w n below top true s k b h = (s.common, s.processes)
  unless_sound w n below top false s k b h =
      advanced_sound w n below top s k b (code_silent p w.common top) (silent_sound d p fine w.common s.common top h)

  go_sound : (w : World CodeActivation) (n : ℕ) (below : List CodeActivation) (top : Option CodeActivation) → SoundWorld d p w
      → SoundTower d p w.common.objects below top → Parted (go_on code_meaning (code_silent p) w n below top)
  go_sound w n below None s h = (s.common, s.processes)
  go_sound w n below (Some top) s h = unless_sound w n below top top.pending s h.0 h.1 h.2

  pub go_on_sound : (w : World CodeActivation) (n : ℕ) → SoundWorld d p w → SoundWorld d p (GoOn code_meaning (code_silent p) w n)
  go_on_sound w n s =
      let q = go_sound w n (below_of (stack_at w n)) (top_of (stack_at w n)) s (tower_at w n (s.common, s.processes)) in
      record {
        common = q.0;
        processes = q.1;
        waiting = (entries_keep code_meaning).by_silent_steps (code_silent p) w n (silent_keeps_monitors p) s.waiting;
      }

  -- ---- entries

  moved_sound : (c : Common) (ps : List (Proc CodeActivation)) (x k : ℕ) (idle : Bool) → SoundCommon d p c
      → Each (SoundProc d p c.objects) ps
      → Parted (record { common = moved_unless c x k idle; processes = ps })
  moved_sound c ps x k true s h = (s, h)
  moved_sound c ps x k false s h = (with_events d p c (moved_common c x k).events s, h)

  pub move_sound : (w : World CodeActivation) (x k : ℕ) → SoundWorld d p w → SoundWorld d p (OperatorMove w x k)
  move_sound w x k s =
      let q = moved_sound w.common w.processes x k (is_idle_move w.common x k) s.common s.processes in
      record { common = q.0; processes = q.1; waiting = (entries_keep code_meaning).by_move w x k s.waiting }

  pub entry_sound : (w : World CodeActivation) (e : RunEntry) → SoundWorld d p w
      → SoundWorld d p (after_entry code_meaning (code_silent p) w e)
  entry_sound w (TurnOf n) s = go_on_sound (Action code_meaning w n) n (action_sound w n s)
  entry_sound w (MoveOf x k) s = move_sound w x k s

  pub entries_sound : (w : World CodeActivation) (es : List RunEntry) → SoundWorld d p w
      → SoundWorld d p (after_entries code_meaning (code_silent p) w es)
  entries_sound w [] s = s
  entries_sound w (e ∷ es) s = entries_sound (after_entry code_meaning (code_silent p) w e) es (entry_sound w e s)

  -- ---- the start

  nodes_fine : (objects : List ObjectRec) (n : ℕ) → Each (FineObject d p objects) (replicate n node_object ++ program_object ∷ [])
  nodes_fine objects n =
      each_append (FineObject d p objects) (replicate n node_object) (program_object ∷ [])
      (each_replicate (FineObject d p objects) n node_object tt) (tt, tt)

  node_at : (n k : ℕ) → k < n → class_of (slice_get (replicate n node_object ++ program_object ∷ []) k) ≡ Some Node
  node_at zero k l = absurd (omega arith)
  node_at (suc n) zero l = refl
  node_at (suc n) (suc k) l = node_at n k (omega arith)

  program_at : (n : ℕ) → class_of (slice_get (replicate n node_object ++ program_object ∷ []) n) ≡ Some Program
  program_at zero = refl
  program_at (suc n) = program_at n

  constants_fit : (objects : List ObjectRec) (ts : List StaticType)
      → ((i : ℕ) (t : StaticType) → slice_get ts i ≡ Some t → IsOfProgram d.types t)
      → AllTwo (HasType d objects) ts (defaults_of (map kind_of ts))
  constants_fit objects [] f = tt
  constants_fit objects (t ∷ ts) f = (default_fits d objects t (f 0 t refl), constants_fit objects ts (λ i u e. f (suc i) u e))

  pub start_sound : (n : ℕ) → SoundWorld d p (first_world code_meaning n p.classes (map kind_of p.constants))
  start_sound n =
      let objects : List ObjectRec = replicate n node_object ++ program_object ∷ [] in
      let b = fine.begins in
      record {
        common = record {
          classes = refl;
          objects = nodes_fine objects n;
          constants = constants_fit objects p.constants fine.constants;
          nodes = λ k l. node_at n k l;
        };
        processes = (
          begins_sound d p fine objects 0 (suc n) b.operation b.is (program_at n ∙ ap Some (sym b.of)) b.lowest b.parameters,
          tt,
        );
        waiting = (entries_keep code_meaning).at_first n p.classes (map kind_of p.constants);
      }

  -- after each list of entries from the start
  pub runs_sound : (n : ℕ) (es : List RunEntry)
      → SoundWorld d p (after_entries code_meaning (code_silent p) (first_world code_meaning n p.classes (map kind_of p.constants)) es)
  runs_sound n es = entries_sound (first_world code_meaning n p.classes (map kind_of p.constants)) es (start_sound n)
