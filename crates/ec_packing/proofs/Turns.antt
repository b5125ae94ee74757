-- After a turn each process rests as between turns.
use Rattle.std.proofs.Common.{◌≡◌, ◌≢◌, ℕ, zero, suc, ◌⊎◌, inl, inr, Bool, true, false, List, [], ◌∷◌, ◌++◌, Option, Some, None, refl, sym}
use Rattle.std.proofs.Common.{ap, ◌∙◌, subst}
use Rattle.std.specs.List.{AllByRecursion as Each}
use Rattle.std.specs.Prelude.{IsSome, slice_get, slice_set}
use Rattle.ec_base.proofs.Stacks.{below_of-push, top_of-push}
use Rattle.ec_base.specs.Stack.{top_of, below_of}
use Rattle.ec_cluster.specs.Cluster.{CodeWorld}
use Rattle.ec_code.specs.Activations.{Arrived, begun, code_meaning, code_silent, finished, resting}
use Rattle.ec_code.specs.Fine.{Fine}
use Rattle.ec_code.specs.Typing.{Declared}
use Rattle.ec_code.specs.declared.activation.CodeActivation.{CodeActivation}
use Rattle.ec_code.specs.declared.code.Parts.{Parts}
use Rattle.ec_packing.proofs.Waits.{begun_waits, blocked_waits, pending_waits}
use Rattle.ec_packing.specs.Between.{AllRest, RestsBetween, StillWaits, TopWaits}
use Rattle.ec_code.proofs.Carried.{each_append, each_get}
use Rattle.ec_code.proofs.Facts.{pending_top, silent_steps_reach}
use Rattle.ec_code.proofs.SoundWorlds.{action_sound, set_get}
use Rattle.ec_code.specs.Sound.{SoundWorld, reached}
use Rattle.ec_world.specs.Outcomes.{Acted, all_granted}
use Rattle.ec_world.specs.World.{Action, GoOn, Turn, act_if_pending, act_on, acted, advanced, all_readied, begun_for, changed}
use Rattle.ec_world.specs.World.{finish_top, given_up, go_on, go_on_unless, outcome_at, owns_of, readied, ready_stack, settled}
use Rattle.ec_world.specs.World.{stack_at, stack_if_ready}
use Rattle.ec_world.specs.declared.common.Common.{Common}
use Rattle.ec_world.specs.declared.doing.Outcome.{Outcome}
use Rattle.ec_world.specs.declared.doing.Section.{Section}
use Rattle.ec_world.specs.declared.object.ObjectRec.{ObjectRec}
use Rattle.ec_world.specs.declared.process.Proc.{Proc}
use Rattle.ec_world.specs.declared.process.ProcStatus.{ProcStatus}
use Rattle.ec_world.specs.declared.process.ProcStatus.TheVariants.{Ready, Entry as AtEntry, Cond, Urgent, Ended, Failed}
use Rattle.ec_world.specs.declared.stop.Effect.{Effect}
use Rattle.ec_world.specs.declared.stop.Effect.TheVariants.{GoesOn, Calls, Leaves, Blocks, Ends, Fails}
use Rattle.ec_world.specs.declared.value.Value.{Value}

-- ---- activations whose action is done

abbrev IsDone : CodeActivation → Type 0
IsDone a = a.pending ≡ false

abbrev AreDone : List CodeActivation → Type 0
AreDone = Each IsDone

done_push : (below : List CodeActivation) (a : CodeActivation) → AreDone below → AreDone (below_of (below ++ a ∷ []))
done_push below a h = subst AreDone (sym (below_of-push below a)) h

done_below : (xs : List CodeActivation) → AreDone xs → AreDone (below_of xs)
done_below [] h = tt
done_below (x ∷ []) h = tt
done_below (x ∷ y ∷ ys) h = (h.0, done_below (y ∷ ys) h.1)

-- ---- lists

get_either : {A : Type 0} (xs ys : List A) (i : ℕ) (x : A) → slice_get (xs ++ ys) i ≡ Some x →
    (slice_get xs i ≡ Some x) ⊎ ((j : ℕ) × (slice_get ys j ≡ Some x))
get_either [] ys i x e = inr (i, e)
get_either (z ∷ zs) ys zero x e = inl e
get_either (z ∷ zs) ys (suc i) x e = get_either zs ys i x e

all_each : {A : Type 0} (P : A → Type 0) (xs : List A) → ((i : ℕ) (x : A) → slice_get xs i ≡ Some x → P x) → Each P xs
all_each P [] f = tt
all_each P (x ∷ xs) f = (f 0 x refl, all_each P xs (λ i y e. f (suc i) y e))

-- ---- in the middle of a turn

-- A process rests in the middle of a turn of process n: where n goes on, nothing is said of the activation on top.
record RestsAmid (p : Parts) (n i : ℕ) (proc : Proc CodeActivation) : Type 0 where
  below : AreDone (below_of proc.activations)
  top : TopWaits p (top_of proc.activations) ⊎ ((i ≡ n) × (proc.status ≡ Ready))

-- so does each
abbrev RestAmid : Parts → ℕ → List (Proc CodeActivation) → Type 0
RestAmid p n ps = (i : ℕ) (proc : Proc CodeActivation) → slice_get ps i ≡ Some proc → RestsAmid p n i proc

module _ (p : Parts) (n : ℕ) where
  amid : (ps : List (Proc CodeActivation)) → Each (RestsBetween p) ps → RestAmid p n ps
  amid ps h i proc e = let r = each_get (RestsBetween p) ps i proc h e in record { below = r.below; top = inl r.top }

  -- ---- what an effect makes of the process that acts

  left_done : (below : List CodeActivation) (given : Option Value) (caller : Option CodeActivation) → AreDone below →
      AreDone (below_of (finish_top code_meaning (below_of below) caller given))
  left_done below given None h = tt
  left_done below given (Some a) h = done_push (below_of below) (finished a given) (done_below below h)

  changed_done : (below : List CodeActivation) (top : CodeActivation) (e : Effect) → AreDone below →
      AreDone (below_of (changed code_meaning below top e).activations)
  changed_done below top (GoesOn given) h = done_push below (finished top given) h
  changed_done below top (Calls number own args) h =
      done_push (below ++ finished top None ∷ []) (begun number own args)
      (each_append IsDone below (finished top None ∷ []) h (refl, tt))
  changed_done below top (Leaves given) h = left_done below given (top_of below) h
  changed_done below top (Blocks queue own) h = done_push below (finished top None) h
  changed_done below top Ends h = tt
  changed_done below top (Fails why line) h = tt

  -- It goes on, or nothing has come of what its stop gives.
  changed_waits : (below : List CodeActivation) (top : CodeActivation) (e : Effect) → StillWaits p (finished top None) →
      TopWaits p (top_of (changed code_meaning below top e).activations) ⊎ ((changed code_meaning below top e).status ≡ Ready)
  changed_waits below top (GoesOn given) h = inr refl
  changed_waits below top (Calls number own args) h = inr refl
  changed_waits below top (Leaves given) h = inr refl
  changed_waits below top (Blocks queue own) h = inl (subst (TopWaits p) (sym (top_of-push below (finished top None))) h)
  changed_waits below top Ends h = inl tt
  changed_waits below top (Fails why line) h = inl tt

  changed_amid : (below : List CodeActivation) (top : CodeActivation) (e : Effect) → AreDone below → StillWaits p (finished top None) →
      RestsAmid p n n (changed code_meaning below top e)
  changed_amid below top e h waits =
      record { below = changed_done below top e h; top = by (changed_waits below top e waits) }
    where
      by : TopWaits p (top_of (changed code_meaning below top e).activations) ⊎ ((changed code_meaning below top e).status ≡ Ready) →
          TopWaits p (top_of (changed code_meaning below top e).activations)
          ⊎ ((n ≡ n) × ((changed code_meaning below top e).status ≡ Ready))
      by (inl w) = inl w
      by (inr ready) = inr (refl, ready)

  -- ---- the others

  -- one that stands in place of another
  set_amid : (ps : List (Proc CodeActivation)) (q : ℕ) (new : Proc CodeActivation) → RestAmid p n ps → RestsAmid p n q new →
      RestAmid p n (slice_set ps q new)
  set_amid ps q new h r i proc e = by (set_get ps q i new proc e)
    where
      by : ((i ≡ q) × (new ≡ proc)) ⊎ ((i ≢ q) × (slice_get ps i ≡ Some proc)) → RestsAmid p n i proc
      by (inl s) = subst (λ j. RestsAmid p n j proc) (sym s.0) (subst (λ x. RestsAmid p n q x) s.1 r)
      by (inr s) = h i proc s.1

  ready_amid : (q : ℕ) (proc : Proc CodeActivation) → RestsAmid p n q proc → RestsAmid p n q (record proc { status = Ready })
  ready_amid q proc r = record { below = r.below; top = by r.top }
    where
      by : TopWaits p (top_of proc.activations) ⊎ ((q ≡ n) × (proc.status ≡ Ready)) →
          TopWaits p (top_of proc.activations) ⊎ ((q ≡ n) × (Ready ≡ Ready))
      by (inl w) = inl w
      by (inr s) = inr (s.0, refl)

  readied_amid : (ps : List (Proc CodeActivation)) (q : ℕ) → RestAmid p n ps → (proc : Option (Proc CodeActivation)) →
      slice_get ps q ≡ proc → RestAmid p n (readied ps q proc)
  readied_amid ps q h None e = h
  readied_amid ps q h (Some proc) e = set_amid ps q (record proc { status = Ready }) h (ready_amid q proc (h q proc e))

  all_amid : (ps : List (Proc CodeActivation)) (qs : List ℕ) → RestAmid p n ps → RestAmid p n (all_readied ps qs)
  all_amid ps [] h = h
  all_amid ps (q ∷ qs) h = all_amid (readied ps q (slice_get ps q)) qs (readied_amid ps q h (slice_get ps q) refl)

  -- a new process
  begun_amid : (started : Option Section) (i j : ℕ) (proc : Proc CodeActivation) →
      slice_get (begun_for code_meaning started) j ≡ Some proc → RestsAmid p n i proc
  begun_amid None i j proc e = absurd cc
  begun_amid (Some section) i zero proc e =
      let new : Proc CodeActivation = record { activations = begun section.operation section.own [] ∷ []; status = Ready } in
      let same : new ≡ proc = cc in
      subst (λ x. RestsAmid p n i x) same (record { below = tt; top = inl (begun_waits p section.operation section.own []) })
  begun_amid (Some section) i (suc j) proc e = absurd cc

  append_amid : (ps : List (Proc CodeActivation)) (started : Option Section) → RestAmid p n ps →
      RestAmid p n (ps ++ begun_for code_meaning started)
  append_amid ps started h i proc e = by (get_either ps (begun_for code_meaning started) i proc e)
    where
      by : (slice_get ps i ≡ Some proc) ⊎ ((j : ℕ) × (slice_get (begun_for code_meaning started) j ≡ Some proc)) → RestsAmid p n i proc
      by (inl k) = h i proc k
      by (inr k) = begun_amid started i k.0 proc k.1

  -- ---- actions

  status_done : (s : ProcStatus) (xs : List CodeActivation) → AreDone (below_of xs) → AreDone (below_of (stack_if_ready s xs))
  status_done Ready xs h = h
  status_done (AtEntry o) xs h = tt
  status_done (Cond o) xs h = tt
  status_done (Urgent o) xs h = tt
  status_done Ended xs h = tt
  status_done (Failed why line) xs h = tt

  lower_done : (ps : List (Proc CodeActivation)) → RestAmid p n ps → (q : Option (Proc CodeActivation)) → slice_get ps n ≡ q →
      AreDone (below_of (ready_stack q))
  lower_done ps h None e = tt
  lower_done ps h (Some q) e = status_done q.status q.activations (h n q e).below

  settled_amid : (w : CodeWorld) (below : List CodeActivation) (top : CodeActivation) (c : Common) (o : Outcome)
      (x : List ObjectRec × List ℕ) → RestAmid p n w.processes → RestsAmid p n n (changed code_meaning below top o.effect) →
      RestAmid p n (settled code_meaning w n below top c o x).processes
  settled_amid w below top c o (objects, freed) h new =
      let set : List (Proc CodeActivation) = slice_set w.processes n (changed code_meaning below top o.effect) in
      let qs : List ℕ = all_granted o.granted freed in
      append_amid (all_readied set qs) o.started
      (all_amid set qs (set_amid w.processes n (changed code_meaning below top o.effect) h new))

  module _ (d : Declared) (fine : Fine d p) (w : CodeWorld) (s : SoundWorld d p w) (h : RestAmid p n w.processes) where
    abbrev lower : List CodeActivation
    lower = below_of (stack_at w n)

    lower_is_done : AreDone lower
    lower_is_done = lower_done w.processes h (slice_get w.processes n) refl

    acted_amid : (top : CodeActivation) → StillWaits p (finished top None) → (a : Acted) →
        RestAmid p n (acted code_meaning w n lower top a).processes
    acted_amid top waits None = h
    acted_amid top waits (Some (c, o)) =
        settled_amid w lower top c o (given_up n (owns_of code_meaning lower top) o.effect c.objects) h
        (changed_amid lower top o.effect lower_is_done waits)

    pending_amid : (top : CodeActivation) → top_of (stack_at w n) ≡ Some top → (pending : Bool) → top.pending ≡ pending →
        RestAmid p n (act_if_pending code_meaning w n lower top pending).processes
    pending_amid top e false is = h
    pending_amid top e true is =
        let sound = pending_top d p fine w s n top e is in
        acted_amid top (blocked_waits d p w.common.objects top sound.rests sound.into) (outcome_at code_meaning w n lower top)

    act_amid : (top : Option CodeActivation) → top_of (stack_at w n) ≡ top → RestAmid p n (act_on code_meaning w n lower top).processes
    act_amid None e = h
    act_amid (Some top) e = pending_amid top e top.pending refl

    action_amid : RestAmid p n (Action code_meaning w n).processes
    action_amid = act_amid (top_of (stack_at w n)) refl

    -- ---- silent steps

    -- the stack of process n, where it goes on
    stack_here : (i : ℕ) (proc : Proc CodeActivation) → slice_get w.processes i ≡ Some proc → i ≡ n → proc.status ≡ Ready →
        stack_at w n ≡ proc.activations
    stack_here i proc e same ready =
        ap (λ j. ready_stack (slice_get w.processes j)) (sym same) ∙ ap ready_stack e ∙ ap (λ z. stack_if_ready z proc.activations) ready

    -- where nothing is done, nothing has come of what the stop on top gives
    rest_by : TopWaits p (top_of (stack_at w n)) → AllRest p w
    rest_by waits = all_each (RestsBetween p) w.processes (λ i proc e. by i proc e (h i proc e))
      where
        by : (i : ℕ) (proc : Proc CodeActivation) → slice_get w.processes i ≡ Some proc → RestsAmid p n i proc → RestsBetween p proc
        by i proc e r = record { below = r.below; top = top r.top }
          where
            top : TopWaits p (top_of proc.activations) ⊎ ((i ≡ n) × (proc.status ≡ Ready)) → TopWaits p (top_of proc.activations)
            top (inl t) = t
            top (inr k) = subst (λ xs. TopWaits p (top_of xs)) (stack_here i proc e k.0 k.1) waits

    -- one that came to its next stop
    reached_rests : (a : CodeActivation) → a.pending ≡ true → RestsBetween p (record { activations = lower ++ a ∷ []; status = Ready })
    reached_rests a pending = record {
      below = done_push lower a lower_is_done;
      top = subst (TopWaits p) (sym (top_of-push lower a)) (pending_waits p a pending);
    }

    advanced_rest : (x : Common × CodeActivation) → x.1.pending ≡ true →
        AllRest p (advanced code_meaning (code_silent p) w n lower x)
    advanced_rest (c, a) pending =
        let new : Proc CodeActivation = record { activations = lower ++ a ∷ []; status = Ready } in
        all_each (RestsBetween p) (slice_set w.processes n new) (λ i proc e. by new (reached_rests a pending) i proc
        (set_get w.processes n i new proc e))
      where
        beside : (i : ℕ) (proc : Proc CodeActivation) → i ≢ n → RestsAmid p n i proc → RestsBetween p proc
        beside i proc other r = record { below = r.below; top = top r.top }
          where
            top : TopWaits p (top_of proc.activations) ⊎ ((i ≡ n) × (proc.status ≡ Ready)) → TopWaits p (top_of proc.activations)
            top (inl t) = t
            top (inr k) = absurd (other k.0)

        by : (new : Proc CodeActivation) → RestsBetween p new → (i : ℕ) (proc : Proc CodeActivation) →
            ((i ≡ n) × (new ≡ proc)) ⊎ ((i ≢ n) × (slice_get w.processes i ≡ Some proc)) → RestsBetween p proc
        by new r i proc (inl k) = subst (λ x. RestsBetween p x) k.1 r
        by new r i proc (inr k) = beside i proc k.0 (h i proc k.1)

    resting_pending : (a : CodeActivation) (x : Common × Option Arrived) → IsSome x.1 → (resting a x).1.pending ≡ true
    resting_pending a (c, None) some = absurd (let no = some in cc)
    resting_pending a (c, Some r) some = refl

    unless_rest : (top : CodeActivation) → top_of (stack_at w n) ≡ Some top → (pending : Bool) → top.pending ≡ pending →
        AllRest p (go_on_unless code_meaning (code_silent p) w n lower top pending)
    unless_rest top e true is = rest_by (subst (TopWaits p) (sym e) (pending_waits p top is))
    unless_rest top e false is =
        advanced_rest (code_silent p w.common top)
        (resting_pending top (reached p w.common top) (silent_steps_reach d p fine w s n top e is))

    go_rest : (top : Option CodeActivation) → top_of (stack_at w n) ≡ top →
        AllRest p (go_on code_meaning (code_silent p) w n lower top)
    go_rest None e = rest_by (subst (TopWaits p) (sym e) tt)
    go_rest (Some top) e = unless_rest top e top.pending refl

    go_on_rest : AllRest p (GoOn code_meaning (code_silent p) w n)
    go_on_rest = go_rest (top_of (stack_at w n)) refl

-- ---- turns

pub turn_rests : (d : Declared) (p : Parts) → Fine d p → (w : CodeWorld) (n : ℕ) → SoundWorld d p w → AllRest p w →
    AllRest p (Turn code_meaning (code_silent p) w n)
turn_rests d p fine w n s h =
    go_on_rest p n d fine (Action code_meaning w n) (action_sound d p fine w n s)
    (action_amid p n d fine w s (amid p n w.processes h))
