-- The first world is one between turns, and turns and moves by the operator lead from one to another.
use Rattle.std.proofs.Common.{◌≡◌, ℕ, zero, suc, Bool, true, false, List, [], ◌∷◌, replicate, Option, Some, None, refl, sym, subst}
use Rattle.ec_base.specs.Stack.{top_of, below_of}
use Rattle.ec_parcels.proofs.Worlds.{action_made, go_on_made, move_made, run_made}
use Rattle.ec_cluster.specs.Cluster.{CodeWorld}
use Rattle.ec_code.specs.Activations.{code_meaning, code_silent}
use Rattle.ec_code.specs.Fine.{Fine}
use Rattle.ec_code.specs.Typing.{Declared}
use Rattle.ec_code.specs.declared.activation.CodeActivation.{CodeActivation}
use Rattle.ec_code.specs.declared.code.Parts.{Parts}
use Rattle.ec_code.proofs.Walks.{silent_keeps}
use Rattle.ec_packing.proofs.ObjectsLemmas.{AreKept, IsKept, KeptActed, SpelledIf, changed_kept, element_kept, given_up_kept, outcome_kept}
use Rattle.ec_packing.proofs.Turns.{turn_rests}
use Rattle.ec_packing.proofs.Waits.{begun_waits}
use Rattle.ec_packing.specs.Between.{AllRest, CanBeSpelled, IsBetween, MonitorsHaveSpellings, NodesAreFixed}
use Rattle.ec_acts.specs.Worlds.{world_first}
use Rattle.ec_monitors.specs.declared.record.MonitorRec.{MonitorRec}
use Rattle.ec_code.proofs.Carried.{each_append, each_object, each_replicate}
use Rattle.ec_code.specs.Sound.{SoundWorld}
use Rattle.ec_generate.specs.Limits.{FewConditions, FewConditionsIn}
use Rattle.ec_world.specs.Moves.{OperatorMove, is_idle_move, moved_unless}
use Rattle.ec_world.specs.Objects.{object_at}
use Rattle.ec_world.specs.Outcomes.{Acted, with_element}
use Rattle.ec_world.specs.Run.{node_object, program_object}
use Rattle.ec_world.specs.World.{Action, GoOn, Turn, act_if_pending, act_on, acted, advanced, given_up, go_on, go_on_unless, outcome_at}
use Rattle.ec_world.specs.World.{owns_of, settled, stack_at, who_of}
use Rattle.ec_world.specs.declared.common.Common.{Common}
use Rattle.ec_world.specs.declared.doing.Outcome.{Outcome}
use Rattle.ec_world.specs.declared.object.ObjectRec.{ObjectRec}

-- ---- object by object

each_kept : (objects : List ObjectRec) → ((oid : ℕ) (o : ObjectRec) → object_at objects oid ≡ Some o → IsKept o) → AreKept objects
each_kept [] f = tt
each_kept (o ∷ os) f = (f 1 o refl, each_kept os (λ oid u e. by oid u e))
  where
    by : (oid : ℕ) (u : ObjectRec) → object_at os oid ≡ Some u → IsKept u
    by zero u e = absurd cc
    by (suc i) u e = f (suc (suc i)) u e

spelled_if : (m : Option MonitorRec) → ((x : MonitorRec) → m ≡ Some x → CanBeSpelled x) → SpelledIf m
spelled_if None f = tt
spelled_if (Some m) f = f m refl

by_each : (w : CodeWorld) → MonitorsHaveSpellings w → NodesAreFixed w → AreKept w.common.objects
by_each w monitors nodes =
    each_kept w.common.objects
    (λ oid o e. record { monitor = spelled_if o.monitor (λ m is. monitors oid o m e is); node = λ is. nodes oid o e is })

monitors_by : (w : CodeWorld) → AreKept w.common.objects → MonitorsHaveSpellings w
monitors_by w h oid o m e is = subst SpelledIf is (each_object IsKept w.common.objects oid o h e).monitor

nodes_by : (w : CodeWorld) → AreKept w.common.objects → NodesAreFixed w
nodes_by w h oid o e is = (each_object IsKept w.common.objects oid o h e).node is

-- ---- actions

settled_kept : (w : CodeWorld) (n : ℕ) (below : List CodeActivation) (top : CodeActivation) (c : Common) (o : Outcome)
    (x : List ObjectRec × List ℕ) → AreKept x.0 → AreKept (settled code_meaning w n below top c o x).common.objects
settled_kept w n below top c o (objects, freed) h = h

module _ (w : CodeWorld) (n : ℕ) (few : FewConditionsIn w.common.classes) (h : AreKept w.common.objects) where
  abbrev lower : List CodeActivation
  lower = below_of (stack_at w n)

  acted_kept : (top : CodeActivation) (a : Acted) → KeptActed a → AreKept (acted code_meaning w n lower top a).common.objects
  acted_kept top None k = h
  acted_kept top (Some (c, o)) k =
      settled_kept w n lower top c o (given_up n (owns_of code_meaning lower top) o.effect c.objects)
      (given_up_kept n (owns_of code_meaning lower top) o.effect c.objects k)

  pending_kept : (top : CodeActivation) (pending : Bool) → AreKept (act_if_pending code_meaning w n lower top pending).common.objects
  pending_kept top false = h
  pending_kept top true =
      acted_kept top (outcome_at code_meaning w n lower top)
      (outcome_kept w.common (who_of code_meaning n lower top) h few top.stop top.operands)

  act_kept : (top : Option CodeActivation) → AreKept (act_on code_meaning w n lower top).common.objects
  act_kept None = h
  act_kept (Some top) = pending_kept top top.pending

  action_kept : AreKept (Action code_meaning w n).common.objects
  action_kept = act_kept (top_of (stack_at w n))

-- ---- silent steps

abbrev KeptCommon : Common → Type 0
KeptCommon c = AreKept c.objects

silent_kept : (p : Parts) (c : Common) (a : CodeActivation) → AreKept c.objects → AreKept (code_silent p c a).0.objects
silent_kept p c a h =
    silent_keeps KeptCommon p c a
    (λ m n v k. changed_kept m.common.objects a.own (with_element n v) k (λ o at i. element_kept n v o i)) h

module _ (p : Parts) (w : CodeWorld) (n : ℕ) (h : AreKept w.common.objects) where
  advanced_kept : (below : List CodeActivation) (x : Common × CodeActivation) → AreKept x.0.objects →
      AreKept (advanced code_meaning (code_silent p) w n below x).common.objects
  advanced_kept below (c, a) k = k

  unless_kept : (below : List CodeActivation) (top : CodeActivation) (pending : Bool) →
      AreKept (go_on_unless code_meaning (code_silent p) w n below top pending).common.objects
  unless_kept below top true = h
  unless_kept below top false = advanced_kept below (code_silent p w.common top) (silent_kept p w.common top h)

  go_kept : (below : List CodeActivation) (top : Option CodeActivation) →
      AreKept (go_on code_meaning (code_silent p) w n below top).common.objects
  go_kept below None = h
  go_kept below (Some top) = unless_kept below top top.pending

  go_on_kept : AreKept (GoOn code_meaning (code_silent p) w n).common.objects
  go_on_kept = go_kept (below_of (stack_at w n)) (top_of (stack_at w n))

-- ---- turns

pub turn_between : (d : Declared) (p : Parts) → Fine d p → FewConditions p → (w : CodeWorld) (n : ℕ) → SoundWorld d p w →
    IsBetween p w → IsBetween p (Turn code_meaning (code_silent p) w n)
turn_between d p fine few w n s h =
    let acted : CodeWorld = Action code_meaning w n in
    let after : CodeWorld = Turn code_meaning (code_silent p) w n in
    let classes : FewConditionsIn w.common.classes = subst FewConditionsIn (sym s.common.classes) few in
    let kept : AreKept after.common.objects =
    go_on_kept p acted n (action_kept w n classes (by_each w h.monitors h.nodes)) in
    record {
      rest = turn_rests d p fine w n s h.rest;
      vectors = go_on_made p p acted n (action_made p d fine w n s h.vectors);
      monitors = monitors_by after kept;
      nodes = nodes_by after kept;
    }

-- ---- moves by the operator

unless_moved : (c : Common) (o k : ℕ) (idle : Bool) → AreKept c.objects → AreKept (moved_unless c o k idle).objects
unless_moved c o k true h = h
unless_moved c o k false h = h

pub move_between : (p : Parts) (w : CodeWorld) (o k : ℕ) → IsBetween p w → IsBetween p (OperatorMove w o k)
move_between p w o k h =
    let after : CodeWorld = OperatorMove w o k in
    let kept : AreKept after.common.objects = unless_moved w.common o k (is_idle_move w.common o k) (by_each w h.monitors h.nodes) in
    record {
      rest = h.rest;
      vectors = move_made p w o k h.vectors;
      monitors = monitors_by after kept;
      nodes = nodes_by after kept;
    }

-- ---- the first world

first_kept : (n : ℕ) (p : Parts) → AreKept (world_first n p).common.objects
first_kept n p =
    each_append IsKept (replicate n node_object) (program_object ∷ [])
    (each_replicate IsKept n node_object (record { monitor = tt; node = λ e. refl }))
    (record { monitor = tt; node = λ e. absurd (let no = e in cc) }, tt)

first_rests : (n : ℕ) (p : Parts) → AllRest p (world_first n p)
first_rests n p = (record { below = tt; top = begun_waits p 0 (suc n) [] }, tt)

pub first_between : (d : Declared) (p : Parts) → Fine d p → (n : ℕ) → IsBetween p (world_first n p)
first_between d p fine n = record {
  rest = first_rests n p;
  vectors = run_made p d fine n [];
  monitors = monitors_by (world_first n p) (first_kept n p);
  nodes = nodes_by (world_first n p) (first_kept n p);
}
