-- An operation that is called begins as an activation that is new, on an object that is there.
use Rattle.std.proofs.Common.{◌≡◌, ℕ, suc, List, length, Option, Some, sym, subst}
use Rattle.ec_cluster.specs.Cluster.{CodeWorld}
use Rattle.ec_cluster.specs.declared.cluster.Cluster.{Cluster}
use Rattle.ec_cluster.specs.Finding.{NoFrame}
use Rattle.ec_cluster.specs.Frames.{HasNode}
use Rattle.ec_code.specs.Typing.{Declared}
use Rattle.ec_code.specs.declared.activation.CodeActivation.{CodeActivation}
use Rattle.ec_code.specs.declared.code.Operation.{Operation}
use Rattle.ec_types.specs.declared.conform.static_type.StaticType.{StaticType}
use Rattle.ec_fullness.proofs.Asking.{its_outcome, its_stop}
use Rattle.ec_fullness.proofs.Entries.{has_entries}
use Rattle.ec_fullness.proofs.Keeping.{steady_after}
use Rattle.ec_fullness.proofs.Shown.{has_object, no_frame, node_of_object}
use Rattle.ec_fullness.specs.Fitting.{CallIsNew, CalledHasNode}
use Rattle.ec_code.proofs.Carried.{there}
use Rattle.ec_code.specs.Sound.{FineEffect}
use Rattle.ec_cluster.specs.Acting.{Asks}
use Rattle.ec_cluster.specs.SystemSteps.{Does, world_done}
use Rattle.ec_cluster.specs.Systems.{Runs, Steady, Strings}
use Rattle.ec_cluster.specs.declared.system.System.{System}
use Rattle.ec_world.specs.Objects.{object_at}
use Rattle.ec_world.specs.Outcomes.{done}
use Rattle.ec_world.specs.declared.doing.Doing.{Doing}
use Rattle.ec_world.specs.declared.doing.Outcome.{Outcome}
use Rattle.ec_world.specs.declared.object.ObjectRec.{ObjectRec}
use Rattle.ec_world.specs.declared.stop.Effect.{Effect}
use Rattle.ec_world.specs.declared.stop.Effect.TheVariants.{GoesOn, Calls, Leaves, Blocks, Ends, Fails}
use Rattle.ec_world.specs.declared.stop.Who.{Who}

module _ (d : Declared) (c : Cluster) (steady : Steady d c) (objects : List ObjectRec) (o : Operation) (given : Option StaticType) where
  call_new : (p : ℕ) (below : List CodeActivation) (e : Effect) → NoFrame c p (suc (length below)) →
      FineEffect d c.parts objects o given e → CallIsNew c p below e
  call_new p below (GoesOn v) none f = tt
  call_new p below (Calls op own args) none f =
      record { new = none; entry = has_entries d c steady.fine steady.images op f.called f.is }
  call_new p below (Leaves v) none f = tt
  call_new p below (Blocks queue own) none f = tt
  call_new p below Ends none f = tt
  call_new p below (Fails why line) none f = tt

  called_has : (e : Effect) → ((oid : ℕ) (r : ObjectRec) → object_at objects oid ≡ Some r → HasNode c oid) →
      FineEffect d c.parts objects o given e → CalledHasNode c e
  called_has (GoesOn v) has f = tt
  called_has (Calls op own args) has f = let r = there objects own f.called.class f.is_own in has own r.object r.is
  called_has (Leaves v) has f = tt
  called_has (Blocks queue own) has f = tt
  called_has Ends has f = tt
  called_has (Fails why line) has f = tt

module _ (d : Declared) (s : System) (w : CodeWorld) (below : List CodeActivation) (top : CodeActivation) (who : Who) (doing : Doing)
    (runs : Runs d s w) (asks : Asks w below top who doing) where
  abbrev of : Operation
  of = (its_stop d s w below top who doing runs asks).rests.of

  abbrev gives : Option StaticType
  gives = (its_stop d s w below top who doing runs asks).rests.row.gives

  abbrev now : List ObjectRec
  now = (done w.common who doing).0.objects

  fine_effect : FineEffect d s.cluster.parts now of gives (done w.common who doing).1.effect
  fine_effect = (its_outcome d s w below top who doing runs asks).2

  pub call_is_new : CallIsNew s.cluster who.process below (done w.common who doing).1.effect
  call_is_new =
      call_new d s.cluster runs.steady now of gives who.process below (done w.common who doing).1.effect
      (no_frame s.cluster w runs.mirrors.shows who.process below top asks.is_top) fine_effect

  module _ (new : System) (o : Outcome) (does : Does s new w who doing o) where
    pub steady_then : Steady d new.cluster
    steady_then =
        steady_after d (Strings new.cluster (world_done w who doing)) s.cluster new.cluster does.texts runs.steady

    fine_then : FineEffect d new.cluster.parts now of gives o.effect
    fine_then =
        subst (λ p. FineEffect d p now of gives o.effect) (sym does.texts.parts)
        (subst (λ (x : Outcome). FineEffect d s.cluster.parts now of gives x.effect) does.answers fine_effect)

    pub call_then : CallIsNew new.cluster who.process below o.effect
    call_then =
        call_new d new.cluster steady_then now of gives who.process below o.effect
        (no_frame new.cluster (world_done w who doing) does.mirrors.shows who.process below top
        (record { proc = asks.is_top.proc; is = asks.is_top.is; stack = asks.is_top.stack }))
        fine_then

    pub called_then : CalledHasNode new.cluster o.effect
    called_then =
        called_has d new.cluster steady_then now of gives o.effect
        (λ oid r e. node_of_object new.cluster oid (has_object new.cluster (world_done w who doing) does.mirrors.shows oid r e)) fine_then

  pub callee_begins : CallIsNew s.cluster who.process below (done w.common who doing).1.effect
      × ((new : System) (o : Outcome) → Does s new w who doing o →
      CallIsNew new.cluster who.process below o.effect × CalledHasNode new.cluster o.effect)
  callee_begins = (call_is_new, λ new o does. (call_then new o does, called_then new o does))
