-- Places at which objects would be after an action, as a refusal of it tells, are those by the events that would be.
use Rattle.std.proofs.Common.{◌≡◌, ◌≢◌, ℕ, zero, suc, false, List, length, Option, Some, None, replicate, sym, ap, ◌∙◌, subst, arith}
use Rattle.std.specs.Prelude.{if◌then◌else◌, IsSome}
use Rattle.ec_base.proofs.Lists.{get_there, get_within}
use Rattle.ec_cluster.specs.Cluster.{CodeWorld, place}
use Rattle.ec_cluster.specs.Steps.{with_common}
use Rattle.ec_cluster.specs.declared.cluster.Cluster.{Cluster}
use Rattle.ec_code.specs.Activations.{code_meaning}
use Rattle.ec_code.specs.Typing.{Declared}
use Rattle.ec_code.specs.declared.activation.CodeActivation.{CodeActivation}
use Rattle.ec_fullness.proofs.FittingDoings.{doing_is_there}
use Rattle.ec_fullness.specs.Fitting.{HasNamed, IsMakable}
use Rattle.ec_cluster.specs.Whereabouts.{made_count}
use Rattle.ec_fullness.proofs.Acting.{action_is}
use Rattle.ec_fullness.proofs.Needs.{then_new}
use Rattle.ec_fullness.specs.Fullness.{StaysPut, gathered, place_then}
use Rattle.ec_rooms.proofs.Counting.{Stays, done_stays}
use Rattle.ec_rooms.proofs.Making.{more_agrees}
use Rattle.ec_rooms.proofs.Moving.{gone_place}
use Rattle.ec_rooms.proofs.Settling.{settled_stays}
use Rattle.ec_rooms.proofs.Staying.{stays_place}
use Rattle.ec_rooms.specs.Places.{AgreeWith, HasPlaces}
use Rattle.ec_cluster.specs.Acting.{Asks}
use Rattle.ec_cluster.specs.SystemSteps.{ByClass, world_done, world_settled}
use Rattle.ec_cluster.specs.Systems.{Runs}
use Rattle.ec_cluster.specs.declared.system.System.{System}
use Rattle.ec_world.specs.Group.{Has, is_in}
use Rattle.ec_world.specs.Objects.{class_at, element_kind, object_at}
use Rattle.ec_world.specs.Outcomes.{done, made_object, monitor_for, with_object}
use Rattle.ec_world.specs.Values.{default_of, new_fields}
use Rattle.ec_world.specs.World.{Action}
use Rattle.ec_world.specs.declared.class.ClassNo.{ClassNo}
use Rattle.ec_world.specs.declared.class.ClassNo.TheVariants.{Vector}
use Rattle.ec_world.specs.declared.class.ClassRec.{ClassRec}
use Rattle.ec_world.specs.declared.doing.Doing.{Doing}
use Rattle.ec_world.specs.declared.doing.Doing.TheVariants.{Makes, MakesVector, Moves}
use Rattle.ec_world.specs.declared.object.ObjectRec.{ObjectRec}
use Rattle.ec_world.specs.declared.stop.Who.{Who}
use Rattle.ec_world.specs.declared.value.Value.{Value}

agree_stays : (at : ℕ → Option ℕ) (w w' : CodeWorld) → Stays w.common w'.common → AgreeWith at w → AgreeWith at w'
agree_stays at w w' s agree zero o e = absurd cc
agree_stays at w w' s agree (suc i) o e =
    let l = get_within w'.common.objects i o e in
    let old = get_there w.common.objects i (omega (arith, l, s.objects)) in
    agree (suc i) old.0 old.1 ∙ sym (stays_place w w' (suc i) s)

-- the second step of an action
agree_acted : (at : ℕ → Option ℕ) (w : CodeWorld) (below : List CodeActivation) (top : CodeActivation) (who : Who) (doing : Doing) →
    Asks w below top who doing → AgreeWith at (world_done w who doing) → AgreeWith at (Action code_meaning w who.process)
agree_acted at w below top who doing asks agree =
    subst (AgreeWith at) (sym (action_is w below top who doing asks))
    (agree_stays at (world_done w who doing)
    (world_settled (world_done w who doing) who.process below top (done w.common who doing).1)
    (settled_stays (world_done w who doing) who.process below top (done w.common who doing).1) agree)

-- ---- an action that is no move

module _ (c : Cluster) (w : CodeWorld) (who : Who) (has : HasPlaces c w) (many : length w.common.objects ≡ made_count c.whereabouts) where
  then_before : (oid : ℕ) → oid ≢ suc (made_count c.whereabouts) → place_then c who.own oid ≡ place c oid
  then_before oid ne = grind arith

  -- objects that were there
  agree_before : AgreeWith (place_then c who.own) w
  agree_before zero o e = absurd cc
  agree_before (suc i) o e =
      let l = get_within w.common.objects i o e in
      then_before (suc i) (λ same. absurd (omega (arith, l, many, same))) ∙ has.placed (suc i)

  agree_more : (o : ObjectRec) (k : ℕ) → place c who.own ≡ Some k →
      AgreeWith (place_then c who.own) (with_common w (with_object w.common who o))
  agree_more o k at oid x e =
      more_agrees w who o has.each (place_then c who.own) k (sym (has.placed who.own) ∙ at)
      (then_new c who.own (suc (length w.common.objects)) (ap suc many) ∙ at)
      (λ i ne. then_before i (λ same. ne (same ∙ ap suc (sym many))) ∙ has.placed i) oid

  agree_made : (class : ClassNo) (given : List Value) (x : Option ClassRec) →
      ByClass x (λ k. IsMakable c who.own class (new_fields given k.fields)) →
      AgreeWith (place_then c who.own) (with_common w (made_object w.common who class given x).0)
  agree_made class given None named = absurd named
  agree_made class given (Some k) named =
      agree_more (record { class = class; fields = new_fields given k.fields; fixed = false; monitor = monitor_for k })
      named.maker_is.node named.maker_is.at

  agree_done : w.common.classes ≡ c.parts.classes → (doing : Doing) → HasNamed c who doing → StaysPut doing →
      AgreeWith (place_then c who.own) (world_done w who doing)
  agree_done classes (Makes class given) named stays =
      agree_made class given (class_at w.common.classes class)
      (subst (λ (cs : List ClassRec). ByClass (class_at cs class) (λ k. IsMakable c who.own class (new_fields given k.fields)))
      (sym classes) named)
  agree_done classes (MakesVector of n) named stays =
      agree_more (record { class = Vector of; fields = replicate n (default_of (element_kind of)); fixed = false; monitor = None })
      named.maker_is.node named.maker_is.at
  agree_done classes (Moves members to fixes) named stays = absurd stays
  agree_done classes doing named stays =
      agree_stays (place_then c who.own) w (world_done w who doing) (done_stays w.common who doing) agree_before

-- A new object would be where who acts is.
pub agrees_then : (d : Declared) (s : System) (w : CodeWorld) (below : List CodeActivation) (top : CodeActivation) (who : Who)
    (doing : Doing) → Runs d s w → Asks w below top who doing → StaysPut doing → HasPlaces s.cluster w →
    AgreeWith (place_then s.cluster who.own) (Action code_meaning w who.process)
agrees_then d s w below top who doing runs asks stays has =
    agree_acted (place_then s.cluster who.own) w below top who doing asks
    (agree_done s.cluster w who has runs.mirrors.objects runs.mirrors.classes doing (doing_is_there d s w below top who doing runs asks)
    stays)

-- ---- a move

-- A group would be where its target is.
pub agrees_gathered : (c : Cluster) (w : CodeWorld) (below : List CodeActivation) (top : CodeActivation) (who : Who) (members : List ℕ)
    (target : ℕ) (fixes : Option ℕ) (k : ℕ) → Asks w below top who (Moves members target fixes) →
    ((oid : ℕ) → Has members oid → IsSome (object_at w.common.objects oid)) → place c target ≡ Some k → HasPlaces c w →
    AgreeWith (gathered (place c) members k) (Action code_meaning w who.process)
agrees_gathered c w below top who members target fixes k asks there at has =
    agree_acted (gathered (place c) members k) w below top who (Moves members target fixes) asks
    (λ oid o e.
    ap (λ x. if is_in oid members then Some k else x) (has.placed oid)
    ∙ sym (gone_place w members target fixes there has.each k (sym (has.placed target) ∙ at) oid))
