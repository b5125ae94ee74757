-- Both steps of a move: a group has gone where an object is, and who asked for it goes on.
use Rattle.std.proofs.Common.{◌≡◌, ◌∙◌, ◌⊎◌, ℕ, List, Option, Some, None, inr, ap, refl, subst, sym}
use Rattle.std.specs.Prelude.{IsSome}
use Rattle.ec_cluster.specs.Cluster.{CodeWorld, frame_of, place}
use Rattle.ec_cluster.specs.Steps.{HasObject}
use Rattle.ec_code.specs.Typing.{Declared}
use Rattle.ec_code.specs.declared.activation.CodeActivation.{CodeActivation}
use Rattle.ec_fullness.proofs.Shown.{has_object}
use Rattle.ec_cluster.specs.Whereabouts.{place_at}
use Rattle.ec_fullness.proofs.Acting.{action_is}
use Rattle.ec_fullness.specs.Fullness.{Wants}
use Rattle.ec_gathering.proofs.Moves.{object_of}
use Rattle.ec_gathering.specs.Gathers.{Gathers, MayGather}
use Rattle.ec_gathering.proofs.Acted.{acted_needs}
use Rattle.ec_network.proofs.Asking.{asks_of_each, may_gather}
use Rattle.ec_network.proofs.Behind.{acted_behind, can_settle_behind, settles_behind}
use Rattle.ec_network.proofs.Rooming.{frames_same, take_nothing}
use Rattle.ec_network.specs.Acts.{AsksBetween, AsksOfEach, HasActed}
use Rattle.ec_parcels.specs.Classes.{ClassTable}
use Rattle.ec_rooms.proofs.Moving.{moves_keep_places}
use Rattle.ec_rooms.specs.PlacingLaws.{AreGathered}
use Rattle.ec_rooms.specs.Places.{HasPlaces}
use Rattle.ec_acts.specs.Settling.{CanBeSettled, SettlesIn}
use Rattle.ec_cluster.specs.SystemSteps.{Does, Settles, world_done, world_settled}
use Rattle.ec_cluster.specs.Systems.{Strings}
use Rattle.ec_cluster.specs.declared.system.System.{System}
use Rattle.ec_things.specs.Texts.{IsHeld}
use Rattle.ec_things.specs.Things.{Thing, things_of}
use Rattle.ec_world.specs.Group.{Has}
use Rattle.ec_world.specs.Objects.{object_at}
use Rattle.ec_world.specs.Outcomes.{only}
use Rattle.ec_world.specs.declared.doing.Doing.{Doing}
use Rattle.ec_world.specs.declared.doing.Doing.TheVariants.{Moves}
use Rattle.ec_world.specs.declared.doing.Outcome.{Outcome}
use Rattle.ec_world.specs.declared.stop.Effect.TheVariants.{GoesOn}
use Rattle.ec_world.specs.declared.stop.Who.{Who}
use Rattle.ec_world.specs.declared.value.Value.TheVariants.{Str}

-- ---- objects of a group

is_some : {A : Type 0} (x : Option A) (a : A) → x ≡ Some a → IsSome x
is_some x a e = subst (λ y. IsSome y) (sym e) refl

-- each member is an object of the world
pub members_there : (d : Declared) (s : System) (w : CodeWorld) (table : ClassTable) (members : List ℕ) (target : ℕ) (fixes : Option ℕ) →
    MayGather d s w table members target fixes → (oid : ℕ) → Has members oid → IsSome (object_at w.common.objects oid)
members_there d s w table members target fixes may oid h =
    let leave = may.each oid h in is_some (object_at w.common.objects oid) leave.object leave.is

-- the target is at a node
pub target_has : (d : Declared) (s : System) (w : CodeWorld) (table : ClassTable) (members : List ℕ) (target : ℕ) (fixes : Option ℕ) →
    MayGather d s w table members target fixes → HasObject s.cluster target
target_has d s w table members target fixes may =
    let o = object_of w.common.objects target may.target_there in
    has_object s.cluster w may.lets.runs.mirrors.shows target o.0 o.1

module _ (d : Declared) (old : System) (w : CodeWorld) (table : ClassTable) (who : Who) (members : List ℕ) (target : ℕ)
    (fixes : Option ℕ) (b : AsksBetween d old w table who (Moves members target fixes)) (mid : System)
    (gathers : Gathers old mid w members target fixes) where
  abbrev doing : Doing
  doing = Moves members target fixes

  abbrev went : Outcome
  went = only (GoesOn None)

  abbrev a : AsksOfEach d old w who doing
  a = asks_of_each d old w table who doing b

  does_so : Does old mid w who doing went
  does_so = record { answers = refl; mirrors = gathers.mirrors; texts = gathers.texts }

  -- ---- who asked for the move goes on

  pub move_settles : SettlesIn d mid (world_done w who doing) b.below b.top who went
  move_settles = settles_behind d old w who doing a mid went does_so (take_nothing mid.cluster b.top)

  pub move_can_settle : CanBeSettled mid who went
  move_can_settle = can_settle_behind d old w who doing a mid went does_so (take_nothing mid.cluster b.top)

  -- ---- places

  gathered_so : AreGathered old.cluster mid.cluster members target
  gathered_so =
      let there = target_has d old w table members target fixes (may_gather d old w table who members target fixes b) in
      record { node = there.node; there = there.at; each = λ oid. gathers.places oid there.node there.at }

  placed_so : HasPlaces mid.cluster (world_done w who doing)
  placed_so =
      moves_keep_places old.cluster mid.cluster w members target fixes
      (members_there d old w table members target fixes (may_gather d old w table who members target fixes b)) gathered_so
      b.begins.goes.places

  -- ---- texts

  module _ (new : System) (settled : Settles mid new (world_done w who doing) who.process b.below b.top went)
      (same : new.cluster.whereabouts ≡ mid.cluster.whereabouts) where
    abbrev between : CodeWorld
    between = world_done w who doing

    abbrev behind : CodeWorld
    behind = world_settled between who.process b.below b.top went

    -- the texts that the nodes have between the steps are there behind both
    texts_stay : (k : ℕ) (text : List ℕ) → Strings mid.cluster between k text → Strings new.cluster behind k text
    texts_stay k text h =
        let frames : frame_of mid.cluster ≡ frame_of old.cluster = frames_same _ old.cluster mid.cluster gathers.texts in
        let then : frame_of new.cluster ≡ frame_of mid.cluster = frames_same _ mid.cluster new.cluster settled.texts in
        let needs = acted_needs d old w b.below b.top who members target fixes b.begins.goes.runs b.asks (place mid.cluster) in
        let wanted : Wants old.cluster (place mid.cluster) between k text = subst
        (λ (f : ℕ → ℕ → CodeActivation → Thing). IsHeld (things_of f between) (place mid.cluster) k text
        ⊎ Has between.common.globals (Str text)) frames h in
        let now : Wants old.cluster (place mid.cluster) behind k text = subst
        (λ (x : CodeWorld). Wants old.cluster (place mid.cluster) x k text) (action_is w b.below b.top who doing b.asks)
        (needs.now k text wanted) in
        let framed : Wants new.cluster (place mid.cluster) behind k text = subst
        (λ (f : ℕ → ℕ → CodeActivation → Thing). IsHeld (things_of f behind) (place mid.cluster) k text
        ⊎ Has behind.common.globals (Str text)) (sym (then ∙ frames)) now in
        subst (λ (at : ℕ → Option ℕ). Wants new.cluster at behind k text) (ap place_at (sym same)) framed

    pub has_moved : HasActed d old new w who.process
    has_moved = acted_behind d old w who doing a mid went does_so new settled same placed_so (λ k text h. inr (texts_stay k text h))
