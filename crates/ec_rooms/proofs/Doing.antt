-- After the first step of an action that is no move objects are where the events then have them.
use Rattle.std.proofs.Common.{◌≡◌, ℕ, suc, false, List, length, Option, Some, None, replicate, sym, ap, ◌∙◌, subst}
use Rattle.ec_cluster.specs.Cluster.{CodeWorld, place}
use Rattle.ec_cluster.specs.Steps.{with_common}
use Rattle.ec_cluster.specs.declared.cluster.Cluster.{Cluster}
use Rattle.ec_acts.specs.Doings.{OneMore, Places}
use Rattle.ec_fullness.proofs.FittingDoings.{doing_is_there}
use Rattle.ec_fullness.specs.Fitting.{HasNamed, IsMakable}
use Rattle.ec_cluster.specs.Whereabouts.{made_count}
use Rattle.ec_rooms.proofs.Counting.{done_stays}
use Rattle.ec_rooms.proofs.Making.{more_agrees, more_each}
use Rattle.ec_rooms.proofs.Staying.{stays_places}
use Rattle.ec_rooms.specs.PlacingLaws.{DoingsKeepPlaces}
use Rattle.ec_rooms.specs.Places.{HasPlaces}
use Rattle.ec_cluster.specs.SystemSteps.{ByClass, world_done}
use Rattle.ec_world.specs.Objects.{class_at, element_kind}
use Rattle.ec_world.specs.Outcomes.{made_object, monitor_for, with_object}
use Rattle.ec_world.specs.Values.{default_of, new_fields}
use Rattle.ec_world.specs.declared.class.ClassNo.{ClassNo}
use Rattle.ec_world.specs.declared.class.ClassNo.TheVariants.{Vector}
use Rattle.ec_world.specs.declared.class.ClassRec.{ClassRec}
use Rattle.ec_world.specs.declared.doing.Doing.{Doing}
use Rattle.ec_world.specs.declared.doing.Doing.TheVariants.{Makes, MakesVector, Moves}
use Rattle.ec_world.specs.declared.object.ObjectRec.{ObjectRec}
use Rattle.ec_world.specs.declared.stop.Who.{Who}
use Rattle.ec_world.specs.declared.value.Value.{Value}

module _ (old new : Cluster) (w : CodeWorld) (who : Who) (has : HasPlaces old w)
    (many : length w.common.objects ≡ made_count old.whereabouts) where
  -- There is one object more, where its maker is.
  one_more : (o : ObjectRec) (k : ℕ) → place old who.own ≡ Some k → OneMore old new who.own →
      HasPlaces new (with_common w (with_object w.common who o))
  one_more o k at more = record {
    each = more_each w who o has.each;
    placed = more_agrees w who o has.each (place new) k (sym (has.placed who.own) ∙ at)
        (ap (λ n. place new (suc n)) many ∙ more.new ∙ at)
        (λ oid ne. more.others oid (λ same. ne (same ∙ ap suc (sym many))) ∙ has.placed oid);
  }

  one_of : (class : ClassNo) (given : List Value) (x : Option ClassRec) →
      ByClass x (λ k. IsMakable old who.own class (new_fields given k.fields)) → OneMore old new who.own →
      HasPlaces new (with_common w (made_object w.common who class given x).0)
  one_of class given None named more = absurd named
  one_of class given (Some k) named more =
      one_more (record { class = class; fields = new_fields given k.fields; fixed = false; monitor = monitor_for k })
      named.maker_is.node named.maker_is.at more

  by_doing : w.common.classes ≡ old.parts.classes → (doing : Doing) → HasNamed old who doing → Places old new who.own doing →
      HasPlaces new (world_done w who doing)
  by_doing classes (Makes class given) named places =
      one_of class given (class_at w.common.classes class)
      (subst (λ (cs : List ClassRec). ByClass (class_at cs class) (λ k. IsMakable old who.own class (new_fields given k.fields)))
      (sym classes) named) places
  by_doing classes (MakesVector of n) named places =
      one_more (record { class = Vector of; fields = replicate n (default_of (element_kind of)); fixed = false; monitor = None })
      named.maker_is.node named.maker_is.at places
  by_doing classes (Moves members to fixes) named places = absurd places
  by_doing classes doing named places = stays_places old new w (world_done w who doing) (done_stays w.common who doing) places has

pub doings_keep_places : DoingsKeepPlaces
doings_keep_places d old new w below top who doing runs asks places has =
    by_doing old.cluster new.cluster w who has runs.mirrors.objects runs.mirrors.classes doing
    (doing_is_there d old w below top who doing runs asks) places
