-- The monitors of one object after another are given up on nodes.
use Rattle.std.proofs.Common.{◌≡◌, ℕ, ◌+◌, ◌<◌, ◌≤◌, List, [], ◌++◌, length, drop, get_or, Option, refl, sym, ap, ◌∙◌, subst}
use Rattle.std.proofs.lemmas.List.{append-nil, drop_all}
use Rattle.ec_cluster.specs.Cluster.{CodeWorld, Shows}
use Rattle.ec_cluster.specs.Steps.{Changes, Nothing}
use Rattle.ec_cluster.specs.declared.cluster.Cluster.{Cluster}
use Rattle.ec_monitors.specs.declared.record.Granted.{Granted}
use Rattle.ec_acts.proofs.Wording.{nothing_changes, nothing_join}
use Rattle.ec_acts.specs.Taking.{with_objects}
use Rattle.ec_world.proofs.Dropping.{and_freed, dropped_next}
use Rattle.ec_world.specs.Outcomes.{all_granted, dropped_at, dropped_each}
use Rattle.ec_world.specs.declared.object.ObjectRec.{ObjectRec}

-- nodes show the objects of a world as the first so many objects of a list have been given up, and these were granted a monitor
pub record DroppedSo (c : Cluster) (w : CodeWorld) (p : ℕ) (owns : List ℕ) (count : ℕ) (freed : List ℕ) : Type 0 where
  pub objects : List ObjectRec
  pub shows : Shows c (with_objects w objects)
  pub rest : and_freed freed (dropped_each p (drop count owns) objects) ≡ dropped_each p owns w.common.objects

-- so of each world that was shown, and no text has come
pub record Drops (c c' : Cluster) (p : ℕ) (owns : List ℕ) (count : ℕ) (freed : List ℕ) : Type 0 where
  pub each : (w : CodeWorld) → Shows c w → DroppedSo c' w p owns count freed
  pub changes : Changes Nothing c c'
  pub whereabouts : c'.whereabouts ≡ c.whereabouts

abbrev beside : List ObjectRec → List ℕ → List ObjectRec × List ℕ
beside objects freed = (objects, freed)

module _ (c : Cluster) (p : ℕ) (owns : List ℕ) where
  pub none_dropped : Drops c c p owns 0 []
  none_dropped = record {
    each = λ w shows. record { objects = w.common.objects; shows = shows; rest = refl };
    changes = nothing_changes c;
    whereabouts = refl;
  }

  module _ (now next : Cluster) (count : ℕ) (freed freed' : List ℕ) (granted : Option Granted) (so : Drops c now p owns count freed) where
    pub one_dropped : count < length owns →
        ((w : CodeWorld) → Shows now w → Shows next (with_objects w (dropped_at w.common.objects p (get_or owns count 0)).0)
        × (granted ≡ (dropped_at w.common.objects p (get_or owns count 0)).1)) →
        Changes Nothing now next → next.whereabouts ≡ now.whereabouts → freed' ≡ freed ++ all_granted granted [] →
        Drops c next p owns (count + 1) freed'
    one_dropped within drops changes whereabouts freed_are = record {
      each = λ w shows.
          let before = so.each w shows in
          let x = drops (with_objects w before.objects) before.shows in
          let at : List ObjectRec × Option Granted = dropped_at before.objects p (get_or owns count 0) in
          let pair : dropped_at before.objects p (get_or owns count 0) ≡ (at.0, granted) =
          ap (λ (g : Option Granted). (at.0, g)) (sym x.1) in
          record {
            objects = at.0;
            shows = x.0;
            rest = dropped_next p count owns freed freed' before.objects at.0 granted within pair freed_are ∙ before.rest;
          };
      changes = nothing_join Nothing c now next so.changes changes;
      whereabouts = whereabouts ∙ so.whereabouts;
    }

  pub all_dropped : (now : Cluster) (count : ℕ) (freed : List ℕ) → Drops c now p owns count freed → length owns ≤ count → (w : CodeWorld) →
      Shows c w → Shows now (with_objects w (dropped_each p owns w.common.objects).0) × (freed ≡ (dropped_each p owns w.common.objects).1)
  all_dropped now count freed so all w shows =
      let x = so.each w shows in
      let none : drop count owns ≡ [] = drop_all count owns all in
      let end : and_freed freed (dropped_each p [] x.objects) ≡ dropped_each p owns w.common.objects =
      ap (λ (os : List ℕ). and_freed freed (dropped_each p os x.objects)) (sym none) ∙ x.rest in
      let objects : x.objects ≡ (dropped_each p owns w.common.objects).0 = ap (λ (t : List ObjectRec × List ℕ). t.0) end in
      let these : freed ++ [] ≡ (dropped_each p owns w.common.objects).1 = ap (λ (t : List ObjectRec × List ℕ). t.1) end in
      (subst (λ (os : List ObjectRec). Shows now (with_objects w os)) objects x.shows, sym (append-nil freed) ∙ these)
