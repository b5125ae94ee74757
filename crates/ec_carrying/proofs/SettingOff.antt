-- All that is in a parcel goes from a node.
use Rattle.std.proofs.Common.{◌≡◌, ℕ, [], Some, sym, ap, ◌∙◌}
use Rattle.std.specs.Prelude.{false}
use Rattle.ec_carrying.proofs.Once.{once_apart, once_back, once_front}
use Rattle.ec_carrying.proofs.Steps.{frames_along, thing_along}
use Rattle.ec_carrying.specs.Moves.{AreAll, GoWithHomes, NotAny, SetOff}
use Rattle.ec_carrying.specs.Steps.{AreKept, ShowsStaying, TakenOff, ThingsAt}
use Rattle.ec_cluster.specs.Cluster.{CodeWorld, Shows, frame_of, place, stores}
use Rattle.ec_cluster.specs.Steps.{Changes, Nothing}
use Rattle.ec_cluster.specs.declared.cluster.Cluster.{Cluster}
use Rattle.ec_cluster.specs.Whereabouts.{Traces, made_count, place_at}
use Rattle.ec_world.specs.declared.key.Key.{Key}
use Rattle.ec_parcels.proofs.Keys.{not_has}
use Rattle.ec_parcels.specs.Owners.{among, frame_keys, keys_of, object_keys}
use Rattle.ec_acts.proofs.Wording.{nothing_join}
use Rattle.ec_things.specs.Things.{Thing, things_of}
use Rattle.ec_things.proofs.Others.{go_elsewhere}
use Rattle.ec_wire.specs.declared.parcel.Contents.{Contents}
use Rattle.ec_world.proofs.Members.{has_back, has_front}

module _ (c c1 : Cluster) (from : ℕ) (x : Contents) (kept : AreKept c from (keys_of x))
    (first : TakenOff c c1 from (object_keys x.objects)) where
  -- when the objects have gone, the activations are there still
  pub activations_kept : AreKept c1 from (frame_keys x.activations)
  activations_kept = record {
    once = once_back (object_keys x.objects) (frame_keys x.activations) kept.once;
    each = λ key h. first.kept key
        (λ g. once_apart (object_keys x.objects) (frame_keys x.activations) key kept.once g h)
        (kept.each key (has_back key (object_keys x.objects) (frame_keys x.activations) h));
  }

  module _ (c2 : Cluster) (d : Traces) (to : ℕ) (second : TakenOff c1 c2 from (frame_keys x.activations))
      (there : AreAll d x.objects to)
      (others : (oid : ℕ) → NotAny x.objects oid → place_at d oid ≡ place_at c2.whereabouts oid)
      (count : made_count d ≡ made_count c2.whereabouts) where
    abbrev after : Cluster
    after = record { parts = c2.parts; images = c2.images; nodes = c2.nodes; whereabouts = d }

    both : Changes Nothing c c2
    both = nothing_join Nothing c c1 c2 first.changes second.changes

    whereabouts : c2.whereabouts ≡ c.whereabouts
    whereabouts = second.whereabouts ∙ first.whereabouts

    all_off : (w : CodeWorld) → ThingsAt c w from (keys_of x) → Shows c w → ShowsStaying c2 (among (keys_of x)) w
    all_off w things shows =
        let objects : ShowsStaying c1 (among (object_keys x.objects)) w =
        first.shows w [] (λ key h. things key (has_front key (object_keys x.objects) (frame_keys x.activations) h))
        (once_front (object_keys x.objects) (frame_keys x.activations) kept.once) shows in
        second.shows w (object_keys x.objects)
        (λ key h. thing_along c c1 first.changes.parts first.changes.images w from key first.whereabouts
        (things key (has_back key (object_keys x.objects) (frame_keys x.activations) h)))
        kept.once objects

    -- what stays has its place still
    at_home : (w : CodeWorld) → GoWithHomes c w x → (key : Key) (t : Thing) → things_of (frame_of c2) w key ≡ Some t →
        among (keys_of x) key ≡ false → place_at d t.home ≡ place c2 t.home
    at_home w homes key t is stays = others t.home (λ part h same.
        not_has (keys_of x) key stays (homes key t part
        (frames_along c2 c (sym both.parts) (sym both.images) (λ frame. things_of frame w key ≡ Some t) is) h same))

    pub all_set_off : SetOff c after from to x
    all_set_off = record {
      changes = record { parts = both.parts; images = both.images; nodes = both.nodes; each = both.each };
      others = λ j ne. second.others j ne ∙ first.others j ne;
      there = there;
      stay = λ oid none. others oid none ∙ ap (λ (l : Traces). place_at l oid) whereabouts;
      count = count ∙ ap made_count whereabouts;
      shows = λ w things homes shows.
          go_elsewhere (frame_of c2) (among (keys_of x)) (stores c2) w (place c2) (place_at d) (all_off w things shows)
          (at_home w homes);
    }
