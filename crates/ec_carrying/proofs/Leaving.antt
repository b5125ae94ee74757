-- Owners go from a node, one after another.
use Rattle.std.proofs.Common.{◌≡◌, ℕ, ◌+◌, ◌≤◌, List, [], ◌∷◌, ◌++◌, drop, length, take, Some, None, refl, sym, ◌∙◌, subst}
use Rattle.std.proofs.Common.{append_assoc}
use Rattle.std.proofs.lemmas.List.{append-nil}
use Rattle.std.specs.Prelude.{false, slice_get}
use Rattle.ec_base.proofs.Lists.{drop_at, take_next}
use Rattle.ec_carrying.proofs.Once.{once_apart, once_front}
use Rattle.ec_carrying.proofs.Steps.{nothing_more, places_along, still_kept, thing_along}
use Rattle.ec_carrying.specs.Steps.{AreKept, OnePut, ShowsStaying, TakenOff, ThingAt}
use Rattle.ec_cluster.specs.Cluster.{CodeWorld, frame_of, place, stores}
use Rattle.ec_cluster.specs.Steps.{KeptAt}
use Rattle.ec_cluster.specs.declared.cluster.Cluster.{Cluster}
use Rattle.ec_world.specs.Held.{Distinct}
use Rattle.ec_world.specs.declared.key.Key.{Key}
use Rattle.ec_objects.proofs.Wording.{take_all}
use Rattle.ec_parcels.proofs.Keys.{not_among, one_behind}
use Rattle.ec_parcels.proofs.Rising.{once_first, once_tail}
use Rattle.ec_parcels.specs.Owners.{among}
use Rattle.ec_acts.proofs.Wording.{nothing_changes, nothing_join}
use Rattle.ec_cluster.specs.Steps.{Nothing}
use Rattle.ec_things.specs.Texts.{NoTexts}
use Rattle.ec_things.proofs.Turns.{takes_off}
use Rattle.ec_things.specs.Travelling.{ShowsBut}
use Rattle.ec_world.proofs.Members.{has_back, has_first, has_front, has_later}
use Rattle.ec_world.specs.Group.{Has}

-- the first i of some owners have gone, and the others are there still
pub record Taking (c now : Cluster) (k : ℕ) (keys : List Key) (i : ℕ) : Type 0 where
  pub off : TakenOff c now k (take i keys)
  pub left : AreKept now k (drop i keys)

-- an owner that goes travels with those that travel already
one_off : (c c' : Cluster) (k : ℕ) (key : Key) (w : CodeWorld) (before : List Key) → OnePut NoTexts c c' k key None → ThingAt c w k key →
    among before key ≡ false → ShowsStaying c (among before) w → ShowsStaying c' (among (before ++ key ∷ [])) w
one_off c c' k key w before one t stays shows =
    places_along c c' one.parts one.images (λ frame at. ShowsBut frame (among (before ++ key ∷ [])) (stores c') w at) one.whereabouts
    (takes_off (frame_of c) (among before) (among (before ++ key ∷ [])) (stores c) (stores c') w (place c) k one.old one.new key t.thing
    shows stays t.is t.at one.at one.puts (one_behind before key))

none_off : (c : Cluster) (k : ℕ) → TakenOff c c k []
none_off c k = record {
  changes = nothing_changes c;
  whereabouts = refl;
  others = λ j ne. refl;
  kept = λ key absent kept. kept;
  shows = λ w before things once shows. subst (λ keys. ShowsStaying c (among keys) w) (sym (append-nil before)) shows;
}

one_more_off : (c now c' : Cluster) (k : ℕ) (keys : List Key) (key : Key) → TakenOff c now k keys → OnePut NoTexts now c' k key None →
    TakenOff c c' k (keys ++ key ∷ [])
one_more_off c now c' k keys key off one = record {
  changes = nothing_join Nothing c now c' off.changes (nothing_more now c' k key None one);
  whereabouts = one.whereabouts ∙ off.whereabouts;
  others = λ j ne. one.at.others j ne ∙ off.others j ne;
  kept = λ other absent kept.
      still_kept NoTexts now c' k key None one other
      (λ e. absent (subst (λ (x : Key). Has (keys ++ key ∷ []) x) (sym e) (has_back key keys (key ∷ []) (has_first key []))))
      (off.kept other (λ h. absent (has_front other keys (key ∷ []) h)) kept);
  shows = λ w before things once shows.
      let regrouped : (before ++ keys) ++ key ∷ [] ≡ before ++ (keys ++ key ∷ []) = append_assoc before keys (key ∷ []) in
      let apart : Distinct ((before ++ keys) ++ key ∷ []) = subst (λ (ks : List Key). Distinct ks) (sym regrouped) once in
      let so_far : ShowsStaying now (among (before ++ keys)) w =
      off.shows w before (λ x h. things x (has_front x keys (key ∷ []) h)) (once_front (before ++ keys) (key ∷ []) apart) shows in
      let there : ThingAt now w k key = thing_along c now off.changes.parts off.changes.images w k key off.whereabouts
      (things key (has_back key keys (key ∷ []) (has_first key []))) in
      let stays : among (before ++ keys) key ≡ false =
      not_among (before ++ keys) key (λ h. once_apart (before ++ keys) (key ∷ []) key apart h (has_first key [])) in
      subst (λ (ks : List Key). ShowsStaying c' (among ks) w) regrouped (one_off now c' k key w (before ++ keys) one there stays so_far);
}

-- ---- the loop

pub first_is_kept : (c : Cluster) (k i : ℕ) (keys : List Key) (key : Key) → slice_get keys i ≡ Some key → AreKept c k (drop i keys) →
    KeptAt c key k
first_is_kept c k i keys key is left =
    left.each key (subst (λ (ks : List Key). Has ks key) (sym (drop_at keys i key is)) (has_first key (drop (i + 1) keys)))

pub none_taken : (c : Cluster) (k : ℕ) (keys : List Key) → AreKept c k keys → Taking c c k keys 0
none_taken c k keys kept = record { off = none_off c k; left = kept }

pub one_taken : (c now c' : Cluster) (k i : ℕ) (keys : List Key) (key : Key) → slice_get keys i ≡ Some key → Taking c now k keys i →
    OnePut NoTexts now c' k key None → Taking c c' k keys (i + 1)
one_taken c now c' k i keys key is so one = record {
  off = subst (λ (ks : List Key). TakenOff c c' k ks) (sym (take_next keys i key is))
      (one_more_off c now c' k (take i keys) key so.off one);
  left = record { once = once_tail key (drop (i + 1) keys) once; each = others };
}
  where
    left : AreKept now k (key ∷ drop (i + 1) keys)
    left = subst (λ (ks : List Key). AreKept now k ks) (drop_at keys i key is) so.left

    once : Distinct (key ∷ drop (i + 1) keys)
    once = left.once

    others : (other : Key) → Has (drop (i + 1) keys) other → KeptAt c' other k
    others other h = still_kept NoTexts now c' k key None one other
        (λ e. once_first key (drop (i + 1) keys) once (subst (λ (x : Key). Has (drop (i + 1) keys) x) e h))
        (left.each other (has_later key other (drop (i + 1) keys) h))

pub all_taken : (c now : Cluster) (k i : ℕ) (keys : List Key) → length keys ≤ i → Taking c now k keys i → TakenOff c now k keys
all_taken c now k i keys all so = subst (λ (ks : List Key). TakenOff c now k ks) (take_all keys i all) so.off
