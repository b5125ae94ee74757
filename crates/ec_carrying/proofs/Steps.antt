-- One owner comes or goes at a node.
use Rattle.std.proofs.Common.{◌≡◌, ◌≢◌, ℕ, List, Option, Some, refl, sym, ap, ◌∙◌, subst, inl, inr, ⊎_elim}
use Rattle.std.specs.Prelude.{IsSome, slice_get}
use Rattle.ec_activations.specs.Frames.{frame_thing}
use Rattle.ec_base.proofs.Lists.{length_set}
use Rattle.ec_carrying.specs.Steps.{OnePut, ThingAt}
use Rattle.ec_cluster.proofs.Putting.{node_put, with_node}
use Rattle.ec_cluster.specs.Cluster.{CodeWorld, frame_of, place, stores}
use Rattle.ec_cluster.specs.Images.{homes_on}
use Rattle.ec_cluster.specs.Steps.{Changes, KeptAt, Nothing}
use Rattle.ec_cluster.specs.declared.cluster.Cluster.{Cluster}
use Rattle.ec_cluster.specs.declared.cluster.Images.{Images}
use Rattle.ec_code.specs.declared.activation.CodeActivation.{CodeActivation}
use Rattle.ec_code.specs.declared.code.Parts.{Parts}
use Rattle.ec_cluster.specs.Whereabouts.{Traces, place_at}
use Rattle.ec_world.proofs.Keys.{same_or_not}
use Rattle.ec_world.specs.declared.key.Key.{Key}
use Rattle.ec_stores.specs.Node.{NodeData, store_of}
use Rattle.ec_things.specs.Store.{Store}
use Rattle.ec_things.specs.Texts.{GetsTexts, InPool, NoTexts}
use Rattle.ec_things.specs.Things.{Puts, Thing, things_of}

-- what a change of a node's store is on all nodes
pub one_put : (Added : List ℕ → Type 0) (c : Cluster) (k : ℕ) (n n' : NodeData) (key : Key) (now : Option Thing) →
    slice_get c.nodes k ≡ Some n → Puts (store_of n) (store_of n') key now → GetsTexts Added (store_of n) (store_of n') →
    OnePut Added c (with_node c k n') k key now
one_put Added c k n n' key now is puts gets = record {
  parts = refl;
  images = refl;
  whereabouts = refl;
  nodes = length_set c.nodes k n';
  old = store_of n;
  new = store_of n';
  at = node_put c.nodes k n n' is;
  puts = puts;
  gets = gets;
}

module _ (Added : List ℕ → Type 0) (Brought : ℕ → List ℕ → Type 0) (c c' : Cluster) (k : ℕ) (key : Key) (now : Option Thing)
    (one : OnePut Added c c' k key now)
    (here : (text : List ℕ) → Added text → Brought k text) (back : (text : List ℕ) → Brought k text → Added text)
    (elsewhere : (j : ℕ) (text : List ℕ) → j ≢ k → Brought j text → ⊥) where
  its_node : (s : Store) → stores c k ≡ Some s → (s' : Store) × (stores c' k ≡ Some s') × GetsTexts (Brought k) s s'
  its_node s e =
      let old : one.old ≡ s = (let b = one.at.before in cc) in (
        one.new,
        one.at.after,
        subst (λ (x : Store). GetsTexts (Brought k) x one.new) old (record {
          kind = one.gets.kind;
          room = one.gets.room;
          text_room = one.gets.text_room;
          count = one.gets.count;
          texts = λ text. (
            λ h. ⊎_elim (λ (o : InPool one.old text). inl o) (λ (a : Added text). inr (here text a)) ((one.gets.texts text).0 h),
            λ h. (one.gets.texts text).1 (⊎_elim (λ (o : InPool one.old text). inl o) (λ (b : Brought k text). inr (back text b)) h),
          );
          stay = one.gets.stay;
        }),
      )

  other_node : (j : ℕ) (s : Store) → j ≢ k → stores c j ≡ Some s → (s' : Store) × (stores c' j ≡ Some s') × GetsTexts (Brought j) s s'
  other_node j s ne e = (
    s,
    one.at.others j ne ∙ e,
    record {
      kind = refl;
      room = refl;
      text_room = refl;
      count = refl;
      texts = λ text. (λ h. inl h, λ h. ⊎_elim (λ (o : InPool s text). o) (λ (b : Brought j text). absurd (elsewhere j text ne b)) h);
      stay = λ i text e. e;
    },
  )

  pub one_changes : Changes Brought c c'
  one_changes = record {
    parts = one.parts;
    images = one.images;
    nodes = one.nodes;
    each = λ j s e. ⊎_elim
        (λ (same : j ≡ k).
        let x = its_node s (ap (stores c) (sym same) ∙ e) in
        subst (λ i. (s' : Store) × (stores c' i ≡ Some s') × GetsTexts (Brought i) s s') (sym same) x)
        (λ (ne : j ≢ k). other_node j s ne e)
        (same_or_not j k);
  }

pub nothing_more : (c c' : Cluster) (k : ℕ) (key : Key) (now : Option Thing) → OnePut NoTexts c c' k key now → Changes Nothing c c'
nothing_more c c' k key now one =
    one_changes NoTexts Nothing c c' k key now one (λ text a. a) (λ text a. a) (λ j text ne a. a)

-- ---- the same program on the nodes, and objects at the same places

module _ (c c' : Cluster) (parts : c'.parts ≡ c.parts) (images : c'.images ≡ c.images) where
  -- what holds of how activations are kept on some nodes holds on the others
  pub frames_along : (P : (ℕ → ℕ → CodeActivation → Thing) → Type 0) → P (frame_of c) → P (frame_of c')
  frames_along P h =
      subst (λ (x : Parts). P (frame_thing x (homes_on c'.images))) (sym parts)
      (subst (λ (x : Images). P (frame_thing c.parts (homes_on x))) (sym images) h)

  -- and of the places of objects too
  pub places_along : (P : (ℕ → ℕ → CodeActivation → Thing) → (ℕ → Option ℕ) → Type 0) → c'.whereabouts ≡ c.whereabouts →
      P (frame_of c) (place c) → P (frame_of c') (place c')
  places_along P whereabouts h =
      subst (λ (x : Traces). P (frame_of c') (place_at x)) (sym whereabouts)
      (frames_along (λ frame. P frame (place c)) h)

  pub thing_along : (w : CodeWorld) (k : ℕ) (key : Key) → c'.whereabouts ≡ c.whereabouts → ThingAt c w k key → ThingAt c' w k key
  thing_along w k key whereabouts t = record {
    thing = t.thing;
    is = frames_along (λ frame. things_of frame w key ≡ Some t.thing) t.is;
    at = ap (λ (x : Traces). place_at x t.thing.home) whereabouts ∙ t.at;
  }

-- what is kept of another owner is kept still
pub still_kept : (Added : List ℕ → Type 0) (c c' : Cluster) (k : ℕ) (key : Key) (now : Option Thing) → OnePut Added c c' k key now →
    (other : Key) → other ≢ key → KeptAt c other k → KeptAt c' other k
still_kept Added c c' k key now one other ne kept = record {
  store = one.new;
  there = one.at.after;
  row =
      let old : kept.store ≡ one.old = (let b = one.at.before in let t = kept.there in cc) in
      let was : IsSome (one.old.row other) = subst (λ (x : Store). IsSome (x.row other)) old kept.row in
      subst (λ x. IsSome x) (sym (one.puts.others other ne).row) was;
}
