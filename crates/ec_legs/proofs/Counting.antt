-- What nodes have run after a leg at one of them.
use Rattle.std.proofs.Common.{◌≡◌, ◌≢◌, ℕ, ◌≤◌, suc, Some, refl, sym, ap, ◌∙◌, subst, ⊎_elim}
use Rattle.std.specs.Prelude.{slice_get, slice_set}
use Rattle.std.proofs.lemmas.Option.{same_Some}
use Rattle.ec_base.proofs.Lists.{length_set}
use Rattle.ec_cluster.proofs.Putting.{node_put, with_node}
use Rattle.ec_cluster.specs.Cluster.{place, stores, stores_of}
use Rattle.ec_cluster.specs.Images.{homes_on, image_of}
use Rattle.ec_cluster.specs.declared.cluster.Cluster.{Cluster}
use Rattle.ec_code.specs.declared.activation.CodeActivation.{CodeActivation}
use Rattle.ec_machine_code.specs.Stops.{words_of}
use Rattle.ec_legs.specs.Going.{IsFew, Ran, RanAt, SameRoom}
use Rattle.ec_legs.specs.Legs.{Leg}
use Rattle.ec_stores.specs.Node.{NodeData, store_of}
use Rattle.ec_things.proofs.Put.{same_or_not}
use Rattle.ec_things.specs.Store.{Store}
use Rattle.ec_things.specs.Things.{NodePut}
use Rattle.ec_world.specs.declared.common.Common.{Common}

same_room : (s : Store) → SameRoom s s
same_room s =
    record { kind = refl; room = refl; free = refl; text_room = refl; text_free = refl; text = λ i. refl }

module _ (c : Cluster) (k : ℕ) (n n' : NodeData) (here : slice_get c.nodes k ≡ Some n) (common : Common) (a : CodeActivation)
    (at : place c a.own ≡ Some k) (process depth count : ℕ)
    (leg : Leg (image_of c.images (store_of n).kind).code c.parts (homes_on c.images) common a (store_of n) (store_of n') process depth
    count) where
  put : NodePut (stores c) (stores_of (slice_set c.nodes k n')) k (store_of n) (store_of n')
  put = node_put c.nodes k n n' here

  -- the node itself
  ran_here : RanAt c a.own count k (store_of n) (store_of n')
  ran_here = record {
    same = record {
      kind = leg.kind;
      room = leg.room;
      free = leg.free;
      text_room = leg.text_room;
      text_free = leg.text_free;
      text = leg.text;
    };
    its = λ e. leg.count;
    others = λ ne. absurd (ne at);
  }

  -- another node
  ran_there : (j : ℕ) (s : Store) → j ≢ k → RanAt c a.own count j s s
  ran_there j s ne = record {
    same = same_room s;
    its = λ e. absurd (ne (same_Some j k (sym e ∙ at)));
    others = λ h. refl;
  }

  pub has_run : Ran c (with_node c k n') a.own count
  has_run = record {
    nodes = length_set c.nodes k n';
    each = λ j s e. ⊎_elim
        (λ (same : j ≡ k).
        let is : store_of n ≡ s = same_Some (store_of n) s (sym put.before ∙ ap (stores c) (sym same) ∙ e) in (
          store_of n',
          ap (stores_of (slice_set c.nodes k n')) same ∙ put.after,
          subst (λ z. RanAt c a.own count z s (store_of n')) (sym same)
              (subst (λ (z : Store). RanAt c a.own count k z (store_of n')) is ran_here),
        ))
        (λ (ne : j ≢ k). (s, put.others j ne ∙ e, ran_there j s ne))
        (same_or_not j k);
  }

  pub is_few : IsFew c a count
  is_few j s e f =
      let node : k ≡ j = same_Some k j (sym at ∙ e) in
      let is : store_of n ≡ s = same_Some (store_of n) s (sym put.before ∙ ap (stores c) node ∙ f) in
      subst (λ (z : Store). count ≤ suc (words_of (image_of c.images z.kind).code a.operation)) is leg.few
