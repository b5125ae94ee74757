-- From fresh nodes to the first world.
use Rattle.std.proofs.Common.{◌≡◌, ℕ, zero, suc, List, [], ◌∷◌, map, Some, refl, ap, ◌∙◌}
use Rattle.std.proofs.Common.{subst, arith}
use Rattle.std.specs.Prelude.{length, slice_get}
use Rattle.std.proofs.lemmas.Option.{same_Some}
use Rattle.ec_base.proofs.Lists.{get_there, get_within}
use Rattle.ec_cluster.proofs.Putting.{store_there}
use Rattle.ec_cluster.specs.Cluster.{CodeWorld, Shows, frame_of, place, stores}
use Rattle.ec_cluster.specs.Images.{homes_on}
use Rattle.ec_cluster.specs.declared.cluster.Cluster.{Cluster}
use Rattle.ec_cluster.specs.declared.cluster.Images.{Images}
use Rattle.ec_code.specs.Typing.{kind_of}
use Rattle.ec_code.specs.declared.code.Parts.{Parts}
use Rattle.ec_cluster.specs.Whereabouts.{Gives, Traces}
use Rattle.ec_cluster.specs.Located.{nothing_made}
use Rattle.ec_acts.proofs.LoadingHolding.{held_nodes}
use Rattle.ec_acts.specs.Fresh.{AreAtFirst, IsAtFirst}
use Rattle.ec_acts.specs.Loading.{IsSet}
use Rattle.ec_acts.specs.Worlds.{with_objects}
use Rattle.ec_world.specs.declared.key.Key.{Key}
use Rattle.ec_world.specs.declared.key.Key.TheVariants.{Frame, Object}
use Rattle.ec_stores.specs.Node.{NodeData}
use Rattle.ec_things.specs.Held.{Held}
use Rattle.ec_things.specs.Shows.{GlobalStands}
use Rattle.ec_things.specs.Store.{Store}
use Rattle.ec_things.specs.Things.{Thing, things_of}
use Rattle.ec_world.specs.Values.{default_of}
use Rattle.ec_world.specs.declared.node.NodeSpec.{NodeSpec}
use Rattle.ec_world.specs.declared.value.Value.{Value}

mapped : {A B : Type 0} (f : A → B) (xs : List A) (i : ℕ) (y : B) → slice_get (map f xs) i ≡ Some y →
    (x : A) × (slice_get xs i ≡ Some x) × (f x ≡ y)
mapped f [] i y e = absurd cc
mapped f (x ∷ xs) zero y e = (x, refl, same_Some (f x) y e)
mapped f (x ∷ xs) (suc i) y e = mapped f xs i y e

-- ---- fresh nodes

module _ (p : Parts) (images : Images) (specs : List NodeSpec) (nodes : List NodeData) (d : Traces)
    (fresh : AreAtFirst p specs (length specs) nodes) (gives : Gives d nothing_made) where
  abbrev c : Cluster
  c = record { parts = p; images = images; nodes = nodes; whereabouts = d }

  abbrev w : CodeWorld
  w = with_objects (length specs) p []

  -- a node, by its store
  record AtNode (k : ℕ) (s : Store) : Type 0 where
    spec : NodeSpec
    is : slice_get specs k ≡ Some spec
    first : IsAtFirst p spec s

  at_node : (k : ℕ) (s : Store) → stores c k ≡ Some s → AtNode k s
  at_node k s e =
      let x = store_there k (slice_get nodes k) s e in
      let spec = get_there specs k (let l = get_within nodes k x.0 x.1 in let m = fresh.many in omega (arith, l, m)) in
      record {
        spec = spec.0;
        is = spec.1;
        first = subst (λ (y : Store). IsAtFirst p spec.0 y) x.2 (fresh.each k spec.0 x.0 spec.1 x.1);
      }

  no_thing : (key : Key) (t : Thing) → things_of (frame_of c) w key ≡ Some t → ⊥
  no_thing (Object zero) t e = absurd cc
  no_thing (Object (suc i)) t e = absurd cc
  no_thing (Frame q depth) t e = absurd cc

  constant : (k : ℕ) (s : Store) (i : ℕ) (v : Value) → stores c k ≡ Some s → slice_get w.common.globals i ≡ Some v → GlobalStands s i v
  constant k s i v e f =
      let kind = mapped default_of (map kind_of p.constants) i v f in
      let type = mapped kind_of p.constants i kind.0 kind.1 in
      subst (λ (x : Value). GlobalStands s i x) (ap default_of type.2 ∙ kind.2) ((at_node k s e).first.constants i type.0 type.1)

  fresh_shown : Shows c w
  fresh_shown = record {
    things_stand = record {
      each = λ key t e. absurd (no_thing key t e);
      only = λ k s key r e f. absurd (let none = (at_node k s e).first.rows key in cc);
    };
    globals_stand = constant;
    tidy = λ k s e. (at_node k s e).first.tidy;
    room = λ k s e.
        let first = (at_node k s e).first in
        let free = first.free in
        let room = first.size.room in
        let none : Held (frame_of c) (place c) k w ≡ 0 = held_nodes p p (homes_on images) (place c) k (length specs) 0 in
        omega (arith, free, room, none);
  }

  pub fresh_set : IsSet p images specs w nothing_made c
  fresh_set = record {
    parts = refl;
    images_are = refl;
    nodes = fresh.many;
    sizes = λ k spec s e f.
        let x = store_there k (slice_get nodes k) s f in
        (subst (λ (y : Store). IsAtFirst p spec y) x.2 (fresh.each k spec x.0 e x.1)).size;
    whereabouts = gives;
    many = refl;
    shows = fresh_shown;
  }
