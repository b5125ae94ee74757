-- An object is found at its place.
use Rattle.std.proofs.Common.{◌≡◌, ℕ, zero, suc, ◌+◌, ◌<◌, ◌≤◌, Bool, List, Option, Some, None, refl, sym, ap, ◌∙◌, subst, arith}
use Rattle.std.proofs.lemmas.Option.{same_Some}
use Rattle.std.specs.Prelude.{IsSome, length, option_map, slice_get}
use Rattle.ec_base.proofs.Lists.{get_within}
use Rattle.ec_monitors.specs.declared.record.MonitorRec.{MonitorRec}
use Rattle.ec_cluster.specs.Cluster.{place, stores}
use Rattle.ec_cluster.specs.Steps.{HasObject}
use Rattle.ec_cluster.specs.declared.cluster.Cluster.{Cluster}
use Rattle.ec_cluster.specs.Whereabouts.{made_count}
use Rattle.ec_world.specs.declared.key.Key.TheVariants.{Object}
use Rattle.ec_cluster.proofs.Listing.{each-get, each-length, each-past}
use Rattle.ec_cluster.specs.Decoded.{decoded, decoded_at, fields_of, spelled, spelled_as, spelled_at, store_at}
use Rattle.ec_cluster.specs.Seeing.{CanBeRead, CanBeSeen, IsSeenAt, ObjectCanBeSeen}
use Rattle.ec_stores.specs.Changes.{IsObject}
use Rattle.ec_stores.specs.Node.{NodeData, store_of}
use Rattle.ec_stores.specs.declared.rows.Object.{Object as ObjectData}
use Rattle.ec_things.specs.Store.{Owned, Store}
use Rattle.ec_world.specs.Objects.{object_at}
use Rattle.ec_world.specs.declared.class.ClassNo.{ClassNo}
use Rattle.ec_world.specs.declared.object.ObjectRec.{ObjectRec}

-- ---- the objects that are seen

pub object_decoded : (c : Cluster) (oid : ℕ) → 0 < oid → oid ≤ made_count c.whereabouts →
    object_at (decoded c) oid ≡ Some (decoded_at c oid)
object_decoded c zero p l = absurd (omega arith)
object_decoded c (suc i) p l =
    let at : 1 + i ≡ suc i = omega arith in
    each-get (decoded_at c) 1 (made_count c.whereabouts) i (omega arith) ∙ ap (λ k. Some (decoded_at c k)) at

pub none_decoded : (c : Cluster) (oid : ℕ) → (0 < oid → oid ≤ made_count c.whereabouts → ⊥) → object_at (decoded c) oid ≡ None
none_decoded c zero h = refl
none_decoded c (suc i) h =
    let past : suc i ≤ made_count c.whereabouts → ⊥ = h (omega arith) in
    each-past (decoded_at c) 1 (made_count c.whereabouts) i (omega arith)

-- a store spells an object that it keeps
pub spelled_is : (c : Cluster) (oid : ℕ) (s : Store) (r : Owned) (class : ClassNo) → store_at (stores c) (place c oid) ≡ Some s →
    s.row (Object oid) ≡ Some r → r.class ≡ Some class → decoded_at c oid ≡ spelled_as c.parts.classes s r (Some class)
spelled_is c oid s r class at there is =
    ap (spelled_at c.parts.classes oid) at ∙ ap (spelled c.parts.classes s) there ∙ ap (spelled_as c.parts.classes s r) is

abbrev seen_as : Cluster → Store → ClassNo → List ℕ → ℕ → Bool → Option MonitorRec → Option ObjectRec
seen_as c s class blocks size fixed monitor =
    Some (record { class = class; fields = fields_of c.parts.classes s class blocks size; fixed = fixed; monitor = monitor })

-- ---- the node

store_there : (c : Cluster) (oid k : ℕ) (s : Store) → place c oid ≡ Some k → stores c k ≡ Some s →
    store_at (stores c) (place c oid) ≡ Some s
store_there c oid k s at is = ap (store_at (stores c)) at ∙ is

within_if : (c : Cluster) (k : ℕ) (s : Store) (n : Option NodeData) → slice_get c.nodes k ≡ n → option_map store_of n ≡ Some s →
    k < length c.nodes
within_if c k s None e f = absurd cc
within_if c k s (Some n) e f = get_within c.nodes k n e

module _ (c : Cluster) (can : CanBeSeen c) (oid : ℕ) (positive : 0 < oid) (made : oid ≤ made_count c.whereabouts) where
  it : ObjectCanBeSeen c oid
  it = can.objects oid positive made

  pub node_within : (k : ℕ) → place c oid ≡ Some k → k < length c.nodes
  node_within k at =
      let same : it.node ≡ k = same_Some it.node k (sym it.at ∙ at) in
      subst (λ j. j < length c.nodes) same (within_if c it.node it.store (slice_get c.nodes it.node) refl it.there)

  module _ (k : ℕ) (n : NodeData) (at : place c oid ≡ Some k) (is : slice_get c.nodes k ≡ Some n) where
    here : store_at (stores c) (place c oid) ≡ Some (store_of n)
    here = store_there c oid k (store_of n) at (ap (option_map store_of) is)

    same_store : it.store ≡ store_of n
    same_store = same_Some it.store (store_of n) (sym (store_there c oid it.node it.store it.at it.there) ∙ here)

    pub is_kept : (store_of n).row (Object oid) ≡ None → ⊥
    is_kept none = let a = it.kept in let b = ap (λ (s : Store). s.row (Object oid)) same_store in cc

    read_here : (r : Owned) (class : ClassNo) → (store_of n).row (Object oid) ≡ Some r → r.class ≡ Some class →
        CanBeRead c (store_of n) class r.blocks r.size
    read_here r class there class_is =
        let row : it.row ≡ r = same_Some it.row r (sym it.kept ∙ ap (λ (s : Store). s.row (Object oid)) same_store ∙ there) in
        let same : it.class ≡ class = same_Some it.class class (sym it.is ∙ ap (λ (x : Owned). x.class) row ∙ class_is) in
        subst (λ (x : ClassNo). CanBeRead c (store_of n) x r.blocks r.size) same
        (subst (λ (x : Owned). CanBeRead c (store_of n) it.class x.blocks x.size) row
        (subst (λ (x : Store). CanBeRead c x it.class it.row.blocks it.row.size) same_store it.each))

    pub found : (o : ObjectData) → IsObject (store_of n) oid o → IsSeenAt c oid (store_of n) o
    found o object = record {
      row = object.row;
      kept = object.there;
      blocks = object.blocks;
      each =
          subst (λ size. CanBeRead c (store_of n) o.class object.row.blocks size) object.size
          (read_here object.row o.class object.there object.class);
      seen =
          object_decoded c oid positive made
          ∙ ap Some (spelled_is c oid (store_of n) object.row o.class here object.there object.class)
          ∙ ap (λ size. seen_as c (store_of n) o.class object.row.blocks size object.row.fixed object.row.monitor) object.size
          ∙ ap (λ fixed. seen_as c (store_of n) o.class object.row.blocks o.size fixed object.row.monitor) object.fixed;
    }

-- ---- what is seen is there

seen_made : (c : Cluster) (oid : ℕ) (o : ObjectRec) → object_at (decoded c) oid ≡ Some o → (0 < oid) × (oid ≤ made_count c.whereabouts)
seen_made c zero o e = absurd cc
seen_made c (suc i) o e =
    let within = get_within (decoded c) i o e in
    let many = each-length (decoded_at c) 1 (made_count c.whereabouts) in
    (omega arith, omega arith)

pub seen_there : (c : Cluster) (oid : ℕ) (o : ObjectRec) → CanBeSeen c → object_at (decoded c) oid ≡ Some o → HasObject c oid
seen_there c oid o can e =
    let made = seen_made c oid o e in
    let it = can.objects oid made.0 made.1 in
    record {
      node = it.node;
      at = it.at;
      kept = record {
        store = it.store;
        there = it.there;
        row = subst (λ (r : Option Owned). IsSome r) (sym it.kept) refl;
      };
    }
