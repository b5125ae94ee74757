-- A constant gets its value at one node after another.
use Rattle.std.proofs.Common.{◌≡◌, ◌≢◌, ℕ, ◌+◌, ◌<◌, ◌≤◌, List, Option, Some, None, refl, sym, ap, ◌∙◌, subst, arith, ⊎_elim, ◌⊎◌, inl, inr}
use Rattle.std.specs.Prelude.{length, option_map, slice_get, slice_set}
use Rattle.ec_base.proofs.Lists.{get_set_other, get_set_same, get_there, get_within, length_set}
use Rattle.ec_cluster.proofs.Putting.{store_there}
use Rattle.ec_cluster.specs.Cluster.{CodeWorld, Shows, frame_of, place, stores, stores_of}
use Rattle.ec_cluster.specs.Defining.{DefinedUpTo, Defining}
use Rattle.ec_cluster.specs.Steps.{Changes, Everywhere, with_common}
use Rattle.ec_cluster.specs.declared.cluster.Cluster.{Cluster}
use Rattle.ec_cluster.specs.declared.cluster.Images.{Images}
use Rattle.ec_code.specs.declared.code.Parts.{Parts}
use Rattle.ec_cluster.specs.Whereabouts.{Traces}
use Rattle.ec_world.specs.Held.{if_at}
use Rattle.ec_stores.specs.Node.{NodeData, store_of}
use Rattle.ec_things.proofs.Globals.{global_put}
use Rattle.ec_things.proofs.Put.{same_or_not}
use Rattle.ec_things.specs.Changes.{PutsGlobal, PutsGlobals}
use Rattle.ec_things.specs.Held.{Held}
use Rattle.ec_things.specs.Store.{Store}
use Rattle.ec_things.specs.Texts.{GetsTexts}
use Rattle.ec_things.specs.Things.{things_of}
use Rattle.ec_world.specs.declared.value.Value.{Value}
use Rattle.ec_world.specs.declared.value.Value.TheVariants.{Str}

module _ (old : List NodeData) (i : ℕ) (v : Value) where
  pub none_yet : DefinedUpTo old old i v 0
  none_yet = record { many = refl; before = λ k n n' l e f. absurd (omega arith); behind = λ k l. refl }

  -- the next node gets it
  pub next_too : (now : List NodeData) (k : ℕ) (n n' : NodeData) → DefinedUpTo old now i v k → slice_get now k ≡ Some n →
      PutsGlobal (store_of n) (store_of n') i v → GetsTexts (λ text. v ≡ Str text) (store_of n) (store_of n') →
      DefinedUpTo old (slice_set now k n') i v (k + 1)
  next_too now k n n' so is puts gets = record {
    many = length_set now k n' ∙ so.many;
    before = λ j m m' l e f. ⊎_elim
        (λ (same : j ≡ k).
        let new : slice_get (slice_set now k n') j ≡ Some n' = ap (slice_get (slice_set now k n')) same
        ∙ get_set_same now k n' (get_within now k n is) in
        let was : slice_get old j ≡ Some n = sym (so.behind j (omega arith)) ∙ ap (slice_get now) same ∙ is in
        let a : n ≡ m = cc in
        let b : n' ≡ m' = cc in
        rw (← a, ← b) (puts, gets))
        (λ (ne : j ≢ k). so.before j m m' (omega arith) e (sym (get_set_other now k j n' ne) ∙ f))
        (same_or_not j k);
    behind = λ j l. get_set_other now k j n' (omega arith) ∙ so.behind j (omega arith);
  }

  module _ (now : List NodeData) (so : DefinedUpTo old now i v (length old)) where
    get_now : (k : ℕ) (n : NodeData) → slice_get old k ≡ Some n → (n' : NodeData) × (slice_get now k ≡ Some n')
    get_now k n e = get_there now k (let l = get_within old k n e in let m = so.many in omega (arith, l, m))

    get_old : (k : ℕ) (n' : NodeData) → slice_get now k ≡ Some n' → (n : NodeData) × (slice_get old k ≡ Some n)
    get_old k n' e = get_there old k (let l = get_within now k n' e in let m = so.many in omega (arith, l, m))

    pub all_put : PutsGlobals (stores_of old) (stores_of now) i v
    all_put = record {
      each = λ k s e.
          let x = store_there k (slice_get old k) s e in
          let y = get_now k x.0 x.1 in (
            store_of y.0,
            ap (option_map store_of) y.1,
            subst (λ (q : Store). PutsGlobal q (store_of y.0) i v) x.2
                (so.before k x.0 y.0 (get_within old k x.0 x.1) x.1 y.1).0,
          );
      only = λ k s' e.
          let y = store_there k (slice_get now k) s' e in
          let x = get_old k y.0 y.1 in
          (store_of x.0, ap (option_map store_of) x.1);
    }

    pub each_gets : (k : ℕ) (s : Store) → stores_of old k ≡ Some s →
        (s' : Store) × (stores_of now k ≡ Some s') × GetsTexts (Everywhere v k) s s'
    each_gets k s e =
        let x = store_there k (slice_get old k) s e in
        let y = get_now k x.0 x.1 in (
          store_of y.0,
          ap (option_map store_of) y.1,
          subst (λ (q : Store). GetsTexts (Everywhere v k) q (store_of y.0)) x.2
              (so.before k x.0 y.0 (get_within old k x.0 x.1) x.1 y.1).1,
        )

-- ---- of a cluster

abbrev of_these : Parts → Images → List NodeData → Traces → Cluster
of_these parts images nodes whereabouts = record { parts = parts; images = images; nodes = nodes; whereabouts = whereabouts }

module _ (c now : Cluster) (i : ℕ) (v : Value) where
  pub still_there : (k : ℕ) (n : NodeData) → Defining c now i v k → slice_get now.nodes k ≡ Some n → stores c k ≡ Some (store_of n)
  still_there k n so is = ap (option_map store_of) (sym (so.nodes.behind k (omega arith)) ∙ is)

  pub one_more : (k : ℕ) (n n' : NodeData) → Defining c now i v k → slice_get now.nodes k ≡ Some n →
      PutsGlobal (store_of n) (store_of n') i v →
      GetsTexts (λ text. v ≡ Str text) (store_of n) (store_of n') → Defining c (record now { nodes = slice_set now.nodes k n' }) i v (k + 1)
  one_more k n n' so is puts gets = record {
    nodes = next_too c.nodes i v now.nodes k n n' so.nodes is puts gets;
    parts = so.parts;
    images = so.images;
    whereabouts = so.whereabouts;
  }

  module _ (count : ℕ) (all : count ≡ length c.nodes) (so : Defining c now i v count) where
    whole : DefinedUpTo c.nodes now.nodes i v (length c.nodes)
    whole = subst (λ n. DefinedUpTo c.nodes now.nodes i v n) all so.nodes

    pub defined_changes : Changes (Everywhere v) c now
    defined_changes = record { parts = so.parts; images = so.images; nodes = so.nodes.many; each = each_gets c.nodes i v now.nodes whole }

    pub defined_shown : (w : CodeWorld) → Shows c w → i < length w.common.globals →
        Shows now (with_common w (record w.common { globals = slice_set w.common.globals i v }))
    defined_shown w shows within =
        let after : Shows (record c { nodes = now.nodes }) (with_common w (record w.common { globals = slice_set w.common.globals i v })) =
        global_put (stores_of c.nodes) (stores_of now.nodes) i v (all_put c.nodes i v now.nodes whole) (things_of (frame_of c) w)
        w.common.globals
        (λ k. Held (frame_of c) (place c) k w) (place c) shows within in
        subst (λ (x : Cluster). Shows x (with_common w (record w.common { globals = slice_set w.common.globals i v }))) (sym same) after
      where
        same : now ≡ record c { nodes = now.nodes }
        same = ap (λ x. of_these x now.images now.nodes now.whereabouts) so.parts
            ∙ ap (λ x. of_these c.parts x now.nodes now.whereabouts) so.images
            ∙ ap (λ x. of_these c.parts c.images now.nodes x) so.whereabouts
