-- What a node was before a step that brings texts.
use Rattle.std.proofs.Common.{◌≡◌, ◌<◌, ℕ, List, Some, length, sym, ap, ◌∙◌, subst}
use Rattle.std.specs.Prelude.{option_map}
use Rattle.std.proofs.lemmas.Option.{same_Some}
use Rattle.ec_base.proofs.Lists.{get_there}
use Rattle.ec_cluster.proofs.Putting.{is_node}
use Rattle.ec_cluster.specs.Cluster.{stores}
use Rattle.ec_cluster.specs.Steps.{Changes}
use Rattle.ec_cluster.specs.declared.cluster.Cluster.{Cluster}
use Rattle.ec_stores.specs.Node.{store_of}
use Rattle.ec_things.specs.Store.{Store}
use Rattle.ec_things.specs.Texts.{GetsTexts}

-- the node of a number was there, and has come to be what it is
pub record Before (Added : ℕ → List ℕ → Type 0) (c : Cluster) (k : ℕ) (s' : Store) : Type 0 where
  pub store : Store
  pub there : stores c k ≡ Some store
  pub gets : GetsTexts (Added k) store s'

pub before : (Added : ℕ → List ℕ → Type 0) (c c' : Cluster) (k : ℕ) (s' : Store) → Changes Added c c' → stores c' k ≡ Some s' →
    Before Added c k s'
before Added c c' k s' changes there =
    let l : k < length c.nodes = subst (λ n. k < n) changes.nodes (is_node c' k s' there) in
    let n = get_there c.nodes k l in
    let is : stores c k ≡ Some (store_of n.0) = ap (option_map store_of) n.1 in
    let x = changes.each k (store_of n.0) is in
    let same : x.0 ≡ s' = same_Some x.0 s' (sym x.1 ∙ there) in
    record { store = store_of n.0; there = is; gets = subst (λ (t : Store). GetsTexts (Added k) (store_of n.0) t) same x.2 }
