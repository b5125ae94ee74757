-- An activation begins at the node of its own object.
use Rattle.std.proofs.Common.{◌≡◌, ◌≢◌, ◌<◌, ◌⊎◌, ℕ, List, Some, sym, ap, ◌∙◌, subst, inl, inr, ⊎_elim}
use Rattle.std.specs.Prelude.{length, option_map, slice_get}
use Rattle.std.proofs.lemmas.Option.{same_Some}
use Rattle.ec_cluster.proofs.Putting.{is_node, node_changes, with_node}
use Rattle.ec_cluster.specs.Cluster.{place, stores}
use Rattle.ec_cluster.specs.Steps.{Changes}
use Rattle.ec_cluster.specs.declared.cluster.Cluster.{Cluster}
use Rattle.ec_cluster.specs.Frames.{BeginsWith, HasNode, tables_on}
use Rattle.ec_node_frames.specs.Beginning.{HasEntry, first_values}
use Rattle.ec_generate.specs.declared.table.OperationTable.{OperationTable}
use Rattle.ec_stores.specs.Node.{NodeData, store_of}
use Rattle.ec_things.specs.Store.{Store}
use Rattle.ec_things.specs.Texts.{GetsTexts, InPool}
use Rattle.ec_world.specs.Group.{Has}
use Rattle.ec_world.specs.declared.value.Value.{Value}
use Rattle.ec_world.specs.declared.value.Value.TheVariants.{Str}

pub node_within : (c : Cluster) (own k : ℕ) → HasNode c own → place c own ≡ Some k → k < length c.nodes
node_within c own k has at =
    let same : has.node ≡ k = (let h = has.at in cc) in
    is_node c k has.store (ap (stores c) (sym same) ∙ has.there)

module _ (c : Cluster) (operation own : ℕ) (arguments : List Value) (k : ℕ) (n n' : NodeData) (at : place c own ≡ Some k)
    (is : slice_get c.nodes k ≡ Some n) (t : OperationTable) (its : slice_get (tables_on c (store_of n).kind) operation ≡ Some t)
    (gets : GetsTexts (λ text. Has (first_values t own arguments) (Str text)) (store_of n) (store_of n')) where
  here : stores c k ≡ Some (store_of n)
  here = ap (option_map store_of) is

  -- the texts that come are those of this node and this table
  its_texts : (text : List ℕ) → BeginsWith c operation own arguments k text → Has (first_values t own arguments) (Str text)
  its_texts text b =
      let store : b.store ≡ store_of n = same_Some b.store (store_of n) (sym b.there ∙ here) in
      let found : slice_get (tables_on c (store_of n).kind) operation ≡ Some b.table =
      ap (λ (s : Store). slice_get (tables_on c s.kind) operation) (sym store) ∙ b.is in
      let table : b.table ≡ t = same_Some b.table t (sym found ∙ its) in
      subst (λ (u : OperationTable). Has (first_values u own arguments) (Str text)) table b.has

  pub begins_changes : Changes (BeginsWith c operation own arguments) c (with_node c k n')
  begins_changes = node_changes c k n n' (BeginsWith c operation own arguments) is
      (record {
        kind = gets.kind;
        room = gets.room;
        text_room = gets.text_room;
        count = gets.count;
        texts = λ text. (
          λ h. ⊎_elim
              (λ (old : InPool (store_of n) text). inl old)
              (λ (new : Has (first_values t own arguments) (Str text)).
              inr (record { at = at; store = store_of n; there = here; table = t; is = its; has = new }))
              ((gets.texts text).0 h),
          λ h. (gets.texts text).1 (⊎_elim
              (λ (old : InPool (store_of n) text). inl old)
              (λ (new : BeginsWith c operation own arguments k text). inr (its_texts text new))
              h),
        );
        stay = gets.stay;
      })
      (λ j text ne b. ne (let f = b.at in cc))
