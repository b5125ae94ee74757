-- What is unpacked at a node of a cluster.
use Rattle.std.proofs.Common.{◌≡◌, ℕ, Some, refl, sym, ap, ◌∙◌}
use Rattle.std.proofs.lemmas.Option.{same_Some}
use Rattle.std.specs.Prelude.{Err, Ok, OnOk, Result, option_map, slice_get}
use Rattle.ec_base.proofs.Lists.{length_set}
use Rattle.ec_cluster.proofs.Putting.{node_put, with_node}
use Rattle.ec_cluster.specs.Cluster.{stores}
use Rattle.ec_cluster.specs.declared.cluster.Cluster.{Cluster}
use Rattle.ec_cluster.specs.Frames.{tables_on}
use Rattle.ec_parcels.specs.Classes.{ClassTable}
use Rattle.ec_stores.specs.Node.{NodeData, store_of}
use Rattle.ec_things.specs.Store.{Store}
use Rattle.ec_wire.specs.declared.parcel.Contents.{Contents}
use Rattle.ec_carrying.specs.Unpacking.{Unpacked, UnpackedAt}

-- the store of a node is the one that it has
pub here_as : (c : Cluster) (k : ℕ) (n : NodeData) (s : Store) → stores c k ≡ Some s → slice_get c.nodes k ≡ Some n → s ≡ store_of n
here_as c k n s there is = same_Some s (store_of n) (sym there ∙ ap (option_map store_of) is)

pub on_ok_so : {X E P Q : Type 0} (r : Result X E) → (P → Q) → OnOk r P → OnOk r Q
on_ok_so (Ok x) f p = f p
on_ok_so (Err e) f p = tt

pub unpacked_at : (table : ClassTable) (c : Cluster) (k : ℕ) (n n' : NodeData) (x : Contents) → slice_get c.nodes k ≡ Some n →
    Unpacked table (tables_on c (store_of n).kind) x (store_of n) (store_of n') → UnpackedAt table c (with_node c k n') k x
unpacked_at table c k n n' x is unpacked = record {
  parts = refl;
  images = refl;
  whereabouts = refl;
  nodes = length_set c.nodes k n';
  old = store_of n;
  new = store_of n';
  at = node_put c.nodes k n n' is;
  unpacked = unpacked;
}
