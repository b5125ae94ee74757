-- A new node.
use Rattle.std.proofs.Common.{◌≡◌, ℕ, zero, suc, ◌≤◌, List, [], None, refl, ap, ◌∙◌, arith}
use Rattle.std.specs.Prelude.{option_map, slice_get}
use Rattle.ec_memory.specs.Store.{IsNew, IsWhole}
use Rattle.ec_memory.proofs.Places.{new_global_word}
use Rattle.ec_world.specs.declared.key.Key.{Key}
use Rattle.ec_world.specs.declared.key.Key.TheVariants.{Object, Frame}
use Rattle.ec_stores.specs.Changes.{IsFresh}
use Rattle.ec_stores.specs.Memory.{held, number_of}
use Rattle.ec_stores.specs.Node.{NodeData, object_in, owned_frame, owned_object, row_of, store_of}
use Rattle.ec_stores.specs.Tables.{TextPool, frame_in, local_in}
use Rattle.ec_stores.specs.declared.rows.FrameRow.{FrameRow}
use Rattle.ec_stores.specs.declared.rows.ObjectRow.{ObjectRow}
use Rattle.ec_stores.proofs.Written.{zeros}

pub is_fresh : (node : NodeData) (blocks room globals : ℕ) → IsWhole (held node.memory) → IsNew (held node.memory) blocks globals →
    globals ≤ 1048576 → node.objects ≡ [] → node.frames ≡ [] → node.locals ≡ [] →
    node.pool ≡ record { texts = []; room = room; free = room } →
    node.count ≡ 0 → IsFresh (store_of node) node.kind blocks room globals
is_fresh node blocks room globals whole new few objects frames locals pool count = record {
  kind_is = refl;
  rows = no_row;
  constants = λ i h. new_global_word (number_of node.kind) (zeros node.kind) (held node.memory) whole blocks globals new i h
      (omega arith);
  locals = λ i. ap (λ (ls : List ℕ). local_in ls i) locals ∙ no_local i;
  texts = λ i. ap (λ (p : TextPool). slice_get p.texts i) pool;
  room_is = new.links;
  free_is = new.free;
  text_room_is = ap (λ (p : TextPool). p.room) pool;
  text_is = ap (λ (p : TextPool). p.free) pool;
  count_is = count;
}
  where
    no_row : (key : Key) → row_of node key ≡ None
    no_row (Object oid) = ap (λ (os : List (ℕ × ObjectRow)). option_map (owned_object oid) (object_in os oid)) objects
    no_row (Frame p d) = ap (λ (fs : List ((ℕ × ℕ) × FrameRow)). option_map owned_frame (frame_in fs p d)) frames

    no_local : (i : ℕ) → local_in [] i ≡ None
    no_local zero = refl
    no_local (suc i) = refl
