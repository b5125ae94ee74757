-- Nodes before and after a step that brings texts.
use Rattle.std.proofs.Common.{◌≡◌, ℕ, Option, Some, None, arith}
use Rattle.ec_cluster.specs.Cluster.{CodeWorld, Shows, frame_of, place, stores}
use Rattle.ec_cluster.specs.declared.cluster.Cluster.{Cluster}
use Rattle.ec_network.proofs.Rooms.{SamePool, no_text_came, room_there, text_free_same}
use Rattle.ec_node_frames.specs.Finishing.{HasRoomIn}
use Rattle.ec_code.specs.declared.code.Live.{Live}
use Rattle.ec_things.specs.Held.{Held}
use Rattle.ec_things.specs.Store.{Store}
use Rattle.ec_things.specs.Texts.{GetsTexts}
use Rattle.ec_world.specs.declared.value.Value.{Value}

-- ---- a step that brings no text

-- A node has the same texts, and as much room for text.
pub record SameTexts (s s' : Store) : Type 0 where
  pub pool : SamePool s s'
  pub free : s'.text_free ≡ s.text_free

pub same_texts : (c c' : Cluster) (w w' : CodeWorld) (k : ℕ) (s s' : Store) → Shows c w → Shows c' w' → stores c k ≡ Some s →
    stores c' k ≡ Some s' → GetsTexts (λ text. ⊥) s s' → SameTexts s s'
same_texts c c' w w' k s s' shows shows' there there' gets = record {
  pool = no_text_came s s' gets;
  free = text_free_same s s' (shows.tidy k s there) (shows'.tidy k s' there') gets.text_room (no_text_came s s' gets);
}

pub room_in_there : (s s' : Store) (r : Option Live) (given : Option Value) → SameTexts s s' → HasRoomIn s r given → HasRoomIn s' r given
room_in_there s s' None given same has = tt
room_in_there s s' (Some l) None same has = tt
room_in_there s s' (Some l) (Some v) same has = room_there s s' v same.pool same.free has

-- a node where a world holds as many blocks as before has as many free
pub free_there : (c c' : Cluster) (w w' : CodeWorld) (k : ℕ) (s s' : Store) → Shows c w → Shows c' w' → stores c k ≡ Some s →
    stores c' k ≡ Some s' → s'.room ≡ s.room → Held (frame_of c') (place c') k w' ≡ Held (frame_of c) (place c) k w → s'.free ≡ s.free
free_there c c' w w' k s s' shows shows' there there' room held =
    let old = shows.room k s there in
    let new = shows'.room k s' there' in
    omega (arith, old, new, room, held)
