-- The events of each world of a run place each of its objects.
use Rattle.std.proofs.Common.{ℕ, suc, Bool, true, false, replicate, refl, arith}
use Rattle.std.proofs.lemmas.List.{length-replicate}
use Rattle.ec_cluster.specs.Cluster.{CodeWorld}
use Rattle.ec_code.specs.declared.code.Parts.{Parts}
use Rattle.ec_acts.specs.Worlds.{world_first}
use Rattle.ec_rooms.proofs.Counting.{action_grows, as_many, length_push, made_push, placed_after, stays_grows}
use Rattle.ec_rooms.proofs.Stepping.{go_on_stays}
use Rattle.ec_rooms.specs.PlacingLaws.{EachIsPlaced}
use Rattle.ec_rooms.specs.Places.{PlacesEach}
use Rattle.ec_world.proofs.Placement.{length-first_places}
use Rattle.ec_world.specs.Group.{group_of}
use Rattle.ec_world.specs.Moves.{is_idle_move, moved_common, moved_unless}
use Rattle.ec_world.specs.Run.{node_object, program_object}
use Rattle.ec_world.specs.declared.event.Event.TheVariants.{Moved}

pub first_placed : (n : ℕ) (p : Parts) → PlacesEach (world_first n p)
first_placed n p =
    let one = length_push (replicate n node_object) program_object in
    let many = length-replicate n node_object in
    let places = length-first_places n in
    omega (arith, one, many, places)

-- a move makes no object
moved_placed : (w : CodeWorld) (o k : ℕ) → PlacesEach w → (idle : Bool) →
    PlacesEach (record w { common = moved_unless w.common o k idle })
moved_placed w o k h true = h
moved_placed w o k h false =
    placed_after w.common (moved_common w.common o k)
    (as_many w.common (moved_common w.common o k) refl refl
    (let m = made_push w.common.events (Moved (group_of w.common o) (suc k)) in omega (arith, m))) h

pub each_placed : EachIsPlaced
each_placed = record {
  first = first_placed;
  acted = λ w i h. placed_after w.common _ (action_grows w i) h;
  moved = λ w o k h. moved_placed w o k h (is_idle_move w.common o k);
  gone_on = λ p w i h. placed_after w.common _ (stays_grows w.common _ (go_on_stays p w i)) h;
}
