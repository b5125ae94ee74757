-- What moves, over any meaning of activations and any silent steps that leave places alone: after a move the members of a group are at
-- one node and every other object is where it was, a fixed object goes by its own refix alone, and a node never does.
use Rattle.std.specs.Prelude.{◌≡◌, ◌⊎◌, ℕ, true, false, List, length, Some, IsSome}
use Rattle.ec_world.specs.declared.class.ClassRec.{ClassRec}
use Rattle.ec_world.specs.declared.common.Common.{Common}
use Rattle.ec_world.specs.declared.event.Event.TheVariants.{Moved}
use Rattle.ec_world.specs.declared.run.RunEntry.{RunEntry}
use Rattle.ec_world.specs.declared.stop.Stop.{Stop}
use Rattle.ec_world.specs.declared.value.ValueType.{ValueType}
use Rattle.ec_world.specs.declared.world.World.{World}
use Rattle.ec_world.specs.Group.{group_of}
use Rattle.ec_world.specs.Meaning.{ActivationMeaning}
use Rattle.ec_world.specs.Moves.{OperatorMove, is_idle_move}
use Rattle.ec_world.specs.Objects.{object_at}
use Rattle.ec_world.specs.Places.{AreThere, place_in, placed}
use Rattle.ec_world.specs.Run.{after_entries, after_entry, first_world}
use Rattle.ec_world.specs.World.{Action, GoOn, Turn}
use Rattle.ec_moving.specs.Placed.{AsksToMove, ComeTo, IsFixed, IsOnNodes, IsPlaced, KeepsPlaces, MayGo, Refixes, TakesAlong, place_of}

-- After a move the members are where the target was, and every other object is where it was.
abbrev pub GroupGoesTogether : Type 0
GroupGoesTogether =
    (ps members : List ℕ) (target node : ℕ) → AreThere (length ps) members → place_in ps target ≡ Some node →
    ComeTo (place_in ps) (place_in (placed ps (Moved members target))) members node

module _ {A : Type 0} (M : ActivationMeaning A) where
  -- So it is after the action of a move, fix or refix of an object whose group may go.
  abbrev pub ActionBringsTheGroup : Type 0
  ActionBringsTheGroup =
      (w : World A) (p x target node : ℕ) (stop : Stop) → IsPlaced w.common → AsksToMove M w p stop x target → MayGo w.common x stop →
      place_of w.common target ≡ Some node →
      ComeTo (place_of w.common) (place_of (Action M w p).common) (group_of w.common x) node

  -- Nothing else that a process does moves an object that is there: no other action, and no silent steps.
  pub record OthersStay : Type 0 where
    pub by_action :
        (w : World A) (p x : ℕ) → IsPlaced w.common → IsSome (object_at w.common.objects x) →
        (place_of (Action M w p).common x ≡ place_of w.common x) ⊎ TakesAlong M w p x
    pub by_silent_steps :
        (advance : Common → A → Common × A) (w : World A) (p x : ℕ) → KeepsPlaces advance →
        place_of (GoOn M advance w p).common x ≡ place_of w.common x
    pub by_turn :
        (advance : Common → A → Common × A) (w : World A) (p x : ℕ) → KeepsPlaces advance → IsPlaced w.common →
        IsSome (object_at w.common.objects x) →
        (place_of (Turn M advance w p).common x ≡ place_of w.common x) ⊎ TakesAlong M w p x

  -- A fixed object goes by its own refix alone.
  pub record FixedObjectsStay : Type 0 where
    pub by_action :
        (w : World A) (p x : ℕ) → IsPlaced w.common → IsFixed w.common x →
        (place_of (Action M w p).common x ≡ place_of w.common x) ⊎ Refixes M w p x
    pub by_silent_steps :
        (advance : Common → A → Common × A) (w : World A) (p x : ℕ) → KeepsPlaces advance → IsFixed w.common x →
        place_of (GoOn M advance w p).common x ≡ place_of w.common x
    pub by_turn :
        (advance : Common → A → Common × A) (w : World A) (p x : ℕ) → KeepsPlaces advance → IsPlaced w.common → IsFixed w.common x →
        (place_of (Turn M advance w p).common x ≡ place_of w.common x) ⊎ Refixes M w p x
    pub by_move :
        (w : World A) (o k x : ℕ) → IsFixed w.common x → place_of (OperatorMove w o k).common x ≡ place_of w.common x

  -- Objects 1 to n of the first world on n nodes are fixed at nodes 0 to n - 1, and still are after each entry.
  pub record EntriesKeepNodes : Type 0 where
    pub at_first : (n : ℕ) (classes : List ClassRec) (globals : List ValueType) → IsOnNodes n (first_world M n classes globals).common
    pub by_action : (n : ℕ) (w : World A) (p : ℕ) → IsOnNodes n w.common → IsOnNodes n (Action M w p).common
    pub by_silent_steps :
        (advance : Common → A → Common × A) (n : ℕ) (w : World A) (p : ℕ) → KeepsPlaces advance → IsOnNodes n w.common →
        IsOnNodes n (GoOn M advance w p).common
    pub by_move : (n : ℕ) (w : World A) (o k : ℕ) → IsOnNodes n w.common → IsOnNodes n (OperatorMove w o k).common
    pub by_entry :
        (advance : Common → A → Common × A) (n : ℕ) (w : World A) (e : RunEntry) → KeepsPlaces advance → IsOnNodes n w.common →
        IsOnNodes n (after_entry M advance w e).common

  -- They are in each world of each run.
  abbrev pub NodesStay : Type 0
  NodesStay =
      (advance : Common → A → Common × A) → KeepsPlaces advance →
      (n : ℕ) (classes : List ClassRec) (globals : List ValueType) (entries : List RunEntry) →
      IsOnNodes n (after_entries M advance (first_world M n classes globals) entries).common

-- A move by the operator that isn't idle brings the group of its object to its node, and an idle one changes nothing.
pub record MoveBringsTheGroup (A : Type 0) : Type 0 where
  pub goes :
      (w : World A) (o k : ℕ) → IsPlaced w.common → is_idle_move w.common o k ≡ false →
      ComeTo (place_of w.common) (place_of (OperatorMove w o k).common) (group_of w.common o) k
  pub idle : (w : World A) (o k : ℕ) → is_idle_move w.common o k ≡ true → OperatorMove w o k ≡ w
