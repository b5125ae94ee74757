-- Where the objects of a world are, and what an action is asked to move. (Jul, Levy, Hutchinson, Black 1988: move, fix, refix.)
use Rattle.std.specs.Prelude.{◌≡◌, ◌<◌, ℕ, suc, true, false, List, [], ◌∷◌, length, Option, Some}
use Rattle.ec_world.specs.declared.class.ClassNo.TheVariants.{Node}
use Rattle.ec_world.specs.declared.common.Common.{Common}
use Rattle.ec_world.specs.declared.stop.Stop.{Stop}
use Rattle.ec_world.specs.declared.stop.Stop.TheVariants as stop
use Rattle.ec_world.specs.declared.value.Value.TheVariants.{Ref}
use Rattle.ec_world.specs.declared.world.World.{World}
use Rattle.ec_world.specs.Doings.{any_fixed, is_node, without}
use Rattle.ec_world.specs.Group.{Has, group_of}
use Rattle.ec_world.specs.Meaning.{ActivationMeaning}
use Rattle.ec_world.specs.Objects.{fixed_if, object_at}
use Rattle.ec_world.specs.Places.{place_in, places}
use Rattle.ec_world.specs.Sights.{class_of, sight_of}
use Rattle.ec_world.specs.World.{IsPending}

-- ---- places

-- the node at which an object is, where it is there
abbrev pub place_of : Common → ℕ → Option ℕ
place_of c x = place_in (places c.nodes c.events) x

-- From places before to places after, the members have come to one node, and every other object is where it was.
pub record ComeTo (before after : ℕ → Option ℕ) (members : List ℕ) (node : ℕ) : Type 0 where
  pub together : (m : ℕ) → Has members m → after m ≡ Some node
  pub others : (x : ℕ) → (Has members x → ⊥) → after x ≡ before x

-- ---- worlds

abbrev pub IsFixed : Common → ℕ → Type 0
IsFixed c x = fixed_if (object_at c.objects x) ≡ true

-- Object k + 1 is that of node k: it is at node k, and is fixed.
pub record IsNodeAt (c : Common) (k : ℕ) : Type 0 where
  pub class : class_of (object_at c.objects (suc k)) ≡ Some Node
  pub place : place_of c (suc k) ≡ Some k
  pub fixed : IsFixed c (suc k)

-- There are as many places as objects, and the object of each node is fixed there.
pub record IsPlaced (c : Common) : Type 0 where
  pub each : length (places c.nodes c.events) ≡ length c.objects
  pub nodes : (k : ℕ) → k < c.nodes → IsNodeAt c k

-- a world on n nodes
pub record IsOnNodes (n : ℕ) (c : Common) : Type 0 where
  pub count : c.nodes ≡ n
  pub placed : IsPlaced c

-- Silent steps make no object and move none, and each object keeps its class and whether it is fixed.
pub record KeepsPlaces {A : Type 0} (advance : Common → A → Common × A) : Type 0 where
  pub nodes : (c : Common) (a : A) → (advance c a).0.nodes ≡ c.nodes
  pub events : (c : Common) (a : A) → (advance c a).0.events ≡ c.events
  pub count : (c : Common) (a : A) → length (advance c a).0.objects ≡ length c.objects
  pub classes : (c : Common) (a : A) (x : ℕ) → class_of (object_at (advance c a).0.objects x) ≡ class_of (object_at c.objects x)
  pub flags : (c : Common) (a : A) (x : ℕ) → fixed_if (object_at (advance c a).0.objects x) ≡ fixed_if (object_at c.objects x)

-- ---- what an action is asked to move

-- The group of an object may go: no member is fixed; for refix, none but the object itself, which is no node.
pub data MayGo (c : Common) (x : ℕ) : Stop → Type 0 where
  ByMove : (line : ℕ) → any_fixed (sight_of c) (group_of c x) ≡ false → MayGo c x (stop.Move line)
  ByFix : (line : ℕ) → any_fixed (sight_of c) (group_of c x) ≡ false → MayGo c x (stop.Fix line)
  ByRefix :
      (line : ℕ) → is_node (class_of (object_at c.objects x)) ≡ false → any_fixed (sight_of c) (without x (group_of c x)) ≡ false →
      MayGo c x (stop.Refix line)

module _ {A : Type 0} (M : ActivationMeaning A) (w : World A) (p : ℕ) where
  -- The action that process p is to do is that of this stop, on object x and a target.
  pub record AsksToMove (s : Stop) (x target : ℕ) : Type 0 where
    pub rests : IsPending M w p
    pub stop : M.stop rests.top ≡ s
    pub operands : M.operands rests.top ≡ Ref x ∷ Ref target ∷ []

  -- It moves, fixes or refixes an object whose group may go, and object y is in the group.
  pub record TakesAlong (y : ℕ) : Type 0 where
    pub stop : Stop
    pub object : ℕ
    pub target : ℕ
    pub asks : AsksToMove stop object target
    pub may_go : MayGo w.common object stop
    pub member : Has (group_of w.common object) y

  -- It refixes object y itself.
  pub record Refixes (y : ℕ) : Type 0 where
    pub line : ℕ
    pub target : ℕ
    pub asks : AsksToMove (stop.Refix line) y target
