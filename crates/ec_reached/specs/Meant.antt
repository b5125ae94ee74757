-- What the laws on reached worlds ask of a meaning of activations, and of its silent steps.
use Rattle.std.specs.Prelude.{◌≡◌, ℕ, ◌&&◌, Bool, true, false, List, Option, Some}
use Rattle.ec_world.specs.declared.class.ClassRec.{ClassRec}
use Rattle.ec_world.specs.declared.common.Common.{Common}
use Rattle.ec_world.specs.declared.stop.Stop.{Stop}
use Rattle.ec_world.specs.declared.stop.Stop.TheVariants as stop
use Rattle.ec_world.specs.declared.value.Value.{Value}
use Rattle.ec_world.specs.Group.{Has}
use Rattle.ec_world.specs.Meaning.{ActivationMeaning}
use Rattle.ec_world.specs.Objects.{object_at, operation_named}
use Rattle.ec_world.specs.Sights.{class_of}
use Rattle.ec_world.specs.Waiting.{KeepsMonitors}

abbrev pub is_entry : Stop → Bool
is_entry stop.Entry = true
is_entry _ = false

abbrev pub is_end : Stop → Bool
is_end stop.End = true
is_end _ = false

-- No class has the operation for a call: it is no operation 0, and no name means it.
pub record IsNotCalled (classes : List ClassRec) (operation : ℕ) : Type 0 where
  pub initial : (k : ClassRec) → Has classes k → k.initial ≡ operation → ⊥
  pub named : (k : ClassRec) (name : ℕ) → Has classes k → operation_named k.operations name ≡ Some operation → ⊥

module _ {A : Type 0} (M : ActivationMeaning A) where
  -- it rests at an entry whose action is to be done
  abbrev pub is_coming : A → Bool
  is_coming a = is_entry (M.stop a) && M.is_pending a

  -- it rests at the end of its process, and is to end it
  abbrev pub is_ending : A → Bool
  is_ending a = is_end (M.stop a) && M.is_pending a

  -- it is about to run an operation on an object
  pub record IsNew (op oid : ℕ) (a : A) : Type 0 where
    pub operation : M.operation a ≡ op
    pub own : M.own a ≡ oid
    pub stop : M.stop a ≡ stop.Entry
    pub pending : M.is_pending a ≡ true

  -- b is activation a, at the same stop, with its action done
  pub record IsDone (a b : A) : Type 0 where
    pub operation : M.operation b ≡ M.operation a
    pub own : M.own b ≡ M.own a
    pub stop : M.stop b ≡ M.stop a
    pub operands : M.operands b ≡ M.operands a
    pub done : M.is_pending b ≡ false

  -- A new activation rests at its entry, and one whose action is done is the one that it was.
  pub record StaysItself : Type 0 where
    pub begun : (op own : ℕ) (args : List Value) → IsNew op own (M.begun op own args)
    pub finished : (a : A) (given : Option Value) → IsDone a (M.finished a given)

  -- Silent steps leave an activation its operation and its object. They leave alone how many nodes there are, classes, which class each
  -- object is of, and monitors.
  pub record StepsStay (advance : Common → A → Common × A) : Type 0 where
    pub operation : (c : Common) (a : A) → M.operation (advance c a).1 ≡ M.operation a
    pub own : (c : Common) (a : A) → M.own (advance c a).1 ≡ M.own a
    pub nodes : (c : Common) (a : A) → (advance c a).0.nodes ≡ c.nodes
    pub classes : (c : Common) (a : A) → (advance c a).0.classes ≡ c.classes
    pub objects : (c : Common) (a : A) (o : ℕ) → class_of (object_at (advance c a).0.objects o) ≡ class_of (object_at c.objects o)
    pub monitors : KeepsMonitors advance

  -- Silent steps behind an action that is done lead to no entry, and to the end of a process only in an operation that no class has for
  -- a call.
  pub record StepsStop (advance : Common → A → Common × A) (classes : List ClassRec) : Type 0 where
    pub no_entry : (c : Common) (a : A) → M.is_pending a ≡ false → is_coming (advance c a).1 ≡ false
    pub ends :
        (c : Common) (a : A) → M.is_pending a ≡ false → is_ending (advance c a).1 ≡ true → IsNotCalled classes (M.operation a)
