-- Stacks of activations, by the table of actions: each that isn't on top waits for the one above it, which is what its stop called, and
-- the lowest runs the program or a process section. Who is blocked rests where its status tells. (Jul, Levy, Hutchinson, Black 1988; for
-- monitors Hoare 1974.)
use Rattle.std.specs.Prelude.{◌≡◌, ℕ, zero, suc, Bool, true, false, List, [], ◌∷◌, Option, Some, slice_get}
use Rattle.ec_base.specs.Stack.{top_of}
use Rattle.ec_world.specs.declared.class.ClassNo.{ClassNo}
use Rattle.ec_world.specs.declared.class.ClassNo.TheVariants.{Program}
use Rattle.ec_world.specs.declared.class.ClassRec.{ClassRec}
use Rattle.ec_world.specs.declared.common.Common.{Common}
use Rattle.ec_world.specs.declared.process.Proc.{Proc}
use Rattle.ec_world.specs.declared.process.ProcStatus.{ProcStatus}
use Rattle.ec_world.specs.declared.process.ProcStatus.TheVariants.{Entry, Cond, Urgent, Ended, Failed}
use Rattle.ec_world.specs.declared.stop.Stop.{Stop}
use Rattle.ec_world.specs.declared.stop.Stop.TheVariants as stop
use Rattle.ec_world.specs.declared.value.Value.{Value}
use Rattle.ec_world.specs.declared.value.Value.TheVariants.{Ref}
use Rattle.ec_world.specs.declared.world.World.{World}
use Rattle.ec_world.specs.Doings.{runs_inside}
use Rattle.ec_world.specs.Meaning.{ActivationMeaning}
use Rattle.ec_world.specs.Objects.{object_at, class_at, operation_in}
use Rattle.ec_world.specs.Sights.{class_of, class_record, sight_of}
use Rattle.ec_reached.specs.Meant.{is_entry}

-- the class of an object, where it is one of the program's
abbrev pub class_on : Common → ℕ → Option ClassRec
class_on c o = class_record (sight_of c) o

-- ---- what a stop calls

-- an invocation: of its first operand the operation that this has by the name
pub record IsInvoked (c : Common) (name : ℕ) (operands : List Value) (operation own : ℕ) : Type 0 where
  pub arguments : List Value
  pub receiver : operands ≡ Ref own ∷ arguments
  pub named : operation_in (class_on c own) name ≡ Some operation

-- a creation: of an object of the class its operation 0
pub record IsInitial (c : Common) (class : ClassNo) (operation own : ℕ) : Type 0 where
  pub is_class : class_of (object_at c.objects own) ≡ Some class
  pub of : ClassRec
  pub is : class_at c.classes class ≡ Some of
  pub initial : of.initial ≡ operation

-- Only invocations and creations call.
abbrev pub IsCalled : Common → Stop → List Value → ℕ → ℕ → Type 0
IsCalled c (stop.Invoke name line) operands operation own = IsInvoked c name operands operation own
IsCalled c (stop.New class) operands operation own = IsInitial c class operation own
IsCalled c _ operands operation own = ⊥

-- ---- what statuses tell

abbrev pub is_wait : Stop → Bool
is_wait (stop.Wait condition) = true
is_wait _ = false

abbrev pub is_signal : Stop → Bool
is_signal (stop.Signal condition) = true
is_signal _ = false

-- an ended or failed process has no activations
abbrev pub IsLeft : {A : Type 0} → ProcStatus → List A → Type 0
IsLeft Ended all = all ≡ []
IsLeft (Failed cause line) all = all ≡ []
IsLeft _ all = Unit {0}

module _ {A : Type 0} (M : ActivationMeaning A) (c : Common) where
  -- ---- stacks

  -- a waits for b: its action is done, and its stop called the operation of b on the object of b
  pub record Calls (a b : A) : Type 0 where
    pub done : M.is_pending a ≡ false
    pub called : IsCalled c (M.stop a) (M.operands a) (M.operation b) (M.own b)

  -- each waits for the one above it
  abbrev pub EachCalls : List A → Type 0
  EachCalls [] = Unit {0}
  EachCalls (a ∷ []) = Unit {0}
  EachCalls (a ∷ b ∷ bs) = Calls a b × EachCalls (b ∷ bs)

  -- it runs operation 0 of the program on the program's own object
  pub record IsOfProgram (a : A) : Type 0 where
    pub operation : M.operation a ≡ 0
    pub own : M.own a ≡ suc c.nodes
    pub class : class_of (object_at c.objects (suc c.nodes)) ≡ Some Program

  -- it runs the process section of its object
  pub record IsOfSection (a : A) : Type 0 where
    pub of : ClassRec
    pub is : class_on c (M.own a) ≡ Some of
    pub section : of.process ≡ Some (M.operation a)

  -- Process 0 begins with the program, each other one with a process section.
  abbrev pub Begins : ℕ → A → Type 0
  Begins zero a = IsOfProgram a
  Begins (suc p) a = IsOfSection a

  abbrev pub LowestBegins : ℕ → List A → Type 0
  LowestBegins p [] = Unit {0}
  LowestBegins p (a ∷ more) = Begins p a

  pub record StackFits (p : ℕ) (proc : Proc A) : Type 0 where
    pub calls : EachCalls proc.activations
    pub lowest : LowestBegins p proc.activations
    pub left : IsLeft proc.status proc.activations

  -- ---- who is blocked

  -- its operation is one of those that run in the monitor of its object
  abbrev pub runs_within : A → Bool
  runs_within a = runs_inside (class_on c (M.own a)) (M.operation a)

  -- the one on top is on object o, runs in its monitor, and is done at such a stop
  pub record WaitsAt (at : Stop → Bool) (o : ℕ) (top : Option A) : Type 0 where
    pub of : A
    pub is_top : top ≡ Some of
    pub own : M.own of ≡ o
    pub within : runs_within of ≡ true
    pub done : M.is_pending of ≡ false
    pub stands : at (M.stop of) ≡ true

  -- Who waits to enter rests at its entry, who waits for a condition at a wait, and who has signalled at a signal.
  abbrev pub RestsAs : ProcStatus → Option A → Type 0
  RestsAs (Entry o) top = WaitsAt is_entry o top
  RestsAs (Cond o) top = WaitsAt is_wait o top
  RestsAs (Urgent o) top = WaitsAt is_signal o top
  RestsAs _ top = Unit {0}

module _ {A : Type 0} (M : ActivationMeaning A) (w : World A) where
  -- each stack is one of calls, and its lowest activation begins its process
  abbrev pub StacksFit : Type 0
  StacksFit = (p : ℕ) (proc : Proc A) → slice_get w.processes p ≡ Some proc → StackFits M w.common p proc

  -- each blocked process rests where its status tells
  abbrev pub BlockedRest : Type 0
  BlockedRest = (p : ℕ) (proc : Proc A) → slice_get w.processes p ≡ Some proc → RestsAs M w.common proc.status (top_of proc.activations)
