-- What a world of three-address code keeps between entries: what is read later is there, each value is of the type of its place,
-- and stacks are calls.
use Rattle.std.specs.Prelude.{◌≡◌, ◌≢◌, ℕ, suc, ◌<◌, ◌⊎◌, Bool, true, false, List, [], ◌∷◌, length, drop, Option, Some, None}
use Rattle.std.specs.Prelude.{IsSome, slice_get}
use Rattle.std.specs.List.{AllByRecursion as Each}
use Rattle.ec_base.specs.Stack.{top_of, below_of}
use Rattle.ec_code.specs.Activations.{Arrived, operation_at, machine_behind, code_if, variables_behind, walk}
use Rattle.ec_code.specs.declared.activation.CodeActivation.{CodeActivation}
use Rattle.ec_code.specs.declared.code.Line.{Line}
use Rattle.ec_code.specs.declared.code.Live.{Live}
use Rattle.ec_code.specs.declared.code.Op.TheVariants as op
use Rattle.ec_code.specs.declared.code.Operation.{Operation}
use Rattle.ec_code.specs.declared.code.Parts.{Parts}
use Rattle.ec_code.specs.declared.code.StopRow.{StopRow}
use Rattle.ec_code.specs.declared.code.Variable.{Variable}
use Rattle.ec_code.specs.Fine.{Begins, FineRow, GoesOn as IfGoesOn, Has, IsGiven, IsTaken, divisor_at, live_at}
use Rattle.ec_code.specs.Steps.{with_itself}
use Rattle.ec_code.specs.Typing.{Declared, element_static, field_types}
use Rattle.ec_types.specs.declared.conform.static_type.StaticType.{StaticType}
use Rattle.ec_types.specs.Fits.{Fits}
use Rattle.ec_world.specs.Waiting.{AreBlocked}
use Rattle.ec_world.specs.Agree.{AllTwo}
use Rattle.ec_world.specs.Outcomes.{Acted, Done}
use Rattle.ec_world.specs.declared.class.ClassNo.{ClassNo}
use Rattle.ec_world.specs.declared.class.ClassNo.TheVariants.{Node, Program, Made, Vector}
use Rattle.ec_world.specs.declared.common.Common.{Common}
use Rattle.ec_world.specs.declared.doing.Section.{Section}
use Rattle.ec_world.specs.declared.object.ObjectRec.{ObjectRec}
use Rattle.ec_world.specs.declared.process.Proc.{Proc}
use Rattle.ec_world.specs.declared.process.ProcStatus.{ProcStatus}
use Rattle.ec_world.specs.declared.process.ProcStatus.TheVariants.{Ready, Entry, Cond, Urgent, Ended, Failed}
use Rattle.ec_world.specs.declared.stop.Effect.{Effect}
use Rattle.ec_world.specs.declared.stop.Effect.TheVariants.{GoesOn, Calls, Leaves, Blocks, Ends, Fails}
use Rattle.ec_world.specs.declared.value.Value.{Value}
use Rattle.ec_world.specs.declared.world.World.{World}
use Rattle.ec_code.specs.SoundValues.{AreHeld, HasType, IsOfType, Later, class_in, held}

-- what silent steps behind an activation's stop come to
abbrev pub reached : Parts → Common → CodeActivation → Common × Option Arrived
reached p c a = walk p.literals a.own (suc a.at) (drop (suc a.at) (code_if (operation_at p a.operation))) 0 (machine_behind p c a)

-- there is code behind a place, which doesn't begin with a division
pub record CodeBehind (o : Operation) (at : ℕ) : Type 0 where
  pub code : 0 < length (drop (suc at) o.code)
  pub no_division : divisor_at (drop (suc at) o.code) 0 ≡ None

module _ (d : Declared) (p : Parts) where
  -- ---- what processes share

  -- the fields of an object, by its class: each is of its type, and so is each element of a vector
  abbrev pub FineFields : List ObjectRec → ClassNo → List Value → Type 0
  FineFields objects (Made k) vs = IsSome (slice_get d.classes k) × AllTwo (HasType d objects) (field_types d (Made k)) vs
  FineFields objects (Vector of) vs = Each (HasType d objects (element_static of)) vs
  FineFields objects Node vs = Unit {0}
  FineFields objects Program vs = Unit {0}

  abbrev pub FineObject : List ObjectRec → ObjectRec → Type 0
  FineObject objects r = FineFields objects r.class r.fields

  pub record SoundCommon (c : Common) : Type 0 where
    pub classes : c.classes ≡ p.classes
    pub objects : Each (FineObject c.objects) c.objects
    pub constants : AllTwo (HasType d c.objects) p.constants c.globals
    -- the object of node k is object k + 1
    pub nodes : (k : ℕ) → k < c.nodes → class_in c.objects (suc k) ≡ Some Node

  -- ---- activations

  module _ (objects : List ObjectRec) where
    -- each live variable is there, and of its type
    abbrev pub HoldAll : List Value → List Value → List Live → Type 0
    HoldAll variables temporaries live =
        (x : Variable) (t : StaticType) → Has live x t → IsOfType d objects t (held variables temporaries x)

    -- An activation rests at a stop of its operation. At the entry its variables are its arguments, and behind it they are all there.
    pub record RestsAt (a : CodeActivation) : Type 0 where
      pub of : Operation
      pub is_operation : operation_at p a.operation ≡ Some of
      pub line : Line
      pub is_line : slice_get of.code a.at ≡ Some line
      pub row : StopRow
      pub is_row : line.op ≡ op.Rest row
      pub typed : FineRow d p a.operation of (drop (suc a.at) of.code) line.live row
      pub stop : a.stop ≡ row.stop
      pub own : class_in objects a.own ≡ Some of.class
      pub arguments : a.at ≡ 0 → length a.variables ≡ length of.parameters
      pub count : length (variables_behind p a a.at) ≡ length of.variables

    -- a variable waits exactly where something of a type is given, and what else is live behind is there and of its type
    pub record LiveBehind (a : CodeActivation) (o : Operation) (given : Option StaticType) : Type 0 where
      pub behind : CodeBehind o a.at
      pub taken : IsTaken d p given a.into
      pub live :
          (x : Variable) (t : StaticType) → Has (live_at (drop (suc a.at) o.code) 0) x t →
          IsGiven d p given a.into x t
          ⊎ ((a.into ≢ Some x) × IsOfType d objects t (held (variables_behind p a a.at) a.temporaries x))

    -- The values of these variables are of these types, and with the own object where the action is on it they are the operands.
    pub record OperandsFit (on_itself : Bool) (own : ℕ) (types : List StaticType) (operands : List Value) (names : List Variable)
        (variables temporaries : List Value) : Type 0 where
      pub values : List Value
      pub are : operands ≡ with_itself on_itself own values
      pub those : AreHeld names variables temporaries values
      pub fit : AllTwo (HasType d objects) types values

    -- the action of its stop is to be done
    pub record SoundPending (a : CodeActivation) : Type 0 where
      pub rests : RestsAt a
      pub operands :
          OperandsFit rests.row.on_itself a.own rests.typed.types a.operands rests.row.operands (variables_behind p a a.at) a.temporaries
      pub into : a.into ≡ rests.row.into
      pub behind : IfGoesOn d p a.operation rests.of rests.row.stop (LiveBehind a rests.of rests.row.gives)

    -- it is done, and its result has come
    pub record SoundDone (a : CodeActivation) : Type 0 where
      pub rests : RestsAt a
      pub behind : CodeBehind rests.of a.at
      pub live : HoldAll (variables_behind p a a.at) a.temporaries (live_at (drop (suc a.at) rests.of.code) 0)

    -- its result is still to come, of a type where there is one
    pub record SoundWaiting (result : Option StaticType) (a : CodeActivation) : Type 0 where
      pub rests : RestsAt a
      pub into : a.into ≡ rests.row.into
      pub behind : LiveBehind a rests.of result

    abbrev pub TopIs : CodeActivation → Bool → Type 0
    TopIs a true = SoundPending a
    TopIs a false = SoundDone a

    abbrev pub SoundTop : CodeActivation → Type 0
    SoundTop a = TopIs a a.pending

    -- ---- stacks

    -- it waits for what an operation gives
    pub record Waits (a : CodeActivation) (number : ℕ) : Type 0 where
      pub called : Operation
      pub is : operation_at p number ≡ Some called
      pub waits : SoundWaiting called.result a

    -- each waits for the one above it, and the last for an operation
    abbrev pub Chain : List CodeActivation → ℕ → Type 0
    Chain [] number = Unit {0}
    Chain (a ∷ []) number = Waits a number
    Chain (a ∷ b ∷ bs) number = Waits a b.operation × Chain (b ∷ bs) number

  -- an operation that is the lowest of its process
  pub record IsLowest (number : ℕ) : Type 0 where
    pub operation : Operation
    pub is : operation_at p number ≡ Some operation
    pub lowest : operation.is_lowest ≡ true

  -- the operation of the lowest activation, of which the top's is given
  abbrev pub lowest_of : List CodeActivation → ℕ → ℕ
  lowest_of [] number = number
  lowest_of (a ∷ bs) number = a.operation

  abbrev pub SoundTower : List ObjectRec → List CodeActivation → Option CodeActivation → Type 0
  SoundTower objects below None = Unit {0}
  SoundTower objects below (Some top) =
      Chain objects below top.operation × IsLowest (lowest_of below top.operation) × SoundTop objects top

  -- A process that may go on, now or once it is granted a monitor, has an activation on top. Where it waits for the monitor the
  -- action is done.
  abbrev pub HasTop : ProcStatus → Option CodeActivation → Type 0
  HasTop Ready top = IsSome top
  HasTop (Entry o) None = ⊥
  HasTop (Entry o) (Some top) = top.pending ≡ false
  HasTop (Cond o) None = ⊥
  HasTop (Cond o) (Some top) = top.pending ≡ false
  HasTop (Urgent o) None = ⊥
  HasTop (Urgent o) (Some top) = top.pending ≡ false
  HasTop Ended top = Unit {0}
  HasTop (Failed cause line) top = Unit {0}

  pub record SoundProc (objects : List ObjectRec) (proc : Proc CodeActivation) : Type 0 where
    pub tower : SoundTower objects (below_of proc.activations) (top_of proc.activations)
    pub top : HasTop proc.status (top_of proc.activations)

  pub record SoundWorld (w : World CodeActivation) : Type 0 where
    pub common : SoundCommon w.common
    pub processes : Each (SoundProc w.common.objects) w.processes
    pub waiting : AreBlocked w

  -- ---- what an action makes

  module _ (objects : List ObjectRec) where
    -- a value is given exactly where one of a type is to be, and is of this type
    abbrev pub OfGiven : Option StaticType → Option Value → Type 0
    OfGiven None None = Unit {0}
    OfGiven (Some s) (Some v) = HasType d objects s v
    OfGiven None (Some v) = ⊥
    OfGiven (Some s) None = ⊥

    -- what an operation gives may stand where something is to be given
    abbrev pub ResultFits : Option StaticType → Option StaticType → Type 0
    ResultFits None None = Unit {0}
    ResultFits (Some s) (Some t) = Fits d.types s t
    ResultFits None (Some t) = ⊥
    ResultFits (Some s) None = ⊥

    -- a call of an operation that the class of the object has, with as many arguments as it has parameters, of their types
    pub record FineCall (given : Option StaticType) (number own : ℕ) (args : List Value) : Type 0 where
      pub called : Operation
      pub is : operation_at p number ≡ Some called
      pub is_own : class_in objects own ≡ Some called.class
      pub arguments : AllTwo (HasType d objects) called.parameters args
      pub result : (called.result ≡ given) ⊎ ResultFits called.result given

    -- the effect of an action of an activation of an operation, at a stop that gives this
    abbrev pub FineEffect : Operation → Option StaticType → Effect → Type 0
    FineEffect o given (GoesOn v) = OfGiven given v
    FineEffect o given (Calls number own args) = FineCall given number own args
    FineEffect o given (Leaves v) = OfGiven o.result v × (o.is_lowest ≡ false)
    FineEffect o given (Blocks queue own) = given ≡ None
    FineEffect o given Ends = Unit {0}
    FineEffect o given (Fails why line) = Unit {0}

    -- The operation of a section that begins is the lowest of a process, of the own object's class, without parameters.
    abbrev pub FineSection : Option Section → Type 0
    FineSection None = Unit {0}
    FineSection (Some section) =
        (class : ClassNo) × (class_in objects section.own ≡ Some class) × Begins d p section.operation class

  abbrev pub FineDone : Common → Operation → Option StaticType → Done → Type 0
  FineDone c o given (new, outcome) =
      Later c.objects new.objects
      × SoundCommon new
      × FineEffect new.objects o given outcome.effect
      × FineSection new.objects outcome.started

  -- The table has a case, and what it makes is sound.
  abbrev pub FineActed : Common → Operation → Option StaticType → Acted → Type 0
  FineActed c o given None = ⊥
  FineActed c o given (Some done) = FineDone c o given done
