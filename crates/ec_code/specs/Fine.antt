-- When three-address code is well typed: each step and each stop fits the types of what it reads and gives, and what is live
-- anywhere is live, or written, on each way there.
use Rattle.std.specs.Prelude.{◌≡◌, ◌≢◌, ℕ, suc, ◌<◌, ◌≤◌, ◌-◌, ◌⊎◌, IfSome, Bool, true, false, not, List, [], ◌∷◌, ◌++◌}
use Rattle.std.specs.Prelude.{length, drop, Option, Some, None, slice_get}
use Rattle.ec_code.specs.declared.code.Arithmetic.{Arithmetic}
use Rattle.ec_code.specs.declared.code.Arithmetic.TheVariants.{Quotient, Remainder}
use Rattle.ec_code.specs.declared.code.Line.{Line}
use Rattle.ec_code.specs.declared.code.Live.{Live}
use Rattle.ec_code.specs.declared.code.Op.{Op}
use Rattle.ec_code.specs.declared.code.Op.TheVariants as op
use Rattle.ec_code.specs.declared.code.Operand.{Operand}
use Rattle.ec_code.specs.declared.code.Operand.TheVariants as operand
use Rattle.ec_code.specs.declared.code.Operation.{Operation}
use Rattle.ec_code.specs.declared.code.Parts.{Parts}
use Rattle.ec_code.specs.declared.code.StopRow.{StopRow}
use Rattle.ec_code.specs.declared.code.Test.{Test}
use Rattle.ec_code.specs.declared.code.Test.TheVariants as test
use Rattle.ec_code.specs.declared.code.Variable.{Variable}
use Rattle.ec_code.specs.declared.code.Variable.TheVariants.{Named}
use Rattle.ec_code.specs.Typing.{Declared, DeclaredClass, integer, boolean, string, any, node, vector_static, class_type}
use Rattle.ec_code.specs.Typing.{field_types, viewed, kind_of}
use Rattle.ec_types.specs.Conforms.{Conforms, operations_at, is_none, most_types}
use Rattle.ec_types.specs.Types.{named, element_from}
use Rattle.ec_types.specs.declared.conform.operations.NamedOperation.{NamedOperation}
use Rattle.ec_types.specs.declared.conform.static_type.Plain.TheVariants as static
use Rattle.ec_types.specs.declared.conform.static_type.StaticType.{StaticType}
use Rattle.ec_types.specs.declared.conform.static_type.StaticType.TheVariants as type
use Rattle.ec_types.specs.Fits.{Fits}
use Rattle.ec_types.specs.Known.{IsOfProgram, NoneUnknown}
use Rattle.ec_types.specs.Names.{Text, first_named}
use Rattle.ec_world.specs.Agree.{AllTwo}
use Rattle.ec_world.specs.Doings.{conditions_of, runs_inside}
use Rattle.ec_world.specs.Objects.{operation_named, true_at}
use Rattle.ec_world.specs.declared.class.ClassNo.{ClassNo}
use Rattle.ec_world.specs.declared.class.ClassNo.TheVariants.{Node, Program, Made, Vector}
use Rattle.ec_world.specs.declared.class.ClassRec.{ClassRec}
use Rattle.ec_world.specs.declared.class.FieldRec.{FieldRec}
use Rattle.ec_world.specs.declared.class.ViewedAs.{ViewedAs}
use Rattle.ec_world.specs.declared.class.ViewedAs.TheVariants as seen
use Rattle.ec_world.specs.declared.stop.Stop.{Stop}
use Rattle.ec_world.specs.declared.stop.Stop.TheVariants as stop

-- ---- what is live

abbrev pub IsIn : {A : Type 0} → A → List A → Type 0
IsIn x [] = ⊥
IsIn x (y ∷ ys) = (x ≡ y) ⊎ IsIn x ys

-- a variable that is live, with the type of its value
abbrev pub Has : List Live → Variable → StaticType → Type 0
Has live x t = IsIn (record { variable = x; of = t }) live

abbrev pub live_if : Option Line → List Live
live_if None = []
live_if (Some line) = line.live

-- what is live behind so many lines
abbrev pub live_at : List Line → ℕ → List Live
live_at lines n = live_if (slice_get lines n)

-- ---- what is divided by

abbrev pub divisor_in : Arithmetic → Operand → Option Operand
divisor_in Quotient y = Some y
divisor_in Remainder y = Some y
divisor_in _ y = None

abbrev pub divisor_of : Op → Option Operand
divisor_of (op.Compute how to left right) = divisor_in how right
divisor_of _ = None

abbrev pub divisor_if : Option Line → Option Operand
divisor_if None = None
divisor_if (Some line) = divisor_of line.op

-- what the step behind so many lines divides by, where it divides
abbrev pub divisor_at : List Line → ℕ → Option Operand
divisor_at lines n = divisor_if (slice_get lines n)

-- A test that came out so tells that what is divided by isn't 0.
abbrev pub Tells : Test → Bool → Option Operand → Type 0
Tells t came_out None = Unit {0}
Tells (test.Divides x y) true (Some z) = y ≡ z
Tells _ _ (Some z) = ⊥

module _ (d : Declared) (p : Parts) where
  abbrev pub FitsHere : StaticType → StaticType → Type 0
  FitsHere s t = Fits d.types s t

  abbrev pub FitAll : List StaticType → List StaticType → Type 0
  FitAll given wanted = AllTwo FitsHere given wanted

  -- a live variable whose value may stand where one of a type is wanted
  abbrev pub ReadsAs : List Live → Variable → StaticType → Type 0
  ReadsAs live x t = (s : StaticType) × Has live x s × FitsHere s t

  -- what is read may stand where a value of a type is wanted
  abbrev pub FineOperand : List Live → Operand → StaticType → Type 0
  FineOperand live (operand.Of x) t = ReadsAs live x t
  FineOperand live (operand.Number z) t = FitsHere integer t
  FineOperand live (operand.Truth b) t = FitsHere boolean t
  FineOperand live operand.Nil t = FitsHere type.Nil t

  abbrev pub FineNumbers : List Live → Operand → Operand → Type 0
  FineNumbers live x y = FineOperand live x integer × FineOperand live y integer

  -- Two values of one value type, or two references.
  pub data Comparable : StaticType → Type 0 where
    numbers : Comparable integer
    truths : Comparable boolean
    texts : Comparable string
    references : Comparable any

  abbrev pub FineTest : List Live → Test → Type 0
  FineTest live (test.Holds x) = FineOperand live x boolean
  FineTest live (test.Same x y) = (t : StaticType) × Comparable t × FineOperand live x t × FineOperand live y t
  FineTest live (test.Less x y) = FineNumbers live x y
  FineTest live (test.LessEqual x y) = FineNumbers live x y
  FineTest live (test.Divides x y) = FineNumbers live x y

  -- ---- where the code goes on

  -- there is code behind so many of these lines, and all that is live there is live here
  abbrev pub Passes : List Line → ℕ → List Live → Type 0
  Passes rest over live = (over < length rest) × ((x : Variable) (t : StaticType) → Has (live_at rest over) x t → Has live x t)

  -- There is code behind, and all that is live there is live here, but for a variable that gets a value of a type here.
  abbrev pub Writes : List Line → Variable → StaticType → List Live → Type 0
  Writes rest to s live =
      (0 < length rest)
      × ((x : Variable) (t : StaticType) → Has (live_at rest 0) x t → ((x ≡ to) × FitsHere s t) ⊎ ((x ≢ to) × Has live x t))

  -- what a stop gives is of a type that is wanted of this variable behind it
  abbrev pub IsGiven : Option StaticType → Option Variable → Variable → StaticType → Type 0
  IsGiven given into x t = (s : StaticType) × (given ≡ Some s) × (into ≡ Some x) × FitsHere s t

  -- The same behind a stop: but for the variable that takes what the stop gives.
  abbrev pub Behind : List Line → Option StaticType → Option Variable → List Live → Type 0
  Behind rest given into live =
      (0 < length rest)
      × ((x : Variable) (t : StaticType) → Has (live_at rest 0) x t → IsGiven given into x t ⊎ ((into ≢ Some x) × Has live x t))

  -- a variable takes what is given exactly where something is
  abbrev pub IsTaken : Option StaticType → Option Variable → Type 0
  IsTaken None None = Unit {0}
  IsTaken (Some s) (Some x) = Unit {0}
  IsTaken None (Some x) = ⊥
  IsTaken (Some s) None = ⊥

  -- ---- stops: what they take, and what they give

  abbrev pub HaveTypes : List Live → List Variable → List StaticType → Type 0
  HaveTypes live [] [] = Unit {0}
  HaveTypes live (x ∷ xs) (t ∷ ts) = Has live x t × HaveTypes live xs ts
  HaveTypes live [] (t ∷ ts) = ⊥
  HaveTypes live (x ∷ xs) [] = ⊥

  -- these types are taken, and this is given
  abbrev pub TakesAndGives : List StaticType → List StaticType → Option StaticType → Option StaticType → Type 0
  TakesAndGives given_types wanted gives given = FitAll given_types wanted × (given ≡ gives)

  -- A name's number is the place of the first of the names that is the same; how many there are, where none is.
  abbrev pub number_if : Option ℕ → ℕ
  number_if None = length d.names
  number_if (Some n) = n

  abbrev pub IsNameOf : ℕ → Text → Type 0
  IsNameOf n text = n ≡ number_if (first_named d.names text)

  -- an operation that the receiver's type has
  abbrev pub FineInvoke : ℕ → List StaticType → Option StaticType → Type 0
  FineInvoke name (type.Plain (static.Named m) ∷ ts) given =
      (w : NamedOperation) × IsIn w (operations_at d.types m) × IsNameOf name w.name × TakesAndGives ts w.parameters w.result given
  FineInvoke name _ given = ⊥

  abbrev pub FineNew : ClassNo → List StaticType → Option StaticType → Type 0
  FineNew (Made k) ts given =
      (c : DeclaredClass) × (slice_get d.classes k ≡ Some c) × TakesAndGives ts c.given (Some (named c.number)) given
  FineNew Node ts given = ⊥
  FineNew Program ts given = ⊥
  FineNew (Vector of) ts given = ⊥

  abbrev pub FineGet : List StaticType → Option StaticType → Type 0
  FineGet (type.Vector inner of ∷ ts) given = TakesAndGives ts (integer ∷ []) (Some (element_from inner of)) given
  FineGet _ given = ⊥

  abbrev pub FineSet : List StaticType → Option StaticType → Type 0
  FineSet (type.Vector inner of ∷ ts) given = TakesAndGives ts (integer ∷ element_from inner of ∷ []) None given
  FineSet _ given = ⊥

  abbrev pub FineSize : List StaticType → Option StaticType → Type 0
  FineSize (type.Vector inner of ∷ ts) given = TakesAndGives ts [] (Some integer) given
  FineSize _ given = ⊥

  -- A named type without operations is one to which Any conforms.
  abbrev pub FineView : ViewedAs → Type 0
  FineView (seen.Named n is_bare) = is_bare ≡ true → is_none (operations_at d.types n) ≡ true
  FineView _ = Unit {0}

  abbrev pub FineText : List StaticType → Type 0
  FineText ts = FitAll ts (integer ∷ []) ⊎ FitAll ts (boolean ∷ [])

  module _ (number : ℕ) (o : Operation) where
    -- the result is of the type that the operation gives, where it gives one
    abbrev pub GivesBack : Option StaticType → Option StaticType → Type 0
    GivesBack None None = Unit {0}
    GivesBack (Some s) (Some t) = FitsHere s t
    GivesBack None (Some t) = ⊥
    GivesBack (Some s) None = ⊥

    abbrev pub FineReturn : Bool → List StaticType → Type 0
    FineReturn true [] = GivesBack (Some (class_type d o.class)) o.result
    FineReturn true (t ∷ ts) = ⊥
    FineReturn false [] = GivesBack None o.result
    FineReturn false (t ∷ []) = GivesBack (Some t) o.result
    FineReturn false (t ∷ u ∷ ts) = ⊥

    -- A condition of the own object, whose monitor the operation has entered.
    pub record FineCondition (condition : ℕ) : Type 0 where
      pub place : ℕ
      pub is_class : o.class ≡ Made place
      pub class : ClassRec
      pub is : slice_get p.classes place ≡ Some class
      pub is_inside : runs_inside (Some class) number ≡ true
      pub there : condition < conditions_of (Some class)

    -- a stop of which these types are the operands', and which gives this
    abbrev pub FineStop : Stop → List StaticType → Option StaticType → Type 0
    FineStop stop.Entry ts given = TakesAndGives ts [] None given
    FineStop (stop.Invoke name line) ts given = FineInvoke name ts given
    FineStop (stop.New class) ts given = FineNew class ts given
    FineStop (stop.Return gives_self) ts given = FineReturn gives_self ts × (o.is_lowest ≡ false)
    FineStop (stop.NewVector of line) ts given =
        IsOfProgram d.types (vector_static of) × TakesAndGives ts (integer ∷ []) (Some (vector_static of)) given
    FineStop (stop.Get line) ts given = FineGet ts given
    FineStop (stop.Set line) ts given = FineSet ts given
    FineStop (stop.Size line) ts given = FineSize ts given
    FineStop (stop.Concat line) ts given = TakesAndGives ts (string ∷ string ∷ []) (Some string) given
    FineStop stop.Length ts given = TakesAndGives ts (string ∷ []) (Some integer) given
    FineStop (stop.Compare order) ts given = TakesAndGives ts (string ∷ string ∷ []) (Some boolean) given
    FineStop (stop.GetSlice line) ts given = TakesAndGives ts (string ∷ integer ∷ integer ∷ []) (Some string) given
    FineStop stop.AsString ts given = FineText ts × (given ≡ Some string)
    FineStop stop.Print ts given = TakesAndGives ts (string ∷ []) None given
    FineStop (stop.Global index) ts given =
        (t : StaticType) × (slice_get p.constants index ≡ Some t) × TakesAndGives ts (t ∷ []) None given
    FineStop (stop.NodeAt line) ts given = TakesAndGives ts (integer ∷ []) (Some node) given
    FineStop stop.NodeCount ts given = TakesAndGives ts [] (Some integer) given
    FineStop (stop.Move line) ts given = TakesAndGives ts (any ∷ any ∷ []) None given
    FineStop (stop.Fix line) ts given = TakesAndGives ts (any ∷ any ∷ []) None given
    FineStop (stop.Refix line) ts given = TakesAndGives ts (any ∷ any ∷ []) None given
    FineStop (stop.Unfix line) ts given = TakesAndGives ts (any ∷ []) None given
    FineStop (stop.IsFixed line) ts given = TakesAndGives ts (any ∷ []) (Some boolean) given
    FineStop (stop.View to line) ts given =
        FineView to × IsOfProgram d.types (viewed to) × TakesAndGives ts (any ∷ []) (Some (viewed to)) given
    FineStop (stop.Wait condition) ts given = FineCondition condition × TakesAndGives ts [] None given
    FineStop (stop.Signal condition) ts given = FineCondition condition × TakesAndGives ts [] None given
    FineStop stop.LoopTop ts given = TakesAndGives ts [] None given
    FineStop stop.End ts given = Unit {0}
    FineStop (stop.Fail why line) ts given = Unit {0}

    -- The own object may be called by each of its class's operations, also by those that its type doesn't have.
    pub record OwnCall (name : ℕ) (ts : List StaticType) (given : Option StaticType) : Type 0 where
      pub place : ℕ
      pub is_class : o.class ≡ Made place
      pub class : ClassRec
      pub is : slice_get p.classes place ≡ Some class
      pub called_number : ℕ
      pub is_named : operation_named class.operations name ≡ Some called_number
      pub called : Operation
      pub is_called : slice_get p.operations called_number ≡ Some called
      pub same : called.class ≡ Made place
      pub fits : TakesAndGives ts called.parameters called.result given

    -- Its first operand is the own object, typed as its class is.
    abbrev pub FineOwn : Stop → List StaticType → Option StaticType → Type 0
    FineOwn (stop.Invoke name line) (t ∷ ts) given = (t ≡ class_type d o.class) × OwnCall name ts given
    FineOwn (stop.Invoke name line) [] given = ⊥
    FineOwn _ ts given = ⊥

    abbrev pub FineStopIf : Bool → Stop → List StaticType → Option StaticType → Type 0
    FineStopIf true s ts given = FineOwn s ts given
    FineStopIf false s ts given = FineStop s ts given

    -- code goes on behind each stop but these
    abbrev pub GoesOn : Stop → Type 0 → Type 0
    GoesOn (stop.Return gives_self) T = Unit {0}
    GoesOn stop.End T = Unit {0}
    GoesOn (stop.Fail why line) T = Unit {0}
    GoesOn _ T = T

    pub record FineRow (rest : List Line) (live : List Live) (row : StopRow) : Type 0 where
      pub types : List StaticType
      pub are : HaveTypes live row.operands types
      pub stop : FineStopIf row.on_itself row.stop types row.gives
      pub behind : GoesOn row.stop (IsTaken row.gives row.into × Behind rest row.gives row.into live)

    -- a loop top, so many lines before a place, behind which only what is live here is live
    pub record FineTop (place back : ℕ) (live : List Live) : Type 0 where
      pub within : back ≤ place
      pub line : Line
      pub is : slice_get o.code (place - back) ≡ Some line
      pub row : StopRow
      pub rests : line.op ≡ op.Rest row
      pub stop : row.stop ≡ stop.LoopTop
      pub on_itself : row.on_itself ≡ false
      pub operands : row.operands ≡ []
      pub into : row.into ≡ None
      pub live_there : (x : Variable) (t : StaticType) → Has (live_at (drop (suc (place - back)) o.code) 0) x t → Has live x t

    -- ---- steps

    abbrev pub FineOp : ℕ → List Line → List Live → Op → Type 0
    FineOp place rest live (op.Copy to from) = (s : StaticType) × FineOperand live from s × Writes rest to s live
    FineOp place rest live (op.Literal to index) = (index < length p.literals) × Writes rest to string live
    FineOp place rest live (op.Itself to) =
        IsOfProgram d.types (class_type d o.class) × Writes rest to (class_type d o.class) live
    FineOp place rest live (op.Field to n) =
        (s : StaticType) × (slice_get (field_types d o.class) n ≡ Some s) × Writes rest to s live
    FineOp place rest live (op.SetField n from) =
        ((t : StaticType) × (slice_get (field_types d o.class) n ≡ Some t) × FineOperand live from t) × Passes rest 0 live
    FineOp place rest live (op.Constant to index) =
        (s : StaticType) × (slice_get p.constants index ≡ Some s) × Writes rest to s live
    FineOp place rest live (op.Compute how to left right) = FineNumbers live left right × Writes rest to integer live
    FineOp place rest live (op.Decide to t wanted) = FineTest live t × Writes rest to boolean live
    FineOp place rest live (op.Branch t wanted over) = FineTest live t × Passes rest 0 live × Passes rest over live
    FineOp place rest live (op.Jump over) = Passes rest over live
    FineOp place rest live (op.Again back) = FineTop place back live
    FineOp place rest live (op.Rest row) = FineRow rest live row

    -- from a place on
    abbrev pub FineCode : ℕ → List Line → Type 0
    FineCode place [] = Unit {0}
    FineCode place (line ∷ rest) = FineOp place rest line.live line.op × FineCode (suc place) rest

    -- A step leads to a division only where it is a test that tells that the divisor isn't 0.
    abbrev pub LeadsOn : List Line → Op → Type 0
    LeadsOn rest (op.Branch t wanted over) = Tells t (not wanted) (divisor_at rest 0) × Tells t wanted (divisor_at rest over)
    LeadsOn rest (op.Jump over) = divisor_at rest over ≡ None
    LeadsOn rest (op.Again back) = Unit {0}
    LeadsOn rest (op.Rest row) = GoesOn row.stop (divisor_at rest 0 ≡ None)
    LeadsOn rest _ = divisor_at rest 0 ≡ None

    abbrev pub EachLeadsOn : List Line → Type 0
    EachLeadsOn [] = Unit {0}
    EachLeadsOn (line ∷ rest) = LeadsOn rest line.op × EachLeadsOn rest

  -- ---- operations, classes and programs

  -- Behind the entry stop the arguments alone are live, each of its parameter's type.
  pub record FineEntry (o : Operation) : Type 0 where
    pub line : Line
    pub is : slice_get o.code 0 ≡ Some line
    pub row : StopRow
    pub rests : line.op ≡ op.Rest row
    pub stop : row.stop ≡ stop.Entry
    pub on_itself : row.on_itself ≡ false
    pub operands : row.operands ≡ []
    pub into : row.into ≡ None
    pub live :
        (x : Variable) (t : StaticType) → Has (live_at o.code 1) x t →
        (n : ℕ) × (x ≡ Named n) × (slice_get o.parameters n ≡ Some t)

  pub record FineOperation (number : ℕ) (o : Operation) : Type 0 where
    pub code : FineCode number o 0 o.code
    pub divisions : EachLeadsOn number o o.code
    -- a named variable that is live anywhere is one of the operation's
    pub named : (place n : ℕ) (t : StaticType) → Has (live_at o.code place) (Named n) t → n < length o.variables
    pub entry : FineEntry o
    pub parameters : length o.parameters ≤ length o.variables

  -- the operation that a class has for a name
  pub record Implements (k : ℕ) (c : ClassRec) (name : ℕ) (w : NamedOperation) : Type 0 where
    pub number : ℕ
    pub is_named : operation_named c.operations name ≡ Some number
    pub operation : Operation
    pub is : slice_get p.operations number ≡ Some operation
    pub class : operation.class ≡ Made k
    pub parameters : operation.parameters ≡ w.parameters
    pub result : operation.result ≡ w.result

  -- operation 0 of a class, which gives the new object
  pub record Creates (k : ℕ) (c : ClassRec) (t : DeclaredClass) : Type 0 where
    pub operation : Operation
    pub is : slice_get p.operations c.initial ≡ Some operation
    pub class : operation.class ≡ Made k
    pub parameters : operation.parameters ≡ []
    pub result : operation.result ≡ Some (named t.number)

  -- the lowest operation of a process, on an object of a class
  pub record Begins (number : ℕ) (class : ClassNo) : Type 0 where
    pub operation : Operation
    pub is : slice_get p.operations number ≡ Some operation
    pub of : operation.class ≡ class
    pub lowest : operation.is_lowest ≡ true
    pub parameters : operation.parameters ≡ []

  abbrev pub IsFieldOf : StaticType → FieldRec → Type 0
  IsFieldOf t f = (f.of ≡ kind_of t) × IsOfProgram d.types t

  pub record FineClass (k : ℕ) (c : ClassRec) (t : DeclaredClass) : Type 0 where
    pub there : t.number < length d.types
    pub fields : AllTwo IsFieldOf t.fields c.fields
    pub others : List StaticType
    pub given : t.fields ≡ t.given ++ others
    pub creates : Creates k c t
    pub process : IfSome c.process (λ number. Begins number (Made k))
    pub operations :
        (w : NamedOperation) (name : ℕ) → IsIn w (operations_at d.types t.number) → IsNameOf name w.name → Implements k c name w
    pub conforms : (n : ℕ) → true_at c.conforms n ≡ true → Conforms d.types (named t.number) (named n)

  pub record Fine : Type 0 where
    pub begins : Begins 0 Program
    pub few : length d.types ≤ most_types
    pub known : NoneUnknown d.types
    pub operations : (n : ℕ) (o : Operation) → slice_get p.operations n ≡ Some o → FineOperation n o
    pub classes :
        (k : ℕ) (t : DeclaredClass) → slice_get d.classes k ≡ Some t → (c : ClassRec) × (slice_get p.classes k ≡ Some c) × FineClass k c t
    pub declared : (k : ℕ) (c : ClassRec) → slice_get p.classes k ≡ Some c → (t : DeclaredClass) × (slice_get d.classes k ≡ Some t)
    pub constants : (i : ℕ) (t : StaticType) → slice_get p.constants i ≡ Some t → IsOfProgram d.types t
