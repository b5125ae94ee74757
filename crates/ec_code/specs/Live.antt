-- Which variables are live at a place of three-address code: those that some way from there reads before it writes them.
use Rattle.std.specs.Prelude.{◌≡◌, ◌≢◌, ℕ, suc, ◌+◌, ◌-◌, ◌<◌, Bool, true, false, if◌then◌else◌, List, [], ◌∷◌, ◌++◌}
use Rattle.std.specs.Prelude.{Option, Some, None, slice_get}
use Rattle.ec_code.specs.declared.code.Op.{Op}
use Rattle.ec_code.specs.declared.code.Op.TheVariants as op
use Rattle.ec_code.specs.declared.code.Operand.{Operand}
use Rattle.ec_code.specs.declared.code.Operand.TheVariants as operand
use Rattle.ec_code.specs.declared.code.Test.{Test}
use Rattle.ec_code.specs.declared.code.Test.TheVariants as test
use Rattle.ec_code.specs.declared.code.Variable.{Variable}
use Rattle.ec_code.specs.declared.code.Variable.TheVariants.{Named, Temporary}
use Rattle.ec_code.specs.Fine.{IsIn}
use Rattle.ec_world.specs.declared.stop.Stop.{Stop}
use Rattle.ec_world.specs.declared.stop.Stop.TheVariants as stop

-- ---- what a step reads and writes

-- an operand that is a variable
abbrev pub read_in : Operand → List Variable
read_in (operand.Of x) = x ∷ []
read_in (operand.Number z) = []
read_in (operand.Truth b) = []
read_in operand.Nil = []

-- of a test its operands
abbrev pub read_by : Test → List Variable
read_by (test.Holds x) = read_in x
read_by (test.Same x y) = read_in x ++ read_in y
read_by (test.Less x y) = read_in x ++ read_in y
read_by (test.LessEqual x y) = read_in x ++ read_in y
read_by (test.Divides x y) = read_in x ++ read_in y

-- the variables that a step reads
abbrev pub reads : Op → List Variable
reads (op.Copy to from) = read_in from
reads (op.Literal to index) = []
reads (op.Itself to) = []
reads (op.Field to field) = []
reads (op.SetField field from) = read_in from
reads (op.Constant to index) = []
reads (op.Compute how to left right) = read_in left ++ read_in right
reads (op.Decide to t wanted) = read_by t
reads (op.Branch t wanted over) = read_by t
reads (op.Jump over) = []
reads (op.Again back) = []
reads (op.Rest row) = row.operands

-- the variable that a step writes; of a stop the one that takes what it gives
abbrev pub writes : Op → Option Variable
writes (op.Copy to from) = Some to
writes (op.Literal to index) = Some to
writes (op.Itself to) = Some to
writes (op.Field to field) = Some to
writes (op.SetField field from) = None
writes (op.Constant to index) = Some to
writes (op.Compute how to left right) = Some to
writes (op.Decide to t wanted) = Some to
writes (op.Branch t wanted over) = None
writes (op.Jump over) = None
writes (op.Again back) = None
writes (op.Rest row) = row.into

-- ---- where the code may go on

-- The activation is still there behind each stop but these.
abbrev pub stays : Stop → Bool
stays (stop.Return gives_self) = false
stays stop.End = false
stays (stop.Fail why line) = false
stays _ = true

-- the places at which the code may go on behind a step at a place
abbrev pub goes_on : Op → ℕ → List ℕ
goes_on (op.Branch t wanted over) q = suc q ∷ suc (q + over) ∷ []
goes_on (op.Jump over) q = suc (q + over) ∷ []
goes_on (op.Again back) q = (q - back) ∷ []
goes_on (op.Rest row) q = if stays row.stop then suc q ∷ [] else []
goes_on _ q = suc q ∷ []

-- ---- what is live

-- A variable is live where it is read; and where it isn't written, and is live at a place at which the code may go on.
pub data IsLive (code : List Op) : ℕ → Variable → Type 0 where
  is_read : {q : ℕ} {x : Variable} (o : Op) → slice_get code q ≡ Some o → IsIn x (reads o) → IsLive code q x
  is_passed : {q : ℕ} {x : Variable} (o : Op) (p : ℕ) → slice_get code q ≡ Some o → writes o ≢ Some x → IsIn p (goes_on o q) →
      IsLive code p x → IsLive code q x

-- ---- lists of variables

-- named ones by rising number, then temporaries by rising number
abbrev pub IsBefore : Variable → Variable → Type 0
IsBefore (Named m) (Named n) = m < n
IsBefore (Named m) (Temporary e) = Unit {0}
IsBefore (Temporary d) (Named n) = ⊥
IsBefore (Temporary d) (Temporary e) = d < e

-- each is before all that stand behind it
abbrev pub InOrder : List Variable → Type 0
InOrder [] = Unit {0}
InOrder (x ∷ xs) = ((y : Variable) → IsIn y xs → IsBefore x y) × InOrder xs

-- Exactly the variables that are live at a place, in order and each once.
pub record IsLiveList (code : List Op) (q : ℕ) (xs : List Variable) : Type 0 where
  pub live : (x : Variable) → IsIn x xs → IsLive code q x
  pub all : (x : Variable) → IsLive code q x → IsIn x xs
  pub in_order : InOrder xs
