-- When homes fit the code of an operation: each variable has one that the machine has, and what is written has another home than all
-- that is live behind the write. And when numbers in the code fit words.
use Rattle.std.specs.Int.{w32}
use Rattle.std.specs.Prelude.{◌≡◌, ◌≢◌, ℕ, suc, ◌⊎◌, List, length, Some, slice_get, FitsSigned}
use Rattle.ec_code.specs.Fine.{Fine, Has, IsIn, live_at}
use Rattle.ec_code.specs.Typing.{Declared}
use Rattle.ec_code.specs.declared.code.Line.{Line}
use Rattle.ec_code.specs.declared.code.Op.{Op}
use Rattle.ec_code.specs.declared.code.Op.TheVariants as op
use Rattle.ec_code.specs.declared.code.Operand.{Operand}
use Rattle.ec_code.specs.declared.code.Operand.TheVariants as operand
use Rattle.ec_code.specs.declared.code.Operation.{Operation}
use Rattle.ec_code.specs.declared.code.Parts.{Parts}
use Rattle.ec_code.specs.declared.code.Test.{Test}
use Rattle.ec_code.specs.declared.code.Test.TheVariants as test
use Rattle.ec_code.specs.declared.code.Variable.{Variable}
use Rattle.ec_types.specs.declared.conform.static_type.StaticType.{StaticType}
use Rattle.ec_machine_code.specs.Once.{FaithfulOnce}
use Rattle.ec_machine_code.specs.Frames.{slots}
use Rattle.ec_machine_code.specs.Machine.{MachineMeaning}
use Rattle.ec_machine_code.specs.Stops.{home_in}
use Rattle.ec_machine_code.specs.Homes.{IsWithin}
use Rattle.ec_machine_code.specs.declared.homes.Home.{Home}
use Rattle.ec_code.specs.Live.{reads, writes}
use Rattle.ec_machine_code.specs.Layout.{HasOrders, HasRoom, Vocabularies, code_of, home_of}
use Rattle.ec_machine_code.specs.Speaks.{Speaks}

-- a variable that a line reads, writes, or has as live
abbrev pub IsNamedBy : Line → Variable → Type 0
IsNamedBy line x = IsIn x (reads line.op) ⊎ (writes line.op ≡ Some x) ⊎ ((t : StaticType) × Has line.live x t)

pub record HomesFit (registers : ℕ) (homes : List (List Home)) (n : ℕ) (o : Operation) : Type 0 where
  pub each :
      (q : ℕ) (line : Line) (x : Variable) → slice_get o.code q ≡ Some line → IsNamedBy line x →
      (h : Home) × (home_in homes n (length o.variables) x ≡ Some h) × IsWithin registers slots h
  pub apart :
      (q : ℕ) (line : Line) (to x : Variable) (t : StaticType) → slice_get o.code q ≡ Some line → writes line.op ≡ Some to →
      Has (live_at o.code (suc q)) x t → x ≢ to → home_of homes n o x ≢ home_of homes n o to

-- ---- numbers in the code

abbrev pub OperandFits : Operand → Type 0
OperandFits (operand.Of x) = Unit {0}
OperandFits (operand.Number z) = FitsSigned w32 z
OperandFits (operand.Truth b) = Unit {0}
OperandFits operand.Nil = Unit {0}

abbrev pub TestFits : Test → Type 0
TestFits (test.Holds x) = OperandFits x
TestFits (test.Same x y) = OperandFits x × OperandFits y
TestFits (test.Less x y) = OperandFits x × OperandFits y
TestFits (test.LessEqual x y) = OperandFits x × OperandFits y
TestFits (test.Divides x y) = OperandFits x × OperandFits y

-- each number that a step names is one of 32 bits, signed
abbrev pub NumbersFit : Op → Type 0
NumbersFit (op.Copy to from) = OperandFits from
NumbersFit (op.Literal to index) = Unit {0}
NumbersFit (op.Itself to) = Unit {0}
NumbersFit (op.Field to n) = Unit {0}
NumbersFit (op.SetField n from) = OperandFits from
NumbersFit (op.Constant to index) = Unit {0}
NumbersFit (op.Compute how to left right) = OperandFits left × OperandFits right
NumbersFit (op.Decide to t wanted) = TestFits t
NumbersFit (op.Branch t wanted over) = TestFits t
NumbersFit (op.Jump over) = Unit {0}
NumbersFit (op.Again back) = Unit {0}
NumbersFit (op.Rest row) = Unit {0}

-- ---- programs

-- What code of a program in the words of a kind rests on: the kind speaks them, near and far ones; the program is well typed, and its
-- numbers fit words; homes fit its operations; their steps have an order; and there is room for the code.
pub record CanBeLaidOut {S : Type 0} (M : MachineMeaning S) (vs : Vocabularies) (homes : List (List Home)) (orders : List (List ℕ))
    (d : Declared) (p : Parts) : Type 0 where
  pub near : Speaks M vs.near
  pub middle : Speaks M vs.middle
  pub far : Speaks M vs.far
  pub fine : Fine d p
  pub numbers :
      (n q : ℕ) (o : Operation) (line : Line) → slice_get p.operations n ≡ Some o → slice_get o.code q ≡ Some line → NumbersFit line.op
  pub homes_fit : (n : ℕ) (o : Operation) → slice_get p.operations n ≡ Some o → HomesFit M.homes homes n o
  pub ordered : HasOrders orders p
  pub room : HasRoom vs homes orders p

-- Code that is laid out so, in any order of each operation's steps, is faithful, and passes no word twice between two stops.
abbrev pub LaidOutIsFaithful : {S : Type 0} → MachineMeaning S → Type 0
LaidOutIsFaithful M =
    (vs : Vocabularies) (homes : List (List Home)) (orders : List (List ℕ)) (d : Declared) (p : Parts) →
    CanBeLaidOut M vs homes orders d p → FaithfulOnce M p (code_of vs homes orders p.operations) homes
