-- When code is well typed by lists of live variables that may hold more than what is live.
use Rattle.std.specs.Prelude.{◌≡◌, ℕ, suc, ◌-◌, List, [], ◌∷◌, map}
use Rattle.ec_code.specs.declared.code.Line.{Line}
use Rattle.ec_code.specs.declared.code.Live.{Live}
use Rattle.ec_code.specs.declared.code.Op.{Op}
use Rattle.ec_code.specs.declared.code.Op.TheVariants as op
use Rattle.ec_code.specs.declared.code.Operation.{Operation}
use Rattle.ec_code.specs.declared.code.Parts.{Parts}
use Rattle.ec_code.specs.declared.code.Variable.{Variable}
use Rattle.ec_code.specs.Fine.{EachLeadsOn, FineOp, FineTop, Has, live_at}
use Rattle.ec_code.specs.Typing.{Declared}
use Rattle.ec_types.specs.declared.conform.static_type.StaticType.{StaticType}
use Rattle.ec_emission.specs.Types.{Around, variable_type, behind}

abbrev pub ops_of : List Line → List Op
ops_of lines = map (λ line. line.op) lines

abbrev pub Includes : List Live → List Live → Type 0
Includes some live = (x : Variable) (t : StaticType) → Has some x t → Has live x t

-- Of an operation, whose code has these lines with more that is live; a loop top is looked for among them.
module _ (d : Declared) (p : Parts) (number : ℕ) (o : Operation) (lines : List Line) where
  abbrev pub WideOp : ℕ → List Line → List Live → Op → Type 0
  WideOp place rest live (op.Again back) =
      FineTop d p number (record o { code = lines }) place back live × Includes (live_at lines (place - back)) live
  WideOp place rest live other = FineOp d p number o place rest live other

  -- from a place on
  abbrev pub WideCode : ℕ → List Line → Type 0
  WideCode place [] = Unit {0}
  WideCode place (line ∷ rest) = WideOp place rest line.live line.op × WideCode (suc place) rest

-- Each variable of the lists has the type that was last written, in the order of the code.
abbrev pub AgreeFrom : Around → List StaticType → List Line → Type 0
AgreeFrom w ts [] = Unit {0}
AgreeFrom w ts (line ∷ rest) =
    ((x : Variable) (t : StaticType) → Has line.live x t →
    variable_type w ts x ≡ t) × AgreeFrom w (behind w ts line.op) rest

-- lines that hold all that is live, and maybe more, by which the code of an operation is well typed
pub record IsWide (d : Declared) (p : Parts) (number : ℕ) (o : Operation) (w : Around) (ops : List Op) (lines : List Line)
    : Type 0 where
  pub are : ops_of lines ≡ ops
  pub typed : WideCode d p number o lines 0 lines
  pub agree : AgreeFrom w [] lines
  pub divisions : EachLeadsOn d p number o lines
