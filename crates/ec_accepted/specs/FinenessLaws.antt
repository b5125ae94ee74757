-- What holds of each program that a source is lowered to.
use Rattle.std.specs.Prelude.{ℕ, List}
use Rattle.ec_code.specs.declared.code.Line.{Line}
use Rattle.ec_code.specs.declared.code.Op.{Op}
use Rattle.ec_code.specs.declared.code.Operation.{Operation}
use Rattle.ec_code.specs.declared.code.Parts.{Parts}
use Rattle.ec_code.specs.declared.code.Variable.{Variable}
use Rattle.ec_code.specs.Fine.{EachLeadsOn, FineCode, Has, live_at}
use Rattle.ec_code.specs.Typing.{Declared}
use Rattle.ec_types.specs.declared.conform.static_type.StaticType.{StaticType}
use Rattle.ec_emission.specs.Lowered.{HasLines}
use Rattle.ec_emission.specs.Types.{Around}
use Rattle.ec_accepted.specs.Wide.{IsWide}

-- Code is well typed by what is live alone where it is by lists that may hold more.
abbrev pub WideIsEnough : Type 0
WideIsEnough =
    (d : Declared) (p : Parts) (number : ℕ) (o : Operation) (w : Around) (ops : List Op) (lines : List Line) →
    IsWide d p number o w ops lines →
    HasLines w ops o.code →
    FineCode d p number o 0 o.code × EachLeadsOn d p number o o.code

-- Those lists hold each variable that is live, with its type.
abbrev pub WideHoldsWhatIsLive : Type 0
WideHoldsWhatIsLive =
    (d : Declared) (p : Parts) (number : ℕ) (o : Operation) (w : Around) (ops : List Op) (lines : List Line) →
    IsWide d p number o w ops lines →
    HasLines w ops o.code →
    (place : ℕ) (x : Variable) (t : StaticType) →
    Has (live_at o.code place) x t →
    Has (live_at lines place) x t
