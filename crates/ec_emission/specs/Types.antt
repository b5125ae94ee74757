-- The static types of variables at each place of three-address code. A named variable has its declared type everywhere; a
-- temporary has that of what was last written into it, in the order of the code.
use Rattle.std.specs.Prelude.{ℕ, zero, suc, List, [], ◌∷◌, map, Option, Some, None, slice_index_or}
use Rattle.ec_code.specs.declared.code.Line.{Line}
use Rattle.ec_code.specs.declared.code.Live.{Live}
use Rattle.ec_code.specs.declared.code.Op.{Op}
use Rattle.ec_code.specs.declared.code.Op.TheVariants as op
use Rattle.ec_code.specs.declared.code.Operand.{Operand}
use Rattle.ec_code.specs.declared.code.Operand.TheVariants as operand
use Rattle.ec_code.specs.declared.code.Variable.{Variable}
use Rattle.ec_code.specs.declared.code.Variable.TheVariants.{Named, Temporary}
use Rattle.ec_code.specs.Typing.{Declared, integer, boolean, string, class_type, field_types}
use Rattle.ec_types.specs.declared.conform.static_type.StaticType.{StaticType}
use Rattle.ec_types.specs.declared.conform.static_type.StaticType.TheVariants as type
use Rattle.ec_code.specs.Live.{writes}
use Rattle.ec_world.specs.declared.class.ClassNo.{ClassNo}

-- the type at a number, among the types of variables, fields or constants; unknown where there is none
abbrev pub type_at : List StaticType → ℕ → StaticType
type_at ts n = slice_index_or ts n type.Unknown

-- the types of temporaries, one of them set
abbrev pub put_type : List StaticType → ℕ → StaticType → List StaticType
put_type [] zero t = t ∷ []
put_type [] (suc d) t = type.Unknown ∷ put_type [] d t
put_type (u ∷ ts) zero t = t ∷ ts
put_type (u ∷ ts) (suc d) t = u ∷ put_type ts d t

-- What the code is part of: the types that are declared, those of the program's constants, the class whose objects the
-- operation is of, and the types of the operation's named variables.
pub record Around : Type 0 where
  pub declared : Declared
  pub constants : List StaticType
  pub class : ClassNo
  pub variables : List StaticType

-- what a stop gives
abbrev pub given_type : Option StaticType → StaticType
given_type None = type.Unknown
given_type (Some t) = t

abbrev pub with_written : List StaticType → Option Variable → StaticType → List StaticType
with_written ts (Some (Temporary d)) t = put_type ts d t
with_written ts (Some (Named n)) t = ts
with_written ts None t = ts

-- `ts` are the types of the temporaries before a step.
module _ (w : Around) where
  abbrev pub variable_type : List StaticType → Variable → StaticType
  variable_type ts (Named n) = type_at w.variables n
  variable_type ts (Temporary d) = type_at ts d

  abbrev pub operand_type : List StaticType → Operand → StaticType
  operand_type ts (operand.Of x) = variable_type ts x
  operand_type ts (operand.Number z) = integer
  operand_type ts (operand.Truth b) = boolean
  operand_type ts operand.Nil = type.Nil

  -- the type of what a step writes; unknown where it writes nothing
  abbrev pub written_type : List StaticType → Op → StaticType
  written_type ts (op.Copy to from) = operand_type ts from
  written_type ts (op.Literal to index) = string
  written_type ts (op.Itself to) = class_type w.declared w.class
  written_type ts (op.Field to n) = type_at (field_types w.declared w.class) n
  written_type ts (op.Constant to index) = type_at w.constants index
  written_type ts (op.Compute how to left right) = integer
  written_type ts (op.Decide to t wanted) = boolean
  written_type ts (op.Rest row) = given_type row.gives
  written_type ts (op.SetField n from) = type.Unknown
  written_type ts (op.Branch t wanted over) = type.Unknown
  written_type ts (op.Jump over) = type.Unknown
  written_type ts (op.Again back) = type.Unknown

  -- the types of the temporaries behind a step
  abbrev pub behind : List StaticType → Op → List StaticType
  behind ts o = with_written ts (writes o) (written_type ts o)

  -- variables with their types
  abbrev pub with_types : List StaticType → List Variable → List Live
  with_types ts xs = map (λ x. record { variable = x; of = variable_type ts x }) xs

  -- the lines of code, by the variables that are live at each place
  abbrev pub lines_of : List StaticType → List Op → List (List Variable) → List Line
  lines_of ts [] lists = []
  lines_of ts (o ∷ os) [] = []
  lines_of ts (o ∷ os) (xs ∷ lists) = record { op = o; live = with_types ts xs } ∷ lines_of (behind ts o) os lists
