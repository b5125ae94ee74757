-- What one step of three-address code does. Where what it reads isn't there or isn't of its kind, it has no case.
use Rattle.std.specs.Prelude.{ℕ, zero, suc, Bool, true, false, not, if◌then◌else◌, List, [], ◌∷◌, Option, Some, None, option_map}
use Rattle.std.specs.Prelude.{slice_get, slice_set, ℤ, int_lt, int_le, int_rem}
use Rattle.std.specs.Int.{w32, int_wrapping_add, int_wrapping_sub, int_wrapping_mul, int_wrapping_div}
use Rattle.ec_code.specs.declared.code.Arithmetic.{Arithmetic}
use Rattle.ec_code.specs.declared.code.Arithmetic.TheVariants.{Sum, Difference, Product, Quotient, Remainder}
use Rattle.ec_code.specs.declared.code.Op.{Op}
use Rattle.ec_code.specs.declared.code.Op.TheVariants as op
use Rattle.ec_code.specs.declared.code.Operand.{Operand}
use Rattle.ec_code.specs.declared.code.Operand.TheVariants as operand
use Rattle.ec_code.specs.declared.code.StopRow.{StopRow}
use Rattle.ec_code.specs.declared.code.Test.{Test}
use Rattle.ec_code.specs.declared.code.Test.TheVariants as test
use Rattle.ec_code.specs.declared.code.Variable.{Variable}
use Rattle.ec_code.specs.declared.code.Variable.TheVariants.{Named, Temporary}
use Rattle.ec_world.specs.Same.{are_same, is_same_truth, is_zero}
use Rattle.ec_world.specs.declared.common.Common.{Common}
use Rattle.ec_world.specs.declared.object.ObjectRec.{ObjectRec}
use Rattle.ec_world.specs.declared.value.Value.{Value}
use Rattle.ec_world.specs.declared.value.Value.TheVariants.{Int, Str, Ref, Nil, Bool as Truth}
use Rattle.ec_world.specs.Objects.{object_at, changed_object}
use Rattle.ec_world.specs.Outcomes.{with_element}

-- ---- variables

-- what a step reads and writes: what the world has beside its processes, and the activation's variables
pub record Machine : Type 0 where
  pub common : Common
  pub variables : List Value
  pub temporaries : List Value

abbrev pub variable_at : Machine → Variable → Option Value
variable_at m (Named n) = slice_get m.variables n
variable_at m (Temporary d) = slice_get m.temporaries d

abbrev pub operand_at : Machine → Operand → Option Value
operand_at m (operand.Of x) = variable_at m x
operand_at m (operand.Number z) = Some (Int z)
operand_at m (operand.Truth b) = Some (Truth b)
operand_at m operand.Nil = Some Nil

-- a temporary set; where there are fewer, nil stands in the places between
abbrev pub put : List Value → ℕ → Value → List Value
put [] zero v = v ∷ []
put [] (suc i) v = Nil ∷ put [] i v
put (x ∷ xs) zero v = v ∷ xs
put (x ∷ xs) (suc i) v = x ∷ put xs i v

-- Named variables are all there from the entry on.
abbrev pub with_variable : Machine → Variable → Value → Machine
with_variable m (Named n) v = record m { variables = slice_set m.variables n v }
with_variable m (Temporary d) v = record m { temporaries = put m.temporaries d v }

-- ---- fields of the own object

abbrev pub field_in : Option ObjectRec → ℕ → Option Value
field_in None n = None
field_in (Some o) n = slice_get o.fields n

abbrev pub own_field : Common → ℕ → ℕ → Option Value
own_field c own n = field_in (object_at c.objects own) n

abbrev pub with_field : Common → ℕ → ℕ → Value → Common
with_field c own n v = record c { objects = changed_object c.objects own (with_element n v) }

-- ---- arithmetic and tests

abbrev pub unless_zero : ℤ → ℤ → Option Value
unless_zero b z = if is_zero b then None else Some (Int z)

abbrev pub computed : Arithmetic → ℤ → ℤ → Option Value
computed Sum a b = Some (Int (int_wrapping_add w32 a b))
computed Difference a b = Some (Int (int_wrapping_sub w32 a b))
computed Product a b = Some (Int (int_wrapping_mul w32 a b))
computed Quotient a b = unless_zero b (int_wrapping_div w32 a b)
computed Remainder a b = unless_zero b (int_rem a b)

-- of two numbers
abbrev pub on_numbers : {A : Type 0} → (ℤ → ℤ → Option A) → Value → Value → Option A
on_numbers act (Int a) (Int b) = act a b
on_numbers act _ _ = None

-- of two operands that are there
abbrev pub on_two : {A : Type 0} → (Value → Value → Option A) → Option Value → Option Value → Option A
on_two act (Some v) (Some u) = act v u
on_two act (Some v) None = None
on_two act None u = None

abbrev pub truth_in : Option Value → Option Bool
truth_in (Some (Truth b)) = Some b
truth_in _ = None

-- whether a test comes out true; none where it has no case
abbrev pub tested : Machine → Test → Option Bool
tested m (test.Holds x) = truth_in (operand_at m x)
tested m (test.Same x y) = on_two are_same (operand_at m x) (operand_at m y)
tested m (test.Less x y) = on_two (on_numbers (λ a b. Some (int_lt a b))) (operand_at m x) (operand_at m y)
tested m (test.LessEqual x y) = on_two (on_numbers (λ a b. Some (int_le a b))) (operand_at m x) (operand_at m y)
tested m (test.Divides x y) = on_two (on_numbers (λ a b. Some (not (is_zero b)))) (operand_at m x) (operand_at m y)

-- whether it comes out as wanted
abbrev pub as_wanted : Bool → Option Bool → Option Bool
as_wanted wanted None = None
as_wanted wanted (Some b) = Some (is_same_truth wanted b)

-- ---- stops

-- all of these variables, where each is there
abbrev pub with_others : Value → Option (List Value) → Option (List Value)
with_others v None = None
with_others v (Some vs) = Some (v ∷ vs)

abbrev pub and_others : Option Value → Option (List Value) → Option (List Value)
and_others None vs = None
and_others (Some v) vs = with_others v vs

abbrev pub variables_at : Machine → List Variable → Option (List Value)
variables_at m [] = Some []
variables_at m (x ∷ xs) = and_others (variable_at m x) (variables_at m xs)

-- what some variables hold, as the operands of a stop: where its action is on the own object, this is the first one
abbrev pub with_itself : Bool → ℕ → List Value → List Value
with_itself true own [] = []
with_itself true own (v ∷ vs) = Ref own ∷ vs
with_itself false own vs = vs

-- ---- one step

-- The code goes on, past so many steps; the activation rests here at a stop with these operands; it is at the top of its
-- loop, so many steps before; or there is no case.
pub data Done : Type 0 where
  Goes : Machine → (over : ℕ) → Done
  Rests : StopRow → List Value → Done
  Loops : (back : ℕ) → Done
  NoCase : Done

abbrev pub gives : Machine → Variable → Option Value → Done
gives m to None = NoCase
gives m to (Some v) = Goes (with_variable m to v) 0

abbrev pub decides : Machine → Variable → Option Bool → Done
decides m to None = NoCase
decides m to (Some b) = Goes (with_variable m to (Truth b)) 0

abbrev pub passes : Machine → ℕ → Option Bool → Done
passes m over None = NoCase
passes m over (Some true) = Goes m over
passes m over (Some false) = Goes m 0

abbrev pub stores : Machine → ℕ → ℕ → Option Value → Done
stores m own n None = NoCase
stores m own n (Some v) = Goes (record m { common = with_field m.common own n v }) 0

abbrev pub rests : StopRow → ℕ → Option (List Value) → Done
rests row own None = NoCase
rests row own (Some vs) = Rests row (with_itself row.on_itself own vs)

-- a step of an activation on an own object, with the program's literals
abbrev pub act : List (List ℕ) → ℕ → Machine → Op → Done
act literals own m (op.Copy to from) = gives m to (operand_at m from)
act literals own m (op.Literal to index) = gives m to (option_map Str (slice_get literals index))
act literals own m (op.Itself to) = gives m to (Some (Ref own))
act literals own m (op.Field to n) = gives m to (own_field m.common own n)
act literals own m (op.SetField n from) = stores m own n (operand_at m from)
act literals own m (op.Constant to index) = gives m to (slice_get m.common.globals index)
act literals own m (op.Compute how to left right) =
    gives m to (on_two (on_numbers (computed how)) (operand_at m left) (operand_at m right))
act literals own m (op.Decide to t wanted) = decides m to (as_wanted wanted (tested m t))
act literals own m (op.Branch t wanted over) = passes m over (as_wanted wanted (tested m t))
act literals own m (op.Jump over) = Goes m over
act literals own m (op.Again back) = Loops back
act literals own m (op.Rest row) = rests row own (variables_at m row.operands)
