-- How many words there are of a step and of a question.
use Rattle.std.specs.Prelude.{ℕ, ◌+◌, ◌==◌, Bool, true, false, if◌then◌else◌, Option, Some, None}
use Rattle.ec_code.specs.declared.code.Arithmetic.{Arithmetic}
use Rattle.ec_code.specs.declared.code.Arithmetic.TheVariants.{Sum, Difference, Product, Quotient, Remainder}
use Rattle.ec_machine_code.specs.declared.homes.Home.{Home}
use Rattle.ec_machine_code.specs.declared.homes.Home.TheVariants.{Register, Slot}
use Rattle.ec_machine_code.specs.declared.step.Relation.{Relation}
use Rattle.ec_machine_code.specs.declared.step.Relation.TheVariants.{Less, Same}
use Rattle.ec_machine_code.specs.declared.step.Source.{Source}
use Rattle.ec_machine_code.specs.declared.step.Source.TheVariants as source
use Rattle.ec_machine_code.specs.declared.step.Step.{Step}
use Rattle.ec_machine_code.specs.declared.step.Step.TheVariants as step
use Rattle.rv_isa.specs.Parts.{low_of}
use Rattle.rv_code.specs.Words.{is_small, is_zero, small, small_negative}

abbrev pub number_size : ℕ → ℕ
number_size n = if is_small n then 1 else (if low_of n == 0 then 1 else 2)

abbrev pub source_size : Source → ℕ
source_size (source.Home (Slot n)) = 1
source_size (source.Home (Register k)) = 0
source_size (source.Word n) = if n == 0 then 0 else number_size n

abbrev pub target_size : Home → ℕ
target_size (Slot n) = 1
target_size (Register k) = 0

abbrev pub both_size : Source → Source → ℕ
both_size left right = source_size left + source_size right

abbrev pub two_size : Source → Source → ℕ
two_size left right = both_size left right + 1

abbrev pub one_size : Source → ℕ
one_size left = source_size left + 1

abbrev pub sum_size : Option ℕ → Option ℕ → Source → Source → ℕ
sum_size left_number (Some n) left right = one_size left
sum_size (Some n) None left right = one_size right
sum_size None None left right = two_size left right

abbrev pub with_number_size : Option ℕ → Source → Source → ℕ
with_number_size (Some n) left right = one_size left
with_number_size None left right = two_size left right

abbrev pub work_size : Arithmetic → Source → Source → ℕ
work_size Sum left right = sum_size (small left) (small right) left right
work_size Difference left right = with_number_size (small_negative right) left right
work_size Product left right = two_size left right
work_size Quotient left right = two_size left right
work_size Remainder left right = two_size left right

abbrev pub apart_size : Source → Source → ℕ
apart_size left right = if is_zero right then source_size left else with_number_size (small_negative right) left right

abbrev pub same_size : Source → Source → ℕ
same_size (source.Word n) right = apart_size right (source.Word n) + 1
same_size (source.Home h) right = apart_size (source.Home h) right + 1

abbrev pub answer_size : Relation → Bool → Source → Source → ℕ
answer_size Same wanted left right = same_size left right
answer_size Less true left right = with_number_size (small right) left right
answer_size Less false left right = with_number_size (small right) left right + 1

abbrev pub copied_size : Source → ℕ
copied_size (source.Home h) = 1
copied_size (source.Word n) = number_size n

abbrev pub move_size : Home → Source → ℕ
move_size (Slot n) from = source_size from + 1
move_size (Register k) from = copied_size from

abbrev pub step_size : Step → ℕ
step_size (step.Move into from) = move_size into from
step_size (step.Itself into) = 1 + target_size into
step_size (step.Field into i) = 1 + target_size into
step_size (step.SetField i from) = source_size from + 1
step_size (step.Constant into i) = 2 + target_size into
step_size (step.Work how into left right) = work_size how left right + target_size into
step_size (step.Decide into q) = answer_size q.relation q.wanted q.left q.right + target_size into
