-- What machine code asks of three-address code, of the code that an accepted text is lowered to.
use Rattle.std.proofs.Common.{◌≡◌, ℕ, zero, suc, List, [], ◌∷◌, Some, subst}
use Rattle.std.specs.List.{AllByRecursion as Each}
use Rattle.std.specs.Prelude.{slice_get}
use Rattle.ec_accepted.proofs.Accepted.{is_fine}
use Rattle.ec_accepted.specs.Laws.{IsAccepted}
use Rattle.ec_code.specs.Fine.{Fine}
use Rattle.ec_code.specs.declared.code.Line.{Line}
use Rattle.ec_code.specs.declared.code.Op.{Op}
use Rattle.ec_code.specs.declared.code.Op.TheVariants as op
use Rattle.ec_code.specs.declared.code.Operand.{Operand}
use Rattle.ec_code.specs.declared.code.Operand.TheVariants as operand
use Rattle.ec_code.specs.declared.code.Operation.{Operation}
use Rattle.ec_code.specs.declared.code.Parts.{Parts}
use Rattle.ec_code.specs.declared.code.Test.{Test}
use Rattle.ec_code.specs.declared.code.Test.TheVariants as test
use Rattle.ec_generate.specs.Fitting.{FitsMachines}
use Rattle.ec_machine_code.specs.Limits.{HasLimits}
use Rattle.ec_compile.proofs.Whole.{has_limits}
use Rattle.ec_compile.specs.Texts.{IsOfText}
use Rattle.ec_types.specs.Declarations.{declarations_of}
use Rattle.ec_types.specs.Types.{places_of}
use Rattle.ec_core_laws.proofs.TextPrograms.{text_has_small_numbers}
use Rattle.ec_core_laws.proofs.CoreTextsTextPrograms.{text_has_bytes}
use Rattle.ec_emission.specs.Lowered.{IsLowered, declared_of}
use Rattle.ec_meaning.specs.Programs.{Source}
use Rattle.ec_machine_code.specs.Fitting.{NumbersFit, OperandFits, TestFits}
use Rattle.ec_places.proofs.Programs.{declared_among}
use Rattle.ec_places.proofs.RisingTokens.{all_behind, they_rise}
use Rattle.ec_code.specs.Code.{SmallLine, SmallOp, SmallOperand, SmallOperation, SmallProgram, SmallTest}
use Rattle.ec_emission_laws.proofs.Programs.{lowered_small}

each_at : {A : Type 0} (P : A → Type 0) (xs : List A) (k : ℕ) (x : A) → Each P xs → slice_get xs k ≡ Some x → P x
each_at P [] k x all e = cc
each_at P (y ∷ ys) zero x all e = (let is : y ≡ x = cc in subst P is all.0)
each_at P (y ∷ ys) (suc k) x all e = each_at P ys k x all.1 e

operand_fits : (x : Operand) → SmallOperand x → OperandFits x
operand_fits (operand.Of x) s = tt
operand_fits (operand.Number z) s = s
operand_fits (operand.Truth b) s = tt
operand_fits operand.Nil s = tt

test_fits : (t : Test) → SmallTest t → TestFits t
test_fits (test.Holds x) s = operand_fits x s
test_fits (test.Same x y) s = (operand_fits x s.0, operand_fits y s.1)
test_fits (test.Less x y) s = (operand_fits x s.0, operand_fits y s.1)
test_fits (test.LessEqual x y) s = (operand_fits x s.0, operand_fits y s.1)
test_fits (test.Divides x y) s = (operand_fits x s.0, operand_fits y s.1)

numbers_fit : (o : Op) → SmallOp o → NumbersFit o
numbers_fit (op.Copy to from) s = operand_fits from s
numbers_fit (op.Literal to index) s = tt
numbers_fit (op.Itself to) s = tt
numbers_fit (op.Field to n) s = tt
numbers_fit (op.SetField n from) s = operand_fits from s
numbers_fit (op.Constant to index) s = tt
numbers_fit (op.Compute how to left right) s = (operand_fits left s.0, operand_fits right s.1)
numbers_fit (op.Decide to t wanted) s = test_fits t s
numbers_fit (op.Branch t wanted over) s = test_fits t s
numbers_fit (op.Jump over) s = tt
numbers_fit (op.Again back) s = tt
numbers_fit (op.Rest row) s = tt

all_numbers_fit : (s : Source) → IsOfText s → (p : Parts) → IsLowered s p → (n q : ℕ) (o : Operation) (line : Line) →
    slice_get p.operations n ≡ Some o → slice_get o.code q ≡ Some line → NumbersFit line.op
all_numbers_fit s text p lowered n q o line is_operation is_line =
    let small : SmallProgram p =
    lowered_small s text.program p text.core lowered (text_has_small_numbers s.text text.tokens text.program text.scanned text.parsed)
    (text_has_bytes s.text text.tokens text.program text.bytes text.scanned text.parsed) in
    let code : SmallOperation o = each_at SmallOperation p.operations n o small.operations is_operation in
    numbers_fit line.op (each_at SmallLine o.code q line code is_line)

pub text_is_accepted : (s : Source) (text : IsOfText s) → IsAccepted s text.program
text_is_accepted s text = record {
  core = text.core;
  rising = they_rise 0 (places_of (declarations_of text.program).types) (all_behind text.scanned.all (declared_among text.parsed));
}

pub text_is_fine : (s : Source) → IsOfText s → (p : Parts) → IsLowered s p → Fine (declared_of s) p
text_is_fine s text p lowered = is_fine s text.program (text_is_accepted s text) p lowered

pub text_has_limits : (s : Source) → IsOfText s → (p : Parts) → IsLowered s p → HasLimits p
text_has_limits s text p lowered = has_limits s text.program text.core text.tokens p text.scanned text.parsed lowered

pub text_fits : (s : Source) → IsOfText s → (p : Parts) → IsLowered s p → FitsMachines p
text_fits s text p lowered = record {
  fine = (declared_of s, text_is_fine s text p lowered);
  limits = text_has_limits s text p lowered;
  numbers = all_numbers_fit s text p lowered;
}
