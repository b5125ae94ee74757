-- The words are as many as their sizes say, and few.
use Rattle.std.proofs.Common.{◌≡◌, ℕ, ◌+◌, ◌*◌, ◌≤◌, List, [], ◌∷◌, ◌++◌, length, length-append, Option, Some, None, refl}
use Rattle.std.proofs.Common.{arith, true, false}
use Rattle.std.specs.Prelude.{◌==◌, Bool, if◌then◌else◌, not}
use Rattle.ec_code.specs.declared.code.Arithmetic.{Arithmetic}
use Rattle.ec_code.specs.declared.code.Arithmetic.TheVariants.{Sum, Difference, Product, Quotient, Remainder}
use Rattle.ec_generate.specs.Puts.{Sized, most_words}
use Rattle.ec_machine_code.specs.declared.homes.Home.{Home as Homes}
use Rattle.ec_machine_code.specs.declared.homes.Home.TheVariants.{Register, Slot}
use Rattle.ec_machine_code.specs.declared.step.Question.{Question}
use Rattle.ec_machine_code.specs.declared.step.Relation.{Relation}
use Rattle.ec_machine_code.specs.declared.step.Relation.TheVariants.{Less, Same}
use Rattle.ec_machine_code.specs.declared.step.Source.{Source}
use Rattle.ec_machine_code.specs.declared.step.Source.TheVariants.{Home, Word}
use Rattle.ec_machine_code.specs.declared.step.Step.{Step}
use Rattle.ec_machine_code.specs.declared.step.Step.TheVariants.{Constant, Decide, Field, Itself, Move, SetField, Work}
use Rattle.rv_code.specs.Sizes.{answer_size, apart_size, both_size, copied_size, move_size, number_size, one_size}
use Rattle.rv_code.specs.Sizes.{source_size, step_size, sum_size, target_size, two_size, with_number_size, work_size}
use Rattle.rv_isa.specs.Parts.{high_of, low_of}
use Rattle.rv_isa.specs.declared.instr.Immediate.{Immediate}
use Rattle.rv_isa.specs.declared.instr.Immediate.TheVariants.{Addi, Slti, Xori}
use Rattle.rv_isa.specs.declared.instr.Operation.{Operation}
use Rattle.rv_isa.specs.declared.instr.Operation.TheVariants.{Add, Div, Mul, Rem, Slt, Sub}
use Rattle.rv_code.specs.Words.{answer_words, apart_register, apart_words, both_words, branch_distance, branch_word, compared_words, constant_words}
use Rattle.rv_code.specs.Words.{copied_words}
use Rattle.rv_code.specs.Words.{difference_by, difference_words, far_jump_words, far_words, fetch_size, is_small, is_zero, jump_words}
use Rattle.rv_code.specs.Words.{less_by}
use Rattle.rv_code.specs.Words.{less_words, lui, lw, middle_words, move_words, near_words, number_words, on_number, on_registers}
use Rattle.rv_code.specs.Words.{one_words}
use Rattle.rv_code.specs.Words.{rv_vocabularies, small, small_negative, source_register}
use Rattle.rv_code.specs.Words.{source_words}
use Rattle.rv_code.specs.Words.{step_words, stored_words, sum_by, sw, target_register, target_words, two_words, work_words, zero_word}

-- ---- numbers and sources

chosen : (t : Bool) (xs ys : List ℕ) (a b : ℕ) → length xs ≡ a → length ys ≡ b → length (if t then xs else ys) ≡ (if t then a else b)
chosen true xs ys a b e f = e
chosen false xs ys a b e f = f

number_length : (rd n : ℕ) → length (number_words rd n) ≡ number_size n
number_length rd n =
    let high = lui rd (high_of n) in
    let add = on_number Addi rd rd (low_of n) in
    chosen (is_small n) (on_number Addi rd 0 (low_of n) ∷ []) (if low_of n == 0 then high ∷ [] else high ∷ add ∷ []) 1
    (if low_of n == 0 then 1 else 2) refl (chosen (low_of n == 0) (high ∷ []) (high ∷ add ∷ []) 1 2 refl refl)

source_length : (r : ℕ) (x : Source) → length (source_words r x) ≡ source_size x
source_length r (Home (Slot n)) = refl
source_length r (Home (Register k)) = refl
source_length r (Word n) = chosen (n == 0) [] (number_words r n) 0 (number_size n) refl (number_length r n)

target_length : (into : Homes) → length (target_words into) ≡ target_size into
target_length (Slot n) = refl
target_length (Register k) = refl

appended : (xs ys : List ℕ) (a b : ℕ) → length xs ≡ a → length ys ≡ b → length (xs ++ ys) ≡ a + b
appended xs ys a b e f = omega (arith, length-append xs ys, e, f)

pub both_length : (x y : Source) → length (both_words x y) ≡ both_size x y
both_length x y = appended (source_words 5 x) (source_words 6 y) (source_size x) (source_size y) (source_length 5 x) (source_length 6 y)

-- ---- what instructions make of sources

two_length : (o : Operation) (rd : ℕ) (x y : Source) → length (two_words o rd x y) ≡ two_size x y
two_length o rd x y =
    appended (both_words x y) (on_registers o rd (source_register 5 x) (source_register 6 y) ∷ []) (both_size x y) 1 (both_length x y) refl

one_length : (o : Immediate) (rd : ℕ) (x : Source) (n : ℕ) → length (one_words o rd x n) ≡ one_size x
one_length o rd x n =
    appended (source_words 5 x) (on_number o rd (source_register 5 x) (low_of n) ∷ []) (source_size x) 1 (source_length 5 x) refl

sum_length : (o p : Option ℕ) (rd : ℕ) (x y : Source) → length (sum_by o p rd x y) ≡ sum_size o p x y
sum_length None (Some n) rd x y = one_length Addi rd x n
sum_length (Some k) (Some n) rd x y = one_length Addi rd x n
sum_length (Some n) None rd x y = one_length Addi rd y n
sum_length None None rd x y = two_length Add rd x y

difference_length : (o : Option ℕ) (rd : ℕ) (x y : Source) → length (difference_by o rd x y) ≡ with_number_size o x y
difference_length (Some n) rd x y = one_length Addi rd x n
difference_length None rd x y = two_length Sub rd x y

less_length : (o : Option ℕ) (rd : ℕ) (x y : Source) → length (less_by o rd x y) ≡ with_number_size o x y
less_length (Some n) rd x y = one_length Slti rd x n
less_length None rd x y = two_length Slt rd x y

work_length : (how : Arithmetic) (rd : ℕ) (x y : Source) → length (work_words how rd x y) ≡ work_size how x y
work_length Sum rd x y = sum_length (small x) (small y) rd x y
work_length Difference rd x y = difference_length (small_negative y) rd x y
work_length Product rd x y = two_length Mul rd x y
work_length Quotient rd x y = two_length Div rd x y
work_length Remainder rd x y = two_length Rem rd x y

compared_length : (wanted : Bool) (rd : ℕ) (x y : Source) → length (compared_words wanted rd x y) ≡ apart_size x y + 1
compared_length wanted rd x y =
    appended (apart_words x y) (zero_word wanted rd (apart_register x y) ∷ []) (apart_size x y) 1
    (chosen (is_zero y) (source_words 5 x) (difference_words 5 x y) (source_size x) (with_number_size (small_negative y) x y)
    (source_length 5 x) (difference_length (small_negative y) 5 x y))
    refl

answer_length : (relation : Relation) (wanted : Bool) (rd : ℕ) (x y : Source) →
    length (answer_words relation wanted rd x y) ≡ answer_size relation wanted x y
answer_length Same wanted rd (Word n) y = compared_length wanted rd y (Word n)
answer_length Same wanted rd (Home h) y = compared_length wanted rd (Home h) y
answer_length Less true rd x y = less_length (small y) rd x y
answer_length Less false rd x y =
    appended (less_words 5 x y) (on_number Xori rd 5 1 ∷ []) (with_number_size (small y) x y) 1 (less_length (small y) 5 x y) refl

-- ---- steps

stored_length : (base offset : ℕ) (from : Source) → length (stored_words base offset from) ≡ source_size from + 1
stored_length base offset from =
    appended (source_words 5 from) (sw (source_register 5 from) base offset ∷ []) (source_size from) 1 (source_length 5 from) refl

copied_length : (rd : ℕ) (x : Source) → length (copied_words rd x) ≡ copied_size x
copied_length rd (Home (Slot n)) = refl
copied_length rd (Home (Register k)) = refl
copied_length rd (Word n) = number_length rd n

move_length : (into : Homes) (from : Source) → length (move_words into from) ≡ move_size into from
move_length (Slot n) from = stored_length 8 (112 + 4 * n) from
move_length (Register k) from = copied_length (18 + k) from

put_length : (into : Homes) (ws : List ℕ) (a : ℕ) → length ws ≡ a → length (ws ++ target_words into) ≡ a + target_size into
put_length into ws a e = appended ws (target_words into) a (target_size into) e (target_length into)

pub step_length : (m : Step) → length (step_words m) ≡ step_size m
step_length (Move into from) = move_length into from
step_length (Itself into) = put_length into (lw (target_register into) 8 24 ∷ []) 1 refl
step_length (Field into i) = put_length into (lw (target_register into) 9 (4 * i) ∷ []) 1 refl
step_length (SetField i from) = stored_length 9 (4 * i) from
step_length (Constant into i) = put_length into (constant_words (target_register into) i) 2 refl
step_length (Work how into x y) =
    put_length into (work_words how (target_register into) x y) (work_size how x y) (work_length how (target_register into) x y)
step_length (Decide into q) =
    put_length into (answer_words q.relation q.wanted (target_register into) q.left q.right)
    (answer_size q.relation q.wanted q.left q.right) (answer_length q.relation q.wanted (target_register into) q.left q.right)

-- ---- few words

few_by : (t : Bool) (a b n : ℕ) → a ≤ n → b ≤ n → (if t then a else b) ≤ n
few_by true a b n h k = h
few_by false a b n h k = k

few_number : (n : ℕ) → number_size n ≤ 2
few_number n =
    few_by (is_small n) 1 (if low_of n == 0 then 1 else 2) 2 (omega arith) (few_by (low_of n == 0) 1 2 2 (omega arith) (omega arith))

few_source : (x : Source) → source_size x ≤ 2
few_source (Home (Slot n)) = omega arith
few_source (Home (Register k)) = omega arith
few_source (Word n) = few_by (n == 0) 0 (number_size n) 2 (omega arith) (few_number n)

few_target : (into : Homes) → target_size into ≤ 1
few_target (Slot n) = omega arith
few_target (Register k) = omega arith

few_two : (x y : Source) → two_size x y ≤ 5
few_two x y = omega (arith, few_source x, few_source y)

few_one : (x : Source) → one_size x ≤ 5
few_one x = omega (arith, few_source x)

few_sum : (o p : Option ℕ) (x y : Source) → sum_size o p x y ≤ 5
few_sum None (Some n) x y = few_one x
few_sum (Some k) (Some n) x y = few_one x
few_sum (Some n) None x y = few_one y
few_sum None None x y = few_two x y

few_with_number : (o : Option ℕ) (x y : Source) → with_number_size o x y ≤ 5
few_with_number (Some n) x y = few_one x
few_with_number None x y = few_two x y

few_work : (how : Arithmetic) (x y : Source) → work_size how x y ≤ 5
few_work Sum x y = few_sum (small x) (small y) x y
few_work Difference x y = few_with_number (small_negative y) x y
few_work Product x y = few_two x y
few_work Quotient x y = few_two x y
few_work Remainder x y = few_two x y

few_apart : (x y : Source) → apart_size x y ≤ 5
few_apart x y =
    few_by (is_zero y) (source_size x) (with_number_size (small_negative y) x y) 5 (omega (arith, few_source x))
    (few_with_number (small_negative y) x y)

few_answer : (relation : Relation) (wanted : Bool) (x y : Source) → answer_size relation wanted x y ≤ 6
few_answer Same wanted (Word n) y = omega (arith, few_apart y (Word n))
few_answer Same wanted (Home h) y = omega (arith, few_apart (Home h) y)
few_answer Less true x y = omega (arith, few_with_number (small y) x y)
few_answer Less false x y = omega (arith, few_with_number (small y) x y)

few_copied : (x : Source) → copied_size x ≤ 2
few_copied (Home h) = omega arith
few_copied (Word n) = few_number n

few_move : (into : Homes) (from : Source) → move_size into from ≤ 3
few_move (Slot n) from = omega (arith, few_source from)
few_move (Register k) from = omega (arith, few_copied from)

pub few_step : (m : Step) → step_size m ≤ most_words
few_step (Move into from) = omega (arith, few_move into from)
few_step (Itself into) = omega (arith, few_target into)
few_step (Field into i) = omega (arith, few_target into)
few_step (SetField i from) = omega (arith, few_source from)
few_step (Constant into i) = omega (arith, few_target into)
few_step (Work how into x y) = omega (arith, few_work how x y, few_target into)
few_step (Decide into q) = omega (arith, few_answer q.relation q.wanted q.left q.right, few_target into)

pub few_words : (m : Step) → length (step_words m) ≤ most_words
few_words m = omega (arith, step_length m, few_step m)

pub few_fetched : (q : Question) → fetch_size q ≤ 4
few_fetched q = omega (arith, both_length q.left q.right, few_source q.left, few_source q.right)

-- ---- all of it

near_length : (q : Question) (from to : ℕ) → length (near_words q from to) ≡ fetch_size q + 1
near_length q from to =
    appended (both_words q.left q.right) (branch_word q q.wanted (branch_distance (from + fetch_size q) to) ∷ []) (fetch_size q) 1 refl refl

middle_length : (q : Question) (from to : ℕ) → length (middle_words q from to) ≡ fetch_size q + 2
middle_length q from to =
    let ws = branch_word q (not q.wanted) 8 ∷ jump_words (from + fetch_size q + 1) to in
    appended (both_words q.left q.right) ws (fetch_size q) 2 refl refl

far_length : (q : Question) (to : ℕ) → length (far_words q to) ≡ fetch_size q + 3
far_length q to =
    appended (both_words q.left q.right) (branch_word q (not q.wanted) 12 ∷ far_jump_words to) (fetch_size q) 3 refl refl

pub rv_sized : Sized rv_vocabularies
rv_sized = record {
  near = record {
    asks = near_length;
    jumps = λ from to. refl;
    step = few_words;
    ask = λ q. omega (arith, few_fetched q);
    jump = omega arith;
  };
  middle = record {
    asks = middle_length;
    jumps = λ from to. refl;
    step = few_words;
    ask = λ q. omega (arith, few_fetched q);
    jump = omega arith;
  };
  far = record {
    asks = λ q from to. far_length q to;
    jumps = λ from to. refl;
    step = few_words;
    ask = λ q. omega (arith, few_fetched q);
    jump = omega arith;
  };
  reaches = omega arith;
}
