-- None of the words is the stop word: each has its opcode in its lower seven bits, and a stop has another.
use Rattle.std.proofs.Common.{◌≡◌, ◌≢◌, ℕ, zero, suc, ◌+◌, ◌*◌, List, [], ◌∷◌, ◌++◌, length, length-append, Option, Some}
use Rattle.std.proofs.Common.{None}
use Rattle.std.proofs.Common.{arith, true, false}
use Rattle.std.proofs.lemmas.Option.{same_Some}
use Rattle.std.specs.Prelude.{◌==◌, Bool, if◌then◌else◌, not}
use Rattle.ec_code.specs.declared.code.Arithmetic.{Arithmetic}
use Rattle.ec_code.specs.declared.code.Arithmetic.TheVariants.{Sum, Difference, Product, Quotient, Remainder}
use Rattle.ec_machine_code.specs.declared.homes.Home.{Home as Homes}
use Rattle.ec_machine_code.specs.declared.homes.Home.TheVariants.{Register as Homely, Slot}
use Rattle.ec_memory.specs.Words.{global_word_at}
use Rattle.ec_machine_code.specs.Speaks.{IsNone}
use Rattle.ec_machine_code.specs.declared.step.Question.{Question}
use Rattle.ec_machine_code.specs.declared.step.Relation.{Relation}
use Rattle.ec_machine_code.specs.declared.step.Relation.TheVariants.{Less, Same}
use Rattle.ec_machine_code.specs.declared.step.Source.{Source}
use Rattle.ec_machine_code.specs.declared.step.Source.TheVariants.{Home, Word}
use Rattle.ec_machine_code.specs.declared.step.Step.{Step}
use Rattle.ec_machine_code.specs.declared.step.Step.TheVariants.{Constant, Decide, Field, Itself, Move, SetField, Work}
use Rattle.ec_target.specs.Code.{pc_of}
use Rattle.rv_isa.specs.Parts.{high_of, low_of}
use Rattle.rv_isa.specs.declared.instr.Branch.{Branch}
use Rattle.rv_isa.specs.declared.instr.Immediate.{Immediate}
use Rattle.rv_isa.specs.declared.instr.Immediate.TheVariants.{Addi, Slti, Sltiu, Xori}
use Rattle.rv_isa.specs.declared.instr.Operation.{Operation}
use Rattle.rv_isa.specs.declared.instr.Operation.TheVariants.{Add, Div, Mul, Rem, Slt, Sltu, Sub}
use Rattle.rv_code.specs.Words.{answer_words, apart_register, apart_words, both_words, branch, branch_distance, branch_of, branch_word, compared_words}
use Rattle.rv_code.specs.Words.{constant_words, copied_words, difference_by, difference_words, distance, far_jump_words, far_words}
use Rattle.rv_code.specs.Words.{fetch_size}
use Rattle.rv_code.specs.Words.{home_register, is_small, is_zero, jump, jump_there, jump_words, less_by, less_words, lui, lw, middle_words}
use Rattle.rv_code.specs.Words.{move_words, near_words, number_words}
use Rattle.rv_code.specs.Words.{on_number, on_registers, one_words, slot_offset, small, small_negative, source_register}
use Rattle.rv_code.specs.Words.{source_words, step_words, stored_words, sum_by, sw, target_register, target_words, two_words, work_words}
use Rattle.rv_code.specs.Words.{zero_word}

abbrev stop : ℕ
stop = 0x00000073

-- ---- lists

none : IsNone stop []
none k e = (cc)

next : (w : ℕ) (ws : List ℕ) → w ≢ stop → IsNone stop ws → IsNone stop (w ∷ ws)
next w ws ne rest zero e = ne (same_Some w stop e)
next w ws ne rest (suc k) e = rest k e

single : (w : ℕ) → w ≢ stop → IsNone stop (w ∷ [])
single w ne = next w [] ne none

behind : (xs ys : List ℕ) → IsNone stop xs → IsNone stop ys → IsNone stop (xs ++ ys)
behind [] ys h k i e = k i e
behind (x ∷ xs) ys h k zero e = h zero e
behind (x ∷ xs) ys h k (suc i) e = behind xs ys (λ j. h (suc j)) k i e

-- ---- instructions

by_lui : (rd high : ℕ) → lui rd high ≢ stop
by_lui rd high e = omega (arith, e)

by_lw : (rd base offset : ℕ) → lw rd base offset ≢ stop
by_lw rd base offset e = omega (arith, e)

by_sw : (rs base offset : ℕ) → sw rs base offset ≢ stop
by_sw rs base offset e = omega (arith, e)

by_number : (o : Immediate) (rd rs number : ℕ) → on_number o rd rs number ≢ stop
by_number o rd rs number e = omega (arith, e)

by_registers : (o : Operation) (rd rs1 rs2 : ℕ) → on_registers o rd rs1 rs2 ≢ stop
by_registers o rd rs1 rs2 e = omega (arith, e)

by_branch : (row : Branch) (rs1 rs2 offset : ℕ) → branch row rs1 rs2 offset ≢ stop
by_branch row rs1 rs2 offset e = omega (arith, e)

by_jump_there : (rs offset : ℕ) → jump_there rs offset ≢ stop
by_jump_there rs offset e = omega (arith, e)

by_jump : (offset : ℕ) → jump offset ≢ stop
by_jump offset e = omega (arith, e)

-- ---- numbers, sources and results

chosen : (t : Bool) (xs ys : List ℕ) → IsNone stop xs → IsNone stop ys → IsNone stop (if t then xs else ys)
chosen true xs ys h k = h
chosen false xs ys h k = k

number : (rd n : ℕ) → IsNone stop (number_words rd n)
number rd n =
    let add = on_number Addi rd rd (low_of n) in
    let high = lui rd (high_of n) in
    chosen (is_small n) (on_number Addi rd 0 (low_of n) ∷ []) (if low_of n == 0 then high ∷ [] else high ∷ add ∷ [])
    (single (on_number Addi rd 0 (low_of n)) (by_number Addi rd 0 (low_of n)))
    (chosen (low_of n == 0) (high ∷ []) (high ∷ add ∷ []) (single high (by_lui rd (high_of n)))
    (next high (add ∷ []) (by_lui rd (high_of n)) (single add (by_number Addi rd rd (low_of n)))))

source : (r : ℕ) (x : Source) → IsNone stop (source_words r x)
source r (Home (Slot n)) = single (lw r 8 (slot_offset n)) (by_lw r 8 (slot_offset n))
source r (Home (Homely k)) = none
source r (Word n) = chosen (n == 0) [] (number_words r n) none (number r n)

target : (into : Homes) → IsNone stop (target_words into)
target (Slot n) = single (sw 5 8 (slot_offset n)) (by_sw 5 8 (slot_offset n))
target (Homely k) = none

both : (x y : Source) → IsNone stop (both_words x y)
both x y = behind (source_words 5 x) (source_words 6 y) (source 5 x) (source 6 y)

two : (o : Operation) (rd : ℕ) (x y : Source) → IsNone stop (two_words o rd x y)
two o rd x y =
    let u = on_registers o rd (source_register 5 x) (source_register 6 y) in
    behind (both_words x y) (u ∷ []) (both x y) (single u (by_registers o rd (source_register 5 x) (source_register 6 y)))

one : (o : Immediate) (rd : ℕ) (x : Source) (n : ℕ) → IsNone stop (one_words o rd x n)
one o rd x n =
    let u = on_number o rd (source_register 5 x) (low_of n) in
    behind (source_words 5 x) (u ∷ []) (source 5 x) (single u (by_number o rd (source_register 5 x) (low_of n)))

-- ---- arithmetic and answers

sum : (o p : Option ℕ) (rd : ℕ) (x y : Source) → IsNone stop (sum_by o p rd x y)
sum None (Some n) rd x y = one Addi rd x n
sum (Some k) (Some n) rd x y = one Addi rd x n
sum (Some n) None rd x y = one Addi rd y n
sum None None rd x y = two Add rd x y

difference : (o : Option ℕ) (rd : ℕ) (x y : Source) → IsNone stop (difference_by o rd x y)
difference (Some n) rd x y = one Addi rd x n
difference None rd x y = two Sub rd x y

work : (how : Arithmetic) (rd : ℕ) (x y : Source) → IsNone stop (work_words how rd x y)
work Sum rd x y = sum (small x) (small y) rd x y
work Difference rd x y = difference (small_negative y) rd x y
work Product rd x y = two Mul rd x y
work Quotient rd x y = two Div rd x y
work Remainder rd x y = two Rem rd x y

less_of : (o : Option ℕ) (rd : ℕ) (x y : Source) → IsNone stop (less_by o rd x y)
less_of (Some n) rd x y = one Slti rd x n
less_of None rd x y = two Slt rd x y

zero_test : (wanted : Bool) (rd r : ℕ) → zero_word wanted rd r ≢ stop
zero_test true rd r = by_number Sltiu rd r 1
zero_test false rd r = by_registers Sltu rd 0 r

compared : (wanted : Bool) (rd : ℕ) (x y : Source) → IsNone stop (compared_words wanted rd x y)
compared wanted rd x y =
    let u = zero_word wanted rd (apart_register x y) in
    behind (apart_words x y) (u ∷ [])
    (chosen (is_zero y) (source_words 5 x) (difference_words 5 x y) (source 5 x) (difference (small_negative y) 5 x y))
    (single u (zero_test wanted rd (apart_register x y)))

answer : (relation : Relation) (wanted : Bool) (rd : ℕ) (x y : Source) → IsNone stop (answer_words relation wanted rd x y)
answer Same wanted rd (Word n) y = compared wanted rd y (Word n)
answer Same wanted rd (Home h) y = compared wanted rd (Home h) y
answer Less true rd x y = less_of (small y) rd x y
answer Less false rd x y =
    behind (less_words 5 x y) (on_number Xori rd 5 1 ∷ []) (less_of (small y) 5 x y)
    (single (on_number Xori rd 5 1) (by_number Xori rd 5 1))

-- ---- steps, questions and jumps

stored : (base offset : ℕ) (from : Source) → IsNone stop (stored_words base offset from)
stored base offset from =
    let u = sw (source_register 5 from) base offset in
    behind (source_words 5 from) (u ∷ []) (source 5 from) (single u (by_sw (source_register 5 from) base offset))

copied : (rd : ℕ) (x : Source) → IsNone stop (copied_words rd x)
copied rd (Home (Slot n)) = single (lw rd 8 (slot_offset n)) (by_lw rd 8 (slot_offset n))
copied rd (Home (Homely k)) = single (on_number Addi rd (home_register k) 0) (by_number Addi rd (home_register k) 0)
copied rd (Word n) = number rd n

move : (into : Homes) (from : Source) → IsNone stop (move_words into from)
move (Slot n) from = stored 8 (slot_offset n) from
move (Homely k) from = copied (home_register k) from

constant : (rd i : ℕ) → IsNone stop (constant_words rd i)
constant rd i =
    let high = lui rd (high_of (global_word_at i)) in
    let low = lw rd rd (low_of (global_word_at i)) in
    next high (low ∷ []) (by_lui rd (high_of (global_word_at i))) (single low (by_lw rd rd (low_of (global_word_at i))))

pub no_step : (m : Step) → IsNone stop (step_words m)
no_step (Move into from) = move into from
no_step (Itself into) =
    behind (lw (target_register into) 8 24 ∷ []) (target_words into)
    (single (lw (target_register into) 8 24) (by_lw (target_register into) 8 24)) (target into)
no_step (Field into i) =
    behind (lw (target_register into) 9 (4 * i) ∷ []) (target_words into)
    (single (lw (target_register into) 9 (4 * i)) (by_lw (target_register into) 9 (4 * i))) (target into)
no_step (SetField i from) = stored 9 (4 * i) from
no_step (Constant into i) =
    behind (constant_words (target_register into) i) (target_words into) (constant (target_register into) i) (target into)
no_step (Work how into x y) =
    behind (work_words how (target_register into) x y) (target_words into) (work how (target_register into) x y) (target into)
no_step (Decide into q) =
    behind (answer_words q.relation q.wanted (target_register into) q.left q.right) (target_words into)
    (answer q.relation q.wanted (target_register into) q.left q.right) (target into)

pub no_jump : (from to : ℕ) → IsNone stop (jump_words from to)
no_jump from to = single (jump (distance from to)) (by_jump (distance from to))

pub no_near : (q : Question) (from to : ℕ) → IsNone stop (near_words q from to)
no_near q from to =
    let d = branch_distance (from + fetch_size q) to in
    let u = branch_word q q.wanted d in
    behind (both_words q.left q.right) (u ∷ []) (both q.left q.right)
    (single u (by_branch (branch_of q.relation q.wanted) (source_register 5 q.left) (source_register 6 q.right) d))

pub no_far_jump : (to : ℕ) → IsNone stop (far_jump_words to)
no_far_jump to =
    let high = lui 5 (high_of (pc_of to)) in
    let there = jump_there 5 (low_of (pc_of to)) in
    next high (there ∷ []) (by_lui 5 (high_of (pc_of to))) (single there (by_jump_there 5 (low_of (pc_of to))))

-- a question past a jump
past : (q : Question) (offset : ℕ) (rest : List ℕ) → IsNone stop rest →
    IsNone stop (both_words q.left q.right ++ branch_word q (not q.wanted) offset ∷ rest)
past q offset rest h =
    let u = branch_word q (not q.wanted) offset in
    behind (both_words q.left q.right) (u ∷ rest) (both q.left q.right)
    (next u rest (by_branch (branch_of q.relation (not q.wanted)) (source_register 5 q.left) (source_register 6 q.right) offset) h)

pub no_middle : (q : Question) (from to : ℕ) → IsNone stop (middle_words q from to)
no_middle q from to = past q 8 (jump_words (from + fetch_size q + 1) to) (no_jump (from + fetch_size q + 1) to)

pub no_far : (q : Question) (to : ℕ) → IsNone stop (far_words q to)
no_far q to = past q 12 (far_jump_words to) (no_far_jump to)

-- ---- sizes

pub near_size : (q : Question) (from to : ℕ) → length (near_words q from to) ≡ fetch_size q + 1
near_size q from to = length-append (both_words q.left q.right) (branch_word q q.wanted (branch_distance (from + fetch_size q) to) ∷ [])

pub middle_size : (q : Question) (from to : ℕ) → length (middle_words q from to) ≡ fetch_size q + 2
middle_size q from to =
    length-append (both_words q.left q.right) (branch_word q (not q.wanted) 8 ∷ jump_words (from + fetch_size q + 1) to)

pub far_size : (q : Question) (to : ℕ) → length (far_words q to) ≡ fetch_size q + 3
far_size q to = length-append (both_words q.left q.right) (branch_word q (not q.wanted) 12 ∷ far_jump_words to)
