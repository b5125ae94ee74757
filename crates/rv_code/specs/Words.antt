-- The words of steps on RISC-V. A source in a register is used as it is, and 0 is x0; a result goes straight into its register. x5
-- and x6 are scratch: no step finds anything there. x8 has the frame, x9 the own object, x18 to x27 are homes.
use Rattle.std.specs.Prelude.{ℕ, ◌+◌, ◌-◌, ◌*◌, ◌%◌, ◌^◌, ◌==◌, ◌||◌, nat_le, nat_lt, Bool, true, false, not, if◌then◌else◌, List, [], ◌∷◌}
use Rattle.std.specs.Prelude.{◌++◌, length, Option, Some, None}
use Rattle.ec_code.specs.declared.code.Arithmetic.{Arithmetic}
use Rattle.ec_code.specs.declared.code.Arithmetic.TheVariants.{Sum, Difference, Product, Quotient, Remainder}
use Rattle.ec_machine_code.specs.declared.homes.Home.{Home}
use Rattle.ec_machine_code.specs.declared.homes.Home.TheVariants.{Register, Slot}
use Rattle.ec_memory.specs.Words.{global_word_at}
use Rattle.ec_machine_code.specs.Layout.{Vocabularies}
use Rattle.ec_machine_code.specs.Speaks.{Vocabulary, words_end}
use Rattle.ec_machine_code.specs.declared.step.Question.{Question}
use Rattle.ec_machine_code.specs.declared.step.Relation.{Relation}
use Rattle.ec_machine_code.specs.declared.step.Relation.TheVariants.{Less, Same}
use Rattle.ec_machine_code.specs.declared.step.Source.{Source}
use Rattle.ec_machine_code.specs.declared.step.Source.TheVariants as source
use Rattle.ec_machine_code.specs.declared.step.Step.{Step}
use Rattle.ec_machine_code.specs.declared.step.Step.TheVariants as step
use Rattle.ec_target.specs.Code.{pc_of}
use Rattle.rv_isa.specs.Parts.{high_of, low_of}
use Rattle.rv_isa.specs.Words.{b_word, branch_funct3, i_word, immediate_funct3, j_word, operation_functs, r_word, s_word, u_word}
use Rattle.rv_isa.specs.declared.instr.Branch.{Branch}
use Rattle.rv_isa.specs.declared.instr.Branch.TheVariants.{Beq, Bge, Blt, Bne}
use Rattle.rv_isa.specs.declared.instr.Immediate.{Immediate}
use Rattle.rv_isa.specs.declared.instr.Immediate.TheVariants.{Addi, Slti, Sltiu, Xori}
use Rattle.rv_isa.specs.declared.instr.Operation.{Operation}
use Rattle.rv_isa.specs.declared.instr.Operation.TheVariants.{Add, Div, Mul, Rem, Slt, Sltu, Sub}

-- ---- instructions, by the numbers of their registers and what they have of a number

abbrev pub lui : (rd high : ℕ) → ℕ
lui rd high = u_word 0x37 rd high

abbrev pub lw : (rd base offset : ℕ) → ℕ
lw rd base offset = i_word 0x03 rd 2 base offset

abbrev pub sw : (rs base offset : ℕ) → ℕ
sw rs base offset = s_word 0x23 2 base rs offset

abbrev pub on_number : Immediate → (rd rs number : ℕ) → ℕ
on_number o rd rs number = i_word 0x13 rd (immediate_funct3 o) rs number

abbrev pub on_registers : Operation → (rd rs1 rs2 : ℕ) → ℕ
on_registers o rd rs1 rs2 = r_word 0x33 rd (operation_functs o).1 rs1 rs2 (operation_functs o).0

abbrev pub branch : Branch → (rs1 rs2 offset : ℕ) → ℕ
branch row rs1 rs2 offset = b_word 0x63 (branch_funct3 row) rs1 rs2 offset

-- JAL x0, and JALR x0
abbrev pub jump : ℕ → ℕ
jump offset = j_word 0x6F 0 offset

abbrev pub jump_there : (rs offset : ℕ) → ℕ
jump_there rs offset = i_word 0x67 0 0 rs offset

-- ---- numbers

-- twelve bits spell the word, as a signed number
abbrev pub is_small : ℕ → Bool
is_small n = nat_lt n (2 ^ 11) || nat_le (2 ^ 32 - 2 ^ 11) n

abbrev pub negative : ℕ → ℕ
negative n = (2 ^ 32 - n) % 2 ^ 32

-- A register gets a number: by ADDI where it is small, by LUI where its low part is 0, else by both.
abbrev pub number_words : ℕ → ℕ → List ℕ
number_words rd n =
    if is_small n then
    on_number Addi rd 0 (low_of n) ∷ []
    else
    (if low_of n == 0 then lui rd (high_of n) ∷ [] else lui rd (high_of n) ∷ on_number Addi rd rd (low_of n) ∷ [])

abbrev pub if_small : ℕ → Option ℕ
if_small n = if is_small n then Some n else None

-- the number that a source is, where it is small
abbrev pub small : Source → Option ℕ
small (source.Home h) = None
small (source.Word n) = if_small n

-- and its negative, where that is small
abbrev pub small_negative : Source → Option ℕ
small_negative (source.Home h) = None
small_negative (source.Word n) = if_small (negative n)

abbrev pub is_zero : Source → Bool
is_zero (source.Home h) = false
is_zero (source.Word n) = n == 0

-- ---- sources and results

-- where the slots begin in a frame
abbrev pub slot_offset : ℕ → ℕ
slot_offset n = 112 + 4 * n

abbrev pub home_register : ℕ → ℕ
home_register k = 18 + k

-- the register that has a source behind its words, which bring it to register r where it isn't in one
abbrev pub source_register : ℕ → Source → ℕ
source_register r (source.Home (Slot n)) = r
source_register r (source.Home (Register k)) = home_register k
source_register r (source.Word n) = if n == 0 then 0 else r

abbrev pub source_words : ℕ → Source → List ℕ
source_words r (source.Home (Slot n)) = lw r 8 (slot_offset n) ∷ []
source_words r (source.Home (Register k)) = []
source_words r (source.Word n) = if n == 0 then [] else number_words r n

-- the register that gets what goes into a home, and the words that bring it into the home from there
abbrev pub target_register : Home → ℕ
target_register (Slot n) = 5
target_register (Register k) = home_register k

abbrev pub target_words : Home → List ℕ
target_words (Slot n) = sw 5 8 (slot_offset n) ∷ []
target_words (Register k) = []

-- ---- a register gets what an instruction makes of sources

abbrev pub both_words : Source → Source → List ℕ
both_words left right = source_words 5 left ++ source_words 6 right

abbrev pub two_words : Operation → ℕ → Source → Source → List ℕ
two_words o rd left right = both_words left right ++ on_registers o rd (source_register 5 left) (source_register 6 right) ∷ []

abbrev pub one_words : Immediate → ℕ → Source → ℕ → List ℕ
one_words o rd left n = source_words 5 left ++ on_number o rd (source_register 5 left) (low_of n) ∷ []

-- A small number on either side is added as it is.
abbrev pub sum_by : Option ℕ → Option ℕ → ℕ → Source → Source → List ℕ
sum_by left_number (Some n) rd left right = one_words Addi rd left n
sum_by (Some n) None rd left right = one_words Addi rd right n
sum_by None None rd left right = two_words Add rd left right

abbrev pub difference_by : Option ℕ → ℕ → Source → Source → List ℕ
difference_by (Some n) rd left right = one_words Addi rd left n
difference_by None rd left right = two_words Sub rd left right

abbrev pub difference_words : ℕ → Source → Source → List ℕ
difference_words rd left right = difference_by (small_negative right) rd left right

abbrev pub work_words : Arithmetic → ℕ → Source → Source → List ℕ
work_words Sum rd left right = sum_by (small left) (small right) rd left right
work_words Difference rd left right = difference_words rd left right
work_words Product rd left right = two_words Mul rd left right
work_words Quotient rd left right = two_words Div rd left right
work_words Remainder rd left right = two_words Rem rd left right

-- ---- a register gets 1 or 0

abbrev pub less_by : Option ℕ → ℕ → Source → Source → List ℕ
less_by (Some n) rd left right = one_words Slti rd left n
less_by None rd left right = two_words Slt rd left right

abbrev pub less_words : ℕ → Source → Source → List ℕ
less_words rd left right = less_by (small right) rd left right

-- the register that has 0 just where both are the same, behind these words
abbrev pub apart_register : Source → Source → ℕ
apart_register left right = if is_zero right then source_register 5 left else 5

abbrev pub apart_words : Source → Source → List ℕ
apart_words left right = if is_zero right then source_words 5 left else difference_words 5 left right

-- whether a register has 0: SLTIU rd, r, 1; whether it doesn't: SLTU rd, x0, r
abbrev pub zero_word : Bool → (rd r : ℕ) → ℕ
zero_word true rd r = on_number Sltiu rd r 1
zero_word false rd r = on_registers Sltu rd 0 r

abbrev pub compared_words : Bool → ℕ → Source → Source → List ℕ
compared_words wanted rd left right = apart_words left right ++ zero_word wanted rd (apart_register left right) ∷ []

-- a number is compared on the right
abbrev pub same_words : Bool → ℕ → Source → Source → List ℕ
same_words wanted rd (source.Word n) right = compared_words wanted rd right (source.Word n)
same_words wanted rd (source.Home h) right = compared_words wanted rd (source.Home h) right

abbrev pub answer_words : Relation → Bool → ℕ → Source → Source → List ℕ
answer_words Same wanted rd left right = same_words wanted rd left right
answer_words Less true rd left right = less_words rd left right
answer_words Less false rd left right = less_words 5 left right ++ on_number Xori rd 5 1 ∷ []

-- ---- the words of each step

-- a register gets a source
abbrev pub copied_words : ℕ → Source → List ℕ
copied_words rd (source.Home (Slot n)) = lw rd 8 (slot_offset n) ∷ []
copied_words rd (source.Home (Register k)) = on_number Addi rd (home_register k) 0 ∷ []
copied_words rd (source.Word n) = number_words rd n

-- a word of a block, whose address a register has, gets a source
abbrev pub stored_words : (base offset : ℕ) → Source → List ℕ
stored_words base offset from = source_words 5 from ++ sw (source_register 5 from) base offset ∷ []

abbrev pub move_words : Home → Source → List ℕ
move_words (Slot n) from = stored_words 8 (slot_offset n) from
move_words (Register k) from = copied_words (home_register k) from

abbrev pub constant_words : ℕ → ℕ → List ℕ
constant_words rd i = lui rd (high_of (global_word_at i)) ∷ lw rd rd (low_of (global_word_at i)) ∷ []

-- The own object's reference is word 6 of the frame.
abbrev pub step_words : Step → List ℕ
step_words (step.Move into from) = move_words into from
step_words (step.Itself into) = (lw (target_register into) 8 24 ∷ []) ++ target_words into
step_words (step.Field into i) = (lw (target_register into) 9 (4 * i) ∷ []) ++ target_words into
step_words (step.SetField i from) = stored_words 9 (4 * i) from
step_words (step.Constant into i) = constant_words (target_register into) i ++ target_words into
step_words (step.Work how into left right) = work_words how (target_register into) left right ++ target_words into
step_words (step.Decide into q) = answer_words q.relation q.wanted (target_register into) q.left q.right ++ target_words into

-- ---- jumps and questions

-- how far it is from a word to a word, in bytes, modulo 2^21
abbrev pub distance : (from to : ℕ) → ℕ
distance from to = (2 ^ 21 + 4 * to - 4 * from) % 2 ^ 21

abbrev pub jump_words : (from to : ℕ) → List ℕ
jump_words from to = jump (distance from to) ∷ []

-- to the address of a word, wherever from
abbrev pub far_jump_words : (to : ℕ) → List ℕ
far_jump_words to = lui 5 (high_of (pc_of to)) ∷ jump_there 5 (low_of (pc_of to)) ∷ []

-- the branch that is taken where a relation comes out as wanted
abbrev pub branch_of : Relation → Bool → Branch
branch_of Same true = Beq
branch_of Same false = Bne
branch_of Less true = Blt
branch_of Less false = Bge

-- how many words bring the two sources of a question
abbrev pub fetch_size : Question → ℕ
fetch_size q = length (both_words q.left q.right)

abbrev pub branch_word : Question → Bool → (offset : ℕ) → ℕ
branch_word q wanted offset = branch (branch_of q.relation wanted) (source_register 5 q.left) (source_register 6 q.right) offset

-- how far it is from a branch to a word, in bytes, modulo 2^13
abbrev pub branch_distance : (from to : ℕ) → ℕ
branch_distance from to = (2 ^ 13 + 4 * to - 4 * from) % 2 ^ 13

-- A near question branches straight to its word; another one branches past a jump where the answer is no.
abbrev pub near_words : Question → (from to : ℕ) → List ℕ
near_words q from to = both_words q.left q.right ++ branch_word q q.wanted (branch_distance (from + fetch_size q) to) ∷ []

abbrev pub middle_words : Question → (from to : ℕ) → List ℕ
middle_words q from to =
    both_words q.left q.right ++ branch_word q (not q.wanted) 8 ∷ jump_words (from + fetch_size q + 1) to

abbrev pub far_words : Question → (to : ℕ) → List ℕ
far_words q to = both_words q.left q.right ++ branch_word q (not q.wanted) 12 ∷ far_jump_words to

-- ---- the vocabularies. A branch reaches less than 2^12 bytes either way, JAL less than 2^20, JALR everywhere. Before the branch of a
-- question at most four words bring its sources, and before its jump one more.

abbrev pub rv_near : Vocabulary
rv_near = record {
  step_words = step_words;
  ask_words = near_words;
  ask_size = λ q. fetch_size q + 1;
  jump_words = jump_words;
  jump_size = 1;
  stop_word = 0x00000073;
  reach = 2 ^ 10 - 4;
}

abbrev pub rv_middle : Vocabulary
rv_middle = record {
  step_words = step_words;
  ask_words = middle_words;
  ask_size = λ q. fetch_size q + 2;
  jump_words = jump_words;
  jump_size = 1;
  stop_word = 0x00000073;
  reach = 2 ^ 18 - 8;
}

abbrev pub rv_far : Vocabulary
rv_far = record {
  step_words = step_words;
  ask_words = λ q from to. far_words q to;
  ask_size = λ q. fetch_size q + 3;
  jump_words = λ from to. far_jump_words to;
  jump_size = 2;
  stop_word = 0x00000073;
  reach = words_end;
}

abbrev pub rv_vocabularies : Vocabularies
rv_vocabularies = record { near = rv_near; middle = rv_middle; far = rv_far }
