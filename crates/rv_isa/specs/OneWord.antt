-- No two instructions have one word.
use Rattle.std.proofs.Common.{◌≡◌, ℕ, ◌<◌, ◌^◌, ◌%◌, ◌∙◌, arith, refl, subst, ap}
use Rattle.std.specs.Coded.{le_prop, Coded-set, coded_ℕ}
use Rattle.rv_isa.specs.declared.field.Amount.{Amount}
use Rattle.rv_isa.specs.declared.field.BranchOffset.{BranchOffset}
use Rattle.rv_isa.specs.declared.field.JumpOffset.{JumpOffset}
use Rattle.rv_isa.specs.declared.field.Register.{Register}
use Rattle.rv_isa.specs.declared.field.Twelve.{Twelve}
use Rattle.rv_isa.specs.declared.field.Twenty.{Twenty}
use Rattle.rv_isa.specs.declared.instr.Branch.{Branch}
use Rattle.rv_isa.specs.declared.instr.Branch.TheVariants as branches
use Rattle.rv_isa.specs.declared.instr.Load.{Load}
use Rattle.rv_isa.specs.declared.instr.Load.TheVariants as loads
use Rattle.rv_isa.specs.declared.instr.Store.{Store}
use Rattle.rv_isa.specs.declared.instr.Store.TheVariants as stores
use Rattle.rv_isa.specs.declared.instr.Immediate.{Immediate}
use Rattle.rv_isa.specs.declared.instr.Immediate.TheVariants as immediates
use Rattle.rv_isa.specs.declared.instr.Shift.{Shift}
use Rattle.rv_isa.specs.declared.instr.Shift.TheVariants as shifts
use Rattle.rv_isa.specs.declared.instr.Operation.{Operation}
use Rattle.rv_isa.specs.declared.instr.Operation.TheVariants as operations
use Rattle.rv_isa.specs.declared.instr.Instr.{Instr}
use Rattle.rv_isa.specs.declared.instr.Instr.TheVariants.{Lui, Auipc, Jal, Jalr, BranchIf, LoadFrom, StoreTo, OnImmediate, OnShift}
use Rattle.rv_isa.specs.declared.instr.Instr.TheVariants.{OnRegisters, Ecall}
use Rattle.rv_isa.specs.Words.{word_of, branch_funct3, load_funct3, store_funct3, immediate_funct3, shift_functs, operation_functs}

-- ---- a field is its number

abbrev register : (n : ℕ) → n < 2 ^ 5 → Register
register n h = record { number = n; in_range = h }

same_register : (a b : Register) → a.number ≡ b.number → a ≡ b
same_register a b e =
    subst (λ n. (k : n < 2 ^ 5) → a ≡ register n k) e (λ k. ap (register a.number) (le_prop a.in_range k)) b.in_range

abbrev amount : (n : ℕ) → n < 2 ^ 5 → Amount
amount n h = record { bits = n; in_range = h }

same_amount : (a b : Amount) → a.bits ≡ b.bits → a ≡ b
same_amount a b e =
    subst (λ n. (k : n < 2 ^ 5) → a ≡ amount n k) e (λ k. ap (amount a.bits) (le_prop a.in_range k)) b.in_range

abbrev twelve : (n : ℕ) → n < 2 ^ 12 → Twelve
twelve n h = record { bits = n; in_range = h }

same_twelve : (a b : Twelve) → a.bits ≡ b.bits → a ≡ b
same_twelve a b e =
    subst (λ n. (k : n < 2 ^ 12) → a ≡ twelve n k) e (λ k. ap (twelve a.bits) (le_prop a.in_range k)) b.in_range

abbrev twenty : (n : ℕ) → n < 2 ^ 20 → Twenty
twenty n h = record { bits = n; in_range = h }

same_twenty : (a b : Twenty) → a.bits ≡ b.bits → a ≡ b
same_twenty a b e =
    subst (λ n. (k : n < 2 ^ 20) → a ≡ twenty n k) e (λ k. ap (twenty a.bits) (le_prop a.in_range k)) b.in_range

abbrev branch_offset : (n : ℕ) → n < 2 ^ 13 → n % 2 ≡ 0 → BranchOffset
branch_offset n h e = record { bits = n; in_range = h; even = e }

same_branch_offset : (a b : BranchOffset) → a.bits ≡ b.bits → a ≡ b
same_branch_offset a b e =
    subst (λ n. (k : n < 2 ^ 13) (l : n % 2 ≡ 0) → a ≡ branch_offset n k l) e
    (λ k l. ap (λ p. branch_offset a.bits p a.even) (le_prop a.in_range k)
    ∙ ap (branch_offset a.bits k) (Coded-set coded_ℕ (a.bits % 2) 0 a.even l)) b.in_range b.even

abbrev jump_offset : (n : ℕ) → n < 2 ^ 21 → n % 2 ≡ 0 → JumpOffset
jump_offset n h e = record { bits = n; in_range = h; even = e }

same_jump_offset : (a b : JumpOffset) → a.bits ≡ b.bits → a ≡ b
same_jump_offset a b e =
    subst (λ n. (k : n < 2 ^ 21) (l : n % 2 ≡ 0) → a ≡ jump_offset n k l) e
    (λ k l. ap (λ p. jump_offset a.bits p a.even) (le_prop a.in_range k)
    ∙ ap (jump_offset a.bits k) (Coded-set coded_ℕ (a.bits % 2) 0 a.even l)) b.in_range b.even

-- ---- the numbers of rows of one opcode

branch_small : (row : Branch) → branch_funct3 row < 8
branch_small branches.Beq = omega arith
branch_small _ = omega arith

same_branch : (a b : Branch) → branch_funct3 a ≡ branch_funct3 b → a ≡ b
same_branch a b e = grind arith

load_small : (row : Load) → load_funct3 row < 8
load_small loads.Lb = omega arith
load_small _ = omega arith

same_load : (a b : Load) → load_funct3 a ≡ load_funct3 b → a ≡ b
same_load a b e = grind arith

store_small : (row : Store) → store_funct3 row < 8
store_small stores.Sb = omega arith
store_small _ = omega arith

same_store : (a b : Store) → store_funct3 a ≡ store_funct3 b → a ≡ b
same_store a b e = grind arith

immediate_small : (row : Immediate) → immediate_funct3 row < 8
immediate_small immediates.Addi = omega arith
immediate_small _ = omega arith

same_immediate : (a b : Immediate) → immediate_funct3 a ≡ immediate_funct3 b → a ≡ b
same_immediate a b e = grind arith

shift_small : (row : Shift) → ((shift_functs row).0 < 128) × ((shift_functs row).1 < 8)
shift_small shifts.Slli = (omega arith, omega arith)
shift_small _ = (omega arith, omega arith)

same_shift : (a b : Shift) → (shift_functs a).0 ≡ (shift_functs b).0 → (shift_functs a).1 ≡ (shift_functs b).1 → a ≡ b
same_shift a b e f = grind arith

operation_small : (row : Operation) → ((operation_functs row).0 < 128) × ((operation_functs row).1 < 8)
operation_small operations.Add = (omega arith, omega arith)
operation_small _ = (omega arith, omega arith)

same_operation : (a b : Operation) → (operation_functs a).0 ≡ (operation_functs b).0 →
    (operation_functs a).1 ≡ (operation_functs b).1 → a ≡ b
same_operation a b e f = grind arith

-- no number of an operation with an immediate is one of a shift's
apart : (a : Immediate) (b : Shift) → immediate_funct3 a ≡ (shift_functs b).1 → ⊥
apart a b e = grind arith

-- ---- an instruction is its word

pub one_word : (i j : Instr) → word_of i ≡ word_of j → i ≡ j
one_word (Lui rd high) (Lui rd1 high1) e =
    let rds = same_register rd rd1 (omega (arith, e)) in
    let highs = same_twenty high high1 (omega (arith, e)) in
    cc
one_word (Auipc rd high) (Auipc rd1 high1) e =
    let rds = same_register rd rd1 (omega (arith, e)) in
    let highs = same_twenty high high1 (omega (arith, e)) in
    cc
one_word (Jal rd offset) (Jal rd1 offset1) e =
    let rds = same_register rd rd1 (omega (arith, e)) in
    let offsets = same_jump_offset offset offset1 (omega (arith, e)) in
    cc
one_word (Jalr rd rs offset) (Jalr rd1 rs1 offset1) e =
    let rds = same_register rd rd1 (omega (arith, e)) in
    let rss = same_register rs rs1 (omega (arith, e)) in
    let offsets = same_twelve offset offset1 (omega (arith, e)) in
    cc
one_word (BranchIf branch rs rt offset) (BranchIf branch1 rs1 rt1 offset1) e =
    let branchs = same_branch branch branch1 (omega (arith, e, branch_small branch, branch_small branch1)) in
    let rss = same_register rs rs1 (omega (arith, e, branch_small branch, branch_small branch1)) in
    let rts = same_register rt rt1 (omega (arith, e, branch_small branch, branch_small branch1)) in
    let offsets = same_branch_offset offset offset1 (omega (arith, e, branch_small branch, branch_small branch1)) in
    cc
one_word (LoadFrom load rd rs offset) (LoadFrom load1 rd1 rs1 offset1) e =
    let loads = same_load load load1 (omega (arith, e, load_small load, load_small load1)) in
    let rds = same_register rd rd1 (omega (arith, e, load_small load, load_small load1)) in
    let rss = same_register rs rs1 (omega (arith, e, load_small load, load_small load1)) in
    let offsets = same_twelve offset offset1 (omega (arith, e, load_small load, load_small load1)) in
    cc
one_word (StoreTo store rs rt offset) (StoreTo store1 rs1 rt1 offset1) e =
    let stores = same_store store store1 (omega (arith, e, store_small store, store_small store1)) in
    let rss = same_register rs rs1 (omega (arith, e, store_small store, store_small store1)) in
    let rts = same_register rt rt1 (omega (arith, e, store_small store, store_small store1)) in
    let offsets = same_twelve offset offset1 (omega (arith, e, store_small store, store_small store1)) in
    cc
one_word (OnImmediate operation rd rs number) (OnImmediate operation1 rd1 rs1 number1) e =
    let operations = same_immediate operation operation1 (omega (arith, e, immediate_small operation, immediate_small operation1)) in
    let rds = same_register rd rd1 (omega (arith, e, immediate_small operation, immediate_small operation1)) in
    let rss = same_register rs rs1 (omega (arith, e, immediate_small operation, immediate_small operation1)) in
    let numbers = same_twelve number number1 (omega (arith, e, immediate_small operation, immediate_small operation1)) in
    cc
one_word (OnShift shift rd rs amount) (OnShift shift1 rd1 rs1 amount1) e =
    let shifts = same_shift shift shift1 (omega (arith, e, shift_small shift, shift_small shift1))
    (omega (arith, e, shift_small shift, shift_small shift1)) in
    let rds = same_register rd rd1 (omega (arith, e, shift_small shift, shift_small shift1)) in
    let rss = same_register rs rs1 (omega (arith, e, shift_small shift, shift_small shift1)) in
    let amounts = same_amount amount amount1 (omega (arith, e, shift_small shift, shift_small shift1)) in
    cc
one_word (OnRegisters operation rd rs rt) (OnRegisters operation1 rd1 rs1 rt1) e =
    let operations = same_operation operation operation1 (omega (arith, e, operation_small operation, operation_small operation1))
    (omega (arith, e, operation_small operation, operation_small operation1)) in
    let rds = same_register rd rd1 (omega (arith, e, operation_small operation, operation_small operation1)) in
    let rss = same_register rs rs1 (omega (arith, e, operation_small operation, operation_small operation1)) in
    let rts = same_register rt rt1 (omega (arith, e, operation_small operation, operation_small operation1)) in
    cc
one_word Ecall Ecall e = refl
one_word (OnImmediate a rd rs number) (OnShift b rd1 rs1 amount) e =
    absurd (apart a b (omega (arith, e, immediate_small a, shift_small b)))
one_word (OnShift b rd1 rs1 amount) (OnImmediate a rd rs number) e =
    absurd (apart a b (omega (arith, e, immediate_small a, shift_small b)))
one_word i j e = absurd (omega (arith, e))
