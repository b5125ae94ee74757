-- No two instructions have one word.
use Rattle.std.proofs.Common.{◌≡◌, ◌≢◌, ℕ, ◌<◌, ◌^◌, ◌/◌, ◌%◌, ◌∙◌, arith, refl, subst, ap, sym}
use Rattle.std.specs.Prelude.{◌==◌, nat_lt, if◌then◌else◌}
use Rattle.std.specs.Coded.{le_prop, →_prop}
use mathlib.Core.HLevel.{⊥_prop}
use Rattle.mips_isa.specs.declared.field.Amount.{Amount}
use Rattle.mips_isa.specs.declared.field.Link.{Link}
use Rattle.mips_isa.specs.declared.field.Register.{Register}
use Rattle.mips_isa.specs.declared.field.Sixteen.{Sixteen}
use Rattle.mips_isa.specs.declared.field.Target.{Target}
use Rattle.mips_isa.specs.declared.instr.Shift.{Shift}
use Rattle.mips_isa.specs.declared.instr.Shift.TheVariants as shifts
use Rattle.mips_isa.specs.declared.instr.VariableShift.{VariableShift}
use Rattle.mips_isa.specs.declared.instr.VariableShift.TheVariants as variable_shifts
use Rattle.mips_isa.specs.declared.instr.Operation.{Operation}
use Rattle.mips_isa.specs.declared.instr.Operation.TheVariants as operations
use Rattle.mips_isa.specs.declared.instr.HiLoOperation.{HiLoOperation}
use Rattle.mips_isa.specs.declared.instr.HiLoOperation.TheVariants as hilos
use Rattle.mips_isa.specs.declared.instr.MoveFrom.{MoveFrom}
use Rattle.mips_isa.specs.declared.instr.MoveFrom.TheVariants as froms
use Rattle.mips_isa.specs.declared.instr.MoveTo.{MoveTo}
use Rattle.mips_isa.specs.declared.instr.MoveTo.TheVariants as tos
use Rattle.mips_isa.specs.declared.instr.Branch.{Branch}
use Rattle.mips_isa.specs.declared.instr.Branch.TheVariants as branches
use Rattle.mips_isa.specs.declared.instr.ZeroBranch.{ZeroBranch}
use Rattle.mips_isa.specs.declared.instr.ZeroBranch.TheVariants as zero_branches
use Rattle.mips_isa.specs.declared.instr.Immediate.{Immediate}
use Rattle.mips_isa.specs.declared.instr.Immediate.TheVariants as immediates
use Rattle.mips_isa.specs.declared.instr.Load.{Load}
use Rattle.mips_isa.specs.declared.instr.Load.TheVariants as loads
use Rattle.mips_isa.specs.declared.instr.Store.{Store}
use Rattle.mips_isa.specs.declared.instr.Store.TheVariants as stores
use Rattle.mips_isa.specs.declared.instr.Instr.{Instr}
use Rattle.mips_isa.specs.declared.instr.Instr.TheVariants.{OnShift, OnVariableShift, OnRegisters, OnHiLo, ReadHiLo, WriteHiLo, Jr}
use Rattle.mips_isa.specs.declared.instr.Instr.TheVariants.{Jalr, Syscall, J, Jal, BranchIf, BranchOnZero, OnImmediate, Lui}
use Rattle.mips_isa.specs.declared.instr.Instr.TheVariants.{LoadFrom, StoreTo}
use Rattle.mips_isa.specs.Words.{word_of, shift_funct, variable_shift_funct, operation_funct, hilo_funct, from_funct, to_funct}
use Rattle.mips_isa.specs.Words.{branch_op, zero_branch_op_rt, immediate_op, load_op, store_op}

-- ---- a field is its number

abbrev register : (n : ℕ) → n < 2 ^ 5 → Register
register n h = record { number = n; in_range = h }

same_register : (a b : Register) → a.number ≡ b.number → a ≡ b
same_register a b e =
    subst (λ n. (k : n < 2 ^ 5) → a ≡ register n k) e (λ k. ap (register a.number) (le_prop a.in_range k)) b.in_range

abbrev amount : (n : ℕ) → n < 2 ^ 5 → Amount
amount n h = record { bits = n; in_range = h }

same_amount : (a b : Amount) → a.bits ≡ b.bits → a ≡ b
same_amount a b e =
    subst (λ n. (k : n < 2 ^ 5) → a ≡ amount n k) e (λ k. ap (amount a.bits) (le_prop a.in_range k)) b.in_range

abbrev sixteen : (n : ℕ) → n < 2 ^ 16 → Sixteen
sixteen n h = record { bits = n; in_range = h }

same_sixteen : (a b : Sixteen) → a.bits ≡ b.bits → a ≡ b
same_sixteen a b e =
    subst (λ n. (k : n < 2 ^ 16) → a ≡ sixteen n k) e (λ k. ap (sixteen a.bits) (le_prop a.in_range k)) b.in_range

abbrev target : (n : ℕ) → n < 2 ^ 26 → Target
target n h = record { words = n; in_range = h }

same_target : (a b : Target) → a.words ≡ b.words → a ≡ b
same_target a b e =
    subst (λ n. (k : n < 2 ^ 26) → a ≡ target n k) e (λ k. ap (target a.words) (le_prop a.in_range k)) b.in_range

abbrev link : (rd rs : Register) → rd.number ≢ rs.number → Link
link rd rs h = record { rd = rd; rs = rs; two = h }

same_link : (a b : Link) → a.rd.number ≡ b.rd.number → a.rs.number ≡ b.rs.number → a ≡ b
same_link a b e f =
    subst (λ rd. (k : rd.number ≢ b.rs.number) → a ≡ link rd b.rs k) (same_register a.rd b.rd e)
    (subst (λ rs. (k : a.rd.number ≢ rs.number) → a ≡ link a.rd rs k) (same_register a.rs b.rs f)
    (λ k. ap (link a.rd a.rs) (→_prop ⊥_prop a.two k))) b.two

-- ---- the numbers of rows

pub shift_small : (row : Shift) → shift_funct row < 64
shift_small shifts.Sll = omega arith
shift_small _ = omega arith

same_shift : (a b : Shift) → shift_funct a ≡ shift_funct b → a ≡ b
same_shift a b e = grind arith

pub variable_shift_small : (row : VariableShift) → variable_shift_funct row < 64
variable_shift_small variable_shifts.Sllv = omega arith
variable_shift_small _ = omega arith

same_variable_shift : (a b : VariableShift) → variable_shift_funct a ≡ variable_shift_funct b → a ≡ b
same_variable_shift a b e = grind arith

pub operation_small : (row : Operation) → operation_funct row < 64
operation_small operations.Add = omega arith
operation_small _ = omega arith

same_operation : (a b : Operation) → operation_funct a ≡ operation_funct b → a ≡ b
same_operation a b e = grind arith

pub hilo_small : (row : HiLoOperation) → hilo_funct row < 64
hilo_small hilos.Mult = omega arith
hilo_small _ = omega arith

same_hilo : (a b : HiLoOperation) → hilo_funct a ≡ hilo_funct b → a ≡ b
same_hilo a b e = grind arith

pub from_small : (row : MoveFrom) → from_funct row < 64
from_small froms.Mfhi = omega arith
from_small _ = omega arith

same_from : (a b : MoveFrom) → from_funct a ≡ from_funct b → a ≡ b
same_from a b e = grind arith

pub to_small : (row : MoveTo) → to_funct row < 64
to_small tos.Mthi = omega arith
to_small _ = omega arith

same_to : (a b : MoveTo) → to_funct a ≡ to_funct b → a ≡ b
same_to a b e = grind arith

pub branch_small : (row : Branch) → branch_op row < 64
branch_small branches.Beq = omega arith
branch_small _ = omega arith

same_branch : (a b : Branch) → branch_op a ≡ branch_op b → a ≡ b
same_branch a b e = grind arith

pub zero_branch_small : (row : ZeroBranch) → ((zero_branch_op_rt row).0 < 64) × ((zero_branch_op_rt row).1 < 32)
zero_branch_small zero_branches.Bltz = (omega arith, omega arith)
zero_branch_small _ = (omega arith, omega arith)

same_zero_branch : (a b : ZeroBranch) → (zero_branch_op_rt a).0 ≡ (zero_branch_op_rt b).0 →
    (zero_branch_op_rt a).1 ≡ (zero_branch_op_rt b).1 → a ≡ b
same_zero_branch a b e g = grind arith

pub immediate_small : (row : Immediate) → immediate_op row < 64
immediate_small immediates.Addi = omega arith
immediate_small _ = omega arith

same_immediate : (a b : Immediate) → immediate_op a ≡ immediate_op b → a ≡ b
same_immediate a b e = grind arith

pub load_small : (row : Load) → load_op row < 64
load_small loads.Lb = omega arith
load_small _ = omega arith

same_load : (a b : Load) → load_op a ≡ load_op b → a ≡ b
same_load a b e = grind arith

pub store_small : (row : Store) → store_op row < 64
store_small stores.Sb = omega arith
store_small _ = omega arith

same_store : (a b : Store) → store_op a ≡ store_op b → a ≡ b
same_store a b e = grind arith

-- ---- which variant has a word, by op and funct

abbrev special : ℕ → ℕ
special funct =
    if nat_lt funct 4 then 0
    else if nat_lt funct 8 then 1
    else if nat_lt 31 funct then 2
    else if nat_lt 23 funct then 3
    else if (funct == 0x10) then 4
    else if (funct == 0x12) then 4
    else if (funct == 0x11) then 5
    else if (funct == 0x13) then 5
    else if (funct == 8) then 6
    else if (funct == 9) then 7
    else 8

abbrev plain : ℕ → ℕ
plain op =
    if (op == 2) then 9
    else if (op == 3) then 10
    else if (op == 4) then 11
    else if (op == 5) then 11
    else if nat_lt op 8 then 12
    else if nat_lt op 15 then 13
    else if (op == 15) then 14
    else if nat_lt op 40 then 15
    else 16

abbrev variant : ℕ → ℕ → ℕ
variant op funct = if (op == 0) then special funct else plain op

abbrev variant_of : Instr → ℕ
variant_of (OnShift shift rd rt amount) = 0
variant_of (OnVariableShift shift rd rt rs) = 1
variant_of (OnRegisters operation rd rs rt) = 2
variant_of (OnHiLo operation rs rt) = 3
variant_of (ReadHiLo from rd) = 4
variant_of (WriteHiLo to rs) = 5
variant_of (Jr rs) = 6
variant_of (Jalr link) = 7
variant_of Syscall = 8
variant_of (J target) = 9
variant_of (Jal target) = 10
variant_of (BranchIf branch rs rt offset) = 11
variant_of (BranchOnZero branch rs offset) = 12
variant_of (OnImmediate operation rt rs number) = 13
variant_of (Lui rt number) = 14
variant_of (LoadFrom load rt rs offset) = 15
variant_of (StoreTo store rt rs offset) = 16

shift_is : (row : Shift) → variant 0 (shift_funct row) ≡ 0
shift_is shifts.Sll = refl
shift_is shifts.Srl = refl
shift_is shifts.Sra = refl

variable_shift_is : (row : VariableShift) → variant 0 (variable_shift_funct row) ≡ 1
variable_shift_is variable_shifts.Sllv = refl
variable_shift_is variable_shifts.Srlv = refl
variable_shift_is variable_shifts.Srav = refl

operation_is : (row : Operation) → variant 0 (operation_funct row) ≡ 2
operation_is operations.Add = refl
operation_is operations.Addu = refl
operation_is operations.Sub = refl
operation_is operations.Subu = refl
operation_is operations.And = refl
operation_is operations.Or = refl
operation_is operations.Xor = refl
operation_is operations.Nor = refl
operation_is operations.Slt = refl
operation_is operations.Sltu = refl

hilo_is : (row : HiLoOperation) → variant 0 (hilo_funct row) ≡ 3
hilo_is hilos.Mult = refl
hilo_is hilos.Multu = refl
hilo_is hilos.Div = refl
hilo_is hilos.Divu = refl

from_is : (row : MoveFrom) → variant 0 (from_funct row) ≡ 4
from_is froms.Mfhi = refl
from_is froms.Mflo = refl

to_is : (row : MoveTo) → variant 0 (to_funct row) ≡ 5
to_is tos.Mthi = refl
to_is tos.Mtlo = refl

branch_is : (row : Branch) → (funct : ℕ) → variant (branch_op row) funct ≡ 11
branch_is branches.Beq funct = refl
branch_is branches.Bne funct = refl

zero_branch_is : (row : ZeroBranch) → (funct : ℕ) → variant (zero_branch_op_rt row).0 funct ≡ 12
zero_branch_is zero_branches.Bltz funct = refl
zero_branch_is zero_branches.Bgez funct = refl
zero_branch_is zero_branches.Blez funct = refl
zero_branch_is zero_branches.Bgtz funct = refl

immediate_is : (row : Immediate) → (funct : ℕ) → variant (immediate_op row) funct ≡ 13
immediate_is immediates.Addi funct = refl
immediate_is immediates.Addiu funct = refl
immediate_is immediates.Slti funct = refl
immediate_is immediates.Sltiu funct = refl
immediate_is immediates.Andi funct = refl
immediate_is immediates.Ori funct = refl
immediate_is immediates.Xori funct = refl

load_is : (row : Load) → (funct : ℕ) → variant (load_op row) funct ≡ 15
load_is loads.Lb funct = refl
load_is loads.Lh funct = refl
load_is loads.Lw funct = refl
load_is loads.Lbu funct = refl
load_is loads.Lhu funct = refl

store_is : (row : Store) → (funct : ℕ) → variant (store_op row) funct ≡ 16
store_is stores.Sb funct = refl
store_is stores.Sh funct = refl
store_is stores.Sw funct = refl

variant_is : (i : Instr) → variant (word_of i / 2 ^ 26) (word_of i % 2 ^ 6) ≡ variant_of i
variant_is (OnShift shift rd rt amount) =
    let i : Instr = OnShift shift rd rt amount in
    let op : word_of i / 2 ^ 26 ≡ 0 = omega (arith, shift_small shift) in
    let funct : word_of i % 2 ^ 6 ≡ shift_funct shift = omega (arith, shift_small shift) in
    ap (λ x. variant x (word_of i % 2 ^ 6)) op ∙ ap (variant 0) funct ∙ shift_is shift
variant_is (OnVariableShift shift rd rt rs) =
    let i : Instr = OnVariableShift shift rd rt rs in
    let op : word_of i / 2 ^ 26 ≡ 0 = omega (arith, variable_shift_small shift) in
    let funct : word_of i % 2 ^ 6 ≡ variable_shift_funct shift = omega (arith, variable_shift_small shift) in
    ap (λ x. variant x (word_of i % 2 ^ 6)) op ∙ ap (variant 0) funct ∙ variable_shift_is shift
variant_is (OnRegisters operation rd rs rt) =
    let i : Instr = OnRegisters operation rd rs rt in
    let op : word_of i / 2 ^ 26 ≡ 0 = omega (arith, operation_small operation) in
    let funct : word_of i % 2 ^ 6 ≡ operation_funct operation = omega (arith, operation_small operation) in
    ap (λ x. variant x (word_of i % 2 ^ 6)) op ∙ ap (variant 0) funct ∙ operation_is operation
variant_is (OnHiLo operation rs rt) =
    let i : Instr = OnHiLo operation rs rt in
    let op : word_of i / 2 ^ 26 ≡ 0 = omega (arith, hilo_small operation) in
    let funct : word_of i % 2 ^ 6 ≡ hilo_funct operation = omega (arith, hilo_small operation) in
    ap (λ x. variant x (word_of i % 2 ^ 6)) op ∙ ap (variant 0) funct ∙ hilo_is operation
variant_is (ReadHiLo from rd) =
    let i : Instr = ReadHiLo from rd in
    let op : word_of i / 2 ^ 26 ≡ 0 = omega (arith, from_small from) in
    let funct : word_of i % 2 ^ 6 ≡ from_funct from = omega (arith, from_small from) in
    ap (λ x. variant x (word_of i % 2 ^ 6)) op ∙ ap (variant 0) funct ∙ from_is from
variant_is (WriteHiLo to rs) =
    let i : Instr = WriteHiLo to rs in
    let op : word_of i / 2 ^ 26 ≡ 0 = omega (arith, to_small to) in
    let funct : word_of i % 2 ^ 6 ≡ to_funct to = omega (arith, to_small to) in
    ap (λ x. variant x (word_of i % 2 ^ 6)) op ∙ ap (variant 0) funct ∙ to_is to
variant_is (Jr rs) =
    let i : Instr = Jr rs in
    let op : word_of i / 2 ^ 26 ≡ 0 = omega arith in
    let funct : word_of i % 2 ^ 6 ≡ 8 = omega arith in
    ap (λ x. variant x (word_of i % 2 ^ 6)) op ∙ ap (variant 0) funct ∙ refl
variant_is (Jalr link) =
    let i : Instr = Jalr link in
    let op : word_of i / 2 ^ 26 ≡ 0 = omega arith in
    let funct : word_of i % 2 ^ 6 ≡ 9 = omega arith in
    ap (λ x. variant x (word_of i % 2 ^ 6)) op ∙ ap (variant 0) funct ∙ refl
variant_is Syscall = refl
variant_is (J target) =
    let i : Instr = J target in
    let op : word_of i / 2 ^ 26 ≡ 2 = omega arith in
    ap (λ x. variant x (word_of i % 2 ^ 6)) op ∙ refl
variant_is (Jal target) =
    let i : Instr = Jal target in
    let op : word_of i / 2 ^ 26 ≡ 3 = omega arith in
    ap (λ x. variant x (word_of i % 2 ^ 6)) op ∙ refl
variant_is (BranchIf branch rs rt offset) =
    let i : Instr = BranchIf branch rs rt offset in
    let op : word_of i / 2 ^ 26 ≡ branch_op branch = omega (arith, branch_small branch) in
    ap (λ x. variant x (word_of i % 2 ^ 6)) op ∙ branch_is branch (word_of i % 2 ^ 6)
variant_is (BranchOnZero branch rs offset) =
    let i : Instr = BranchOnZero branch rs offset in
    let op : word_of i / 2 ^ 26 ≡ (zero_branch_op_rt branch).0 = omega (arith, zero_branch_small branch) in
    ap (λ x. variant x (word_of i % 2 ^ 6)) op ∙ zero_branch_is branch (word_of i % 2 ^ 6)
variant_is (OnImmediate operation rt rs number) =
    let i : Instr = OnImmediate operation rt rs number in
    let op : word_of i / 2 ^ 26 ≡ immediate_op operation = omega (arith, immediate_small operation) in
    ap (λ x. variant x (word_of i % 2 ^ 6)) op ∙ immediate_is operation (word_of i % 2 ^ 6)
variant_is (Lui rt number) =
    let i : Instr = Lui rt number in
    let op : word_of i / 2 ^ 26 ≡ 15 = omega arith in
    ap (λ x. variant x (word_of i % 2 ^ 6)) op ∙ refl
variant_is (LoadFrom load rt rs offset) =
    let i : Instr = LoadFrom load rt rs offset in
    let op : word_of i / 2 ^ 26 ≡ load_op load = omega (arith, load_small load) in
    ap (λ x. variant x (word_of i % 2 ^ 6)) op ∙ load_is load (word_of i % 2 ^ 6)
variant_is (StoreTo store rt rs offset) =
    let i : Instr = StoreTo store rt rs offset in
    let op : word_of i / 2 ^ 26 ≡ store_op store = omega (arith, store_small store) in
    ap (λ x. variant x (word_of i % 2 ^ 6)) op ∙ store_is store (word_of i % 2 ^ 6)

-- ---- an instruction is its word

pub one_word : (i j : Instr) → word_of i ≡ word_of j → i ≡ j
one_word (OnShift shift rd rt amount) (OnShift shift1 rd1 rt1 amount1) e =
    let shifts = same_shift shift shift1 (omega (arith, e, shift_small shift, shift_small shift1)) in
    let rds = same_register rd rd1 (omega (arith, e, shift_small shift, shift_small shift1)) in
    let rts = same_register rt rt1 (omega (arith, e, shift_small shift, shift_small shift1)) in
    let amounts = same_amount amount amount1 (omega (arith, e, shift_small shift, shift_small shift1)) in
    cc
one_word (OnVariableShift shift rd rt rs) (OnVariableShift shift1 rd1 rt1 rs1) e =
    let shifts = same_variable_shift shift shift1 (omega (arith, e, variable_shift_small shift, variable_shift_small shift1)) in
    let rds = same_register rd rd1 (omega (arith, e, variable_shift_small shift, variable_shift_small shift1)) in
    let rts = same_register rt rt1 (omega (arith, e, variable_shift_small shift, variable_shift_small shift1)) in
    let rss = same_register rs rs1 (omega (arith, e, variable_shift_small shift, variable_shift_small shift1)) in
    cc
one_word (OnRegisters operation rd rs rt) (OnRegisters operation1 rd1 rs1 rt1) e =
    let operations = same_operation operation operation1 (omega (arith, e, operation_small operation, operation_small operation1)) in
    let rds = same_register rd rd1 (omega (arith, e, operation_small operation, operation_small operation1)) in
    let rss = same_register rs rs1 (omega (arith, e, operation_small operation, operation_small operation1)) in
    let rts = same_register rt rt1 (omega (arith, e, operation_small operation, operation_small operation1)) in
    cc
one_word (OnHiLo operation rs rt) (OnHiLo operation1 rs1 rt1) e =
    let operations = same_hilo operation operation1 (omega (arith, e, hilo_small operation, hilo_small operation1)) in
    let rss = same_register rs rs1 (omega (arith, e, hilo_small operation, hilo_small operation1)) in
    let rts = same_register rt rt1 (omega (arith, e, hilo_small operation, hilo_small operation1)) in
    cc
one_word (ReadHiLo from rd) (ReadHiLo from1 rd1) e =
    let froms = same_from from from1 (omega (arith, e, from_small from, from_small from1)) in
    let rds = same_register rd rd1 (omega (arith, e, from_small from, from_small from1)) in
    cc
one_word (WriteHiLo to rs) (WriteHiLo to1 rs1) e =
    let tos = same_to to to1 (omega (arith, e, to_small to, to_small to1)) in
    let rss = same_register rs rs1 (omega (arith, e, to_small to, to_small to1)) in
    cc
one_word (Jr rs) (Jr rs1) e =
    let rss = same_register rs rs1 (omega (arith, e)) in
    cc
one_word (Jalr link) (Jalr link1) e =
    let links = same_link link link1 (omega (arith, e)) (omega (arith, e)) in
    cc
one_word Syscall Syscall e = refl
one_word (J target) (J target1) e =
    let targets = same_target target target1 (omega (arith, e)) in
    cc
one_word (Jal target) (Jal target1) e =
    let targets = same_target target target1 (omega (arith, e)) in
    cc
one_word (BranchIf branch rs rt offset) (BranchIf branch1 rs1 rt1 offset1) e =
    let branchs = same_branch branch branch1 (omega (arith, e, branch_small branch, branch_small branch1)) in
    let rss = same_register rs rs1 (omega (arith, e, branch_small branch, branch_small branch1)) in
    let rts = same_register rt rt1 (omega (arith, e, branch_small branch, branch_small branch1)) in
    let offsets = same_sixteen offset offset1 (omega (arith, e, branch_small branch, branch_small branch1)) in
    cc
one_word (BranchOnZero branch rs offset) (BranchOnZero branch1 rs1 offset1) e =
    let branchs = same_zero_branch branch branch1 (omega (arith, e, zero_branch_small branch, zero_branch_small branch1))
    (omega (arith, e, zero_branch_small branch, zero_branch_small branch1)) in
    let rss = same_register rs rs1 (omega (arith, e, zero_branch_small branch, zero_branch_small branch1)) in
    let offsets = same_sixteen offset offset1 (omega (arith, e, zero_branch_small branch, zero_branch_small branch1)) in
    cc
one_word (OnImmediate operation rt rs number) (OnImmediate operation1 rt1 rs1 number1) e =
    let operations = same_immediate operation operation1 (omega (arith, e, immediate_small operation, immediate_small operation1)) in
    let rts = same_register rt rt1 (omega (arith, e, immediate_small operation, immediate_small operation1)) in
    let rss = same_register rs rs1 (omega (arith, e, immediate_small operation, immediate_small operation1)) in
    let numbers = same_sixteen number number1 (omega (arith, e, immediate_small operation, immediate_small operation1)) in
    cc
one_word (Lui rt number) (Lui rt1 number1) e =
    let rts = same_register rt rt1 (omega (arith, e)) in
    let numbers = same_sixteen number number1 (omega (arith, e)) in
    cc
one_word (LoadFrom load rt rs offset) (LoadFrom load1 rt1 rs1 offset1) e =
    let loads = same_load load load1 (omega (arith, e, load_small load, load_small load1)) in
    let rts = same_register rt rt1 (omega (arith, e, load_small load, load_small load1)) in
    let rss = same_register rs rs1 (omega (arith, e, load_small load, load_small load1)) in
    let offsets = same_sixteen offset offset1 (omega (arith, e, load_small load, load_small load1)) in
    cc
one_word (StoreTo store rt rs offset) (StoreTo store1 rt1 rs1 offset1) e =
    let stores = same_store store store1 (omega (arith, e, store_small store, store_small store1)) in
    let rts = same_register rt rt1 (omega (arith, e, store_small store, store_small store1)) in
    let rss = same_register rs rs1 (omega (arith, e, store_small store, store_small store1)) in
    let offsets = same_sixteen offset offset1 (omega (arith, e, store_small store, store_small store1)) in
    cc
one_word i j e =
    let n : variant_of i ≡ variant_of j = sym (variant_is i) ∙ ap (λ w. variant (w / 2 ^ 26) (w % 2 ^ 6)) e ∙ variant_is j in
    absurd (omega (arith, n))
