-- No instruction has the word that every row refuses.
use Rattle.std.proofs.Common.{◌≡◌, ◌≢◌, ℕ, ◌<◌, ◌^◌, ◌/◌, arith, refl, subst, Option, Some, None, IfNone}
use Rattle.mips_isa.specs.declared.field.Amount.{Amount}
use Rattle.mips_isa.specs.declared.field.Link.{Link}
use Rattle.mips_isa.specs.declared.field.Register.{Register}
use Rattle.mips_isa.specs.declared.field.Sixteen.{Sixteen}
use Rattle.mips_isa.specs.declared.field.Target.{Target}
use Rattle.mips_isa.specs.declared.instr.Shift.{Shift}
use Rattle.mips_isa.specs.declared.instr.VariableShift.{VariableShift}
use Rattle.mips_isa.specs.declared.instr.Operation.{Operation}
use Rattle.mips_isa.specs.declared.instr.HiLoOperation.{HiLoOperation}
use Rattle.mips_isa.specs.declared.instr.MoveFrom.{MoveFrom}
use Rattle.mips_isa.specs.declared.instr.MoveTo.{MoveTo}
use Rattle.mips_isa.specs.declared.instr.Branch.{Branch}
use Rattle.mips_isa.specs.declared.instr.Branch.TheVariants as branches
use Rattle.mips_isa.specs.declared.instr.ZeroBranch.{ZeroBranch}
use Rattle.mips_isa.specs.declared.instr.ZeroBranch.TheVariants as zero_branches
use Rattle.mips_isa.specs.declared.instr.Immediate.{Immediate}
use Rattle.mips_isa.specs.declared.instr.Immediate.TheVariants as immediates
use Rattle.mips_isa.specs.declared.instr.Load.{Load}
use Rattle.mips_isa.specs.declared.instr.Load.TheVariants as loads
use Rattle.mips_isa.specs.declared.instr.Store.{Store}
use Rattle.mips_isa.specs.declared.instr.Store.TheVariants as stores
use Rattle.mips_isa.specs.declared.instr.Instr.{Instr}
use Rattle.mips_isa.specs.declared.instr.Instr.TheVariants.{OnShift, OnVariableShift, OnRegisters, OnHiLo, ReadHiLo, WriteHiLo, Jr}
use Rattle.mips_isa.specs.declared.instr.Instr.TheVariants.{Jalr, Syscall, J, Jal, BranchIf, BranchOnZero, OnImmediate, Lui}
use Rattle.mips_isa.specs.declared.instr.Instr.TheVariants.{LoadFrom, StoreTo}
use Rattle.mips_isa.specs.OneWord.{shift_small, variable_shift_small, operation_small, hilo_small, from_small, to_small}
use Rattle.mips_isa.specs.Words.{word_of, branch_op, zero_branch_op_rt, immediate_op, load_op, store_op}

-- ---- what is not there

pub if_none : (T : Type 0) (o : Option Instr) → (o ≡ None → T) → IfNone o T
if_none T None f = f refl
if_none T (Some i) f = tt

pub at_none : (T : Type 0) (o : Option Instr) → o ≡ None → IfNone o T → T
at_none T o e h = subst (λ x. IfNone x T) e h

-- ---- ops but 0

branch_some : (row : Branch) → 0 < branch_op row
branch_some branches.Beq = omega arith
branch_some _ = omega arith

zero_branch_some : (row : ZeroBranch) → 0 < (zero_branch_op_rt row).0
zero_branch_some zero_branches.Bltz = omega arith
zero_branch_some _ = omega arith

immediate_some : (row : Immediate) → 0 < immediate_op row
immediate_some immediates.Addi = omega arith
immediate_some _ = omega arith

load_some : (row : Load) → 0 < load_op row
load_some loads.Lb = omega arith
load_some _ = omega arith

store_some : (row : Store) → 0 < store_op row
store_some stores.Sb = omega arith
store_some _ = omega arith

-- ---- all rows

-- where op is 0, only the rows of op 0 may have the word
pub no_special : (w : ℕ) → w / 2 ^ 26 ≡ 0
    → ((operation : Operation) (rd : Register) (rs : Register) (rt : Register) → word_of (OnRegisters operation rd rs rt) ≢ w)
    → ((shift : Shift) (rd : Register) (rt : Register) (amount : Amount) → word_of (OnShift shift rd rt amount) ≢ w)
    → ((shift : VariableShift) (rd : Register) (rt : Register) (rs : Register) → word_of (OnVariableShift shift rd rt rs) ≢ w)
    → ((operation : HiLoOperation) (rs : Register) (rt : Register) → word_of (OnHiLo operation rs rt) ≢ w)
    → ((from : MoveFrom) (rd : Register) → word_of (ReadHiLo from rd) ≢ w)
    → ((to : MoveTo) (rs : Register) → word_of (WriteHiLo to rs) ≢ w)
    → ((rs : Register) → word_of (Jr rs) ≢ w)
    → ((link : Link) → word_of (Jalr link) ≢ w)
    → (word_of Syscall ≢ w)
    → (i : Instr) → word_of i ≢ w
no_special w op h0 h1 h2 h3 h4 h5 h6 h7 h8 (OnRegisters operation rd rs rt) e = h0 operation rd rs rt e
no_special w op h0 h1 h2 h3 h4 h5 h6 h7 h8 (OnShift shift rd rt amount) e = h1 shift rd rt amount e
no_special w op h0 h1 h2 h3 h4 h5 h6 h7 h8 (OnVariableShift shift rd rt rs) e = h2 shift rd rt rs e
no_special w op h0 h1 h2 h3 h4 h5 h6 h7 h8 (OnHiLo operation rs rt) e = h3 operation rs rt e
no_special w op h0 h1 h2 h3 h4 h5 h6 h7 h8 (ReadHiLo from rd) e = h4 from rd e
no_special w op h0 h1 h2 h3 h4 h5 h6 h7 h8 (WriteHiLo to rs) e = h5 to rs e
no_special w op h0 h1 h2 h3 h4 h5 h6 h7 h8 (Jr rs) e = h6 rs e
no_special w op h0 h1 h2 h3 h4 h5 h6 h7 h8 (Jalr link) e = h7 link e
no_special w op h0 h1 h2 h3 h4 h5 h6 h7 h8 Syscall e = h8 e
no_special w op h0 h1 h2 h3 h4 h5 h6 h7 h8 (OnImmediate operation rt rs number) e = let no : ⊥ =
    omega (arith, e, op, immediate_some operation) in no
no_special w op h0 h1 h2 h3 h4 h5 h6 h7 h8 (LoadFrom load rt rs offset) e = let no : ⊥ = omega (arith, e, op, load_some load) in no
no_special w op h0 h1 h2 h3 h4 h5 h6 h7 h8 (StoreTo store rt rs offset) e = let no : ⊥ = omega (arith, e, op, store_some store) in no
no_special w op h0 h1 h2 h3 h4 h5 h6 h7 h8 (BranchIf branch rs rt offset) e = let no : ⊥ = omega (arith, e, op, branch_some branch) in no
no_special w op h0 h1 h2 h3 h4 h5 h6 h7 h8 (BranchOnZero branch rs offset) e = let no : ⊥ =
    omega (arith, e, op, zero_branch_some branch) in no
no_special w op h0 h1 h2 h3 h4 h5 h6 h7 h8 (Lui rt number) e = let no : ⊥ = omega (arith, e, op) in no
no_special w op h0 h1 h2 h3 h4 h5 h6 h7 h8 (J target) e = let no : ⊥ = omega (arith, e, op) in no
no_special w op h0 h1 h2 h3 h4 h5 h6 h7 h8 (Jal target) e = let no : ⊥ = omega (arith, e, op) in no

-- where it isn't, only the others
pub no_other : (w : ℕ) → w / 2 ^ 26 ≢ 0
    → ((operation : Immediate) (rt : Register) (rs : Register) (number : Sixteen) → word_of (OnImmediate operation rt rs number) ≢ w)
    → ((load : Load) (rt : Register) (rs : Register) (offset : Sixteen) → word_of (LoadFrom load rt rs offset) ≢ w)
    → ((store : Store) (rt : Register) (rs : Register) (offset : Sixteen) → word_of (StoreTo store rt rs offset) ≢ w)
    → ((branch : Branch) (rs : Register) (rt : Register) (offset : Sixteen) → word_of (BranchIf branch rs rt offset) ≢ w)
    → ((branch : ZeroBranch) (rs : Register) (offset : Sixteen) → word_of (BranchOnZero branch rs offset) ≢ w)
    → ((rt : Register) (number : Sixteen) → word_of (Lui rt number) ≢ w)
    → ((target : Target) → word_of (J target) ≢ w)
    → ((target : Target) → word_of (Jal target) ≢ w)
    → (i : Instr) → word_of i ≢ w
no_other w op h0 h1 h2 h3 h4 h5 h6 h7 (OnImmediate operation rt rs number) e = h0 operation rt rs number e
no_other w op h0 h1 h2 h3 h4 h5 h6 h7 (LoadFrom load rt rs offset) e = h1 load rt rs offset e
no_other w op h0 h1 h2 h3 h4 h5 h6 h7 (StoreTo store rt rs offset) e = h2 store rt rs offset e
no_other w op h0 h1 h2 h3 h4 h5 h6 h7 (BranchIf branch rs rt offset) e = h3 branch rs rt offset e
no_other w op h0 h1 h2 h3 h4 h5 h6 h7 (BranchOnZero branch rs offset) e = h4 branch rs offset e
no_other w op h0 h1 h2 h3 h4 h5 h6 h7 (Lui rt number) e = h5 rt number e
no_other w op h0 h1 h2 h3 h4 h5 h6 h7 (J target) e = h6 target e
no_other w op h0 h1 h2 h3 h4 h5 h6 h7 (Jal target) e = h7 target e
no_other w op h0 h1 h2 h3 h4 h5 h6 h7 (OnRegisters operation rd rs rt) e = let no : ⊥ =
    omega (arith, e, op, operation_small operation) in no
no_other w op h0 h1 h2 h3 h4 h5 h6 h7 (OnShift shift rd rt amount) e = let no : ⊥ = omega (arith, e, op, shift_small shift) in no
no_other w op h0 h1 h2 h3 h4 h5 h6 h7 (OnVariableShift shift rd rt rs) e = let no : ⊥ =
    omega (arith, e, op, variable_shift_small shift) in no
no_other w op h0 h1 h2 h3 h4 h5 h6 h7 (OnHiLo operation rs rt) e = let no : ⊥ = omega (arith, e, op, hilo_small operation) in no
no_other w op h0 h1 h2 h3 h4 h5 h6 h7 (ReadHiLo from rd) e = let no : ⊥ = omega (arith, e, op, from_small from) in no
no_other w op h0 h1 h2 h3 h4 h5 h6 h7 (WriteHiLo to rs) e = let no : ⊥ = omega (arith, e, op, to_small to) in no
no_other w op h0 h1 h2 h3 h4 h5 h6 h7 (Jr rs) e = let no : ⊥ = omega (arith, e, op) in no
no_other w op h0 h1 h2 h3 h4 h5 h6 h7 (Jalr link) e = let no : ⊥ = omega (arith, e, op) in no
no_other w op h0 h1 h2 h3 h4 h5 h6 h7 Syscall e = let no : ⊥ = omega (arith, e, op) in no
