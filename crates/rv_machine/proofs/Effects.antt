-- The effect of one instruction, by what it finds and what it leaves: what a code generator cites.
use Rattle.std.proofs.Common.{◌≡◌, ◌≢◌, ℕ, ◌+◌, ◌-◌, ◌*◌, ◌%◌, ◌^◌, ◌<◌, ◌≤◌, List, Some, refl, sym, ap, ◌∙◌, subst, arith, cond}
use Rattle.std.proofs.Common.{true, false, length-set, ⊎_elim}
use Rattle.std.specs.Prelude.{slice_index, slice_set, ◌==◌, nat_lt, is_some, IsSome}
use Rattle.std.proofs.lemmas.Bool.{cases_lt}
use Rattle.std.proofs.lemmas.Bool.Decides.{nat_tests}
use Rattle.std.proofs.lemmas.List.{get_or-set_same, get_or-set_other}
use Rattle.byteorder.specs.Endian.{little_bytes}
use Rattle.ec_base.specs.Bytes.{Bytes, bytes_from, with_bytes}
use Rattle.ec_target.specs.Code.{word_at}
use Rattle.ec_target.specs.Runs.{Leads}
use Rattle.ec_target.proofs.Running.{leads_first, leads_one}
use Rattle.ec_target.specs.declared.outcome.Cause.TheVariants.{Unaligned}
use Rattle.rv_isa.specs.Parts.{high_of, low_of}
use Rattle.rv_isa.specs.Words.{word_of}
use Rattle.rv_isa.specs.declared.field.Amount.{Amount}
use Rattle.rv_isa.specs.declared.field.BranchOffset.{BranchOffset}
use Rattle.rv_isa.specs.declared.field.Register.{Register}
use Rattle.rv_isa.specs.declared.field.Twelve.{Twelve}
use Rattle.rv_isa.specs.declared.field.Twenty.{Twenty}
use Rattle.rv_isa.specs.declared.instr.Branch.{Branch}
use Rattle.rv_isa.specs.declared.instr.Immediate.{Immediate}
use Rattle.rv_isa.specs.declared.instr.Immediate.TheVariants.{Addi}
use Rattle.rv_isa.specs.declared.instr.Instr.{Instr}
use Rattle.rv_isa.specs.declared.instr.Instr.TheVariants.{Lui, BranchIf, LoadFrom, StoreTo, OnImmediate, OnShift, OnRegisters, Ecall}
use Rattle.rv_isa.specs.declared.instr.Load.{Load}
use Rattle.rv_isa.specs.declared.instr.Operation.{Operation}
use Rattle.rv_isa.specs.declared.instr.Shift.{Shift}
use Rattle.rv_isa.specs.declared.instr.Store.{Store}
use Rattle.rv_isa.specs.declared.instr.Store.TheVariants.{Sw}
use Rattle.rv_machine.specs.declared.machine.RvMachine.{RvMachine}
use Rattle.rv_machine.specs.Machine.{state_of, rv_goes, rv_stops, rv_register}
use Rattle.rv_machine.specs.Step.{Next, Goes, Traps, listed, does, behind, jumps, writes, loaded, loads, stores, aligned}
use Rattle.rv_machine.specs.Values.{plus, extended, immediate_value, shift_value, operation_value, is_taken, load_size, store_size}

-- ---- what an instruction leaves

-- register r holds v, and the next instruction stands four bytes on
abbrev pub wrote : RvMachine → ℕ → ℕ → RvMachine
wrote m r v =
    record { registers = slice_set m.registers r v; pc = m.pc + 4; many = subst (λ n. 32 ≤ n) (sym (length-set m.registers r v)) m.many }

-- only the place has changed
abbrev pub moved : RvMachine → ℕ → RvMachine
moved m pc = record { registers = m.registers; pc = pc; many = m.many }

abbrev pub passed : RvMachine → RvMachine
passed m = moved m (m.pc + 4)

pub register-wrote_same : (m : RvMachine) (r v : ℕ) → 0 < r → r < 32 → rv_register (wrote m r v) r ≡ v
register-wrote_same m r v pos small =
    let many = m.many in
    let test : (r == 0) ≡ false = grind (arith, nat_tests) in
    ap (λ b. cond b 0 (slice_index (slice_set m.registers r v) r)) test ∙ get_or-set_same m.registers r v 0 (omega (arith, many, small))

pub register-wrote_other : (m : RvMachine) (r v q : ℕ) → q ≢ r → rv_register (wrote m r v) q ≡ rv_register m q
register-wrote_other m r v q ne = ap (λ x. cond (q == 0) 0 x) (get_or-set_other m.registers r q v 0 ne)

-- ---- the instructions: each stands at the machine's place in the code, and the place behind it is below 2^32

next_at : (m : RvMachine) → m.pc + 4 < 2 ^ 32 → plus m.pc 4 ≡ m.pc + 4
next_at m fits = omega arith

writes_is : (m : RvMachine) (b : Bytes) (rd : Register) (v : ℕ) → 0 < rd.number → m.pc + 4 < 2 ^ 32 →
    writes (state_of m b) rd v ≡ Goes (state_of (wrote m rd.number v) b)
writes_is m b rd v pos fits =
    let test : (rd.number == 0) ≡ false = grind (arith, nat_tests) in
    let made : List ℕ → ℕ → Next = λ registers pc. Goes (record { registers = registers; pc = pc; bytes = b }) in
    ap (λ t. made (cond t m.registers (slice_set m.registers rd.number v)) (plus m.pc 4)) test
    ∙ ap (made (slice_set m.registers rd.number v)) (next_at m fits)

aligned_is : (size at : ℕ) (next : Next) → at % size ≡ 0 → aligned size at next ≡ next
aligned_is size at next e =
    let test : (at % size == 0) ≡ true = grind (arith, nat_tests) in
    ap (λ t. cond t next (Traps Unaligned)) test

behind_is : (m : RvMachine) (b : Bytes) → m.pc + 4 < 2 ^ 32 → Goes (behind (state_of m b)) ≡ Goes (state_of (passed m) b)
behind_is m b fits = ap (λ pc. Goes (record { registers = m.registers; pc = pc; bytes = b })) (next_at m fits)

module _ (code : List ℕ) (m : RvMachine) (b : Bytes) where
  -- an instruction that writes a register
  abbrev Puts : Instr → Register → ℕ → Type 0
  Puts i rd v = word_at code m.pc ≡ Some (word_of i) → m.pc + 4 < 2 ^ 32 → 0 < rd.number → rv_goes code m b (wrote m rd.number v) b

  pub lui_goes : (rd : Register) (high : Twenty) → Puts (Lui rd high) rd (high.bits * 2 ^ 12)
  lui_goes rd high here fits pos = listed (Lui rd high) here (sym (writes_is m b rd (high.bits * 2 ^ 12) pos fits))

  pub immediate_goes : (operation : Immediate) (rd rs1 : Register) (number : Twelve) →
      Puts (OnImmediate operation rd rs1 number) rd (immediate_value operation (rv_register m rs1.number) (extended 12 number.bits))
  immediate_goes operation rd rs1 number here fits pos =
      listed (OnImmediate operation rd rs1 number) here
      (sym (writes_is m b rd (immediate_value operation (rv_register m rs1.number) (extended 12 number.bits)) pos fits))

  pub shift_goes : (shift : Shift) (rd rs1 : Register) (amount : Amount) →
      Puts (OnShift shift rd rs1 amount) rd (shift_value shift (rv_register m rs1.number) amount.bits)
  shift_goes shift rd rs1 amount here fits pos =
      listed (OnShift shift rd rs1 amount) here (sym (writes_is m b rd (shift_value shift (rv_register m rs1.number) amount.bits) pos fits))

  pub operation_goes : (operation : Operation) (rd rs1 rs2 : Register) →
      Puts (OnRegisters operation rd rs1 rs2) rd (operation_value operation (rv_register m rs1.number) (rv_register m rs2.number))
  operation_goes operation rd rs1 rs2 here fits pos =
      listed (OnRegisters operation rd rs1 rs2) here
      (sym (writes_is m b rd (operation_value operation (rv_register m rs1.number) (rv_register m rs2.number)) pos fits))

  pub load_goes : (load : Load) (rd rs1 : Register) (offset : Twelve) (at v : ℕ) →
      at ≡ plus (rv_register m rs1.number) (extended 12 offset.bits) → at % load_size load ≡ 0 → loaded load b at ≡ Some v →
      Puts (LoadFrom load rd rs1 offset) rd v
  load_goes load rd rs1 offset at v is even holds here fits pos =
      let s = state_of m b in
      let e : does (LoadFrom load rd rs1 offset) s ≡ Goes (state_of (wrote m rd.number v) b) =
      ap (λ a. aligned (load_size load) a (loads s rd (loaded load b a))) (sym is)
      ∙ aligned_is (load_size load) at (loads s rd (loaded load b at)) even ∙ ap (loads s rd) holds ∙ writes_is m b rd v pos fits in
      listed (LoadFrom load rd rs1 offset) here (sym e)

  pub store_goes : (store : Store) (rs1 rs2 : Register) (offset : Twelve) (at : ℕ) →
      at ≡ plus (rv_register m rs1.number) (extended 12 offset.bits) → at % store_size store ≡ 0 →
      IsSome (bytes_from b at (store_size store)) → word_at code m.pc ≡ Some (word_of (StoreTo store rs1 rs2 offset)) →
      m.pc + 4 < 2 ^ 32 → rv_goes code m b (passed m) (with_bytes b at (little_bytes (store_size store) (rv_register m rs2.number)))
  store_goes store rs1 rs2 offset at is even there here fits =
      let s = state_of m b in
      let size = store_size store in
      let bs = little_bytes size (rv_register m rs2.number) in
      let e : does (StoreTo store rs1 rs2 offset) s ≡ Goes (state_of (passed m) (with_bytes b at bs)) =
      ap (λ a. aligned size a (stores s a bs (is_some (bytes_from b a size)))) (sym is)
      ∙ aligned_is size at (stores s at bs (is_some (bytes_from b at size))) even
      ∙ ap (stores s at bs) there ∙ behind_is m (with_bytes b at bs) fits in
      listed (StoreTo store rs1 rs2 offset) here (sym e)

  -- a branch that is taken to a multiple of 4, and one that isn't taken
  pub branch_goes : (branch : Branch) (rs1 rs2 : Register) (offset : BranchOffset) (target : ℕ) →
      is_taken branch (rv_register m rs1.number) (rv_register m rs2.number) ≡ true → target ≡ plus m.pc (extended 13 offset.bits) →
      target % 4 ≡ 0 → word_at code m.pc ≡ Some (word_of (BranchIf branch rs1 rs2 offset)) → rv_goes code m b (moved m target) b
  branch_goes branch rs1 rs2 offset target taken is even here =
      let s = state_of m b in
      let e : does (BranchIf branch rs1 rs2 offset) s ≡ Goes (state_of (moved m target) b) =
      ap (λ t. cond t (jumps s (plus m.pc (extended 13 offset.bits))) (Goes (behind s))) taken ∙ ap (jumps s) (sym is)
      ∙ aligned_is 4 target (Goes (state_of (moved m target) b)) even in
      listed (BranchIf branch rs1 rs2 offset) here (sym e)

  pub branch_passes : (branch : Branch) (rs1 rs2 : Register) (offset : BranchOffset) →
      is_taken branch (rv_register m rs1.number) (rv_register m rs2.number) ≡ false →
      word_at code m.pc ≡ Some (word_of (BranchIf branch rs1 rs2 offset)) → m.pc + 4 < 2 ^ 32 → rv_goes code m b (passed m) b
  branch_passes branch rs1 rs2 offset no_test here fits =
      let s = state_of m b in
      let e : does (BranchIf branch rs1 rs2 offset) s ≡ Goes (state_of (passed m) b) =
      ap (λ t. cond t (jumps s (plus m.pc (extended 13 offset.bits))) (Goes (behind s))) no_test ∙ behind_is m b fits in
      listed (BranchIf branch rs1 rs2 offset) here (sym e)

  pub ecall_stops : word_at code m.pc ≡ Some (word_of Ecall) → rv_stops code m b
  ecall_stops here = listed Ecall here refl

-- ---- numbers

-- an offset that isn't negative
pub small_offset : (base offset : ℕ) → offset < 2 ^ 11 → base + offset < 2 ^ 32 → plus base (extended 12 offset) ≡ base + offset
small_offset base offset small fits =
    let test : nat_lt offset (2 ^ 11) ≡ true = grind (arith, nat_tests) in
    let sum : plus base offset ≡ base + offset = omega arith in
    ap (λ t. plus base (cond t offset (offset + (2 ^ 32 - 2 ^ 12)))) test ∙ sum

-- a number is the sum of its high and its low part
pub high_low : (v : ℕ) → v < 2 ^ 32 → plus (high_of v * 2 ^ 12) (extended 12 (low_of v)) ≡ v
high_low v h = ⊎_elim
    (λ lt. let t : nat_lt (v % 4096) (2 ^ 11) ≡ true =
    grind (arith, nat_tests) in ap (λ b. plus (high_of v * 2 ^ 12) (cond b (v % 4096) (v % 4096 + (2 ^ 32 - 2 ^ 12)))) t ∙ omega arith)
    (λ le. let t : nat_lt (v % 4096) (2 ^ 11) ≡ false =
    grind (arith, nat_tests) in ap (λ b. plus (high_of v * 2 ^ 12) (cond b (v % 4096) (v % 4096 + (2 ^ 32 - 2 ^ 12)))) t ∙ omega arith)
    (cases_lt (v % 4096) (2 ^ 11))

-- ---- a number into a word: LUI r, %hi(v); ADDI r, r, %lo(v); SW r, offset(base)

-- register r holds v, and the machine is three instructions on
abbrev pub put : RvMachine → ℕ → ℕ → RvMachine
put m r v = passed (wrote (wrote m r (high_of v * 2 ^ 12)) r v)

pub place-put : (m : RvMachine) (r v : ℕ) → (put m r v).pc ≡ m.pc + 12
place-put m r v = omega arith

pub register-put_other : (m : RvMachine) (r v q : ℕ) → q ≢ r → rv_register (put m r v) q ≡ rv_register m q
register-put_other m r v q ne =
    register-wrote_other (wrote m r (high_of v * 2 ^ 12)) r v q ne ∙ register-wrote_other m r (high_of v * 2 ^ 12) q ne

pub number_goes : (code : List ℕ) (m : RvMachine) (b : Bytes) (r base : Register) (high : Twenty) (low offset : Twelve) (v at : ℕ) →
    word_at code m.pc ≡ Some (word_of (Lui r high)) → word_at code (m.pc + 4) ≡ Some (word_of (OnImmediate Addi r r low)) →
    word_at code (m.pc + 8) ≡ Some (word_of (StoreTo Sw base r offset)) → high.bits ≡ high_of v → low.bits ≡ low_of v →
    v < 2 ^ 32 → m.pc + 12 < 2 ^ 32 → 0 < r.number → base.number ≢ r.number →
    at ≡ plus (rv_register m base.number) (extended 12 offset.bits) → at % 4 ≡ 0 → IsSome (bytes_from b at 4) →
    Leads (rv_goes code) m b 3 (put m r.number v) (with_bytes b at (little_bytes 4 v))
number_goes code m b r base high low offset v at one two three hi lo small fits pos apart is even there =
    let upper = high_of v * 2 ^ 12 in
    let m1 = wrote m r.number upper in
    let m2 = wrote m1 r.number v in
    let small_r : r.number < 32 = r.in_range in
    let first : rv_goes code m b m1 b =
    subst (λ h. rv_goes code m b (wrote m r.number (h * 2 ^ 12)) b) hi (lui_goes code m b r high one (omega arith) pos) in
    let sum : plus (rv_register m1 r.number) (extended 12 low.bits) ≡ v =
    ap (λ x. plus x (extended 12 low.bits)) (register-wrote_same m r.number upper pos small_r)
    ∙ ap (λ x. plus upper (extended 12 x)) lo ∙ high_low v small in
    let second : rv_goes code m1 b m2 b =
    subst (λ x. rv_goes code m1 b (wrote m1 r.number x) b) sum (immediate_goes code m1 b Addi r r low two (omega arith) pos) in
    let on : m.pc + 8 ≡ m2.pc = omega arith in
    let base_is : rv_register m2 base.number ≡ rv_register m base.number =
    register-wrote_other m1 r.number v base.number apart ∙ register-wrote_other m r.number upper base.number apart in
    let third : rv_goes code m2 b (passed m2) (with_bytes b at (little_bytes 4 v)) =
    subst (λ x. rv_goes code m2 b (passed m2) (with_bytes b at (little_bytes 4 x))) (register-wrote_same m1 r.number v pos small_r)
    (store_goes code m2 b Sw base r offset at (is ∙ ap (λ x. plus x (extended 12 offset.bits)) (sym base_is)) even there
    (ap (word_at code) (sym on) ∙ three) (omega arith)) in
    leads_first (rv_goes code) m b m1 b 2 (passed m2) (with_bytes b at (little_bytes 4 v)) first
    (leads_first (rv_goes code) m1 b m2 b 1 (passed m2) (with_bytes b at (little_bytes 4 v)) second
    (leads_one (rv_goes code) m2 b (passed m2) (with_bytes b at (little_bytes 4 v)) third))
