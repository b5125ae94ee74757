-- The effect of one instruction, with the no-ops that it asks for behind it: from rest to rest, by what it finds and what it leaves.
-- A code generator cites these.
use Rattle.std.proofs.Common.{◌≡◌, ◌≢◌, ℕ, zero, suc, ◌+◌, ◌-◌, ◌*◌, ◌/◌, ◌%◌, ◌^◌, ◌<◌, ◌≤◌, List, Some, refl, sym, ap, ◌∙◌, subst, arith}
use Rattle.std.proofs.Common.{cond}
use Rattle.std.proofs.Common.{true, false, length-set, ⊎_elim, lit<}
use Rattle.std.specs.Prelude.{slice_index, slice_set, ◌==◌, ◌&&◌, ◌||◌, not, nat_lt, is_some, IsSome}
use Rattle.std.proofs.lemmas.Bool.{cases_lt}
use Rattle.std.proofs.lemmas.Bool.Decides.{nat_tests}
use Rattle.std.proofs.lemmas.List.{get_or-set_same, get_or-set_other}
use Rattle.byteorder.specs.Endian.{big_bytes}
use Rattle.ec_base.specs.Bytes.{Bytes, bytes_from, with_bytes}
use Rattle.ec_target.specs.Code.{pc_of, word_at}
use Rattle.ec_target.specs.Paths.{Climbs}
use Rattle.ec_target.proofs.Climbing.{climbs_first, climbs_none, climbs_two}
use Rattle.ec_target.specs.declared.outcome.Cause.TheVariants.{Unaligned, Overflow, LoadDelay, Divide}
use Rattle.mips_isa.specs.Parts.{high_of, low_of}
use Rattle.mips_isa.specs.Words.{word_of}
use Rattle.mips_isa.specs.declared.field.Amount.{Amount}
use Rattle.mips_isa.specs.declared.field.Register.{Register}
use Rattle.mips_isa.specs.declared.field.Sixteen.{Sixteen}
use Rattle.mips_isa.specs.declared.field.Target.{Target}
use Rattle.mips_isa.specs.declared.instr.Branch.{Branch}
use Rattle.mips_isa.specs.declared.instr.HiLoOperation.{HiLoOperation}
use Rattle.mips_isa.specs.declared.instr.Immediate.{Immediate}
use Rattle.mips_isa.specs.declared.instr.Instr.{Instr}
use Rattle.mips_isa.specs.declared.instr.Instr.TheVariants.{OnShift, OnVariableShift, OnRegisters, OnHiLo, ReadHiLo, Syscall, J, BranchIf}
use Rattle.mips_isa.specs.declared.instr.Instr.TheVariants.{BranchOnZero, OnImmediate, Lui, LoadFrom, StoreTo}
use Rattle.mips_isa.specs.declared.instr.Load.{Load}
use Rattle.mips_isa.specs.declared.instr.MoveFrom.{MoveFrom}
use Rattle.mips_isa.specs.declared.instr.Operation.{Operation}
use Rattle.mips_isa.specs.declared.instr.Shift.{Shift}
use Rattle.mips_isa.specs.declared.instr.Shift.TheVariants.{Sll}
use Rattle.mips_isa.specs.declared.instr.Store.{Store}
use Rattle.mips_isa.specs.declared.instr.VariableShift.{VariableShift}
use Rattle.mips_isa.specs.declared.instr.ZeroBranch.{ZeroBranch}
use Rattle.mips_machine.specs.declared.flow.Flow.{Flow}
use Rattle.mips_machine.specs.declared.flow.Since.TheVariants.{JustNow, OneAgo, LongAgo}
use Rattle.mips_machine.specs.declared.machine.MipsMachine.{MipsMachine}
use Rattle.mips_machine.specs.Hazards.{touches}
use Rattle.mips_machine.specs.Machine.{data_of, state_of, mips_goes, mips_place, mips_stops, mips_register, mips_rests}
use Rattle.mips_machine.specs.Step.{Data, State, Next, Goes, Traps, Effect, Done, Fails, aligned, branch_target, checked, comes_to, hilo_of}
use Rattle.mips_machine.specs.Step.{later, listed, loaded, loaded_to, performs, register_of, resting, stored, written}
use Rattle.mips_machine.specs.Values.{plus, extended, hi_value, immediate_number, immediate_overflows, immediate_value, is_taken}
use Rattle.mips_machine.specs.Values.{is_undefined, is_zero_taken, lo_value, load_size, operation_overflows, operation_value}
use Rattle.mips_machine.specs.Values.{shift_value, store_size, variable_shift_value}

-- ---- what an instruction leaves

-- register r holds v, and the machine rests at a place
abbrev pub wrote : MipsMachine → ℕ → ℕ → ℕ → MipsMachine
wrote m r v pc = record {
  registers = slice_set m.registers r v;
  hi = m.hi;
  lo = m.lo;
  flow = resting pc;
  many = subst (λ n. 32 ≤ n) (sym (length-set m.registers r v)) m.many;
}

-- the machine rests at a place, and nothing else has changed
abbrev pub moved : MipsMachine → ℕ → MipsMachine
moved m pc = record { registers = m.registers; hi = m.hi; lo = m.lo; flow = resting pc; many = m.many }

-- HI and LO hold these, and it rests at a place
abbrev pub reckoned : MipsMachine → ℕ → ℕ → ℕ → MipsMachine
reckoned m hi lo pc = record { registers = m.registers; hi = hi; lo = lo; flow = resting pc; many = m.many }

-- the machine is at a place, where something is pending
abbrev pub flowing : MipsMachine → Flow → MipsMachine
flowing m flow = record { registers = m.registers; hi = m.hi; lo = m.lo; flow = flow; many = m.many }

pub register-wrote_same : (m : MipsMachine) (r v pc : ℕ) → 0 < r → r < 32 → mips_register (wrote m r v pc) r ≡ v
register-wrote_same m r v pc pos small =
    let many = m.many in
    let test : (r == 0) ≡ false = grind (arith, nat_tests) in
    ap (λ b. cond b 0 (slice_index (slice_set m.registers r v) r)) test ∙ get_or-set_same m.registers r v 0 (omega (arith, many, small))

pub register-wrote_other : (m : MipsMachine) (r v pc q : ℕ) → q ≢ r → mips_register (wrote m r v pc) q ≡ mips_register m q
register-wrote_other m r v pc q ne = ap (λ x. cond (q == 0) 0 x) (get_or-set_other m.registers r q v 0 ne)

-- ---- an instruction of a machine at rest, which nothing before holds up

abbrev at_rest : Data → ℕ → State
at_rest d pc = record { held = d; flow = resting pc }

next_at : (pc : ℕ) → pc + 4 < 2 ^ 32 → plus pc 4 ≡ pc + 4
next_at pc fits = omega arith

goes_by : (code : List ℕ) (m n : MipsMachine) (b c : Bytes) (i : Instr) → mips_rests m → word_at code m.flow.pc ≡ Some (word_of i) →
    performs i (at_rest (data_of m b) m.flow.pc) ≡ Goes (state_of n c) → mips_goes code m b n c
goes_by code m n b c i rest here e = listed i here (sym (ap (λ f. performs i (record { held = data_of m b; flow = f })) rest ∙ e))

rests_at : (d : Data) (pc : ℕ) → pc + 4 < 2 ^ 32 → Goes (at_rest d (plus pc 4)) ≡ Goes (at_rest d (pc + 4))
rests_at d pc fits = ap (λ p. Goes (at_rest d p)) (next_at pc fits)

-- what it writes into a register
writes_is : (m : MipsMachine) (b : Bytes) (rd : Register) (v : ℕ) → 0 < rd.number → m.flow.pc + 4 < 2 ^ 32 →
    Goes (record {
      held = record (data_of m b) { registers = cond (rd.number == 0) m.registers (slice_set m.registers rd.number v) };
      flow = resting (plus m.flow.pc 4);
    }) ≡ Goes (state_of (wrote m rd.number v (m.flow.pc + 4)) b)
writes_is m b rd v pos fits =
    let test : (rd.number == 0) ≡ false = grind (arith, nat_tests) in
    ap (λ t. Goes (at_rest (record (data_of m b) { registers = cond t m.registers (slice_set m.registers rd.number v) })
    (plus m.flow.pc 4))) test
    ∙ rests_at (record (data_of m b) { registers = slice_set m.registers rd.number v }) m.flow.pc fits

aligned_is : (size at : ℕ) (e : Effect) → at % size ≡ 0 → aligned size at e ≡ e
aligned_is size at e h =
    let test : (at % size == 0) ≡ true = grind (arith, nat_tests) in
    ap (λ t. cond t e (Fails Unaligned)) test

module _ (code : List ℕ) (m : MipsMachine) (b : Bytes) (rest : mips_rests m) where
  -- an instruction that writes a register
  abbrev Puts : Instr → Register → ℕ → Type 0
  Puts i rd v =
      word_at code m.flow.pc ≡ Some (word_of i) → m.flow.pc + 4 < 2 ^ 32 → 0 < rd.number →
      mips_goes code m b (wrote m rd.number v (m.flow.pc + 4)) b

  pub lui_goes : (rt : Register) (number : Sixteen) → Puts (Lui rt number) rt (number.bits * 2 ^ 16)
  lui_goes rt number here fits pos =
      goes_by code m (wrote m rt.number (number.bits * 2 ^ 16) (m.flow.pc + 4)) b b (Lui rt number) rest here
      (writes_is m b rt (number.bits * 2 ^ 16) pos fits)

  pub shift_goes : (shift : Shift) (rd rt : Register) (amount : Amount) →
      Puts (OnShift shift rd rt amount) rd (shift_value shift (mips_register m rt.number) amount.bits)
  shift_goes shift rd rt amount here fits pos =
      let i = OnShift shift rd rt amount in
      let v = shift_value shift (mips_register m rt.number) amount.bits in
      goes_by code m (wrote m rd.number v (m.flow.pc + 4)) b b i rest here (writes_is m b rd v pos fits)

  pub operation_goes : (operation : Operation) (rd rs rt : Register) →
      operation_overflows operation (mips_register m rs.number) (mips_register m rt.number) ≡ false →
      Puts (OnRegisters operation rd rs rt) rd (operation_value operation (mips_register m rs.number) (mips_register m rt.number))
  operation_goes operation rd rs rt within here fits pos =
      let i = OnRegisters operation rd rs rt in
      let v = operation_value operation (mips_register m rs.number) (mips_register m rt.number) in
      let s = at_rest (data_of m b) m.flow.pc in
      goes_by code m (wrote m rd.number v (m.flow.pc + 4)) b b i rest here
      (ap (λ t. comes_to i s (cond t (Fails Overflow) (written (data_of m b) rd v))) within ∙ writes_is m b rd v pos fits)

  pub immediate_goes : (operation : Immediate) (rt rs : Register) (number : Sixteen) →
      immediate_overflows operation (mips_register m rs.number) (immediate_number operation number.bits) ≡ false →
      Puts (OnImmediate operation rt rs number) rt
      (immediate_value operation (mips_register m rs.number) (immediate_number operation number.bits))
  immediate_goes operation rt rs number within here fits pos =
      let i = OnImmediate operation rt rs number in
      let v = immediate_value operation (mips_register m rs.number) (immediate_number operation number.bits) in
      let s = at_rest (data_of m b) m.flow.pc in
      goes_by code m (wrote m rt.number v (m.flow.pc + 4)) b b i rest here
      (ap (λ t. comes_to i s (cond t (Fails Overflow) (written (data_of m b) rt v))) within ∙ writes_is m b rt v pos fits)

  pub store_goes : (store : Store) (rt rs : Register) (offset : Sixteen) (at : ℕ) →
      at ≡ plus (mips_register m rs.number) (extended 16 offset.bits) → at % store_size store ≡ 0 →
      IsSome (bytes_from b at (store_size store)) → word_at code m.flow.pc ≡ Some (word_of (StoreTo store rt rs offset)) →
      m.flow.pc + 4 < 2 ^ 32 →
      mips_goes code m b (moved m (m.flow.pc + 4)) (with_bytes b at (big_bytes (store_size store) (mips_register m rt.number)))
  store_goes store rt rs offset at is even there here fits =
      let i = StoreTo store rt rs offset in
      let d = data_of m b in
      let s = at_rest d m.flow.pc in
      let size = store_size store in
      let bs = big_bytes size (mips_register m rt.number) in
      goes_by code m (moved m (m.flow.pc + 4)) b (with_bytes b at bs) i rest here
      (ap (λ a. comes_to i s (aligned size a (stored d a bs (is_some (bytes_from b a size))))) (sym is)
      ∙ ap (comes_to i s) (aligned_is size at (stored d at bs (is_some (bytes_from b at size))) even)
      ∙ ap (λ t. comes_to i s (stored d at bs t)) there
      ∙ rests_at (data_of m (with_bytes b at bs)) m.flow.pc fits)

  pub syscall_stops : word_at code m.flow.pc ≡ Some (word_of Syscall) → mips_stops code m b
  syscall_stops here = listed Syscall here (sym (ap (λ f. performs Syscall (record { held = data_of m b; flow = f })) rest))

-- ---- no-ops: the word 0 is SLL $0, $0, 0

abbrev zero_register : Register
zero_register = record { number = 0; in_range = lit< tt }

abbrev no_op : Instr
no_op = OnShift Sll zero_register zero_register (record { bits = 0; in_range = lit< tt })

no_touch : (r : ℕ) → touches no_op r ≡ false
no_touch zero = refl
no_touch (suc r) = grind (arith, nat_tests)

-- whatever is pending, it passes on to the next place
no_op_goes : (code : List ℕ) (m : MipsMachine) (b : Bytes) (f : Flow) → word_at code f.pc ≡ Some 0 →
    mips_goes code (flowing m f) b
    (flowing m (record { pc = f.next; next = plus f.next 4; delayed = false; loaded = 0; since = later f.since })) b
no_op_goes code m b f here =
    let s = state_of (flowing m f) b in
    let past : Next = Goes (state_of (flowing m (record {
      pc = f.next;
      next = plus f.next 4;
      delayed = false;
      loaded = 0;
      since = later f.since;
    })) b) in
    listed no_op here (sym (ap (λ t. cond t (Traps LoadDelay) past) (no_touch f.loaded)))

-- behind a load of register r, behind a jump to a place, and behind a read of HI or LO
abbrev loading : ℕ → ℕ → Flow
loading pc r = record { pc = pc; next = plus pc 4; delayed = false; loaded = r; since = LongAgo }

abbrev jumping : ℕ → ℕ → Flow
jumping pc to = record { pc = pc; next = to; delayed = true; loaded = 0; since = LongAgo }

abbrev reading : ℕ → Flow
reading pc = record { pc = pc; next = plus pc 4; delayed = false; loaded = 0; since = JustNow }

abbrev having_read : ℕ → Flow
having_read pc = record { pc = pc; next = plus pc 4; delayed = false; loaded = 0; since = OneAgo }

-- where the flow alone is given in other words
at_flow : (code : List ℕ) (m n : MipsMachine) (b c : Bytes) (f g : Flow) → f ≡ g → mips_goes code m b (flowing n f) c →
    mips_goes code m b (flowing n g) c
at_flow code m n b c f g e st = subst (λ x. mips_goes code m b (flowing n x) c) e st

module _ (code : List ℕ) (m : MipsMachine) (b : Bytes) (rest : mips_rests m) where
  two_on : m.flow.pc + 8 < 2 ^ 32 → plus (m.flow.pc + 4) 4 ≡ m.flow.pc + 8
  two_on fits = omega arith

  -- through words of code from word i on
  abbrev Comes : (i size : ℕ) → MipsMachine → Type 0
  Comes i size n = Climbs (mips_goes code) mips_place m b i (i + size) n b

  pub load_climbs : (i : ℕ) → m.flow.pc ≡ pc_of i → (load : Load) (rt rs : Register) (offset : Sixteen) (at v : ℕ) →
      at ≡ plus (mips_register m rs.number) (extended 16 offset.bits) → at % load_size load ≡ 0 → loaded load b at ≡ Some v →
      word_at code m.flow.pc ≡ Some (word_of (LoadFrom load rt rs offset)) → word_at code (m.flow.pc + 4) ≡ Some 0 →
      m.flow.pc + 8 < 2 ^ 32 → 0 < rt.number → Comes i 2 (wrote m rt.number v (m.flow.pc + 8))
  load_climbs k start load rt rs offset at v is even holds here behind fits pos =
      let i = LoadFrom load rt rs offset in
      let d = data_of m b in
      let pc = m.flow.pc in
      let s = at_rest d pc in
      let n = wrote m rt.number v (pc + 8) in
      let test : (rt.number == 0) ≡ false = grind (arith, nat_tests) in
      let first : mips_goes code m b (flowing n (loading (pc + 4) rt.number)) b =
      goes_by code m (flowing n (loading (pc + 4) rt.number)) b b i rest here
      (ap (λ a. comes_to i s (aligned (load_size load) a (loaded_to d rt (loaded load b a)))) (sym is)
      ∙ ap (comes_to i s) (aligned_is (load_size load) at (loaded_to d rt (loaded load b at)) even)
      ∙ ap (λ o. comes_to i s (loaded_to d rt o)) holds
      ∙ ap (λ t. Goes (record {
        held = record d { registers = cond t m.registers (slice_set m.registers rt.number v) };
        flow = loading (plus pc 4) rt.number;
      })) test
      ∙ ap (λ p. Goes (record {
        held = record d { registers = slice_set m.registers rt.number v };
        flow = loading p rt.number;
      })) (next_at pc (omega (arith, fits)))) in
      climbs_two (mips_goes code) mips_place k m b (flowing n (loading (pc + 4) rt.number)) b n b start first (omega (arith, start))
      (at_flow code (flowing n (loading (pc + 4) rt.number)) n b b (resting (plus (pc + 4) 4)) (resting (pc + 8))
      (ap resting (two_on fits)) (no_op_goes code n b (loading (pc + 4) rt.number) behind))

  -- a jump and the no-op in its slot
  slot_climbs : (i : ℕ) → m.flow.pc ≡ pc_of i → (to : ℕ) → mips_goes code m b (flowing m (jumping (m.flow.pc + 4) to)) b →
      word_at code (m.flow.pc + 4) ≡ Some 0 → Comes i 2 (moved m to)
  slot_climbs i start to first behind =
      let u = flowing m (jumping (m.flow.pc + 4) to) in
      climbs_two (mips_goes code) mips_place i m b u b (moved m to) b start first (omega (arith, start))
      (no_op_goes code m b (jumping (m.flow.pc + 4) to) behind)

  jumps_by : (i : Instr) (on to : ℕ) →
      performs i (at_rest (data_of m b) m.flow.pc) ≡
      Goes (record { held = data_of m b; flow = jumping (plus m.flow.pc 4) on }) → on ≡ to → m.flow.pc + 4 < 2 ^ 32 →
      word_at code m.flow.pc ≡ Some (word_of i) → mips_goes code m b (flowing m (jumping (m.flow.pc + 4) to)) b
  jumps_by i on to e is fits here =
      goes_by code m (flowing m (jumping (m.flow.pc + 4) to)) b b i rest here
      (e ∙ ap (λ p. Goes (record { held = data_of m b; flow = jumping p on })) (next_at m.flow.pc fits)
      ∙ ap (λ t. Goes (record { held = data_of m b; flow = jumping (m.flow.pc + 4) t })) is)

  pub jump_climbs : (i : ℕ) → m.flow.pc ≡ pc_of i → (target : Target) (to : ℕ) → plus m.flow.pc 4 / 2 ^ 28 * 2 ^ 28 + 4 * target.words ≡ to →
      word_at code m.flow.pc ≡ Some (word_of (J target)) → word_at code (m.flow.pc + 4) ≡ Some 0 → m.flow.pc + 4 < 2 ^ 32 →
      Comes i 2 (moved m to)
  jump_climbs i start target to is here behind fits =
      slot_climbs i start to (jumps_by (J target) (plus m.flow.pc 4 / 2 ^ 28 * 2 ^ 28 + 4 * target.words) to refl is fits here) behind

  -- a branch leads to its target where it is taken, and behind its slot where it isn't
  pub branch_climbs : (i : ℕ) → m.flow.pc ≡ pc_of i → (branch : Branch) (rs rt : Register) (offset : Sixteen) (to : ℕ) →
      cond (is_taken branch (mips_register m rs.number) (mips_register m rt.number)) (branch_target m.flow.pc offset)
      (plus (plus m.flow.pc 4) 4) ≡ to → word_at code m.flow.pc ≡ Some (word_of (BranchIf branch rs rt offset)) →
      word_at code (m.flow.pc + 4) ≡ Some 0 → m.flow.pc + 4 < 2 ^ 32 → Comes i 2 (moved m to)
  branch_climbs i start branch rs rt offset to is here behind fits =
      slot_climbs i start to (jumps_by (BranchIf branch rs rt offset)
      (cond (is_taken branch (mips_register m rs.number) (mips_register m rt.number)) (branch_target m.flow.pc offset)
      (plus (plus m.flow.pc 4) 4)) to refl is fits here) behind

  pub zero_branch_climbs : (i : ℕ) → m.flow.pc ≡ pc_of i → (branch : ZeroBranch) (rs : Register) (offset : Sixteen) (to : ℕ) →
      cond (is_zero_taken branch (mips_register m rs.number)) (branch_target m.flow.pc offset) (plus (plus m.flow.pc 4) 4) ≡ to →
      word_at code m.flow.pc ≡ Some (word_of (BranchOnZero branch rs offset)) → word_at code (m.flow.pc + 4) ≡ Some 0 →
      m.flow.pc + 4 < 2 ^ 32 → Comes i 2 (moved m to)
  zero_branch_climbs i start branch rs offset to is here behind fits =
      slot_climbs i start to (jumps_by (BranchOnZero branch rs offset)
      (cond (is_zero_taken branch (mips_register m rs.number)) (branch_target m.flow.pc offset) (plus (plus m.flow.pc 4) 4)) to refl
      is fits here) behind

  pub hilo_goes : (operation : HiLoOperation) (rs rt : Register) →
      is_undefined operation (mips_register m rs.number) (mips_register m rt.number) ≡ false →
      word_at code m.flow.pc ≡ Some (word_of (OnHiLo operation rs rt)) → m.flow.pc + 4 < 2 ^ 32 →
      mips_goes code m b
      (reckoned m (hi_value operation (mips_register m rs.number) (mips_register m rt.number))
      (lo_value operation (mips_register m rs.number) (mips_register m rt.number)) (m.flow.pc + 4)) b
  hilo_goes operation rs rt defined here fits =
      let i = OnHiLo operation rs rt in
      let d = data_of m b in
      let x = mips_register m rs.number in
      let y = mips_register m rt.number in
      let held : Data = record d { hi = hi_value operation x y; lo = lo_value operation x y } in
      goes_by code m (reckoned m (hi_value operation x y) (lo_value operation x y) (m.flow.pc + 4)) b b i rest here
      (ap (λ t. comes_to i (at_rest d m.flow.pc) (cond t (Fails Divide) (Done held))) defined ∙ rests_at held m.flow.pc fits)

  -- HI or LO into a register, and two no-ops
  pub read_climbs : (i : ℕ) → m.flow.pc ≡ pc_of i → (from : MoveFrom) (rd : Register) → word_at code m.flow.pc ≡ Some (word_of (ReadHiLo from rd)) →
      word_at code (m.flow.pc + 4) ≡ Some 0 → word_at code (m.flow.pc + 8) ≡ Some 0 → m.flow.pc + 12 < 2 ^ 32 → 0 < rd.number →
      Comes i 3 (wrote m rd.number (hilo_of from (data_of m b)) (m.flow.pc + 12))
  read_climbs k start from rd here behind last fits pos =
      let i = ReadHiLo from rd in
      let d = data_of m b in
      let pc = m.flow.pc in
      let v = hilo_of from d in
      let n = wrote m rd.number v (pc + 12) in
      let one = flowing n (reading (pc + 4)) in
      let two = flowing n (having_read (pc + 8)) in
      let test : (rd.number == 0) ≡ false = grind (arith, nat_tests) in
      let far : plus (pc + 8) 4 ≡ pc + 12 = omega (arith, fits) in
      let first : mips_goes code m b one b =
      goes_by code m one b b i rest here
      (ap (λ t. Goes (record {
        held = record d { registers = cond t m.registers (slice_set m.registers rd.number v) };
        flow = reading (plus pc 4);
      })) test
      ∙ ap (λ p. Goes (record { held = record d { registers = slice_set m.registers rd.number v }; flow = reading p }))
      (next_at pc (omega (arith, fits)))) in
      let second : mips_goes code one b two b =
      at_flow code one n b b (having_read (plus (pc + 4) 4)) (having_read (pc + 8)) (ap having_read (two_on (omega (arith, fits))))
      (no_op_goes code n b (reading (pc + 4)) behind) in
      let third : mips_goes code two b n b =
      at_flow code two n b b (resting (plus (pc + 8) 4)) (resting (pc + 12)) (ap resting far)
      (no_op_goes code n b (having_read (pc + 8)) last) in
      climbs_first (mips_goes code) mips_place k (k + 3) m b one b n b start (omega arith) first
      (climbs_first (mips_goes code) mips_place (k + 1) (k + 3) one b two b n b (omega (arith, start)) (omega arith) second
      (climbs_first (mips_goes code) mips_place (k + 1 + 1) (k + 3) two b n b n b (omega (arith, start)) (omega arith) third
      (climbs_none (mips_goes code) mips_place n b (k + 1 + 1 + 1) (k + 3) (omega arith))))

-- ---- numbers

-- an offset that isn't negative
pub small_offset : (base offset : ℕ) → offset < 2 ^ 15 → base + offset < 2 ^ 32 → plus base (extended 16 offset) ≡ base + offset
small_offset base offset small fits =
    let test : nat_lt offset (2 ^ 15) ≡ true = grind (arith, nat_tests) in
    let sum : plus base offset ≡ base + offset = omega arith in
    ap (λ t. plus base (cond t offset (offset + (2 ^ 32 - 2 ^ 16)))) test ∙ sum

-- a number is the sum of its high and its low part
pub high_low : (v : ℕ) → v < 2 ^ 32 → plus (high_of v * 2 ^ 16) (extended 16 (low_of v)) ≡ v
high_low v h = ⊎_elim
    (λ lt. let t : nat_lt (v % 65536) (2 ^ 15) ≡ true =
    grind (arith, nat_tests) in ap (λ b. plus (high_of v * 2 ^ 16) (cond b (v % 65536) (v % 65536 + (2 ^ 32 - 2 ^ 16)))) t ∙ omega arith)
    (λ le. let t : nat_lt (v % 65536) (2 ^ 15) ≡ false =
    grind (arith, nat_tests) in ap (λ b. plus (high_of v * 2 ^ 16) (cond b (v % 65536) (v % 65536 + (2 ^ 32 - 2 ^ 16)))) t ∙ omega arith)
    (cases_lt (v % 65536) (2 ^ 15))
