-- A RISC-V machine meets the laws of a machine.
use Rattle.std.proofs.Common.{◌≡◌, ℕ, ◌≤◌, List, length, Bool, true, false, cond, Option, Some, None, refl, sym, ap, ◌∙◌, subst, lit<}
use Rattle.std.specs.Prelude.{◌==◌, ◌*◌, ◌/◌, ◌%◌, is_some}
use Rattle.byteorder.specs.Endian.{little_bytes}
use Rattle.std.specs.Coded.{le_prop}
use Rattle.std.proofs.lemmas.Option.{same_Some}
use Rattle.ec_base.specs.Bytes.{Bytes, bytes_from}
use Rattle.ec_target.specs.Code.{word_at}
use Rattle.ec_target.specs.Runs.{AreApart, AreBases, IsOneWay}
use Rattle.ec_target.specs.declared.outcome.Cause.{Cause}
use Rattle.ec_target.specs.declared.outcome.Cause.TheVariants.{Unaligned}
use Rattle.rv_isa.specs.OneWord.{one_word}
use Rattle.rv_isa.specs.Words.{word_of}
use Rattle.rv_isa.specs.declared.field.Register.{Register}
use Rattle.rv_isa.specs.declared.instr.Instr.{Instr}
use Rattle.rv_isa.specs.declared.instr.Instr.TheVariants.{Lui, Auipc, Jal, Jalr, BranchIf, LoadFrom, StoreTo, OnImmediate, OnShift}
use Rattle.rv_isa.specs.declared.instr.Instr.TheVariants.{OnRegisters, Ecall}
use Rattle.rv_machine.specs.declared.machine.RvMachine.{RvMachine}
use Rattle.rv_machine.specs.Machine.{state_of, rv_goes, rv_stops, rv_traps}
use Rattle.rv_machine.specs.Step.{State, Next, Goes, Stops, Traps, RvStep, nowhere, unlisted, listed, does, address, read, behind}
use Rattle.rv_machine.specs.Step.{jumps, linked, loaded, loads, stores, aligned}
use Rattle.rv_machine.specs.Values.{plus, extended, is_taken, load_size, store_size}

-- ---- a step comes to one thing

pub one_next : (code : List ℕ) (s : State) (m n : Next) → RvStep code s m → RvStep code s n → m ≡ n
one_next code s m n (nowhere h e) (nowhere k f) = e ∙ sym f
one_next code s m n (nowhere h e) (unlisted w k none f) = absurd (cc)
one_next code s m n (nowhere h e) (listed i k f) = absurd (cc)
one_next code s m n (unlisted w h none e) (nowhere k f) = absurd (cc)
one_next code s m n (unlisted w h none e) (unlisted v k other f) = e ∙ sym f
one_next code s m n (unlisted w h none e) (listed i k f) = absurd (none i (same_Some (word_of i) w (sym k ∙ h)))
one_next code s m n (listed i h e) (nowhere k f) = absurd (cc)
one_next code s m n (listed i h e) (unlisted w k none f) = absurd (none i (same_Some (word_of i) w (sym h ∙ k)))
one_next code s m n (listed i h e) (listed j k f) =
    e ∙ ap (λ x. does x s) (one_word i j (same_Some (word_of i) (word_of j) (sym h ∙ k))) ∙ sym f

same_goes : (s t : State) → Goes s ≡ Goes t → s ≡ t
same_goes s t e = cc

abbrev machine : (registers : List ℕ) (pc : ℕ) → 32 ≤ length registers → RvMachine
machine registers pc h = record { registers = registers; pc = pc; many = h }

same_machine : (m n : RvMachine) → m.registers ≡ n.registers → m.pc ≡ n.pc → m ≡ n
same_machine m n e f =
    subst (λ registers. (k : 32 ≤ length registers) → m ≡ machine registers n.pc k) e
    (λ k. ap (λ pc. machine m.registers pc m.many) f ∙ ap (machine m.registers n.pc) (le_prop m.many k)) n.many

pub same_state : (m n : RvMachine) (b c : Bytes) → state_of m b ≡ state_of n c → (m ≡ n) × (b ≡ c)
same_state m n b c e = (same_machine m n (ap (λ s. s.registers) e) (ap (λ s. s.pc) e), ap (λ s. s.bytes) e)

pub rv_one_way : (code : List ℕ) → IsOneWay (rv_goes code)
rv_one_way code m b n c u d p q =
    same_state n u c d
    (same_goes (state_of n c) (state_of u d) (one_next code (state_of m b) (Goes (state_of n c)) (Goes (state_of u d)) p q))

stop_not_goes : (s : State) → Stops ≡ Goes s → ⊥
stop_not_goes s e = cc

trap_not_goes : (cause : Cause) (s : State) → Traps cause ≡ Goes s → ⊥
trap_not_goes cause s e = cc

trap_not_stop : (cause : Cause) → Traps cause ≡ Stops → ⊥
trap_not_stop cause e = cc

pub rv_apart : (code : List ℕ) → AreApart (rv_goes code) (rv_stops code) (rv_traps code)
rv_apart code = record {
  stop_stays = λ m b n c p q. stop_not_goes (state_of n c) (one_next code (state_of m b) Stops (Goes (state_of n c)) p q);
  trap_stays = λ m b trap n c p q. trap_not_goes trap.cause (state_of n c)
      (one_next code (state_of m b) (Traps trap.cause) (Goes (state_of n c)) p.0 q);
  no_stop = λ m b trap p q. trap_not_stop trap.cause (one_next code (state_of m b) (Traps trap.cause) Stops p.0 q);
}

-- ---- only ECALL is a stop

abbrev IsOn : Next → Type 0
IsOn next = Stops ≡ next → ⊥

goes_on : (s : State) → IsOn (Goes s)
goes_on s e = cc

either_on : (t : Bool) (m n : Next) → IsOn m → IsOn n → IsOn (cond t m n)
either_on true m n h k e = h e
either_on false m n h k e = k e

traps_on : (cause : Cause) → IsOn (Traps cause)
traps_on cause e = cc

aligned_on : (size at : ℕ) (next : Next) → IsOn next → IsOn (aligned size at next)
aligned_on size at next h = either_on (at % size == 0) next (Traps Unaligned) h (traps_on Unaligned)

jumps_on : (s : State) (target : ℕ) → IsOn (jumps s target)
jumps_on s target =
    let next : State = record s { pc = target } in aligned_on 4 target (Goes next) (goes_on next)

loads_on : (s : State) (rd : Register) (o : Option ℕ) → IsOn (loads s rd o)
loads_on s rd None e = cc
loads_on s rd (Some v) e = cc

stores_on : (s : State) (at : ℕ) (bs : List ℕ) (there : Bool) → IsOn (stores s at bs there)
stores_on s at bs false e = cc
stores_on s at bs true e = cc

stop_is : (i : Instr) (s : State) → Stops ≡ does i s → word_of i ≡ 0x00000073
stop_is (Lui rd high) s e = absurd (cc)
stop_is (Auipc rd high) s e = absurd (cc)
stop_is (Jal rd offset) s e = absurd (jumps_on (linked s rd) (plus s.pc (extended 21 offset.bits)) e)
stop_is (Jalr rd rs1 offset) s e = absurd (jumps_on (linked s rd) (address s rs1 offset / 2 * 2) e)
stop_is (BranchIf branch rs1 rs2 offset) s e =
    let target = plus s.pc (extended 13 offset.bits) in
    absurd (either_on (is_taken branch (read s rs1) (read s rs2)) (jumps s target) (Goes (behind s)) (jumps_on s target)
    (goes_on (behind s)) e)
stop_is (LoadFrom load rd rs1 offset) s e =
    let at = address s rs1 offset in
    let found = loaded load s.bytes at in
    absurd (aligned_on (load_size load) at (loads s rd found) (loads_on s rd found) e)
stop_is (StoreTo store rs1 rs2 offset) s e =
    let at = address s rs1 offset in
    let size = store_size store in
    let bs = little_bytes size (read s rs2) in
    let there = is_some (bytes_from s.bytes at size) in
    absurd (aligned_on size at (stores s at bs there) (stores_on s at bs there) e)
stop_is (OnImmediate operation rd rs1 number) s e = absurd (cc)
stop_is (OnShift shift rd rs1 amount) s e = absurd (cc)
stop_is (OnRegisters operation rd rs1 rs2) s e = absurd (cc)
stop_is Ecall s e = refl

pub rv_stops_at : (code : List ℕ) (m : RvMachine) (b : Bytes) → rv_stops code m b → word_at code m.pc ≡ Some 0x00000073
rv_stops_at code m b (nowhere h e) = absurd (cc)
rv_stops_at code m b (unlisted w h none e) = absurd (cc)
rv_stops_at code m b (listed i h e) = h ∙ ap Some (stop_is i (state_of m b) e)

pub rv_bases : AreBases 32 8 9
rv_bases = record { frame_there = lit< tt; own_there = lit< tt; frame_not_zero = lit< tt; own_not_zero = lit< tt; two = λ e. (cc) }
