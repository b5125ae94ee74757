-- A MIPS machine meets the laws of a machine.
use Rattle.std.proofs.Common.{◌≡◌, ℕ, ◌≤◌, List, length, Bool, true, false, cond, Option, Some, None, refl, sym, ap, ◌∙◌, subst, lit<}
use Rattle.std.specs.Prelude.{◌&&◌}
use Rattle.std.specs.Coded.{le_prop}
use Rattle.std.proofs.lemmas.Option.{same_Some}
use Rattle.ec_base.specs.Bytes.{Bytes}
use Rattle.ec_target.specs.Code.{word_at}
use Rattle.ec_target.specs.Runs.{AreApart, AreBases, IsOneWay}
use Rattle.ec_target.specs.declared.outcome.Cause.{Cause}
use Rattle.ec_target.specs.declared.outcome.Cause.TheVariants.{HiLo, LoadDelay, Slot}
use Rattle.mips_isa.specs.OneWord.{one_word}
use Rattle.mips_isa.specs.Words.{word_of}
use Rattle.mips_isa.specs.declared.instr.Instr.{Instr}
use Rattle.mips_isa.specs.declared.instr.Instr.TheVariants.{Syscall}
use Rattle.mips_machine.specs.declared.flow.Flow.{Flow}
use Rattle.mips_machine.specs.declared.machine.MipsMachine.{MipsMachine}
use Rattle.mips_machine.specs.Hazards.{is_jump, is_stop, sets_hilo, touches}
use Rattle.mips_machine.specs.Machine.{state_of, mips_goes, mips_place, mips_stops, mips_traps}
use Rattle.mips_machine.specs.Step.{State, Next, Goes, Stops, Traps, Effect, Done, Fails, MipsStep, nowhere, unlisted, listed}
use Rattle.mips_machine.specs.Step.{comes_to, does, effect, is_recent, performs}

-- ---- a step comes to one thing

pub one_next : (code : List ℕ) (s : State) (m n : Next) → MipsStep code s m → MipsStep code s n → m ≡ n
one_next code s m n (nowhere h e) (nowhere k f) = e ∙ sym f
one_next code s m n (nowhere h e) (unlisted w k none f) = absurd (cc)
one_next code s m n (nowhere h e) (listed i k f) = absurd (cc)
one_next code s m n (unlisted w h none e) (nowhere k f) = absurd (cc)
one_next code s m n (unlisted w h none e) (unlisted v k other f) = e ∙ sym f
one_next code s m n (unlisted w h none e) (listed i k f) = absurd (none i (same_Some (word_of i) w (sym k ∙ h)))
one_next code s m n (listed i h e) (nowhere k f) = absurd (cc)
one_next code s m n (listed i h e) (unlisted w k none f) = absurd (none i (same_Some (word_of i) w (sym h ∙ k)))
one_next code s m n (listed i h e) (listed j k f) =
    e ∙ ap (λ x. performs x s) (one_word i j (same_Some (word_of i) (word_of j) (sym h ∙ k))) ∙ sym f

same_goes : (s t : State) → Goes s ≡ Goes t → s ≡ t
same_goes s t e = cc

abbrev machine : (registers : List ℕ) (hi lo : ℕ) (flow : Flow) → 32 ≤ length registers → MipsMachine
machine registers hi lo flow h = record { registers = registers; hi = hi; lo = lo; flow = flow; many = h }

same_machine : (m n : MipsMachine) → m.registers ≡ n.registers → m.hi ≡ n.hi → m.lo ≡ n.lo → m.flow ≡ n.flow → m ≡ n
same_machine m n e f g h =
    subst (λ registers. (k : 32 ≤ length registers) → m ≡ machine registers n.hi n.lo n.flow k) e
    (λ k. ap (λ hi. machine m.registers hi m.lo m.flow m.many) f ∙ ap (λ lo. machine m.registers n.hi lo m.flow m.many) g
    ∙ ap (λ flow. machine m.registers n.hi n.lo flow m.many) h ∙ ap (machine m.registers n.hi n.lo n.flow) (le_prop m.many k)) n.many

pub same_state : (m n : MipsMachine) (b c : Bytes) → state_of m b ≡ state_of n c → (m ≡ n) × (b ≡ c)
same_state m n b c e = (
  same_machine m n (ap (λ s. s.held.registers) e) (ap (λ s. s.held.hi) e) (ap (λ s. s.held.lo) e) (ap (λ s. s.flow) e),
  ap
      (λ s. s.held.bytes) e,
)

pub mips_one_way : (code : List ℕ) → IsOneWay (mips_goes code)
mips_one_way code m b n c u d p q =
    same_state n u c d
    (same_goes (state_of n c) (state_of u d) (one_next code (state_of m b) (Goes (state_of n c)) (Goes (state_of u d)) p q))

stop_not_goes : (s : State) → Stops ≡ Goes s → ⊥
stop_not_goes s e = cc

trap_not_goes : (cause : Cause) (s : State) → Traps cause ≡ Goes s → ⊥
trap_not_goes cause s e = cc

trap_not_stop : (cause : Cause) → Traps cause ≡ Stops → ⊥
trap_not_stop cause e = cc

pub mips_apart : (code : List ℕ) → AreApart (mips_goes code) (mips_stops code) (mips_traps code)
mips_apart code = record {
  stop_stays = λ m b n c p q. stop_not_goes (state_of n c) (one_next code (state_of m b) Stops (Goes (state_of n c)) p q);
  trap_stays = λ m b trap n c p q. trap_not_goes trap.cause (state_of n c)
      (one_next code (state_of m b) (Traps trap.cause) (Goes (state_of n c)) p.0 q);
  no_stop = λ m b trap p q. trap_not_stop trap.cause (one_next code (state_of m b) (Traps trap.cause) Stops p.0 q);
}

-- ---- only SYSCALL is a stop

abbrev IsOn : Next → Type 0
IsOn next = Stops ≡ next → ⊥

either_on : (t : Bool) (m n : Next) → IsOn m → IsOn n → IsOn (cond t m n)
either_on true m n h k e = h e
either_on false m n h k e = k e

traps_on : (cause : Cause) → IsOn (Traps cause)
traps_on cause e = cc

comes_on : (i : Instr) (s : State) (x : Effect) → IsOn (comes_to i s x)
comes_on i s (Done d) e = cc
comes_on i s (Fails cause) e = cc

performs_on : (i : Instr) (s : State) → IsOn (does i s) → IsOn (performs i s)
performs_on i s h =
    let third = cond (sets_hilo i && is_recent s.flow.since) (Traps HiLo) (does i s) in
    let second = cond (touches i s.flow.loaded) (Traps LoadDelay) third in
    either_on (is_jump i && s.flow.delayed) (Traps Slot) second (traps_on Slot)
    (either_on (touches i s.flow.loaded) (Traps LoadDelay) third (traps_on LoadDelay)
    (either_on (sets_hilo i && is_recent s.flow.since) (Traps HiLo) (does i s) (traps_on HiLo) h))

stop_is : (i : Instr) (s : State) → Stops ≡ performs i s → word_of i ≡ 0x0000000C
stop_is Syscall s e = refl
stop_is i s e = absurd (performs_on i s (comes_on i s (effect i s.held)) e)

pub mips_stops_at : (code : List ℕ) (m : MipsMachine) (b : Bytes) → mips_stops code m b → word_at code (mips_place m) ≡ Some 0x0000000C
mips_stops_at code m b (nowhere h e) = absurd (cc)
mips_stops_at code m b (unlisted w h none e) = absurd (cc)
mips_stops_at code m b (listed i h e) = h ∙ ap Some (stop_is i (state_of m b) e)

pub mips_bases : AreBases 32 30 23
mips_bases = record { frame_there = lit< tt; own_there = lit< tt; frame_not_zero = lit< tt; own_not_zero = lit< tt; two = λ e. (cc) }
