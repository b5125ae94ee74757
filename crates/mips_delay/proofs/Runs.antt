-- Machines and their states, steps, and runs word by word.
use Rattle.std.proofs.Common.{◌≡◌, ℕ, Bool, true, false, cond, List, [], ◌∷◌, Option, None, Some, refl, sym, ap, ◌∙◌}
use Rattle.ec_base.specs.Bytes.{Bytes}
use Rattle.ec_machine_code.specs.declared.code.Code.{Code}
use Rattle.ec_target.specs.Code.{pc_of, word_at}
use Rattle.ec_target.specs.Paths.{Passes}
use Rattle.ec_target.specs.declared.outcome.Cause.TheVariants.{Fetch, LoadDelay, Slot}
use Rattle.mips_delay.proofs.Swap.{does_on}
use Rattle.mips_isa.specs.Words.{word_of}
use Rattle.mips_isa.specs.declared.instr.Instr.{Instr}
use Rattle.mips_isa.specs.declared.instr.Instr.TheVariants.{Syscall}
use Rattle.mips_machine.specs.Hazards.{is_stop, touches}
use Rattle.mips_machine.specs.Machine.{data_of, mips_goes, mips_place, mips_stops, state_of}
use Rattle.mips_machine.specs.MachineLaws.{mips_stops_at, one_next}
use Rattle.mips_machine.specs.Step.{Data, Done, Effect, Fails, Goes, MipsStep, Next, State, Stops, Traps, after, comes_to, effect, led}
use Rattle.mips_machine.specs.Step.{linked, listed, nowhere, performs, unlisted}
use Rattle.mips_machine.specs.declared.flow.Flow.{Flow}
use Rattle.mips_machine.specs.declared.machine.MipsMachine.{MipsMachine}

-- ---- states and machines

abbrev pub stop_word : ℕ
stop_word = 0x0000000C

abbrev pub data_with : List ℕ → ℕ → ℕ → Bytes → Data
data_with registers hi lo bytes = record { registers = registers; hi = hi; lo = lo; bytes = bytes }

abbrev pub state_with : Data → Flow → State
state_with held flow = record { held = held; flow = flow }

-- a state that holds what a machine does is one of a machine
pub twin : (u : MipsMachine) (d : Bytes) (v : State) → data_of u d ≡ v.held → (n : MipsMachine) × (state_of n d ≡ v)
twin u d v e = (
  record { registers = u.registers; hi = u.hi; lo = u.lo; flow = v.flow; many = u.many },
  ap (λ (h : Data). state_with h v.flow) e,
)

pub performed : (code : List ℕ) (s : State) (n : Next) (x : Instr) → word_at code s.flow.pc ≡ Some (word_of x) → MipsStep code s n →
    performs x s ≡ n
performed code s n x at step = sym (one_next code s n (performs x s) step (listed x at refl))

-- a state from which a step goes on, or at which a stop is, stands at a word
pub goes_somewhere : (code : List ℕ) (s u : State) → MipsStep code s (Goes u) → word_at code s.flow.pc ≡ None → ⊥
goes_somewhere code s u step none = let e = one_next code s (Goes u) (Traps Fetch) step (nowhere none refl) in cc

-- whether a stop stops is what is pending
pub stop_so : (s t : State) → s.flow.delayed ≡ t.flow.delayed → s.flow.loaded ≡ t.flow.loaded → performs Syscall s ≡ performs Syscall t
stop_so s t d l =
    ap (λ b. cond b (Traps Slot) (cond (touches Syscall s.flow.loaded) (Traps LoadDelay) Stops)) d
    ∙ ap (λ r. cond t.flow.delayed (Traps Slot) (cond (touches Syscall r) (Traps LoadDelay) Stops)) l

-- ---- a step goes on to the next place

same_goes : (s t : State) → Goes s ≡ Goes t → s ≡ t
same_goes s t e = cc

comes_on : (i : Instr) (s u : State) (e : Effect) → comes_to i s e ≡ Goes u → u.flow.pc ≡ s.flow.next
comes_on i s u (Fails c) h = absurd (cc)
comes_on i s u (Done d) h =
    let next : State = record { held = linked i s.flow.pc d; flow = led i s.flow (after i s.flow s.held) } in
    ap (λ (x : State). x.flow.pc) (sym (same_goes next u h))

does_next : (b : Bool) (i : Instr) (s u : State) → cond b Stops (comes_to i s (effect i s.held)) ≡ Goes u → u.flow.pc ≡ s.flow.next
does_next true i s u h = absurd (cc)
does_next false i s u h = comes_on i s u (effect i s.held) h

pub steps_on : (code : List ℕ) (s u : State) → MipsStep code s (Goes u) → u.flow.pc ≡ s.flow.next
steps_on code s u (nowhere h e) = absurd (cc)
steps_on code s u (unlisted w h none e) = absurd (cc)
steps_on code s u (listed i h e) = does_next (is_stop i) i s u (does_on i s u (sym e))

-- ---- runs

abbrev pub Run : Code → List ℕ → MipsMachine → Bytes → MipsMachine → Bytes → Type 0
Run code path s b n c = Passes (mips_goes code.words) mips_place path s b n c

pub first : (code : Code) (i : ℕ) (path : List ℕ) (s : MipsMachine) (b : Bytes) (n : MipsMachine) (c : Bytes) → Run code (i ∷ path) s b n c →
    (mips_place s ≡ pc_of i) × (u : MipsMachine) × (d : Bytes) × mips_goes code.words s b u d × Run code path u d n c
unfolding Passes
first code i path s b n c run = run

pub ended : (code : Code) (s : MipsMachine) (b : Bytes) (n : MipsMachine) (c : Bytes) → Run code [] s b n c → (n ≡ s) × (c ≡ b)
unfolding Passes
ended code s b n c run = run

pub one : (code : Code) (i : ℕ) (s : MipsMachine) (b : Bytes) (u : MipsMachine) (d : Bytes) → mips_place s ≡ pc_of i →
    mips_goes code.words s b u d → Run code (i ∷ []) s b u d
unfolding Passes
one code i s b u d at step = (at, u, d, step, (refl, refl))

pub two : (code : Code) (i k : ℕ) (s : MipsMachine) (b : Bytes) (u : MipsMachine) (d : Bytes) (v : MipsMachine) (e : Bytes) →
    mips_place s ≡ pc_of i → mips_goes code.words s b u d → mips_place u ≡ pc_of k → mips_goes code.words u d v e →
    Run code (i ∷ k ∷ []) s b v e
unfolding Passes
two code i k s b u d v e at step next more = (at, u, d, step, (next, v, e, more, (refl, refl)))

-- a run to a stop begins at a word
pub somewhere : (code : Code) (path : List ℕ) (s : MipsMachine) (b : Bytes) (n : MipsMachine) (c : Bytes) → Run code path s b n c →
    mips_stops code.words n c → word_at code.words s.flow.pc ≡ None → ⊥
somewhere code [] s b n c run stop none =
    let same : n.flow.pc ≡ s.flow.pc = ap (λ (m : MipsMachine). m.flow.pc) (ended code s b n c run).0 in
    stands_not (word_at code.words s.flow.pc) (ap (word_at code.words) (sym same) ∙ mips_stops_at code.words n c stop) none
  where
    stands_not : (o : Option ℕ) → o ≡ Some stop_word → o ≡ None → ⊥
    stands_not o e f = cc
somewhere code (i ∷ path) s b n c run stop none =
    let z = first code i path s b n c run in goes_somewhere code.words (state_of s b) (state_of z.1 z.2) z.3 none
