-- What is left of one instruction to the next, and what it then comes to.
use Rattle.std.proofs.Common.{◌≡◌, ◌≢◌, ◌↔◌, ℕ, List, Bool, true, false, cond, Option, Some, None, refl, sym, ap, ◌∙◌, subst}
use Rattle.std.specs.Prelude.{◌&&◌, ◌||◌, ◌==◌}
use Rattle.ec_target.specs.declared.outcome.Cause.{Cause}
use Rattle.ec_target.specs.declared.outcome.Cause.TheVariants.{Unaligned, Outside, Overflow, LoadDelay, Slot, Divide, HiLo}
use Rattle.mips_isa.specs.declared.field.Register.{Register}
use Rattle.mips_isa.specs.declared.instr.Instr.{Instr}
use Rattle.mips_isa.specs.declared.instr.Instr.TheVariants.{OnShift, OnVariableShift, OnRegisters, OnHiLo, ReadHiLo, WriteHiLo, Jr}
use Rattle.mips_isa.specs.declared.instr.Instr.TheVariants.{Jalr, Syscall, J, Jal, BranchIf, BranchOnZero, OnImmediate, Lui}
use Rattle.mips_isa.specs.declared.instr.Instr.TheVariants.{LoadFrom, StoreTo}
use Rattle.mips_machine.specs.declared.flow.Flow.{Flow}
use Rattle.mips_machine.specs.declared.flow.Since.{Since}
use Rattle.mips_machine.specs.declared.flow.Since.TheVariants.{JustNow, OneAgo, LongAgo}
use Rattle.mips_machine.specs.Delays.{IsAt, Does}
use Rattle.mips_machine.specs.Hazards.{touches, is_jump, sets_hilo, reads_hilo, loads, is_stop}
use Rattle.mips_machine.specs.MachineLaws.{one_next}
use Rattle.mips_machine.specs.Step.{Data, State, Next, Goes, Stops, Traps, Effect, Done, Fails, MipsStep, listed, after, aligned, address}
use Rattle.mips_machine.specs.Step.{behind, checked, comes_to, does, effect, is_recent, later, led, linked, loaded, loaded_to, performs}
use Rattle.mips_machine.specs.Step.{stored, written}

-- ---- where an instruction is done, the machine is led on

pub step_is : (code : List ℕ) (s : State) (i : Instr) (next : Next) → IsAt code s i → MipsStep code s next → next ≡ performs i s
step_is code s i next at step = one_next code s next (performs i s) step (listed i at refl)

abbrev LedOn : Instr → State → Next → Type 0
LedOn i s next = (t : State) → next ≡ Goes t → t.flow ≡ led i s.flow (after i s.flow s.held)

on_either : (P : Next → Type 0) (b : Bool) (m n : Next) → P m → P n → P (cond b m n)
on_either P true m n h k = h
on_either P false m n h k = k

led_trap : (i : Instr) (s : State) (cause : Cause) → LedOn i s (Traps cause)
led_trap i s cause t e = absurd (cc)

led_stop : (i : Instr) (s : State) → LedOn i s Stops
led_stop i s t e = absurd (cc)

led_comes : (i : Instr) (s : State) (x : Effect) → LedOn i s (comes_to i s x)
led_comes i s (Fails cause) t e = absurd (cc)
led_comes i s (Done d) t e =
    let made : State = record { held = linked i s.flow.pc d; flow = led i s.flow (after i s.flow s.held) } in
    let same : made ≡ t = cc in
    sym (ap (λ u. u.flow) same)

led_performs : (i : Instr) (s : State) → LedOn i s (performs i s)
led_performs i s =
    on_either (LedOn i s) (is_jump i && s.flow.delayed) (Traps Slot) _ (led_trap i s Slot)
    (on_either (LedOn i s) (touches i s.flow.loaded) (Traps LoadDelay) _ (led_trap i s LoadDelay)
    (on_either (LedOn i s) (sets_hilo i && is_recent s.flow.since) (Traps HiLo) _ (led_trap i s HiLo)
    (on_either (LedOn i s) (is_stop i) Stops _ (led_stop i s) (led_comes i s (effect i s.held)))))

pub flow_is : (code : List ℕ) (s t : State) (i : Instr) → Does code s i t → t.flow ≡ led i s.flow (after i s.flow s.held)
flow_is code s t i d = led_performs i s t (sym (step_is code s i (Goes t) d.0 d.1))

-- ---- what an instruction does never traps as those before it may have it trap

abbrev IsHazard : Cause → Type 0
IsHazard cause = (Overflow ≢ cause) × (Divide ≢ cause) × (Unaligned ≢ cause) × (Outside ≢ cause)

pub slot_hazard : IsHazard Slot
slot_hazard = (λ e. (cc), λ e. (cc), λ e. (cc), λ e. (cc))

pub load_hazard : IsHazard LoadDelay
load_hazard = (λ e. (cc), λ e. (cc), λ e. (cc), λ e. (cc))

pub hilo_hazard : IsHazard HiLo
hilo_hazard = (λ e. (cc), λ e. (cc), λ e. (cc), λ e. (cc))

same_cause : (a b : Cause) → Fails a ≡ Fails b → a ≡ b
same_cause a b e = cc

done_not : (d : Data) (cause : Cause) → Done d ≢ Fails cause
done_not d cause e = cc

fails_not : (a cause : Cause) → a ≢ cause → Fails a ≢ Fails cause
fails_not a cause h e = h (same_cause a cause e)

either_not : (cause : Cause) (b : Bool) (x y : Effect) → x ≢ Fails cause → y ≢ Fails cause → cond b x y ≢ Fails cause
either_not cause true x y h k e = h e
either_not cause false x y h k e = k e

loaded_not : (cause : Cause) (d : Data) (rt : Register) (o : Option ℕ) → Outside ≢ cause → loaded_to d rt o ≢ Fails cause
loaded_not cause d rt None h e = fails_not Outside cause h e
loaded_not cause d rt (Some v) h e = cc

stored_not : (cause : Cause) (d : Data) (at : ℕ) (bs : List ℕ) (there : Bool) → Outside ≢ cause → stored d at bs there ≢ Fails cause
stored_not cause d at bs false h e = fails_not Outside cause h e
stored_not cause d at bs true h e = cc

effect_not : (i : Instr) (d : Data) (cause : Cause) → IsHazard cause → effect i d ≢ Fails cause
effect_not (OnShift shift rd rt amount) d cause h e = cc
effect_not (OnVariableShift shift rd rt rs) d cause h e = cc
effect_not (OnRegisters operation rd rs rt) d cause h e =
    either_not cause _ (Fails Overflow) _ (fails_not Overflow cause h.0) (done_not _ cause) e
effect_not (OnHiLo operation rs rt) d cause h e =
    either_not cause _ (Fails Divide) _ (fails_not Divide cause h.1) (done_not _ cause) e
effect_not (ReadHiLo from rd) d cause h e = cc
effect_not (WriteHiLo to rs) d cause h e = cc
effect_not (Jr rs) d cause h e = cc
effect_not (Jalr link) d cause h e = cc
effect_not Syscall d cause h e = cc
effect_not (J target) d cause h e = cc
effect_not (Jal target) d cause h e = cc
effect_not (BranchIf branch rs rt offset) d cause h e = cc
effect_not (BranchOnZero branch rs offset) d cause h e = cc
effect_not (OnImmediate operation rt rs number) d cause h e =
    either_not cause _ (Fails Overflow) _ (fails_not Overflow cause h.0) (done_not _ cause) e
effect_not (Lui rt number) d cause h e = cc
effect_not (LoadFrom load rt rs offset) d cause h e =
    either_not cause _ _ (Fails Unaligned) (loaded_not cause d rt _ h.3) (fails_not Unaligned cause h.2) e
effect_not (StoreTo store rt rs offset) d cause h e =
    either_not cause _ _ (Fails Unaligned) (stored_not cause d _ _ _ h.3) (fails_not Unaligned cause h.2) e

comes_not : (i : Instr) (s : State) (cause : Cause) (x : Effect) → x ≢ Fails cause → comes_to i s x ≢ Traps cause
comes_not i s cause (Done d) h e = cc
comes_not i s cause (Fails a) h e = let same : a ≡ cause = cc in h (ap Fails same)

does_not : (i : Instr) (s : State) (cause : Cause) → IsHazard cause → does i s ≢ Traps cause
does_not i s cause h =
    on_either (λ next. next ≢ Traps cause) (is_stop i) Stops _ (λ e. (cc)) (comes_not i s cause _ (effect_not i s.held cause h))

-- ---- the first of three that applies

first_of : (a : Bool) (m n : Next) → n ≢ m → (cond a m n ≡ m) ↔ (a ≡ true)
first_of true m n h = (λ e. refl, λ e. refl)
first_of false m n h = (λ e. absurd (h e), λ e. absurd (cc))

second_of : (a b : Bool) (l m n : Next) → l ≢ m → n ≢ m → (b ≡ true → a ≡ false) → (cond a l (cond b m n) ≡ m) ↔ (b ≡ true)
second_of true b l m n g h k = (λ e. absurd (g e), λ e. let f : true ≡ false = k e in absurd (cc))
second_of false b l m n g h k = first_of b m n h

third_of : (a b c : Bool) (k l m n : Next) → k ≢ m → n ≢ m → (c ≡ true → a ≡ false) → b ≡ false →
    (cond a k (cond b l (cond c m n)) ≡ m) ↔ (c ≡ true)
third_of a true c k l m n g h f e = absurd (cc)
third_of a false c k l m n g h f e = second_of a c k m n g h f

swapped : (next other m : Next) (P : Type 0) → next ≡ other → (other ≡ m) ↔ P → (next ≡ m) ↔ P
swapped next other m P e h = (λ f. h.0 (sym e ∙ f), λ p. e ∙ h.1 p)

-- ---- what was left to it

traps_unlike : (a b : Cause) → a ≢ b → Traps a ≢ Traps b
traps_unlike a b h e = let same : a ≡ b = cc in h same

-- it is no jump that loads a register, and none that sets HI or LO
load_is_no_jump : (i j : Instr) → touches j (loads i) ≡ true → is_jump i ≡ false
load_is_no_jump (LoadFrom load rt rs offset) j e = refl
load_is_no_jump (OnShift shift rd rt amount) j e = refl
load_is_no_jump (OnVariableShift shift rd rt rs) j e = refl
load_is_no_jump (OnRegisters operation rd rs rt) j e = refl
load_is_no_jump (OnHiLo operation rs rt) j e = refl
load_is_no_jump (ReadHiLo from rd) j e = refl
load_is_no_jump (WriteHiLo to rs) j e = refl
load_is_no_jump (OnImmediate operation rt rs number) j e = refl
load_is_no_jump (Lui rt number) j e = refl
load_is_no_jump (StoreTo store rt rs offset) j e = refl
load_is_no_jump (Jr rs) j e = absurd (cc)
load_is_no_jump (Jalr link) j e = absurd (cc)
load_is_no_jump Syscall j e = absurd (cc)
load_is_no_jump (J target) j e = absurd (cc)
load_is_no_jump (Jal target) j e = absurd (cc)
load_is_no_jump (BranchIf branch rs rt offset) j e = absurd (cc)
load_is_no_jump (BranchOnZero branch rs offset) j e = absurd (cc)

setter_is_no_jump : (k : Instr) → sets_hilo k ≡ true → is_jump k ≡ false
setter_is_no_jump (OnHiLo operation rs rt) e = refl
setter_is_no_jump (WriteHiLo to rs) e = refl
setter_is_no_jump _ e = absurd (cc)

both_false : (a b : Bool) → b ≡ false → (a && b) ≡ false
both_false true b e = e
both_false false b e = refl

and_false : (a b : Bool) → a ≡ false → (a && b) ≡ false
and_false a b e = ap (λ x. x && b) e

first_true : (a b : Bool) → (a && b) ≡ true → a ≡ true
first_true true b e = refl
first_true false b e = absurd (cc)

since_of : (a b : Bool) (since : Since) → is_recent (cond b JustNow (later (cond a JustNow (later since)))) ≡ (a || b)
since_of true true since = refl
since_of true false since = refl
since_of false true since = refl
since_of false false JustNow = refl
since_of false false OneAgo = refl
since_of false false LongAgo = refl

-- HI or LO is read by one of the last two
since_two : (i j : Instr) (since : Since) → is_recent (behind j (behind i since)) ≡ (reads_hilo i || reads_hilo j)
since_two i j since = since_of (reads_hilo i) (reads_hilo j) since

-- ---- the delays

pub slot_first : (code : List ℕ) (s t u : State) (i j : Instr) → Does code s i t → Does code t j u →
    (t.flow.pc ≡ s.flow.next) × (u.flow.pc ≡ after i s.flow s.held)
slot_first code s t u i j d e =
    let f = flow_is code s t i d in
    (ap (λ x. x.pc) f, ap (λ x. x.pc) (flow_is code t u j e) ∙ ap (λ x. x.next) f)

pub no_jump_in_slot : (code : List ℕ) (s t : State) (i j : Instr) (next : Next) → Does code s i t → IsAt code t j → MipsStep code t next →
    (next ≡ Traps Slot) ↔ ((is_jump j && is_jump i) ≡ true)
no_jump_in_slot code s t i j next d at step =
    let f : t.flow.delayed ≡ is_jump i = ap (λ x. x.delayed) (flow_is code s t i d) in
    let rest : Next = cond (touches j t.flow.loaded) (Traps LoadDelay)
    (cond (sets_hilo j && is_recent t.flow.since) (Traps HiLo) (does j t)) in
    let other : rest ≢ Traps Slot =
    on_either (λ x. x ≢ Traps Slot) (touches j t.flow.loaded) (Traps LoadDelay) _ (λ e. (cc))
    (on_either (λ x. x ≢ Traps Slot) (sets_hilo j && is_recent t.flow.since) (Traps HiLo) _ (λ e. (cc)) (does_not j t Slot slot_hazard)) in
    swapped next (performs j t) (Traps Slot) _ (step_is code t j next at step)
    (subst (λ b. (performs j t ≡ Traps Slot) ↔ ((is_jump j && b) ≡ true)) f
    (first_of (is_jump j && t.flow.delayed) (Traps Slot) rest other))

pub load_delayed : (code : List ℕ) (s t : State) (i j : Instr) (next : Next) → Does code s i t → IsAt code t j → MipsStep code t next →
    (next ≡ Traps LoadDelay) ↔ (touches j (loads i) ≡ true)
load_delayed code s t i j next d at step =
    let f = flow_is code s t i d in
    let delayed : t.flow.delayed ≡ is_jump i = ap (λ x. x.delayed) f in
    let loaded_is : t.flow.loaded ≡ loads i = ap (λ x. x.loaded) f in
    let rest : Next = cond (sets_hilo j && is_recent t.flow.since) (Traps HiLo) (does j t) in
    let other : rest ≢ Traps LoadDelay =
    on_either (λ x. x ≢ Traps LoadDelay) (sets_hilo j && is_recent t.flow.since) (Traps HiLo) _ (λ e. (cc))
    (does_not j t LoadDelay load_hazard) in
    let no_slot : touches j t.flow.loaded ≡ true → (is_jump j && t.flow.delayed) ≡ false = λ e.
    both_false (is_jump j) t.flow.delayed (delayed ∙ load_is_no_jump i j (sym (ap (touches j) loaded_is) ∙ e)) in
    swapped next (performs j t) (Traps LoadDelay) _ (step_is code t j next at step)
    (subst (λ b. (performs j t ≡ Traps LoadDelay) ↔ (touches j b ≡ true)) loaded_is
    (second_of (is_jump j && t.flow.delayed) (touches j t.flow.loaded) (Traps Slot) (Traps LoadDelay) rest
    (traps_unlike Slot LoadDelay (λ e. (cc))) other no_slot))

pub hilo_kept : (code : List ℕ) (s t u : State) (i j k : Instr) (next : Next) → Does code s i t → Does code t j u → IsAt code u k →
    touches k (loads j) ≡ false → MipsStep code u next →
    (next ≡ Traps HiLo) ↔ ((sets_hilo k && (reads_hilo i || reads_hilo j)) ≡ true)
hilo_kept code s t u i j k next d e at clear step =
    let first : t.flow.since ≡ behind i s.flow.since = ap (λ x. x.since) (flow_is code s t i d) in
    let second : u.flow.since ≡ behind j t.flow.since = ap (λ x. x.since) (flow_is code t u j e) in
    let loaded_is : u.flow.loaded ≡ loads j = ap (λ x. x.loaded) (flow_is code t u j e) in
    let since : is_recent u.flow.since ≡ (reads_hilo i || reads_hilo j) =
    ap is_recent second ∙ ap (λ x. is_recent (behind j x)) first ∙ since_two i j s.flow.since in
    let no_slot : (sets_hilo k && is_recent u.flow.since) ≡ true → (is_jump k && u.flow.delayed) ≡ false = λ h.
    and_false (is_jump k) u.flow.delayed (setter_is_no_jump k (first_true (sets_hilo k) (is_recent u.flow.since) h)) in
    swapped next (performs k u) (Traps HiLo) _ (step_is code u k next at step)
    (subst (λ b. (performs k u ≡ Traps HiLo) ↔ ((sets_hilo k && b) ≡ true)) since
    (third_of (is_jump k && u.flow.delayed) (touches k u.flow.loaded) (sets_hilo k && is_recent u.flow.since) (Traps Slot)
    (Traps LoadDelay) (Traps HiLo) (does k u) (traps_unlike Slot HiLo (λ x. (cc))) (does_not k u HiLo hilo_hazard) no_slot
    (ap (touches k) loaded_is ∙ clear)))
