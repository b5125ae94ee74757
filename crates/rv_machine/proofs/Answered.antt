-- What a step's answer says of the step.
use Rattle.std.proofs.Common.{◌≡◌, ◌≢◌, ◌↔◌, ℕ, List, Some, None, sym, ap, subst}
use Rattle.rv_isa.specs.Words.{word_of}
use Rattle.rv_isa.specs.declared.instr.Instr.{Instr}
use Rattle.ec_base.specs.Bytes.{Bytes}
use Rattle.ec_target.specs.Runs.{Answers}
use Rattle.ec_target.specs.declared.outcome.Trap.{Trap}
use Rattle.ec_target.specs.declared.outcome.Outcome.{Outcome}
use Rattle.ec_target.specs.declared.outcome.Outcome.TheVariants as outcomes
use Rattle.rv_machine.specs.declared.machine.RvMachine.{RvMachine}
use Rattle.rv_machine.specs.Machine.{state_of, IsAnswer, rv_goes, rv_stops, rv_traps}
use Rattle.rv_machine.specs.MachineLaws.{same_state}
use Rattle.rv_machine.specs.Step.{Next, Goes, Stops, Traps, RvStep}

-- the answer fits what the step comes to
pub rv_answers : (code : List ℕ) (m : RvMachine) (b : Bytes) (next : Next) (o : Outcome) (n : RvMachine) (c : Bytes) →
    RvStep code (state_of m b) next → IsAnswer next (state_of m b) o (state_of n c) →
    Answers (rv_goes code) (rv_stops code) (rv_traps code) m b o n c
rv_answers code m b (Goes s) outcomes.Went n c st a = subst (λ t. RvStep code (state_of m b) (Goes t)) (sym a.1) st
rv_answers code m b (Goes s) outcomes.Stop n c st a = absurd (cc)
rv_answers code m b (Goes s) (outcomes.Trap trap) n c st a = absurd (cc)
rv_answers code m b Stops outcomes.Went n c st a = absurd (cc)
rv_answers code m b Stops outcomes.Stop n c st a = let e = same_state n m c b a.1 in (st, e.0, e.1)
rv_answers code m b Stops (outcomes.Trap trap) n c st a = absurd (cc)
rv_answers code m b (Traps cause) outcomes.Went n c st a = absurd (cc)
rv_answers code m b (Traps cause) outcomes.Stop n c st a = absurd (cc)
rv_answers code m b (Traps cause) (outcomes.Trap trap) n c st a =
    let e = same_state n m c b a.1 in
    let made : Trap = record { cause = cause; pc = m.pc } in
    let same : trap ≡ made = cc in
    ((subst (λ x. RvStep code (state_of m b) (Traps x)) (sym (ap (λ t. t.cause) same)) st, ap (λ t. t.pc) same), e.0, e.1)

absent : (i : Instr) → None ≡ Some i → ⊥
absent i e = cc

-- a word that is no instruction's
pub none_of : (word : ℕ) → ((i : Instr) → (None ≡ Some i) ↔ (word_of i ≡ word)) → (i : Instr) → word_of i ≢ word
none_of word h i e = absent i ((h i).1 e)
