-- What is answered, by what an instruction did to registers and memory.
use Rattle.std.proofs.Common.{◌≡◌, false, cond, refl, sym, ap, ◌∙◌, subst}
use Rattle.std.specs.Prelude.{Ok}
use Rattle.ec_target.specs.declared.outcome.Outcome.TheVariants as outcomes
use Rattle.mips_isa.specs.declared.instr.Instr.{Instr}
use Rattle.mips_machine.specs.declared.flow.Flow.{Flow}
use Rattle.mips_machine.specs.Hazards.{is_stop}
use Rattle.mips_machine.specs.Machine.{HasEffect, IsAnswer}
use Rattle.mips_machine.specs.Step.{Data, State, Stops, Effect, Done, Fails, after, comes_to, does, effect, led, linked}

abbrev led_to : Instr → State → Data → State
led_to i s d = record { held = linked i s.flow.pc d; flow = led i s.flow (after i s.flow s.held) }

went_by : (i : Instr) (s : State) (x : Effect) (d : Data) (n : State) → HasEffect x s.held (Ok tt) d → n ≡ led_to i s d →
    IsAnswer (comes_to i s x) s outcomes.Went n
went_by i s (Done e) d n h k = (refl, k ∙ ap (led_to i s) h.1)
went_by i s (Fails cause) d n h k = absurd (cc)

-- where the instruction is done, its link is written and the machine is led on
pub went : (i : Instr) (s : State) (d x : Data) (f : Flow) → is_stop i ≡ false → HasEffect (effect i s.held) s.held (Ok tt) d →
    x ≡ linked i s.flow.pc d → f ≡ led i s.flow (after i s.flow s.held) →
    IsAnswer (does i s) s outcomes.Went (record { held = x; flow = f })
went i s d x f e h k l =
    let made : State = record { held = x; flow = f } in
    let same : made ≡ led_to i s d = ap (λ y. record made { held = y }) k ∙ ap (λ g. record (led_to i s d) { flow = g }) l in
    subst (λ t. IsAnswer (cond t Stops (comes_to i s (effect i s.held))) s outcomes.Went made) (sym e)
    (went_by i s (effect i s.held) d made h same)
