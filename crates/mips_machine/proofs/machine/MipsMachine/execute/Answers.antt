use Rattle.std.proofs.Common.{sym, ap, ◌∙◌}
use Rattle.mips_machine.specs.Machine.{data_of, state_of}
use Rattle.mips_machine.specs.Step.{led, linked}
use Rattle.mips_machine.proofs.Comes.{went}
use Rattle.mips_machine.proofs.machine.MipsMachine.execute.Goals as goal

pub returns-in-Ok-clause-answer : goal.returns-in-Ok-clause-answer
returns-in-Ok-clause-answer g c =
    let m = c.args.self.now in
    let b = g.M.Memory.byte_at c.args.memory.now in
    let i = c.args.instr in
    let new = g.M.Memory.byte_at c.effect.new.memory in
    let d = data_of c.effect.new.self new in
    went i (state_of m b) d (data_of c.link.new.self new) c.led-self.result (sym c.is_stop.ensures ∙ c.if-is_stop.false)
    c.in-Ok.ensures.data
    (c.link.ensures.data new ∙ ap (λ f. linked i f.pc d) c.in-Ok.ensures.flow)
    (c.led-self.ensures.value ∙ ap (λ f. led i f c.after-on.result) (c.link.ensures.flow ∙ c.in-Ok.ensures.flow)
    ∙ ap (led i m.flow) (c.after-on.ensures b))
