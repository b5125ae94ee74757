use Rattle.std.proofs.Common.{◌≡◌, Some, refl, ap, sym, ◌∙◌}
use Rattle.ec_target.specs.Code.{word_at}
use Rattle.ec_target.specs.declared.outcome.Cause.TheVariants.{Unlisted}
use Rattle.rv_machine.specs.Machine.{state_of}
use Rattle.rv_machine.specs.Step.{Traps, unlisted, listed, does}
use Rattle.rv_machine.proofs.Answered.{rv_answers, none_of}
use Rattle.rv_machine.proofs.machine.RvMachineMachine.step.Goals as goal

pub returns-in-None-clause-answer : goal.returns-in-None-clause-answer
returns-in-None-clause-answer g c =
    let m = c.args.self.now in
    let b = g.M.Memory.byte_at c.args.memory.now in
    let at : word_at c.args.code.now m.pc ≡ Some c.in-Some.word = cc in
    rv_answers c.args.code.now m b (Traps Unlisted) c.trap-in-None.result m b
    (unlisted c.in-Some.word at (none_of c.in-Some.word c.in-None.ensures) refl) (c.trap-in-None.ensures, refl)

pub returns-in-Some-decode-clause-answer : goal.returns-in-Some-decode-clause-answer
returns-in-Some-decode-clause-answer g c =
    let m = c.args.self.now in
    let b = g.M.Memory.byte_at c.args.memory.now in
    let i = c.in-Some-decode.instr in
    let at : word_at c.args.code.now m.pc ≡ Some c.in-Some.word = cc in
    rv_answers c.args.code.now m b (does i (state_of m b)) c.execute.result c.execute.new.self (g.M.Memory.byte_at c.execute.new.memory)
    (listed i (at ∙ ap Some (sym ((c.in-Some-decode.ensures i).0 refl))) refl) c.execute.ensures.answer
