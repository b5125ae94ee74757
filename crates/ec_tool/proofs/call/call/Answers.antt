use Rattle.std.proofs.Common.{refl}
use Rattle.ec_tool.specs.Verdict.Came.{NoMemory, Answered}
use Rattle.ec_tool.proofs.call.call.Goals as goal

pub returns-in-Ok-clause-answer : goal.returns-in-Ok-clause-answer
returns-in-Ok-clause-answer g c = Answered c.in-Ok.answer.status c.in-Ok.answer.text.items c.write_answer.result c.in-Ok.ensures.verdict
    c.write_answer.ensures

pub returns-in-Err-clause-answer : goal.returns-in-Err-clause-answer
returns-in-Err-clause-answer g c = NoMemory refl refl
