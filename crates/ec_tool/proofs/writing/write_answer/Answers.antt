use Rattle.ec_tool.specs.Writing.ComesOut.{Written, Broken}
use Rattle.ec_tool.proofs.writing.write_answer.Goals as goal

pub returns-in-Ok : goal.returns-in-Ok
returns-in-Ok g c = Written (λ told. rw c.deref.ensures.value at (c.in-Ok.ensures.takes told)) c.in-Ok.ensures.ok

pub returns-in-Err : goal.returns-in-Err
returns-in-Err g c = Broken (λ told. rw c.deref.ensures.value at (c.in-Err.ensures.front told)) c.in-Err.ensures.failed
