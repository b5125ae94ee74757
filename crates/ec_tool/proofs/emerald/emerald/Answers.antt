use Rattle.ec_tool.specs.Promises.IsRunStatus.{Fails, Spends, Sticks}
use Rattle.ec_tool.proofs.Promised.{usage_of, no_command_of, read_fault_of, source_refused_of, input_refused_of, write_fault_of}
use Rattle.ec_tool.proofs.Promised.{no_memory_of, finished_of, ended_of, full_of, no_read_of, reads_of, complete_of}
use Rattle.ec_report.specs.declared.status.Status.TheVariants as statuses
use Rattle.ec_tool.proofs.Headline.{headline}
use Rattle.ec_tool.proofs.emerald.emerald.Goals as goal

pub returns-clause-answer : goal.returns-clause-answer
returns-clause-answer g c = c.call.ensures.answer

pub returns-clause-headline : goal.returns-clause-headline
returns-clause-headline g c = λ given. headline _ _ _ _ _ _ _ given c.call.ensures.answer

pub returns-clause-usage : goal.returns-clause-usage
returns-clause-usage g c = usage_of c.call.ensures.answer

pub returns-clause-no_command : goal.returns-clause-no_command
returns-clause-no_command g c = no_command_of c.call.ensures.answer

pub returns-clause-read_fault : goal.returns-clause-read_fault
returns-clause-read_fault g c = read_fault_of c.call.ensures.answer

pub returns-clause-source_refused : goal.returns-clause-source_refused
returns-clause-source_refused g c = source_refused_of c.call.ensures.answer

pub returns-clause-input_refused : goal.returns-clause-input_refused
returns-clause-input_refused g c = input_refused_of c.call.ensures.answer

pub returns-clause-write_fault : goal.returns-clause-write_fault
returns-clause-write_fault g c = write_fault_of c.call.ensures.answer

pub returns-clause-no_memory : goal.returns-clause-no_memory
returns-clause-no_memory g c = no_memory_of c.call.ensures.answer

pub returns-clause-finished : goal.returns-clause-finished
returns-clause-finished g c = finished_of c.call.ensures.answer

pub returns-clause-some_failed : goal.returns-clause-some_failed
returns-clause-some_failed g c = ended_of c.call.ensures.answer statuses.SomeFailed Fails (λ e. cc)

pub returns-clause-spent : goal.returns-clause-spent
returns-clause-spent g c = ended_of c.call.ensures.answer statuses.Spent Spends (λ e. cc)

pub returns-clause-full : goal.returns-clause-full
returns-clause-full g c = full_of c.call.ensures.answer

pub returns-clause-stuck : goal.returns-clause-stuck
returns-clause-stuck g c = ended_of c.call.ensures.answer statuses.Stuck Sticks (λ e. cc)

pub returns-clause-reads : goal.returns-clause-reads
returns-clause-reads g c = reads_of c.call.ensures.answer

pub returns-clause-complete : goal.returns-clause-complete
returns-clause-complete g c = complete_of c.call.ensures.answer

pub returns-clause-trial : goal.returns-clause-trial
returns-clause-trial g c = c.call.ensures.trial

pub returns-clause-no_read : goal.returns-clause-no_read
returns-clause-no_read g c = no_read_of c.call.ensures.answer
