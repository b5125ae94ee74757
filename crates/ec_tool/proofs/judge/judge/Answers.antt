use Rattle.std.proofs.Common.{refl, ℕ, List}
use Rattle.ec_tool.specs.Verdict.{Judged}
use Rattle.ec_tool.specs.Verdict.Judged.{SourceRefused, NodesRefused, ScheduleRefused, IsEnded}
use Rattle.ec_inputs.specs.Words.{CommandWords}
use Rattle.ec_report.proofs.Lifting.{said, implied}
use Rattle.ec_report.specs.declared.status.Status.{Status}
use Rattle.ec_report.specs.declared.status.Status.TheVariants as statuses
use Rattle.ec_tool.specs.Refusals.{nodes_line, schedule_line}
use Rattle.ec_tool.specs.Sources.{refused_line}
use Rattle.ec_tool.specs.Reading.{held_in}
use Rattle.ec_tool.specs.Taking.{AsksFor, WorkComesTo, source_in, vectors_of}
use Rattle.ec_tool.proofs.Taking.{nodes_read, takes, comes_to, meant_by}
use Rattle.ec_tool.proofs.judge.judge.Goals as goal

pub returns-in-Err-Refused : goal.returns-in-Err-Refused
returns-in-Err-Refused c =
    let f = c.args.files.now in
    let net = c.args.net.now in
    let source = f.source.items in
    let refused = c.in-Err-Refused.refused in
    let why = rw c.deref.ensures.value at (rw c.in-Err-Refused.field-0-is at c.in-Err-Refused.ensures.refused) in
    said (λ (s : Status) (t : List ℕ). (asked : CommandWords) → AsksFor c.args.work c.args.budget asked →
    Judged asked (held_in f) net net s t) statuses.SourceRefused
    (refused_line source refused.refusal refused.at)
    c.source_refused.result
    (rw (c.deref-in-Err-Refused.ensures.value, c.in-Err-Refused.field-0-is) at c.source_refused.ensures)
    (λ asked asks. SourceRefused refused.refusal refused.at why refl)

pub returns-in-Err-Refused-read_nodes : goal.returns-in-Err-Refused-read_nodes
returns-in-Err-Refused-read_nodes c =
    let f = c.args.files.now in
    let net = c.args.net.now in
    let source = f.source.items in
    let rule = c.in-Err-Refused-read_nodes.rule in
    let taken = meant_by source c.in-Ok.found (rw c.deref.ensures.value at c.in-Ok.ensures.program) c.in-Ok.ensures.core in
    let broken = rw c.deref-2.ensures.value at (rw c.in-Err-Refused-read_nodes.field-0-is at c.in-Err-Refused-read_nodes.ensures.refused) in
    said (λ (s : Status) (t : List ℕ). (asked : CommandWords) → AsksFor c.args.work c.args.budget asked →
    Judged asked (held_in f) net net s t) statuses.InputRefused (nodes_line rule)
    c.nodes_refused.result (rw c.in-Err-Refused-read_nodes.field-0-is at c.nodes_refused.ensures)
    (λ asked asks. NodesRefused rule (takes c.args.work c.args.budget asked asks source c.in-Ok.found.checked taken) broken refl)

pub returns-in-Err-Refused-read_schedule : goal.returns-in-Err-Refused-read_schedule
returns-in-Err-Refused-read_schedule c =
    let f = c.args.files.now in
    let net = c.args.net.now in
    let source = f.source.items in
    let rule = c.in-Err-Refused-read_schedule.rule in
    let line = c.in-Err-Refused-read_schedule.line in
    let taken = meant_by source c.in-Ok.found (rw c.deref.ensures.value at c.in-Ok.ensures.program) c.in-Ok.ensures.core in
    let nodes_are = rw c.deref-2.ensures.value at c.in-Ok-read_nodes.ensures.nodes in
    let broken = rw c.deref-3.ensures.value at
    (rw c.in-Err-Refused-read_schedule.field-0-is at c.in-Err-Refused-read_schedule.ensures.refused) in
    said (λ (s : Status) (t : List ℕ). (asked : CommandWords) → AsksFor c.args.work c.args.budget asked →
    Judged asked (held_in f) net net s t) statuses.InputRefused
    (schedule_line rule line)
    c.schedule_refused.result (rw c.in-Err-Refused-read_schedule.field-0-is at c.schedule_refused.ensures)
    (λ asked asks. ScheduleRefused c.in-Ok-read_nodes.specs.items rule line
    (takes c.args.work c.args.budget asked asks source c.in-Ok.found.checked taken) nodes_are broken refl)

pub come_to_end-requires-clause-program : goal.come_to_end-requires-clause-program
come_to_end-requires-clause-program c = rw c.deref-in-Ok-read_schedule.ensures.value (rw c.deref.ensures.value at c.in-Ok.ensures.program)

pub come_to_end-requires-clause-core : goal.come_to_end-requires-clause-core
come_to_end-requires-clause-core c = c.in-Ok.ensures.core

pub come_to_end-requires-clause-nodes : goal.come_to_end-requires-clause-nodes
come_to_end-requires-clause-nodes c =
    let nodes_are = rw c.deref-2.ensures.value at c.in-Ok-read_nodes.ensures.nodes in
    rw c.deref-in-Ok-read_schedule-2.ensures.value (nodes_read c.args.files.now.nodes.items c.in-Ok-read_nodes.specs.items nodes_are)

pub returns-in-Ok-read_schedule : goal.returns-in-Ok-read_schedule
returns-in-Ok-read_schedule c =
    let f = c.args.files.now in
    let net = c.args.net.now in
    let net' = c.come_to_end.new.net in
    let source = f.source.items in
    let checked = c.in-Ok.found.checked in
    let vectors = vectors_of c.in-Ok.found in
    let specs = c.in-Ok-read_nodes.specs.items in
    let entries = c.in-Ok-read_schedule.entries.items in
    let taken = meant_by source c.in-Ok.found (rw c.deref.ensures.value at c.in-Ok.ensures.program) c.in-Ok.ensures.core in
    let nodes_are = rw c.deref-2.ensures.value at c.in-Ok-read_nodes.ensures.nodes in
    let entries_are = rw c.deref-3.ensures.value at c.in-Ok-read_schedule.ensures.entries in
    implied (λ (s : Status) (t : List ℕ). WorkComesTo c.args.work (source_in source checked) vectors specs entries c.args.budget net net' s t)
    (λ (s : Status) (t : List ℕ). (asked : CommandWords) → AsksFor c.args.work c.args.budget asked → Judged asked (held_in f) net net' s t)
    c.come_to_end.result
    (rw (
      c.deref-in-Ok-read_schedule.ensures.value,
      c.deref-in-Ok-read_schedule-2.ensures.value,
      c.deref-in-Ok-read_schedule-3.ensures.value,
    ) at c.come_to_end.ensures)
    (λ s t h asked asks. IsEnded specs entries s t nodes_are entries_are
    (comes_to source checked taken specs entries net net' s t c.args.work c.args.budget asked asks h))
