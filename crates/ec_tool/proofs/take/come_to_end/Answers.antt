use Rattle.std.proofs.Common.{refl, ℕ, List, arith}
use Rattle.std.proofs.Math.Facts.{Fits-lt-pow}
use Rattle.ec_plain.specs.Plain.{IsPlainRun}
use Rattle.ec_report.proofs.Lifting.{implied}
use Rattle.ec_report.specs.declared.status.Status.{Status}
use Rattle.ec_tool.specs.Taking.{WorkComesTo, source_in, vectors_of}
use Rattle.ec_tool.specs.declared.take.Work.TheVariants.{Mean}
use Rattle.ec_tool.proofs.Taking.{is_of_text, meant_by}
use Rattle.ec_tool.proofs.take.come_to_end.Goals as goal

pub run-requires-clause-accepted : goal.run-requires-clause-accepted
run-requires-clause-accepted c =
    rw c.in_ok-program.ensures
    (is_of_text c.args.source.now c.args.found.now.checked (λ i. Fits-lt-pow (c.type_inv.source i))
    (meant_by c.args.source.now c.args.found.now c.requires.program c.requires.core))

pub run-requires-in-Mean-clause-some : goal.run-requires-in-Mean-clause-some
run-requires-in-Mean-clause-some c = let some = c.requires.nodes.some in omega arith

pub run-requires-in-Mean-clause-at_most : goal.run-requires-in-Mean-clause-at_most
run-requires-in-Mean-clause-at_most c = c.requires.nodes.few

pub returns-in_ok-written-in-Run : goal.returns-in_ok-written-in-Run
returns-in_ok-written-in-Run c =
    rw c.in-Run.is
    (rw (
      c.in_ok-program.ensures,
      c.into.ensures,
      c.as_slice-types.ensures,
      c.in_ok-written-in-Run.ensures,
      c.as_slice.ensures,
    ) at c.run.ensures)

pub returns-in-Mean : goal.returns-in-Mean
returns-in-Mean c =
    let source = source_in c.args.source.now c.args.found.now.checked in
    let vectors = vectors_of c.args.found.now in
    let specs = c.args.specs.now in
    let entries = c.args.schedule.now in
    let net = c.args.net.now in
    rw c.in-Mean.is
    (implied (λ (s : Status) (t : List ℕ). IsPlainRun source specs entries c.args.budget s t)
    (λ (s : Status) (t : List ℕ). WorkComesTo Mean source vectors specs entries c.args.budget net net s t)
    c.run-in-Mean.result (rw (c.in_ok-program.ensures, c.into-in-Mean.ensures) at c.run-in-Mean.ensures)
    (λ s t h. (h, refl)))
