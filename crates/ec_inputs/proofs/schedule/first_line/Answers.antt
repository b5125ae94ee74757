use Rattle.ec_inputs.proofs.Lines.{line_before_feed, last_line}
use Rattle.ec_inputs.proofs.schedule.first_line.Goals as goal

pub returns-then-end-bytes-clause-lines : goal.returns-then-end-bytes-clause-lines
returns-then-end-bytes-clause-lines c =
    rw c.without_return.ensures (line_before_feed c.args.bytes.now _ c.place_of-end.ensures.place c.if-end-bytes.true)

pub returns-else-end-bytes-clause-lines : goal.returns-else-end-bytes-clause-lines
returns-else-end-bytes-clause-lines c =
    last_line c.args.bytes.now _ c.place_of-end.ensures.place c.if-end-bytes.false c.place_of-end.ensures.within c.requires
