use Rattle.std.proofs.Common.{◌≡◌, ◌+◌, ◌++◌, drop, sym, ap, ◌∙◌}
use Rattle.ec_machine_code.proofs.Marking.{row_step}
use Rattle.ec_machine_code.specs.Meeting.{all_if, live_in, met_at, met_behind, met_by}
use Rattle.ec_machine_code.specs.Rows.{marked_with}
use Rattle.ec_code.specs.Live.{writes}
use Rattle.ec_code.specs.Marks.{is_among}
use Rattle.ec_machine_code.proofs.meeting.row_of.Goals as goal

pub loop-q-preserved : goal.loop-q-preserved
loop-q-preserved c =
    let line = c.at.result.now in
    let x = c.args.x in
    let rest = drop (c.loop-q.q + 1) c.args.code.now in
    let here : c.mark_line.new.marks.items ≡ marked_with c.args.named c.loop-q.marks.items (met_at x line rest) =
    c.mark_line.ensures
    ∙ ap (λ behind. marked_with c.args.named c.loop-q.marks.items
    (all_if (is_among x (live_in line)) (live_in line) ++ met_behind x (writes line.op) behind)) c.live_at.ensures in
    ap (λ marks. marked_with c.args.named marks (met_by x rest)) here
    ∙ sym (row_step c.args.named c.args.code.now x c.loop-q.q line c.loop-q.marks.items c.at.ensures)
    ∙ c.loop-q.invariant
