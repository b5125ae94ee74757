use Rattle.std.proofs.Common.{[], ◌∷◌, length-append, arith}
use Rattle.ec_code.proofs.Listing.{append_rows}
use Rattle.ec_code.proofs.rows.rows_of.Goals as goal

pub loop-n-preserved : goal.loop-n-preserved
loop-n-preserved c =
    let marks = c.in_ok-live_places.field-0 in
    let live = rw c.variable_of.ensures at c.in_ok-live_places.ensures in
    rw c.in_ok-push.ensures.ok (
      append_rows c.args.code.now c.args.kind 0 c.loop-n.n c.loop-n.rows marks (omega (arith, c.loop-n.invariant.1)) c.loop-n.invariant.0
          live,
      omega (arith, length-append c.loop-n.rows (marks ∷ []), c.loop-n.invariant.1),
    )
