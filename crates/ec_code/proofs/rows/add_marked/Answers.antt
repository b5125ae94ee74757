use Rattle.std.proofs.Common.{◌≡◌, true, false, sym, ◌∙◌}
use Rattle.ec_code.specs.Marks.{is_marked}
use Rattle.ec_code.proofs.Listing.{marked_step}
use Rattle.ec_code.proofs.rows.add_marked.Goals as goal
use Rattle.ec_code.proofs.rows.add_marked.Goals.{then-is_marked+in_ok-push, else-is_marked}

pub loop-n-preserved : goal.loop-n-preserved
loop-n-preserved c =
    let marks = c.at.result.now in
    let step = marked_step c.args.kind c.loop-n.n c.args.rows.now c.args.q marks c.loop-n.list c.at.ensures in
    elim c.if-is_marked.branch [
      | then-is_marked+in_ok-push w ↦
          let is : is_marked marks c.args.q ≡ true = rw c.as_slice.ensures at (sym c.is_marked.ensures ∙ w.if-is_marked.true) in
          rw (w.list-is, w.in_ok-push.ensures.ok, w.variable_of.ensures) (sym (rw is at step) ∙ c.loop-n.invariant)
      | else-is_marked w ↦
          let is : is_marked marks c.args.q ≡ false = rw c.as_slice.ensures at (sym c.is_marked.ensures ∙ w.if-is_marked.false) in
          rw w.list-is (sym (rw is at step) ∙ c.loop-n.invariant)
    ]
