-- One variable more has the value where it has the word, and at the end all have.
use Rattle.std.proofs.Common.{◌≡◌, ◌≢◌, arith, sym, ap, ◌∙◌, ⊎_elim}
use Rattle.std.proofs.lemmas.Option.{same_Some}
use Rattle.std.specs.Prelude.{slice_get}
use Rattle.ec_base.proofs.Lists.{get_within}
use Rattle.ec_node_frames.specs.Carried.{carried}
use Rattle.ec_node_frames.specs.Loops.{spot_of}
use Rattle.ec_parcel_fits.proofs.stops.variable_fits.Goals as goal
use Rattle.ec_parcel_fits.proofs.stops.variable_fits.Goals.{else-other-at-via-else-other-at}
use Rattle.ec_parcel_fits.proofs.stops.variable_fits.Goals.{else-other-at-via-then-other-at+in_ok-is_one_value+else-not-branch}
use Rattle.ec_world.proofs.Keys.{same_or_not}

pub loop-j-preserved : goal.loop-j-preserved
loop-j-preserved c = λ k m v u lt km iv ku same.
    let values = c.args.part.now.values in
    let held = carried c.args.entry.now c.args.part.now.is_pending in
    let spot = spot_of c.args.table.now in
    ⊎_elim
    (λ (here : k ≡ c.loop-j.j).
    let its = same_Some c.variable_at-in-loop-j.result.now m
    (sym c.variable_at-in-loop-j.ensures ∙ ap (slice_get held) (sym here) ∙ km) in
    let word = c.word_of-other.ensures ∙ ap spot its in
    elim c.else-other-at.branch [
      | else-other-at-via-then-other-at+in_ok-is_one_value+else-not-branch w ↦
          let first = same_Some w.at.result.now v (sym w.at.ensures ∙ iv) in
          let second = same_Some w.at-then-other-at.result.now u
          (sym w.at-then-other-at.ensures ∙ ap (slice_get values) (sym here) ∙ ku) in
          sym first ∙ w.in_ok-is_one_value.ensures.one w.if-not-branch.false ∙ second
      | else-other-at-via-else-other-at w ↦ (let other = w.if-other-at.false in absurd (grind (arith, other, word, same)))
    ])
    (λ (ne : k ≢ c.loop-j.j). c.loop-j.invariant k m v u (omega (arith, lt, ne)) km iv ku same)
    (same_or_not k c.loop-j.j)

pub returns-clause-fits : goal.returns-clause-fits
returns-clause-fits c = λ t.
    let held = carried c.args.entry.now c.args.part.now.is_pending in
    let many = c.requires.many in
    let end = c.loop-j-test.false in
    let count = c.len-j-end.ensures in
    let at = c.word_of-at.ensures in
    let low = c.if-at-ge128.false in
    record {
      low = λ l is.
          let its = same_Some c.variable_at.result.now l (sym c.variable_at.ensures ∙ is) in
          let word = at ∙ ap (spot_of c.args.table.now) its in
          omega (arith, word, low);
      one = λ j l m v u il jm iv ju same.
          let its = same_Some c.variable_at.result.now l (sym c.variable_at.ensures ∙ il) in
          let there = get_within held j m jm in
          c.loop-j.invariant j m v u (omega (arith, there, many, end, count)) jm iv ju
          (at ∙ ap (spot_of c.args.table.now) its ∙ same);
    }
