use Rattle.std.proofs.Common.{[], length, ◌∙◌, ap, ◌+◌}
use Rattle.std.proofs.lemmas.Result.{err_from_is_err_and}
use Rattle.ec_formats.specs.Lists.{items_read}
use Rattle.ec_formats.proofs.ReadingLoop.{goes_on, fails, ends, one_more}
use Rattle.ec_formats.proofs.field.read_items.Goals as goal

pub returns-in_err-item-clause-value : goal.returns-in_err-item-clause-value
returns-in_err-item-clause-value g c =
    let p = err_from_is_err_and c.from_residual-in_err-item.result c.from_residual-in_err-item.ensures.1 in
    let answer = items_read g.T.Field.format [] c.args.count c.args.bytes.now in
    rw (p.1, p.2) (fails g.T.Field.format c.in_err-item.field-0.0 c.as_slice.result.now c.args.count c.loop.counter c.loop.rest.now answer
    c.loop-test.true c.in_err-item.ensures.value (rw c.as_slice.ensures.value c.loop.invariant.0))

pub loop-preserved : goal.loop-preserved
loop-preserved g c =
    let answer = items_read g.T.Field.format [] c.args.count c.args.bytes.now in
    let goes = goes_on g.T.Field.format c.as_slice.result.now c.args.count c.loop.counter c.loop.rest.now c.in_ok-item.item
    c.in_ok-item.after.now answer c.loop-test.true c.in_ok-item.ensures.value (rw c.as_slice.ensures.value c.loop.invariant.0) in
    let held = one_more c.loop.counter g.T.Field.LEAST (length c.in_ok-item.after.now) (length c.loop.rest.now) (length c.args.bytes.now)
    c.in_ok-item.ensures.least c.loop.invariant.1.1.1 in (
      rw (c.push_reserved.ensures.items, ← c.as_slice.ensures.value) goes,
      (
        c.push_reserved.ensures.len ∙ ap (λ n. n + 1) c.loop.invariant.1.0,
        (c.push_reserved.ensures.capacity ∙ c.loop.invariant.1.1.0, held),
      ),
    )

pub returns-clause-value : goal.returns-clause-value
returns-clause-value g c =
    let answer = items_read g.T.Field.format [] c.args.count c.args.bytes.now in
    rw c.from_vec.ensures
    (ends g.T.Field.format c.loop.items.items c.args.count c.loop.counter c.loop.rest.now answer c.loop-test.false c.loop.invariant.0)
