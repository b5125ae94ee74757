-- One value after another.
use Rattle.std.proofs.Common.{◌∙◌, sym, arith}
use Rattle.std.proofs.lemmas.Option.{slice_get-get_or}
use Rattle.ec_node_frames.proofs.Reading.{all_taken, next_taken, none_taken}
use Rattle.ec_node_frames.proofs.operands.values_at.Goals as goal

pub loop-live-init : goal.loop-live-init
loop-live-init c = λ value reads. c.new-values.ensures ∙ sym (none_taken value c.args.held.now)

pub value_at-requires : goal.value_at-requires
value_at-requires c =
    let i = c.loop-live.live-index in
    (c.requires.0 _, c.requires.1 i _ (slice_get-get_or c.args.held.now i _ c.loop-live-test.true))

pub loop-live-preserved : goal.loop-live-preserved
loop-live-preserved c = λ value reads.
    let i = c.loop-live.live-index in
    let is = slice_get-get_or c.args.held.now i _ c.loop-live-test.true in
    c.in_ok-push.ensures.ok
    ∙ next_taken value c.args.held.now i _ is c.loop-live.values c.in_ok-value.value (c.in_ok-value.ensures (value _) (reads i _ is))
    (c.loop-live.invariant value reads)

pub returns : goal.returns
returns c = λ value reads.
    c.loop-live.invariant value reads ∙ all_taken value c.args.held.now c.loop-live.live-index (omega arith)
