-- Objects get their places one after another.
use Rattle.std.proofs.Common.{arith}
use Rattle.ec_carrying.proofs.Places.{all_moved, next_few, next_from, none_moved, one_moved, some_place}
use Rattle.ec_carrying.proofs.moving.note_moves.Goals as goal

pub loop-i-init : goal.loop-i-init
loop-i-init c = none_moved c.args.whereabouts.now c.args.objects.now c.args.from c.args.to c.requires.there

pub note_arrival-requires : goal.note_arrival-requires
note_arrival-requires c = record {
  there =
      some_place _ c.args.from
      (next_from c.args.whereabouts.now c.loop-i.whereabouts c.args.objects.now c.args.from c.args.to c.loop-i.i c.at.result.now
      c.loop-i.invariant c.at.ensures);
  few =
      next_few c.args.whereabouts.now c.loop-i.whereabouts c.args.objects.now c.args.from c.args.to c.loop-i.i c.at.result.now
      c.loop-i.invariant c.at.ensures c.requires.apart c.requires.few;
}

pub loop-i-preserved : goal.loop-i-preserved
loop-i-preserved c =
    let there = next_from c.args.whereabouts.now c.loop-i.whereabouts c.args.objects.now c.args.from c.args.to c.loop-i.i c.at.result.now
    c.loop-i.invariant c.at.ensures in
    one_moved c.args.whereabouts.now c.loop-i.whereabouts c.note_arrival.new.whereabouts c.args.objects.now c.args.from c.args.to c.loop-i.i
    c.at.result.now c.requires.once c.loop-i.invariant c.at.ensures
    (λ w gives. c.in_ok-note_arrival.ensures w c.args.from gives there)

pub returns : goal.returns
returns c =
    let all = all_moved c.args.whereabouts.now c.loop-i.whereabouts c.args.objects.now c.args.from c.args.to c.loop-i.i
    (omega (arith, c.len-i-end.ensures)) c.loop-i.invariant in
    record { there = all.0; others = all.1; count = c.loop-i.invariant.count; went = c.loop-i.invariant.went }
