use Rattle.std.proofs.Common.{take}
use Rattle.ec_formats.proofs.WritingLoop.{one_fits, others_fit, spelled, all_spelled}
use Rattle.ec_formats.proofs.field.put_list.Goals as goal

pub write-requires : goal.write-requires
write-requires g c = record {
  rules = (
    take c.loop-i.i c.args.items.now,
    one_fits g.T.Field.format c.args.items.now c.loop-i.i c.at.result.now c.at.ensures c.loop-i.invariant.1,
  );
}

pub loop-i-preserved : goal.loop-i-preserved
loop-i-preserved g c = (
  spelled g.T.Field.format c.args.items.now c.loop-i.i c.at.result.now c.at.ensures c.loop-i.out.items c.write.new.out.items _
      (c.in_ok-write.ensures (take c.loop-i.i c.args.items.now)) c.loop-i.invariant.0,
  others_fit g.T.Field.format c.args.items.now c.loop-i.i c.at.result.now c.at.ensures c.loop-i.invariant.1,
)

pub returns : goal.returns
returns g c = all_spelled g.T.Field.format c.args.items.now c.loop-i.i c.loop-i.out.items _
    (rw (← c.len-i-end.ensures) c.loop-i-test.false) c.loop-i.invariant.0
