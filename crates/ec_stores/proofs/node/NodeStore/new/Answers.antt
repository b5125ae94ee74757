use Rattle.std.proofs.Common.{refl}
use Rattle.ec_stores.specs.Node.{NodeData}
use Rattle.ec_stores.proofs.Fresh.{is_fresh}
use Rattle.ec_stores.proofs.node.NodeStore.new.Goals as goal

pub returns : goal.returns
returns c =
    let node : NodeData = record {
      kind = c.args.kind;
      memory = c.in_ok-new.field-0;
      objects = c.new-2.result.entries;
      frames = c.new-3.result;
      locals = c.new-4.result;
      pool = c.new-5.result;
      count = 0;
    } in
    is_fresh node c.args.blocks c.args.room c.args.globals c.in_ok-new.ensures.whole c.in_ok-new.ensures.new c.requires.few_globals
    c.new-2.ensures.empty c.new-3.ensures c.new-4.ensures c.new-5.ensures refl
