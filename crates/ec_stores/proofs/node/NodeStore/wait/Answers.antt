use Rattle.ec_stores.specs.Node.{store_of}
use Rattle.ec_stores.proofs.Changing.{put_back}
use Rattle.ec_stores.proofs.node.NodeStore.wait.Goals as goal

pub returns : goal.returns
returns c = record {
  before = c.take_monitor-monitor.result;
  after = c.wait-granted.new.self;
  had = c.take_monitor-monitor.ensures.was;
  does = c.wait-granted.ensures;
  sets = put_back (store_of c.args.self.now) (store_of c.take_monitor-monitor.new.self) (store_of c.replace_monitor.new.self) c.args.oid
      c.wait-granted.new.self c.take_monitor-monitor.ensures.taken c.replace_monitor.ensures.sets;
}
