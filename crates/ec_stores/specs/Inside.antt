-- The data that the fields of a store are.
use Rattle.ec_stores.specs.Node.{NodeData}
use Rattle.ec_stores.specs.declared.node.NodeStore.TheInside.{Inside}

abbrev pub data_of : Inside → NodeData
data_of n = record {
  kind = n.kind;
  memory = n.memory;
  objects = n.objects.entries;
  frames = n.frames;
  locals = n.references;
  pool = n.pool;
  count = n.count;
}
