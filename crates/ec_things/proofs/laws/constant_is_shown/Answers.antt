-- One constant has changed at each node.
use Rattle.ec_things.proofs.Globals.{global_put}
use Rattle.ec_things.proofs.laws.constant_is_shown.Goals as goal

pub returns : goal.returns
returns c = λ nodes nodes' i v things globals held place shows puts within.
    global_put nodes nodes' i v puts things globals held place shows within
