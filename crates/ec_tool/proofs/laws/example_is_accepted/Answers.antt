use Rattle.ec_tool.proofs.ExampleCall.{is_accepted}
use Rattle.ec_tool.proofs.laws.example_is_accepted.Goals as goal

pub returns : goal.returns
returns c = is_accepted
