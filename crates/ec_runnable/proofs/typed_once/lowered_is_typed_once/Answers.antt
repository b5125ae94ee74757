use Rattle.ec_runnable.proofs.Lines.{typed_once}
use Rattle.ec_runnable.proofs.typed_once.lowered_is_typed_once.Goals as goal

pub returns : goal.returns
returns c = typed_once
