-- Both are the stops of the program's code.
use Rattle.ec_compile.proofs.SameStops.{kinds_name_the_same as same}
use Rattle.ec_compile.proofs.laws.kinds_name_the_same.Goals as goal

pub returns : goal.returns
returns c = same
