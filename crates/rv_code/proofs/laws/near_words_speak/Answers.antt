-- The words do what the steps do, where questions lead near.
use Rattle.rv_code.proofs.Speaking.{near_speaks}
use Rattle.rv_code.proofs.laws.near_words_speak.Goals as goal

pub returns : goal.returns
returns start = near_speaks
