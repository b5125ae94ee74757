-- The words do what the steps do, where questions and jumps lead anywhere.
use Rattle.rv_code.proofs.Speaking.{far_speaks}
use Rattle.rv_code.proofs.laws.far_words_speak.Goals as goal

pub returns : goal.returns
returns start = far_speaks
