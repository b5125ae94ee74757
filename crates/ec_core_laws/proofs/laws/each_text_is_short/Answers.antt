-- The literal texts of an accepted program are short.
use Rattle.ec_core_laws.proofs.Literals.{each_text_is_short}
use Rattle.ec_core_laws.proofs.laws.each_text_is_short.Goals as goal

pub returns : goal.returns
returns start table program is none = each_text_is_short table program is none
