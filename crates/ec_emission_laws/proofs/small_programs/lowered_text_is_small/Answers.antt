-- What a text's program is lowered to is small.
use Rattle.ec_core_laws.proofs.TextPrograms.{text_has_small_numbers}
use Rattle.ec_core_laws.proofs.CoreTextsTextPrograms.{text_has_bytes}
use Rattle.ec_emission_laws.proofs.Programs.{lowered_small}
use Rattle.ec_emission_laws.proofs.small_programs.lowered_text_is_small.Goals as goal

pub returns : goal.returns
returns start text tokens s program p bytes has tree h lowered =
    lowered_small s program p h lowered (text_has_small_numbers text tokens program has tree)
    (text_has_bytes text tokens program bytes has tree)
