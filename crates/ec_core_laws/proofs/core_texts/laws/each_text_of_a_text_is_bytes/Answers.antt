-- The texts in a program of a text are lists of bytes.
use Rattle.ec_core_laws.proofs.CoreTextsTextPrograms.{text_has_bytes}
use Rattle.ec_core_laws.proofs.core_texts.laws.each_text_of_a_text_is_bytes.Goals as goal

pub returns : goal.returns
returns start text tokens program bytes has tree = text_has_bytes text tokens program bytes has tree
