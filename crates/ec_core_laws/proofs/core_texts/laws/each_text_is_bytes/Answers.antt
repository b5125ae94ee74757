-- The texts in the core are lists of bytes, where those in the tree are.
use Rattle.ec_core_laws.proofs.CoreTextsPrograms.{each_text_is_bytes}
use Rattle.ec_core_laws.proofs.core_texts.laws.each_text_is_bytes.Goals as goal

pub returns : goal.returns
returns start table program bytes = each_text_is_bytes table program bytes
