-- A core of a text has no more nodes than the text has tokens.
use Rattle.ec_core_laws.proofs.Whole.{nodes_have_tokens}
use Rattle.ec_core_laws.proofs.core_texts.core_sizes.each_node_has_a_token.Goals as goal

pub returns : goal.returns
returns start table tokens program none tree = nodes_have_tokens table tokens program none tree
