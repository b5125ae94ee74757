use Rattle.std.proofs.Common.{subst}
use Rattle.ec_lexer.specs.Faults.{IsCause as IsFaultOf}
use Rattle.ec_tool.specs.Sources.{lexical}
use Rattle.ec_tool.proofs.source.tokens_of.Goals as goal

pub returns-in-Err-Refused-clause-refused : goal.returns-in-Err-Refused-clause-refused
returns-in-Err-Refused-clause-refused c =
    rw c.refuse.ensures
    (lexical (subst (λ error. IsFaultOf c.args.text.now error) c.in-Err-Refused.field-0-is c.in-Err-Refused.ensures.cause))
