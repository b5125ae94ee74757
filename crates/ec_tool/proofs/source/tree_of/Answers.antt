use Rattle.std.proofs.Common.{subst}
use Rattle.ec_parser.specs.Program.{IsCause as IsParseCause}
use Rattle.ec_tool.specs.Sources.{syntax, deep}
use Rattle.ec_tool.proofs.source.tree_of.Goals as goal

pub returns-in-Err-Syntax-clause-refused : goal.returns-in-Err-Syntax-clause-refused
returns-in-Err-Syntax-clause-refused c =
    rw (c.refuse.ensures, c.place_of.ensures)
    (syntax c.requires (subst (λ error. IsParseCause c.args.tokens.now error) c.in-Err-Syntax.field-0-is c.in-Err-Syntax.ensures.refused))

pub returns-in-Err-Deep-clause-refused : goal.returns-in-Err-Deep-clause-refused
returns-in-Err-Deep-clause-refused c =
    rw (c.refuse-in-Err-Deep.ensures, c.place_of-in-Err-Deep.ensures)
    (deep c.requires (subst (λ error. IsParseCause c.args.tokens.now error) c.in-Err-Deep.field-0-is c.in-Err-Deep.ensures.refused))
