-- What the static rules know of one layer of the tree.
use Rattle.ec_check.specs.Parts.{AnExpression, AStatement, parts_judged}
use Rattle.ec_rules.specs.Parts as judged
use Rattle.ec_ast.specs.Layers.{expression_with, statement_with}

abbrev pub expression_judged : AnExpression → judged.AnExpression
expression_judged = expression_with parts_judged

abbrev pub statement_judged : AStatement → judged.AStatement
statement_judged = statement_with parts_judged
