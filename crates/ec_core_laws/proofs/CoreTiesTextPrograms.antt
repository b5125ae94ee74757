-- Each assignment in a program of a text has a target.
use Rattle.std.proofs.Common.{List}
use Rattle.ec_ast.specs.declared.Class.{Class}
use Rattle.ec_ast.specs.declared.Constant.{Constant}
use Rattle.ec_ast.specs.declared.Program.{Program}
use Rattle.ec_core_laws.proofs.AllTargets.{AreTargets, none, both, said, all_are}
use Rattle.ec_core_laws.proofs.CoreTiesTextTrees.{body, expr}
use Rattle.ec_core_laws.specs.Targets.{HasTargets, targets_in_constants}
use Rattle.ec_lexer.specs.declared.token.Token.{Token}
use Rattle.ec_parser.specs.HasTree.{IsClass, AreConstants, HasTree, program}

class : {ts us : List Token} {x : Class} → IsClass ts us x → AreTargets (said.body x.body)
class (IsClass.class is e f ps h g i) = body h

constants : {ts us : List Token} {xs : List Constant} → AreConstants ts us xs → AreTargets (targets_in_constants xs)
constants AreConstants.none = none
constants (AreConstants.class e f g h k) = both (class h) (constants k)
constants (AreConstants.typeobj e f g h k) = constants k
constants (AreConstants.expr e f of g h k) = both (expr h) (constants k)

pub text_has_targets : (tokens : List Token) (x : Program) → HasTree tokens x → HasTargets x
text_has_targets tokens x (program h) = all_are (constants h)
