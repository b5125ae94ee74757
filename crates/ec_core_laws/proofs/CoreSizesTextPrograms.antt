-- The tree of a text has no more nodes than the text has tokens, and these are no more than its bytes.
use Rattle.std.proofs.Common.{◌+◌, ◌≤◌, List, [], length, arith}
use Rattle.ec_ast.specs.declared.Class.{Class}
use Rattle.ec_ast.specs.declared.Constant.{Constant}
use Rattle.ec_ast.specs.declared.Program.{Program}
use Rattle.ec_ast.specs.declared.Typeobject.{Typeobject}
use Rattle.ec_core_laws.proofs.CoreSizesTextParts.{Taken, arrived, passed, and_then, behind, past, skipped, nodes}
use Rattle.ec_core_laws.proofs.CoreSizesTextTrees.{body, expr}
use Rattle.ec_core_laws.specs.TreeNodes.{nodes_in_constants, nodes_in_program}
use Rattle.ec_lexer.specs.declared.token.Token.{Token}
use Rattle.ec_parser.specs.HasTree.{IsClass, IsTypeobj, AreConstants, HasTree, program}
use Rattle.ec_places.proofs.Skipped.{flag, type_option, params_option, signatures}

-- ---- constants

class : {ts us : List Token} {x : Class} → IsClass ts us x → Taken ts us (nodes.body x.body)
class (IsClass.class is e f ps h g i) =
    behind (skipped (flag is))
    (passed (passed (behind (skipped (params_option ps)) (past (body h) (passed (passed arrived))))))

typeobject : {ts us : List Token} {x : Typeobject} → IsTypeobj ts us x → Taken ts us 0
typeobject (IsTypeobj.typeobj e f h g i) = passed (passed (past (skipped (signatures h)) (passed (passed arrived))))

constants : {ts us : List Token} {xs : List Constant} → AreConstants ts us xs → Taken ts us (nodes_in_constants xs)
constants AreConstants.none = arrived
constants (AreConstants.class e f g h k) = passed (passed (passed (and_then (class h) (constants k))))
constants (AreConstants.typeobj e f g h k) = passed (passed (passed (and_then (typeobject h) (constants k))))
constants (AreConstants.expr e f of g h k) =
    passed (passed (behind (skipped (type_option of)) (passed (and_then (expr h) (constants k)))))

pub nodes_fit : (ts : List Token) (x : Program) → HasTree ts x → nodes_in_program x ≤ length ts
nodes_fit ts x (program h) =
    let t : Taken ts [] (nodes_in_constants x.constants) = constants h in
    let l : nodes_in_constants x.constants + 0 ≤ length ts = t.fits in
    omega arith
