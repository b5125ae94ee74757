-- The types that a program declares have their names among its tokens, in their order.
use Rattle.std.proofs.Common.{List, [], map}
use Rattle.ec_ast.specs.declared.Class.{Class}
use Rattle.ec_ast.specs.declared.Constant.{Constant}
use Rattle.ec_ast.specs.declared.Program.{Program}
use Rattle.ec_ast.specs.declared.Typeobject.{Typeobject}
use Rattle.ec_types.specs.Declarations.{joined, in_class, in_typeobject, in_value, declarations_of}
use Rattle.ec_lexer.specs.declared.token.Token.{Token}
use Rattle.ec_parser.specs.HasTree.{IsClass, IsTypeobj, AreConstants, HasTree, program}
use Rattle.ec_places.proofs.Among.{Among, arrived, passed, named, and_then, past}
use Rattle.ec_places.proofs.Skipped.{name_at, flag, type_option, params_option, signatures}
use Rattle.ec_places.proofs.Trees.{body, expr}

class : {ts us : List Token} {x : Class} → IsClass ts us x → Among ts us (in_class x).types
class (IsClass.class is e f ps h g i) =
    and_then (flag is) (passed (named (name_at f) (and_then (params_option ps) (past (body h) (passed (passed arrived))))))

typeobject : {ts us : List Token} {x : Typeobject} → IsTypeobj ts us x → Among ts us (in_typeobject x).types
typeobject (IsTypeobj.typeobj e f h g i) = passed (named (name_at f) (past (signatures h) (passed (passed arrived))))

constants : {ts us : List Token} {xs : List Constant} → AreConstants ts us xs →
    Among ts us (joined (map (λ constant. in_value constant.value) xs)).types
constants AreConstants.none = arrived
constants (AreConstants.class e f g h k) = passed (passed (passed (and_then (class h) (constants k))))
constants (AreConstants.typeobj e f g h k) = passed (passed (passed (and_then (typeobject h) (constants k))))
constants (AreConstants.expr e f of g h k) = passed (passed (and_then (type_option of) (passed (and_then (expr h) (constants k)))))

pub declared_among : {ts : List Token} {x : Program} → HasTree ts x → Among ts [] (declarations_of x).types
declared_among (program h) = constants h
