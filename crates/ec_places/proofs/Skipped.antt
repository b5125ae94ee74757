-- The parts of a text that declare no types: types, parameters, signatures and words that may be left out.
use Rattle.std.proofs.Common.{◌≡◌, Bool, List, [], Option, refl}
use Rattle.ec_ast.specs.declared.Name.{Name}
use Rattle.ec_ast.specs.declared.Parameter.{Parameter}
use Rattle.ec_ast.specs.declared.Signature.{Signature}
use Rattle.ec_ast.specs.declared.TypeName.{TypeName}
use Rattle.ec_lexer.specs.declared.token.Token.{Token}
use Rattle.ec_parser.specs.declared.terminal.Terminal.{Terminal}
use Rattle.ec_parser.specs.HasTree.{IsId, IsType, IsTypeOption, IsSig, AreMoreSigs, AreSigs, IsSigList, IsSigResult, AreSignatures}
use Rattle.ec_parser.specs.HasTree.{IsParam, AreMoreParams, AreParams, IsParamsOption, IsResult, IsFlag, IsBrackets}
use Rattle.ec_places.proofs.Among.{Among, arrived, passed, past}

-- a name stands where its token does
pub name_at : {a : Token} {name : Name} → IsId a name → name.at ≡ a.at
name_at (IsId.other e) = refl
name_at (IsId.create e) = refl
name_at (IsId.putstring e) = refl
name_at (IsId.count e) = refl

-- ---- words

pub flag : {kind : Terminal} {ts us : List Token} {is : Bool} → IsFlag kind ts us is → Among ts us []
flag IsFlag.without = arrived
flag (IsFlag.with_word e) = passed arrived

pub brackets : {ts us : List Token} → IsBrackets ts us → Among ts us []
brackets IsBrackets.none = arrived
brackets (IsBrackets.some e f) = passed (passed arrived)

-- ---- types

pub type : {ts us : List Token} {x : TypeName} → IsType ts us x → Among ts us []
type (IsType.integer e) = passed arrived
type (IsType.boolean e) = passed arrived
type (IsType.string e) = passed arrived
type (IsType.any e) = passed arrived
type (IsType.node e) = passed arrived
type (IsType.id e) = passed arrived
type (IsType.vector e f g h of i) = passed (passed (passed (passed (past (type of) (passed arrived)))))

pub type_option : {ts us : List Token} {x : Option TypeName} → IsTypeOption ts us x → Among ts us []
type_option IsTypeOption.none = arrived
type_option (IsTypeOption.some e of) = passed (type of)

-- ---- signatures of typeobjects

sig : {ts us : List Token} {x : TypeName} → IsSig ts us x → Among ts us []
sig (IsSig.unnamed of) = type of
sig (IsSig.named e f of) = passed (passed (type of))

more_sigs : {ts us : List Token} {xs : List TypeName} → AreMoreSigs ts us xs → Among ts us []
more_sigs AreMoreSigs.none = arrived
more_sigs (AreMoreSigs.more e h others) = passed (past (sig h) (more_sigs others))

sigs : {ts us : List Token} {xs : List TypeName} → AreSigs ts us xs → Among ts us []
sigs AreSigs.none = arrived
sigs (AreSigs.some h others) = past (sig h) (more_sigs others)

sig_list : {ts us : List Token} {xs : List TypeName} → IsSigList ts us xs → Among ts us []
sig_list IsSigList.none = arrived
sig_list (IsSigList.some e h f) = passed (past (sigs h) (passed arrived))

sig_result : {ts us : List Token} {x : Option TypeName} → IsSigResult ts us x → Among ts us []
sig_result IsSigResult.none = arrived
sig_result (IsSigResult.some e f h g) = passed (passed (past (sig h) (passed arrived)))

pub signatures : {ts us : List Token} {xs : List Signature} → AreSignatures ts us xs → Among ts us []
signatures AreSignatures.none = arrived
signatures (AreSignatures.more e f h k others) = passed (passed (past (sig_list h) (past (sig_result k) (signatures others))))

-- ---- parameters and results

param : {ts us : List Token} {x : Parameter} → IsParam ts us x → Among ts us []
param (IsParam.param e f of) = passed (passed (type of))

more_params : {ts us : List Token} {xs : List Parameter} → AreMoreParams ts us xs → Among ts us []
more_params AreMoreParams.none = arrived
more_params (AreMoreParams.more e h others) = passed (past (param h) (more_params others))

params : {ts us : List Token} {xs : List Parameter} → AreParams ts us xs → Among ts us []
params AreParams.none = arrived
params (AreParams.some h others) = past (param h) (more_params others)

pub params_option : {ts us : List Token} {xs : List Parameter} → IsParamsOption ts us xs → Among ts us []
params_option IsParamsOption.none = arrived
params_option (IsParamsOption.params e h f) = passed (past (params h) (passed arrived))

pub result : {ts us : List Token} {x : Option Parameter} → IsResult ts us x → Among ts us []
result IsResult.none = arrived
result (IsResult.some e f h g) = passed (passed (past (param h) (passed arrived)))
