-- The numbers in the tree of a text are those of some of its tokens, which are small.
use Rattle.std.proofs.Common.{ℕ, ◌≤◌, List, [], map, arith}
use Rattle.ec_ast.specs.declared.Class.{Class}
use Rattle.ec_ast.specs.declared.Constant.{Constant}
use Rattle.ec_ast.specs.declared.Program.{Program}
use Rattle.ec_ast.specs.declared.Typeobject.{Typeobject}
use Rattle.ec_check.proofs.Every.{Every, all_of}
use Rattle.ec_core_laws.proofs.TextParts.{Taken, arrived, passed, number, and_then, past, skipped, numbers}
use Rattle.ec_core_laws.proofs.TextTrees.{body, expr}
use Rattle.ec_core_laws.specs.TreeNumbers.{Fits, HasSmallNumbers, joined, numbers_of_value, numbers_of_program}
use Rattle.ec_lexer.specs.Tokens.{IsToken, reserved_word, name, integer, string, symbol, HasTokens, HasTokensFrom, ended, separated, taken}
use Rattle.ec_lexer.specs.Words.{Bytes, greatest}
use Rattle.ec_lexer.specs.declared.token.Token.{Token}
use Rattle.ec_lexer.specs.declared.token.TokenKind.{TokenKind}
use Rattle.ec_parser.specs.HasTree.{IsClass, IsTypeobj, AreConstants, HasTree, program}
use Rattle.ec_parser.specs.Terminals.{number_in, number_of}
use Rattle.ec_places.proofs.Skipped.{flag, type_option, params_option, signatures}

-- ---- constants

class : {ts us : List Token} {x : Class} → IsClass ts us x → Taken ts us (numbers.body x.body)
class (IsClass.class is e f ps h g i) =
    and_then (skipped (flag is))
    (passed (passed (and_then (skipped (params_option ps)) (past (body h) (passed (passed arrived))))))

typeobject : {ts us : List Token} {x : Typeobject} → IsTypeobj ts us x → Taken ts us []
typeobject (IsTypeobj.typeobj e f h g i) = passed (passed (past (skipped (signatures h)) (passed (passed arrived))))

constants : {ts us : List Token} {xs : List Constant} → AreConstants ts us xs →
    Taken ts us (joined (map (λ constant. numbers_of_value constant.value) xs))
constants AreConstants.none = arrived
constants (AreConstants.class e f g h k) = passed (passed (passed (and_then (class h) (constants k))))
constants (AreConstants.typeobj e f g h k) = passed (passed (passed (and_then (typeobject h) (constants k))))
constants (AreConstants.expr e f of g h k) =
    passed (passed (and_then (skipped (type_option of)) (passed (and_then (expr h) (constants k)))))

all_taken : {ts : List Token} {x : Program} → HasTree ts x → Taken ts [] (numbers_of_program x)
all_taken (program h) = constants h

-- ---- tokens

zero_fits : Fits 0
zero_fits = omega arith

within : (n : ℕ) → n ≤ greatest → Fits n
within n h = omega arith

fits : {text : Bytes} {kind : TokenKind} {n : ℕ} → IsToken text kind n → Fits (number_in kind)
fits (reserved_word e f) = zero_fits
fits (name e f) = zero_fits
fits (integer e h) = within _ h
fits (string rest h) = zero_fits
fits (symbol l e none) = zero_fits

each_token_fits : {at : ℕ} {text : Bytes} {ts : List Token} → HasTokensFrom at text ts → Every (λ (t : Token). Fits (number_of t)) ts
each_token_fits ended = tt
each_token_fits (separated s h) = each_token_fits h
each_token_fits (taken s h) = (fits s, each_token_fits h)

each_taken_fits : {ts us : List Token} {ns : List ℕ} → Taken ts us ns → Every (λ (t : Token). Fits (number_of t)) ts → Every Fits ns
each_taken_fits arrived h = tt
each_taken_fits (passed k) h = each_taken_fits k h.1
each_taken_fits (number k) h = (h.0, each_taken_fits k h.1)

pub text_has_small_numbers : (text : List ℕ) (tokens : List Token) (p : Program) → HasTokens text tokens → HasTree tokens p →
    HasSmallNumbers p
text_has_small_numbers text tokens p has tree =
    all_of Fits (numbers_of_program p) (each_taken_fits (all_taken tree) (each_token_fits has.all))
