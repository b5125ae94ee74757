-- The literal texts in the tree of a text are those of some of its tokens, which are lists of bytes.
use Rattle.std.proofs.Common.{◌≡◌, ℕ, true, List, [], map, take, drop, arith}
use Rattle.std.proofs.lemmas.Bool.Decides.{nat_tests}
use Rattle.std.proofs.lemmas.List.Elements.{All-drop, All-from_recursion, All-take, recursion_from_All}
use Rattle.ec_ast.specs.declared.Class.{Class}
use Rattle.ec_ast.specs.declared.Constant.{Constant}
use Rattle.ec_ast.specs.declared.Program.{Program}
use Rattle.ec_ast.specs.declared.Typeobject.{Typeobject}
use Rattle.ec_check.proofs.Every.{Every, all_of}
use Rattle.ec_core.specs.Literals.{Texts, joined}
use Rattle.ec_core_laws.proofs.CoreTextsTextParts.{Taken, arrived, passed, literal, and_then, past, skipped, texts}
use Rattle.ec_core_laws.proofs.CoreTextsTextTrees.{body, expr}
use Rattle.ec_core_laws.specs.TreeTexts.{IsByte, IsBytes, HasBytes, texts_of_value, texts_of_program}
use Rattle.ec_lexer.specs.Tokens.{IsToken, reserved_word, name, integer, string, symbol, HasTokens, HasTokensFrom, ended, separated, taken}
use Rattle.ec_lexer.specs.Tokens.{Spells, nothing, plain, escape}
use Rattle.ec_lexer.specs.Words.{Bytes, is_plain, is_escape, run, unescaped_byte}
use Rattle.ec_lexer.specs.declared.lexeme.Class.TheVariants as class
use Rattle.ec_lexer.specs.declared.token.Token.{Token}
use Rattle.ec_lexer.specs.declared.token.TokenKind.{TokenKind}
use Rattle.ec_parser.specs.HasTree.{IsClass, IsTypeobj, AreConstants, HasTree, program}
use Rattle.ec_parser.specs.Terminals.{text_in, text_of}
use Rattle.ec_places.proofs.Skipped.{flag, type_option, params_option, signatures}

-- ---- constants

class_taken : {ts us : List Token} {x : Class} → IsClass ts us x → Taken ts us (texts.body x.body)
class_taken (IsClass.class is e f ps h g i) =
    and_then (skipped (flag is))
    (passed (passed (and_then (skipped (params_option ps)) (past (body h) (passed (passed arrived))))))

typeobject : {ts us : List Token} {x : Typeobject} → IsTypeobj ts us x → Taken ts us []
typeobject (IsTypeobj.typeobj e f h g i) = passed (passed (past (skipped (signatures h)) (passed (passed arrived))))

constants : {ts us : List Token} {xs : List Constant} → AreConstants ts us xs →
    Taken ts us (joined (map (λ constant. texts_of_value constant.value) xs))
constants AreConstants.none = arrived
constants (AreConstants.class e f g h k) = passed (passed (passed (and_then (class_taken h) (constants k))))
constants (AreConstants.typeobj e f g h k) = passed (passed (passed (and_then (typeobject h) (constants k))))
constants (AreConstants.expr e f of g h k) =
    passed (passed (and_then (skipped (type_option of)) (passed (and_then (expr h) (constants k)))))

all_taken : {ts : List Token} {x : Program} → HasTree ts x → Taken ts [] (texts_of_program x)
all_taken (program h) = constants h

-- ---- tokens

front_bytes : (n : ℕ) (text : Bytes) → IsBytes text → IsBytes (take n text)
front_bytes n text h = recursion_from_All IsByte (take n text) (All-take IsByte n text (All-from_recursion IsByte text h))

rest_bytes : (n : ℕ) (text : Bytes) → IsBytes text → IsBytes (drop n text)
rest_bytes n text h = recursion_from_All IsByte (drop n text) (All-drop IsByte n text (All-from_recursion IsByte text h))

plain_byte : (b : ℕ) → is_plain b ≡ true → IsByte b
plain_byte b e = grind (arith, nat_tests)

unescaped : (b : ℕ) → is_escape b ≡ true → IsByte (unescaped_byte b)
unescaped b e = grind (arith, nat_tests)

spelt : {body text : Bytes} → Spells body text → IsBytes text
spelt nothing = tt
spelt (plain {b} e k) = (plain_byte b e, spelt k)
spelt (escape {b} e k) = (unescaped b e, spelt k)

fits : (text : Bytes) {kind : TokenKind} {n : ℕ} → IsBytes text → IsToken text kind n → IsBytes (text_in kind)
fits text h (reserved_word e f) = tt
fits text h (name e f) = front_bytes (run class.Word text) text h
fits text h (integer e k) = tt
fits text h (string rest k) = spelt k
fits text h (symbol l e none) = tt

each_token_fits : (at : ℕ) (text : Bytes) {ts : List Token} → IsBytes text → HasTokensFrom at text ts →
    Every (λ (t : Token). IsBytes (text_of t)) ts
each_token_fits at text b ended = tt
each_token_fits at text b (separated s h) = each_token_fits _ (drop _ text) (rest_bytes _ text b) h
each_token_fits at text b (taken s h) = (fits text b s, each_token_fits _ (drop _ text) (rest_bytes _ text b) h)

each_taken_fits : {ts us : List Token} {ns : Texts} → Taken ts us ns → Every (λ (t : Token). IsBytes (text_of t)) ts → Every IsBytes ns
each_taken_fits arrived h = tt
each_taken_fits (passed k) h = each_taken_fits k h.1
each_taken_fits (literal k) h = (h.0, each_taken_fits k h.1)

pub text_has_bytes : (text : List ℕ) (tokens : List Token) (p : Program) → IsBytes text → HasTokens text tokens →
    HasTree tokens p → HasBytes p
text_has_bytes text tokens p bytes has tree =
    all_of IsBytes (texts_of_program p) (each_taken_fits (all_taken tree) (each_token_fits 0 text bytes has.all))
