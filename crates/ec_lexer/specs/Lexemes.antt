-- How a lexer reads: what a text begins with, by its first bytes. It agrees with what separators, tokens and faults are.
use Rattle.std.specs.Prelude.{◌≤◌, ℕ, zero, suc, ◌+◌, ◌-◌, Bool, true, false, if◌then◌else◌, ◌==◌, nat_lt, min, [], ◌∷◌, length}
use Rattle.std.specs.Prelude.{take, drop, Option, Some, None}
use Rattle.std.specs.Char.{is_ascii_digit}
use Rattle.ec_lexer.specs.declared.error.LexFault.TheVariants.{StrayByte, UnclosedString, UnknownEscape, LargeInteger}
use Rattle.ec_lexer.specs.declared.lexeme.Class.TheVariants as class
use Rattle.ec_lexer.specs.declared.lexeme.Form.{Form}
use Rattle.ec_lexer.specs.declared.lexeme.Form.TheVariants as form
use Rattle.ec_lexer.specs.declared.lexeme.Lexeme.{Lexeme}
use Rattle.ec_lexer.specs.declared.lexeme.Lexeme.TheVariants.{End, Separator, Token, Fault}
use Rattle.ec_lexer.specs.declared.token.Reserved.{Reserved}
use Rattle.ec_lexer.specs.declared.token.Symbol.{Symbol}
use Rattle.ec_lexer.specs.declared.token.TokenKind.{TokenKind}
use Rattle.ec_lexer.specs.declared.token.TokenKind.TheVariants as kind
use Rattle.ec_lexer.specs.Words.{Bytes, is_blank, begins_word, run, front, reserved, symbol_of, number_of, greatest, is_plain}
use Rattle.ec_lexer.specs.Words.{is_escape, unescaped_byte}

abbrev pub comment : Bytes → Lexeme
comment text = Separator (run class.Line (drop 1 text) + 1)

-- a word is reserved or a name
abbrev pub word_form : Option Reserved → Form
word_form (Some word) = form.Reserved word
word_form None = form.Name

abbrev pub word : Bytes → Lexeme
word text = Token (word_form (reserved (front class.Word text))) (run class.Word text)

abbrev pub integer : Bytes → Lexeme
integer text =
    if nat_lt greatest (number_of (front class.Digit text)) then Fault LargeInteger 0
    else Token (form.Integer (number_of (front class.Digit text))) (run class.Digit text)

-- What is left of a string from its byte number `at` on, counted from the opening quote; the flag says whether the
-- byte before was a backslash that escapes.
abbrev pub string : Bool → ℕ → Bytes → Lexeme
string is_escaped at [] = Fault UnclosedString 0
string true at (b ∷ left) =
    if b == 10 then Fault UnclosedString 0
    else (if is_escape b then string false (at + 1) left else Fault UnknownEscape (at - 1))
string false at (b ∷ left) =
    if b == 10 then Fault UnclosedString 0
    else (if b == 34 then Token form.Literal (at + 1)
    else (if b == 92 then string true (at + 1) left
    else (if is_plain b then string false (at + 1) left else Fault StrayByte at)))

abbrev pub or_else : Option Symbol → ℕ → Lexeme → Lexeme
or_else (Some s) n other = Token (form.Symbol s) n
or_else None n other = other

-- the longest symbol of at most this many bytes
abbrev pub symbol_up_to : ℕ → Bytes → Lexeme
symbol_up_to zero text = Fault StrayByte 0
symbol_up_to (suc n) text = or_else (symbol_of (take (suc n) text)) (suc n) (symbol_up_to n text)

abbrev pub symbol : Bytes → Lexeme
symbol text = symbol_up_to (min (length text) 3) text

abbrev pub begins_by : ℕ → Bytes → Lexeme
begins_by b text =
    if is_blank b then Separator 1
    else (if b == 37 then comment text
    else (if begins_word b then word text
    else (if is_ascii_digit b then integer text
    else (if b == 34 then string false 1 (drop 1 text)
    else symbol text))))

-- what a text begins with
unfoldable pub begins : Bytes → Lexeme
begins [] = End
begins (b ∷ text) = begins_by b (b ∷ text)

-- separators and tokens take a byte at least, and nothing takes more than there are
abbrev pub Takes : Lexeme → ℕ → Type 0
Takes End most = Unit {0}
Takes (Separator n) most = (1 ≤ n) × (n ≤ most)
Takes (Token f n) most = (1 ≤ n) × (n ≤ most)
Takes (Fault f n) most = n ≤ most

-- what stands between a string's quotes, with each escape replaced by its byte
abbrev pub unescaped : Bytes → Bytes
unescaped [] = []
unescaped (b ∷ []) = b ∷ []
unescaped (b ∷ c ∷ text) = if b == 92 then unescaped_byte c ∷ unescaped text else b ∷ unescaped (c ∷ text)

-- what the token of this form and these bytes is
abbrev pub kind_of : Form → Bytes → TokenKind
kind_of (form.Reserved word) bytes = kind.Reserved word
kind_of form.Name bytes = kind.Name bytes
kind_of (form.Integer n) bytes = kind.Integer n
kind_of form.Literal bytes = kind.Literal (unescaped (take (length bytes - 2) (drop 1 bytes)))
kind_of (form.Symbol s) bytes = kind.Symbol s
