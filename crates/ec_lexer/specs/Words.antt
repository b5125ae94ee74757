-- Classes of bytes, the reserved words and the symbols, and what digits and escapes stand for.
use Rattle.std.specs.Prelude.{ℕ, ◌+◌, ◌-◌, ◌*◌, Bool, not, ◌&&◌, ◌||◌, if◌then◌else◌, ◌==◌, nat_le, List, [], ◌∷◌, codes, take}
use Rattle.std.specs.Prelude.{fold, Option, Some, None}
use Rattle.std.specs.Char.{is_ascii_alphabetic, is_ascii_alphanumeric, is_ascii_digit}
use Rattle.std.specs.List.{prefix_len}
use Rattle.std.specs.Str.{bytes_eq, str_eq_ignore_ascii_case}
use Rattle.ec_lexer.specs.declared.lexeme.Class.{Class}
use Rattle.ec_lexer.specs.declared.lexeme.Class.TheVariants as class
use Rattle.ec_lexer.specs.declared.token.Reserved.{Reserved}
use Rattle.ec_lexer.specs.declared.token.Reserved.TheVariants as word
use Rattle.ec_lexer.specs.declared.token.Symbol.{Symbol}
use Rattle.ec_lexer.specs.declared.token.Symbol.TheVariants as symbol

abbrev pub Bytes : Type 0
Bytes = List ℕ

-- `%`, `"`, `\` and the line feed
abbrev pub percent : ℕ
percent = 37

abbrev pub quote : ℕ
quote = 34

abbrev pub backslash : ℕ
backslash = 92

abbrev pub line_feed : ℕ
line_feed = 10

-- a blank, a tab, a carriage return or a line feed
abbrev pub is_blank : ℕ → Bool
is_blank b = b == 32 || b == 9 || b == 13 || b == 10

-- what a word begins with: a letter or `_`
abbrev pub begins_word : ℕ → Bool
begins_word b = is_ascii_alphabetic b || b == 95

-- a byte of a word: a letter, a digit or `_`; a byte of an integer: a digit; a byte of a line: any but a line feed
abbrev pub is_in : Class → ℕ → Bool
is_in class.Word b = is_ascii_alphanumeric b || b == 95
is_in class.Digit b = is_ascii_digit b
is_in class.Line b = not (b == 10)

-- how many bytes of a class a text begins with
abbrev pub run : Class → Bytes → ℕ
run c text = prefix_len (is_in c) text

-- the bytes of a class that a text begins with, all of them
abbrev pub front : Class → Bytes → Bytes
front c text = take (run c text) text

-- the language's list of reserved words, all 51 of them
abbrev pub reserved_words : List (Bytes × Reserved)
reserved_words =
    (codes "and", word.And) ∷ (codes "any", word.Any) ∷ (codes "as", word.As) ∷
    (codes "assert", word.Assert) ∷ (codes "at", word.At) ∷ (codes "attached", word.Attached) ∷
    (codes "boolean", word.Boolean) ∷ (codes "class", word.Class) ∷ (codes "condition", word.Condition) ∷
    (codes "const", word.Const) ∷ (codes "else", word.Else) ∷ (codes "elseif", word.Elseif) ∷
    (codes "end", word.End) ∷ (codes "exit", word.Exit) ∷ (codes "export", word.Export) ∷
    (codes "failure", word.Failure) ∷ (codes "false", word.False) ∷ (codes "fix", word.Fix) ∷
    (codes "function", word.Function) ∷ (codes "if", word.If) ∷ (codes "immutable", word.Immutable) ∷
    (codes "initially", word.Initially) ∷ (codes "integer", word.Integer) ∷ (codes "isfixed", word.Isfixed) ∷
    (codes "loop", word.Loop) ∷ (codes "monitor", word.Monitor) ∷ (codes "move", word.Move) ∷
    (codes "nil", word.Nil) ∷ (codes "node", word.Node) ∷ (codes "object", word.Object) ∷
    (codes "of", word.Of) ∷ (codes "operation", word.Operation) ∷ (codes "or", word.Or) ∷
    (codes "process", word.Process) ∷ (codes "refix", word.Refix) ∷ (codes "return", word.Return) ∷
    (codes "self", word.Self_) ∷ (codes "signal", word.Signal) ∷ (codes "stdout", word.Stdout) ∷
    (codes "string", word.String) ∷ (codes "then", word.Then) ∷ (codes "to", word.To) ∷
    (codes "true", word.True) ∷ (codes "typeobject", word.Typeobject) ∷ (codes "unfix", word.Unfix) ∷
    (codes "var", word.Var) ∷ (codes "vector", word.Vector) ∷ (codes "view", word.View) ∷
    (codes "visit", word.Visit) ∷ (codes "wait", word.Wait) ∷ (codes "when", word.When) ∷ []

-- the first row of the table whose word is this one but for case
abbrev pub lookup_word : List (Bytes × Reserved) → Bytes → Option Reserved
lookup_word [] bytes = None
lookup_word (row ∷ rows) bytes = if str_eq_ignore_ascii_case row.0 bytes then Some row.1 else lookup_word rows bytes

-- the reserved word that is spelled so but for case, where there is one
unfoldable pub reserved : Bytes → Option Reserved
reserved = lookup_word reserved_words

-- the language's list of symbols, all 24 of them
abbrev pub symbols : List (Bytes × Symbol)
symbols =
    (codes "<-", symbol.LeftArrow) ∷ (codes "->", symbol.RightArrow) ∷ (codes "(", symbol.OpenParenthesis) ∷
    (codes ")", symbol.CloseParenthesis) ∷ (codes "[", symbol.OpenBracket) ∷ (codes "]", symbol.CloseBracket) ∷
    (codes ",", symbol.Comma) ∷ (codes ":", symbol.Colon) ∷ (codes ".", symbol.Dot) ∷
    (codes "+", symbol.Plus) ∷ (codes "-", symbol.Minus) ∷ (codes "*", symbol.Star) ∷
    (codes "/", symbol.Slash) ∷ (codes "#", symbol.Hash) ∷ (codes "||", symbol.DoubleBar) ∷
    (codes "==", symbol.DoubleEqual) ∷ (codes "!==", symbol.BangDoubleEqual) ∷ (codes "=", symbol.Equal) ∷
    (codes "!=", symbol.BangEqual) ∷ (codes "<", symbol.Less) ∷ (codes "<=", symbol.LessEqual) ∷
    (codes ">", symbol.Greater) ∷ (codes ">=", symbol.GreaterEqual) ∷ (codes "!", symbol.Bang) ∷ []

-- the first row of the table with these bytes
abbrev pub lookup_symbol : List (Bytes × Symbol) → Bytes → Option Symbol
lookup_symbol [] bytes = None
lookup_symbol (row ∷ rows) bytes = if bytes_eq row.0 bytes then Some row.1 else lookup_symbol rows bytes

-- the symbol that is spelled so, where there is one
unfoldable pub symbol_of : Bytes → Option Symbol
symbol_of = lookup_symbol symbols

-- the number that digits say
abbrev pub number_of : Bytes → ℕ
number_of digits = fold (λ n digit. n * 10 + (digit - 48)) 0 digits

-- the greatest integer that a text can have
abbrev pub greatest : ℕ
greatest = 2147483647

-- what stands in a string for itself: a byte from the blank to `~` other than `"` and `\`
abbrev pub is_plain : ℕ → Bool
is_plain b = nat_le 32 b && nat_le b 126 && not (b == 34) && not (b == 92)

-- what stands in a string behind a backslash: `n`, `t`, `\` or `"`
abbrev pub is_escape : ℕ → Bool
is_escape b = b == 110 || b == 116 || b == 92 || b == 34

-- the byte that a backslash and this byte stand for: a line feed for `n`, a tab for `t`, else the byte itself
abbrev pub unescaped_byte : ℕ → ℕ
unescaped_byte b = if b == 110 then 10 else (if b == 116 then 9 else b)
