-- What a token is to the grammar.
use Rattle.std.specs.Prelude.{ℕ, Bool, true, false, List, [], codes, if◌then◌else◌}
use Rattle.std.specs.Str.{str_eq_ignore_ascii_case}
use Rattle.ec_lexer.specs.declared.token.Token.{Token}
use Rattle.ec_lexer.specs.declared.token.TokenKind.{TokenKind}
use Rattle.ec_lexer.specs.declared.token.TokenKind.TheVariants as token
use Rattle.ec_lexer.specs.declared.token.Reserved.{Reserved}
use Rattle.ec_lexer.specs.declared.token.Reserved.TheVariants as word
use Rattle.ec_lexer.specs.declared.token.Symbol.{Symbol}
use Rattle.ec_lexer.specs.declared.token.Symbol.TheVariants as symbol
use Rattle.ec_parser.specs.declared.terminal.Terminal.{Terminal}
use Rattle.ec_parser.specs.declared.terminal.Terminal.TheVariants as t

-- a reserved word stands for itself
abbrev pub terminal_of_word : Reserved → Terminal
terminal_of_word word.And = t.And
terminal_of_word word.Any = t.Any
terminal_of_word word.As = t.As
terminal_of_word word.Assert = t.Assert
terminal_of_word word.At = t.At
terminal_of_word word.Attached = t.Attached
terminal_of_word word.Boolean = t.Boolean
terminal_of_word word.Class = t.Class
terminal_of_word word.Condition = t.Condition
terminal_of_word word.Const = t.Const
terminal_of_word word.Else = t.Else
terminal_of_word word.Elseif = t.Elseif
terminal_of_word word.End = t.End
terminal_of_word word.Exit = t.Exit
terminal_of_word word.Export = t.Export
terminal_of_word word.Failure = t.Failure
terminal_of_word word.False = t.False
terminal_of_word word.Fix = t.Fix
terminal_of_word word.Function = t.Function
terminal_of_word word.If = t.If
terminal_of_word word.Immutable = t.Immutable
terminal_of_word word.Initially = t.Initially
terminal_of_word word.Integer = t.Integer
terminal_of_word word.Isfixed = t.Isfixed
terminal_of_word word.Loop = t.Loop
terminal_of_word word.Monitor = t.Monitor
terminal_of_word word.Move = t.Move
terminal_of_word word.Nil = t.Nil
terminal_of_word word.Node = t.Node
terminal_of_word word.Object = t.Object
terminal_of_word word.Of = t.Of
terminal_of_word word.Operation = t.Operation
terminal_of_word word.Or = t.Or
terminal_of_word word.Process = t.Process
terminal_of_word word.Refix = t.Refix
terminal_of_word word.Return = t.Return
terminal_of_word word.Self_ = t.Self_
terminal_of_word word.Signal = t.Signal
terminal_of_word word.Stdout = t.Stdout
terminal_of_word word.String = t.String
terminal_of_word word.Then = t.Then
terminal_of_word word.To = t.To
terminal_of_word word.True = t.True
terminal_of_word word.Typeobject = t.Typeobject
terminal_of_word word.Unfix = t.Unfix
terminal_of_word word.Var = t.Var
terminal_of_word word.Vector = t.Vector
terminal_of_word word.View = t.View
terminal_of_word word.Visit = t.Visit
terminal_of_word word.Wait = t.Wait
terminal_of_word word.When = t.When

-- and so does a symbol
abbrev pub terminal_of_symbol : Symbol → Terminal
terminal_of_symbol symbol.LeftArrow = t.Arrow
terminal_of_symbol symbol.RightArrow = t.ResultArrow
terminal_of_symbol symbol.OpenParenthesis = t.OpenParenthesis
terminal_of_symbol symbol.CloseParenthesis = t.CloseParenthesis
terminal_of_symbol symbol.OpenBracket = t.OpenBracket
terminal_of_symbol symbol.CloseBracket = t.CloseBracket
terminal_of_symbol symbol.Comma = t.Comma
terminal_of_symbol symbol.Colon = t.Colon
terminal_of_symbol symbol.Dot = t.Dot
terminal_of_symbol symbol.Plus = t.Plus
terminal_of_symbol symbol.Minus = t.Minus
terminal_of_symbol symbol.Star = t.Times
terminal_of_symbol symbol.Slash = t.Over
terminal_of_symbol symbol.Hash = t.Remainder
terminal_of_symbol symbol.DoubleBar = t.Concat
terminal_of_symbol symbol.DoubleEqual = t.Same
terminal_of_symbol symbol.BangDoubleEqual = t.NotSame
terminal_of_symbol symbol.Equal = t.Equal
terminal_of_symbol symbol.BangEqual = t.NotEqual
terminal_of_symbol symbol.Less = t.Less
terminal_of_symbol symbol.LessEqual = t.LessEqual
terminal_of_symbol symbol.Greater = t.More
terminal_of_symbol symbol.GreaterEqual = t.MoreEqual
terminal_of_symbol symbol.Bang = t.Bang

-- CREATE, PUTSTRING and COUNT are the words `create`, `putstring` and `count`, in any case; they aren't reserved
unfoldable pub terminal_of_name : List ℕ → Terminal
terminal_of_name text =
    if str_eq_ignore_ascii_case text (codes "create") then t.Create else
    (if str_eq_ignore_ascii_case text (codes "putstring") then t.Putstring else
    (if str_eq_ignore_ascii_case text (codes "count") then t.Count else
    t.Name))

unfoldable pub terminal_of_kind : TokenKind → Terminal
terminal_of_kind (token.Reserved word) = terminal_of_word word
terminal_of_kind (token.Name text) = terminal_of_name text
terminal_of_kind (token.Integer number) = t.Number
terminal_of_kind (token.Literal text) = t.Literal
terminal_of_kind (token.Symbol symbol) = terminal_of_symbol symbol

abbrev pub terminal_of : Token → Terminal
terminal_of token = terminal_of_kind token.kind

-- the bytes of a name or a literal, and of no other
abbrev pub text_in : TokenKind → List ℕ
text_in (token.Name text) = text
text_in (token.Literal text) = text
text_in kind = []

abbrev pub text_of : Token → List ℕ
text_of token = text_in token.kind

-- the number of an integer, and of no other
abbrev pub number_in : TokenKind → ℕ
number_in (token.Integer number) = number
number_in kind = 0

abbrev pub number_of : Token → ℕ
number_of token = number_in token.kind

-- a token can be of it: any but what stands behind the last token
abbrev pub is_of_token : Terminal → Bool
is_of_token t.EndOfText = false
is_of_token k = true
