-- How deep each token is nested, from the tokens alone. The nesting at a token is how many of these are opened at or
-- before it and not yet closed: `(` and `[`; `object`, `class`, `typeobject`, an operation of a body, `initially`,
-- `process`, `if` and `loop`, each from its word up to its own `end`; a prefix `!`, `-`, `view` or `isfixed`, up to the
-- end of its operand. It is meant for tokens that begin a program.
use Rattle.std.specs.Prelude.{ℕ, Bool, true, false, if◌then◌else◌, List, [], ◌∷◌, length, Option, Some, None}
use Rattle.ec_parser.specs.declared.terminal.Terminal.{Terminal}
use Rattle.ec_parser.specs.declared.terminal.Terminal.TheVariants as kind
use Rattle.ec_parser.specs.declared.grammar.Opened.{Opened}
use Rattle.ec_parser.specs.declared.grammar.Opened.TheVariants.{Bracket, Word, Typeobject, Operand, View, Not}
use Rattle.ec_parser.specs.Reads.{rest}
use Rattle.ec_parser.specs.Terminals.{terminal_of}
use Rattle.ec_lexer.specs.declared.token.Token.{Token}

-- What a token stands behind: one with which an operand may end, the word `end`, or any other, or none.
pub data Behind : Type 0 where
  operand : Behind
  end : Behind
  other : Behind

abbrev pub behind : Terminal → Behind
behind kind.Name = operand
behind kind.Create = operand
behind kind.Putstring = operand
behind kind.Count = operand
behind kind.Number = operand
behind kind.Literal = operand
behind kind.True = operand
behind kind.False = operand
behind kind.Nil = operand
behind kind.Self_ = operand
behind kind.CloseParenthesis = operand
behind kind.CloseBracket = operand
behind kind.Integer = operand
behind kind.Boolean = operand
behind kind.String = operand
behind kind.Any = operand
behind kind.Node = operand
behind kind.End = end
behind _ = other

-- The operand of a `-` or an `isfixed` goes on with a field, a call or an index.
abbrev pub extends_unary : Terminal → Bool
extends_unary kind.Dot = true
extends_unary kind.OpenBracket = true
extends_unary _ = false

-- That of a `!` goes on with these too, and with what stands in a comparison.
abbrev pub extends_comparison : Terminal → Bool
extends_comparison kind.Same = true
extends_comparison kind.NotSame = true
extends_comparison kind.Equal = true
extends_comparison kind.NotEqual = true
extends_comparison kind.Less = true
extends_comparison kind.LessEqual = true
extends_comparison kind.More = true
extends_comparison kind.MoreEqual = true
extends_comparison kind.Plus = true
extends_comparison kind.Minus = true
extends_comparison kind.Concat = true
extends_comparison kind.Times = true
extends_comparison kind.Over = true
extends_comparison kind.Remainder = true
extends_comparison k = extends_unary k

-- A nesting goes on with this token, behind what could end an operand. All but these go on up to a token of their own.
abbrev pub goes_on : Opened → Terminal → Bool
goes_on Operand k = extends_unary k
goes_on Not k = extends_comparison k
goes_on _ k = true

-- without the operands that end before this token
abbrev pub without_ended : Terminal → List Opened → List Opened
without_ended k [] = []
without_ended k (o ∷ os) = if goes_on o k then o ∷ os else without_ended k os

abbrev pub left : Behind → Terminal → List Opened → List Opened
left operand k os = without_ended k os
left end k os = os
left other k os = os

-- These close the innermost: a bracket, what ends with `end`, or a `view`.
abbrev pub closes : Terminal → Bool
closes kind.CloseParenthesis = true
closes kind.CloseBracket = true
closes kind.End = true
closes kind.As = true
closes _ = false

abbrev pub innermost : List Opened → Option Opened
innermost [] = None
innermost (o ∷ os) = Some o

-- a signature of a typeobject has no `end`, but an operation of a body has
abbrev pub operation_in : Option Opened → Option Opened
operation_in (Some Typeobject) = None
operation_in _ = Some Word

-- the word behind `end` doesn't open another
abbrev pub word_behind : Behind → Option Opened
word_behind end = None
word_behind _ = Some Word

-- behind an operand, `-` is a difference
abbrev pub minus_behind : Behind → Option Opened
minus_behind operand = None
minus_behind _ = Some Operand

-- what a token opens, by what it stands behind and the innermost that is open
abbrev pub opens : Behind → Terminal → Option Opened → Option Opened
opens b kind.OpenParenthesis inner = Some Bracket
opens b kind.OpenBracket inner = Some Bracket
opens b kind.Object inner = Some Word
opens b kind.Class inner = Some Word
opens b kind.Typeobject inner = Some Typeobject
opens b kind.Operation inner = operation_in inner
opens b kind.Function inner = operation_in inner
opens b kind.Initially inner = word_behind b
opens b kind.Process inner = word_behind b
opens b kind.If inner = word_behind b
opens b kind.Loop inner = word_behind b
opens b kind.Bang inner = Some Not
opens b kind.Minus inner = minus_behind b
opens b kind.View inner = Some View
opens b kind.Isfixed inner = Some Operand
opens b _ inner = None

abbrev pub with_opened : Option Opened → List Opened → List Opened
with_opened None os = os
with_opened (Some o) os = o ∷ os

abbrev pub with_closed : Terminal → List Opened → List Opened
with_closed k os = if closes k then rest os else os

-- what is open at a token, where the operands that end before it are taken off
abbrev pub turned : Behind → Terminal → List Opened → List Opened
turned b k os = with_opened (opens b k (innermost (with_closed k os))) (with_closed k os)

-- what is open at a token, from what is open at the one before it
abbrev pub open_at : Behind → Terminal → List Opened → List Opened
open_at b k os = turned b k (left b k os)

-- the nesting at each token, where these are open before the first
abbrev pub nestings_from : List Opened → Behind → List Token → List ℕ
nestings_from os b [] = []
nestings_from os b (t ∷ ts) = length (open_at b (terminal_of t) os) ∷
    nestings_from (open_at b (terminal_of t) os) (behind (terminal_of t)) ts

-- the nesting at each token
unfoldable pub nestings_of : List Token → List ℕ
nestings_of ts = nestings_from [] other ts
