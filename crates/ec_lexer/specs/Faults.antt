-- The first fault of a text.
use Rattle.std.specs.Prelude.{◌≡◌, ◌<◌, ◌≤◌, ℕ, ◌+◌, ◌==◌, true, false, [], ◌∷◌, ◌++◌, length, take, drop, None}
use Rattle.std.specs.Char.{is_ascii_digit}
use Rattle.ec_lexer.specs.declared.error.LexError.{LexError}
use Rattle.ec_lexer.specs.declared.error.LexError.TheVariants.{Refused, Memory}
use Rattle.ec_lexer.specs.declared.error.LexFault.{LexFault}
use Rattle.ec_lexer.specs.declared.error.LexFault.TheVariants.{StrayByte, UnclosedString, UnknownEscape, LargeInteger, TextTooLong}
use Rattle.ec_lexer.specs.declared.lexeme.Class.TheVariants as class
use Rattle.ec_lexer.specs.declared.token.TokenKind.{TokenKind}
use Rattle.ec_lexer.specs.Words.{Bytes, percent, quote, backslash, line_feed, is_blank, begins_word, front, symbol_of, number_of}
use Rattle.ec_lexer.specs.Words.{greatest, is_plain, is_escape}
use Rattle.ec_lexer.specs.Tokens.{IsSeparator, Spells, IsToken, longest_text}

-- the byte that a text begins with neither separates nor starts a token
pub record StartsNothing (b : ℕ) (text : Bytes) : Type 0 where
  pub no_blank : is_blank b ≡ false
  pub no_comment : (b == percent) ≡ false
  pub no_word : begins_word b ≡ false
  pub no_integer : is_ascii_digit b ≡ false
  pub no_string : (b == quote) ≡ false
  pub no_symbol : (n : ℕ) → symbol_of (take n (b ∷ text)) ≡ None

-- a byte that may not stand in a string, and is no line feed
pub record IsForbidden (b : ℕ) : Type 0 where
  pub not_plain : is_plain b ≡ false
  pub not_quote : (b == quote) ≡ false
  pub not_backslash : (b == backslash) ≡ false
  pub not_line_feed : (b == line_feed) ≡ false

-- the end, or a line feed
pub data EndsLine : Bytes → Type 0 where
  at_end : EndsLine []
  at_line_feed : {text : Bytes} → EndsLine (line_feed ∷ text)

-- the text begins with a fault, whose place is so many bytes on
pub data IsFault : Bytes → LexFault → ℕ → Type 0 where
  -- a byte that starts no token: that byte
  stray_byte : {b : ℕ} {text : Bytes} → StartsNothing b text → IsFault (b ∷ text) StrayByte 0
  -- a byte in a string that isn't allowed and isn't a line feed: that byte
  forbidden_byte : {body bytes : Bytes} (b : ℕ) (rest : Bytes) → Spells body bytes → IsForbidden b →
      IsFault (quote ∷ (body ++ b ∷ rest)) StrayByte (length body + 1)
  -- a line feed or the end inside a string: the opening quote
  unclosed_string : {body bytes : Bytes} (rest : Bytes) → Spells body bytes → EndsLine rest →
      IsFault (quote ∷ (body ++ rest)) UnclosedString 0
  -- the same right behind a backslash: the opening quote
  unclosed_escape : {body bytes : Bytes} (rest : Bytes) → Spells body bytes → EndsLine rest →
      IsFault (quote ∷ (body ++ backslash ∷ rest)) UnclosedString 0
  -- a backslash with another byte behind it than those of an escape: the backslash
  unknown_escape : {body bytes : Bytes} (b : ℕ) (rest : Bytes) → Spells body bytes → is_escape b ≡ false → (b == line_feed) ≡ false →
      IsFault (quote ∷ (body ++ backslash ∷ b ∷ rest)) UnknownEscape (length body + 1)
  -- an integer that is too great, its digits read as one: its first digit
  large_integer : {b : ℕ} {text : Bytes} → is_ascii_digit b ≡ true → greatest < number_of (front class.Digit (b ∷ text)) →
      IsFault (b ∷ text) LargeInteger 0

-- the rest of a text, which begins at this place of the whole, has its first fault at this other place
pub data HasFaultFrom : ℕ → Bytes → ℕ → LexFault → Type 0 where
  faulty : {at n : ℕ} {rest : Bytes} {kind : LexFault} → IsFault rest kind n → HasFaultFrom at rest (at + n) kind
  behind_separator : {at n place : ℕ} {rest : Bytes} {kind : LexFault} →
      IsSeparator rest n → HasFaultFrom (at + n) (drop n rest) place kind → HasFaultFrom at rest place kind
  behind_token : {at n place : ℕ} {rest : Bytes} {token : TokenKind} {kind : LexFault} →
      IsToken rest token n → HasFaultFrom (at + n) (drop n rest) place kind → HasFaultFrom at rest place kind

-- the text is refused at this place, as too long before all else
pub data HasFault (text : Bytes) : ℕ → LexFault → Type 0 where
  too_long : longest_text < length text → HasFault text longest_text TextTooLong
  first : {place : ℕ} {kind : LexFault} → length text ≤ longest_text → HasFaultFrom 0 text place kind → HasFault text place kind

-- the error is the text's fault, or want of memory
abbrev pub IsCause : Bytes → LexError → Type 0
IsCause text (Refused place kind) = HasFault text place kind
IsCause text Memory = Unit {0}
