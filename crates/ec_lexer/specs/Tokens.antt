-- The tokens of a text.
use Rattle.std.specs.Prelude.{◌≡◌, ◌<◌, ◌≤◌, ℕ, ◌+◌, true, List, [], ◌∷◌, ◌++◌, length, take, drop, Some, None}
use Rattle.std.specs.Char.{is_ascii_digit}
use Rattle.ec_lexer.specs.declared.lexeme.Class.TheVariants as class
use Rattle.ec_lexer.specs.declared.token.Token.{Token}
use Rattle.ec_lexer.specs.declared.token.Reserved.{Reserved as AReserved}
use Rattle.ec_lexer.specs.declared.token.Symbol.{Symbol as ASymbol}
use Rattle.ec_lexer.specs.declared.token.TokenKind.{TokenKind}
use Rattle.ec_lexer.specs.declared.token.TokenKind.TheVariants.{Reserved, Name, Integer, Literal, Symbol}
use Rattle.ec_lexer.specs.Words.{Bytes, percent, quote, backslash, is_blank, begins_word, run, front, reserved, symbol_of}
use Rattle.ec_lexer.specs.Words.{number_of, greatest, is_plain, is_escape, unescaped_byte}

-- the text begins with this many bytes that separate
pub data IsSeparator : Bytes → ℕ → Type 0 where
  -- blanks, tabs, carriage returns and line feeds separate
  blank : {b : ℕ} {text : Bytes} → is_blank b ≡ true → IsSeparator (b ∷ text) 1
  -- `%` starts a comment up to the line feed or the end, of any bytes
  comment : {text : Bytes} → IsSeparator (percent ∷ text) (run class.Line text + 1)

-- what stands between a string's quotes, and the bytes that it stands for
pub data Spells : Bytes → Bytes → Type 0 where
  nothing : Spells [] []
  plain : {b : ℕ} {body text : Bytes} → is_plain b ≡ true → Spells body text → Spells (b ∷ body) (b ∷ text)
  escape : {b : ℕ} {body text : Bytes} → is_escape b ≡ true → Spells body text → Spells (backslash ∷ b ∷ body) (unescaped_byte b ∷ text)

-- the text begins with this token, which takes so many bytes
pub data IsToken : Bytes → TokenKind → ℕ → Type 0 where
  -- a word is a letter or `_`, then letters, digits, `_`; the longest is taken
  reserved_word : {b : ℕ} {text : Bytes} {word : AReserved} → begins_word b ≡ true → reserved (front class.Word (b ∷ text)) ≡ Some word →
      IsToken (b ∷ text) (Reserved word) (run class.Word (b ∷ text))
  name : {b : ℕ} {text : Bytes} → begins_word b ≡ true → reserved (front class.Word (b ∷ text)) ≡ None →
      IsToken (b ∷ text) (Name (front class.Word (b ∷ text))) (run class.Word (b ∷ text))
  -- an integer is a run of digits, of at most 2147483647
  integer : {b : ℕ} {text : Bytes} → is_ascii_digit b ≡ true → number_of (front class.Digit (b ∷ text)) ≤ greatest →
      IsToken (b ∷ text) (Integer (number_of (front class.Digit (b ∷ text)))) (run class.Digit (b ∷ text))
  -- a string stands between `"`
  string : {body bytes : Bytes} (rest : Bytes) → Spells body bytes →
      IsToken (quote ∷ (body ++ quote ∷ rest)) (Literal bytes) (length body + 2)
  -- the longest symbol is taken: no longer front of the text is one
  symbol : {text : Bytes} {n : ℕ} {s : ASymbol} → n ≤ length text → symbol_of (take n text) ≡ Some s →
      ((m : ℕ) → n < m → m ≤ length text → symbol_of (take m text) ≡ None) → IsToken text (Symbol s) n

-- the token of this kind that takes so many bytes from this place on
abbrev pub token : TokenKind → ℕ → ℕ → Token
token kind at n = record { kind = kind; at = record { from = at; to = at + n } }

-- the rest of a text, which begins at this place of the whole, has these tokens
pub data HasTokensFrom : ℕ → Bytes → List Token → Type 0 where
  ended : {at : ℕ} → HasTokensFrom at [] []
  separated : {at n : ℕ} {rest : Bytes} {tokens : List Token} →
      IsSeparator rest n → HasTokensFrom (at + n) (drop n rest) tokens → HasTokensFrom at rest tokens
  taken : {at n : ℕ} {rest : Bytes} {kind : TokenKind} {tokens : List Token} →
      IsToken rest kind n → HasTokensFrom (at + n) (drop n rest) tokens → HasTokensFrom at rest (token kind at n ∷ tokens)

-- a text has at most this many bytes
abbrev pub longest_text : ℕ
longest_text = 1048576

-- the text has these tokens
pub record HasTokens (text : Bytes) (tokens : List Token) : Type 0 where
  pub short : length text ≤ longest_text
  pub all : HasTokensFrom 0 text tokens
