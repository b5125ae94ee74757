-- The tokens of a text stand at rising places, and so do some of them.
use Rattle.std.proofs.Common.{◌≡◌, ℕ, zero, suc, ◌+◌, ◌<◌, ◌≤◌, true, List, [], ◌∷◌, take, Some, refl, ap, arith}
use Rattle.std.proofs.lemmas.Grind.{common_steps}
use Rattle.std.specs.Char.{is_ascii_digit}
use Rattle.ec_types.specs.Types.{places_of}
use Rattle.ec_types.specs.declared.conform.declared.DeclaredType.{DeclaredType}
use Rattle.ec_lexer.specs.declared.lexeme.Class.TheVariants as class
use Rattle.ec_lexer.specs.declared.token.Token.{Token}
use Rattle.ec_lexer.specs.declared.token.TokenKind.{TokenKind}
use Rattle.ec_lexer.specs.declared.token.Symbol.{Symbol}
use Rattle.ec_lexer.specs.Tokens.{IsToken, reserved_word, name, integer, string, symbol, HasTokensFrom, ended, separated, taken}
use Rattle.ec_lexer.specs.Words.{Bytes, begins_word, run, is_in, symbol_of}
use Rattle.ec_lexer.proofs.Symbols.{no_empty_symbol}
use Rattle.ec_places.specs.Rising.{IsRising}
use Rattle.ec_places.proofs.Among.{Among, arrived, passed, named}

-- ---- a token takes a byte or more

begins_a_word : (b : ℕ) → begins_word b ≡ true → is_in class.Word b ≡ true
begins_a_word b e = grind (arith, common_steps)

word_goes_on : (b : ℕ) (text : Bytes) → begins_word b ≡ true → 0 < run class.Word (b ∷ text)
word_goes_on b text e = rw (begins_a_word b e) (omega arith)

digit_goes_on : (b : ℕ) (text : Bytes) → is_ascii_digit b ≡ true → 0 < run class.Digit (b ∷ text)
digit_goes_on b text e = rw e (omega arith)

symbol_goes_on : (text : Bytes) (n : ℕ) (s : Symbol) → symbol_of (take n text) ≡ Some s → 0 < n
symbol_goes_on [] zero s e = absurd (let none = no_empty_symbol in cc)
symbol_goes_on (b ∷ text) zero s e = absurd (let none = no_empty_symbol in cc)
symbol_goes_on text (suc n) s e = omega arith

goes_on : {text : Bytes} {kind : TokenKind} {n : ℕ} → IsToken text kind n → 0 < n
goes_on (reserved_word {b} {text} e f) = word_goes_on b text e
goes_on (name {b} {text} e f) = word_goes_on b text e
goes_on (integer {b} {text} e f) = digit_goes_on b text e
goes_on (string rest h) = omega arith
goes_on (symbol {text} {n} {s} l e none) = symbol_goes_on text n s e

-- ---- places that rise

-- places that rise, from this one on
abbrev pub Behind : ℕ → List ℕ → Type 0
Behind at [] = Unit {0}
Behind at (n ∷ ns) = (at ≤ n) × Behind (suc n) ns

further : (from at : ℕ) (ns : List ℕ) → from ≤ at → Behind at ns → Behind from ns
further from at [] l h = tt
further from at (n ∷ ns) l h = (let k = h.0 in omega arith, h.1)

pub they_rise : (at : ℕ) (ns : List ℕ) → Behind at ns → IsRising ns
they_rise at [] h = tt
they_rise at (n ∷ []) h = tt
they_rise at (n ∷ m ∷ ns) h = (let k = h.1.0 in omega arith, they_rise (suc n) (m ∷ ns) h.1)

-- the first token, and behind it those whose types stand at places behind the next place
first_behind : {t : Token} {ts us : List Token} {ds : List DeclaredType} (at next : ℕ) → t.at.from ≡ at → at < next →
    ((es : List DeclaredType) → Among ts us es → Behind next (places_of es)) → Among (t ∷ ts) us ds → Behind at (places_of ds)
first_behind at next is l more arrived = tt
first_behind at next is l more (passed {ds = ds} h) = further at next (places_of ds) (omega arith) (more ds h)
first_behind at next is l more (named {d = d} {ds = ds} e h) =
    let same = ap (λ x. x.from) e in
    (omega arith, further (suc d.name.at.from) next (places_of ds) (omega arith) (more ds h))

-- Types with names among the tokens of a text, from a place of it on, have them at places behind there, which rise.
pub all_behind : {at : ℕ} {text : Bytes} {ts us : List Token} {ds : List DeclaredType} →
    HasTokensFrom at text ts → Among ts us ds → Behind at (places_of ds)
all_behind ended arrived = tt
all_behind (separated {at} {n} s h) k = further at (at + n) _ (omega arith) (all_behind h k)
all_behind (taken {at} {n} s h) k = let l = goes_on s in first_behind at (at + n) refl (omega arith) (λ es j. all_behind h j) k
