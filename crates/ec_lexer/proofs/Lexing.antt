-- What the lexer reads at the front of a text is what stands there, and nothing else does.
use Rattle.std.proofs.Common.{◌≡◌, ℕ, zero, suc, ◌≤◌, true, false, [], ◌∷◌, ◌++◌, length, take, Some, None, refl, sym, ◌∙◌, ap, arith}
use Rattle.std.specs.Prelude.{◌==◌, nat_lt, min}
use Rattle.std.specs.Char.{is_ascii_digit}
use Rattle.std.proofs.lemmas.Bool.{cond-true, cond-false, cond_both, eqb-true, ltb-true, ltb-false, lt-ltb, le-ltb}
use Rattle.std.proofs.lemmas.Grind.{common_steps}
use Rattle.std.proofs.lemmas.List.{length-take-le}
use Rattle.ec_lexer.specs.declared.error.LexFault.{LexFault}
use Rattle.ec_lexer.specs.declared.error.LexFault.TheVariants.{LargeInteger}
use Rattle.ec_lexer.specs.declared.lexeme.Class.TheVariants as class
use Rattle.ec_lexer.specs.declared.lexeme.Form.{Form}
use Rattle.ec_lexer.specs.declared.lexeme.Form.TheVariants as form
use Rattle.ec_lexer.specs.declared.lexeme.Lexeme.TheVariants.{End, Separator, Token, Fault}
use Rattle.ec_lexer.specs.declared.token.Symbol.{Symbol}
use Rattle.ec_lexer.specs.declared.token.TokenKind.{TokenKind}
use Rattle.ec_lexer.specs.Words.{Bytes, is_blank, begins_word, run, front, reserved, symbol_of, number_of, greatest}
use Rattle.ec_lexer.specs.Tokens.{IsSeparator, nothing, blank, comment as is_comment, IsToken, reserved_word, name}
use Rattle.ec_lexer.specs.Tokens.{integer as is_integer, string as is_string, symbol as is_symbol}
use Rattle.ec_lexer.specs.Faults.{IsFault, stray_byte, forbidden_byte, unclosed_string, unclosed_escape, unknown_escape, large_integer}
use Rattle.ec_lexer.specs.Lexemes.{begins, comment, word, word_form, integer, string, symbol, symbol_up_to, or_else, kind_of}
use Rattle.ec_lexer.proofs.Agrees.{Agrees}
use Rattle.ec_lexer.proofs.Strings.{agrees as string_agrees, literal_is, reads_literal, reads_forbidden, reads_unknown}
use Rattle.ec_lexer.proofs.Strings.{reads_unclosed, reads_unclosed_escape}
use Rattle.ec_lexer.proofs.Symbols.{StartsSymbol, starts_symbol, no_empty_symbol, short_symbol, NoLonger, none_beyond, none_below}
use Rattle.ec_lexer.proofs.Symbols.{none_at_all, finds, finds_none}

-- ---- bytes

word_no_blank : (b : ℕ) → begins_word b ≡ true → is_blank b ≡ false
word_no_blank b h = grind (arith, common_steps)

word_no_comment : (b : ℕ) → begins_word b ≡ true → (b == 37) ≡ false
word_no_comment b h = grind (arith, common_steps)

digit_no_blank : (b : ℕ) → is_ascii_digit b ≡ true → is_blank b ≡ false
digit_no_blank b h = grind (arith, common_steps)

digit_no_comment : (b : ℕ) → is_ascii_digit b ≡ true → (b == 37) ≡ false
digit_no_comment b h = grind (arith, common_steps)

digit_no_word : (b : ℕ) → is_ascii_digit b ≡ true → begins_word b ≡ false
digit_no_word b h = grind (arith, common_steps)

-- ---- what is read is so

comment_agrees : (b : ℕ) (text : Bytes) → (b == 37) ≡ true → Agrees (b ∷ text) (comment (b ∷ text))
comment_agrees b text e = rw (eqb-true b 37 e) is_comment

word_agrees : (b : ℕ) (text : Bytes) → begins_word b ≡ true → Agrees (b ∷ text) (word (b ∷ text))
word_agrees b text w =
    elim (reserved (front class.Word (b ∷ text))) as
    (λ found. reserved (front class.Word (b ∷ text)) ≡ found → Agrees (b ∷ text) (Token (word_form found) (run class.Word (b ∷ text))))
    [ Some r ↦ λ e. reserved_word w e | None ↦ λ e. name w e ] refl

integer_agrees : (b : ℕ) (text : Bytes) → is_ascii_digit b ≡ true → Agrees (b ∷ text) (integer (b ∷ text))
integer_agrees b text d =
    cond_both (nat_lt greatest (number_of (front class.Digit (b ∷ text)))) (Fault LargeInteger 0) _ (Agrees (b ∷ text))
    (λ large. large_integer d (ltb-true greatest _ large)) (λ small. is_integer d (ltb-false greatest _ small))

symbol_agrees : (b : ℕ) (text : Bytes) → StartsSymbol b → (k : ℕ) → k ≤ length (b ∷ text) → NoLonger k (b ∷ text) →
    Agrees (b ∷ text) (symbol_up_to k (b ∷ text))
symbol_agrees b text starts zero l above = stray_byte (record {
  no_blank = starts.no_blank;
  no_comment = starts.no_comment;
  no_word = starts.no_word;
  no_integer = starts.no_integer;
  no_string = starts.no_string;
  no_symbol = none_at_all (b ∷ text) above;
})
symbol_agrees b text starts (suc k) l above =
    elim (symbol_of (take (suc k) (b ∷ text))) as
    (λ found. symbol_of (take (suc k) (b ∷ text)) ≡ found → Agrees (b ∷ text) (or_else found (suc k) (symbol_up_to k (b ∷ text)))) [
      | Some s ↦ λ e. is_symbol l e above
      | None ↦ λ e. symbol_agrees b text starts k (omega arith) (none_below (b ∷ text) k above e)
    ] refl

at_most_three : (text : Bytes) → NoLonger (min (length text) 3) text
at_most_three text m h l = none_beyond text m (omega arith) l

string_read_agrees : (b : ℕ) (text : Bytes) → (b == 34) ≡ true → Agrees (b ∷ text) (string false 1 text)
string_read_agrees b text e = rw (eqb-true b 34 e) (string_agrees text false [] [] 1 nothing refl)

-- what is read at the front of a text is what stands there
pub agrees : (text : Bytes) → Agrees text (begins text)
unfolding begins
agrees [] = refl
agrees (b ∷ text) =
    cond_both (is_blank b) (Separator 1) _ (Agrees (b ∷ text)) (λ e. blank e)
    (λ no_blank. cond_both (b == 37) (comment (b ∷ text)) _ (Agrees (b ∷ text)) (λ e. comment_agrees b text e)
    (λ no_comment. cond_both (begins_word b) (word (b ∷ text)) _ (Agrees (b ∷ text)) (λ e. word_agrees b text e)
    (λ no_word. cond_both (is_ascii_digit b) (integer (b ∷ text)) _ (Agrees (b ∷ text)) (λ e. integer_agrees b text e)
    (λ no_integer. cond_both (b == 34) (string false 1 text) (symbol (b ∷ text)) (Agrees (b ∷ text)) (λ e. string_read_agrees b text e)
    (λ no_string. symbol_agrees b text
    (record { no_blank = no_blank; no_comment = no_comment; no_word = no_word; no_integer = no_integer; no_string = no_string })
    (min (length (b ∷ text)) 3) (omega arith) (at_most_three (b ∷ text)))))))

-- ---- what is so is read

pub reads_end : begins [] ≡ End
unfolding begins
reads_end = refl

pub reads_separator : {text : Bytes} {n : ℕ} → IsSeparator text n → begins text ≡ Separator n
unfolding begins
reads_separator (blank {b} e) = cond-true (is_blank b) _ _ e
reads_separator is_comment = refl

behind_blanks : (b : ℕ) (text : Bytes) → is_blank b ≡ false → (b == 37) ≡ false → begins_word b ≡ true → begins (b ∷ text) ≡ word (b ∷ text)
unfolding begins
behind_blanks b text no_blank no_comment w =
    cond-false (is_blank b) _ _ no_blank ∙ cond-false (b == 37) _ _ no_comment ∙ cond-true (begins_word b) _ _ w

reads_word : (b : ℕ) (text : Bytes) → begins_word b ≡ true → begins (b ∷ text) ≡ word (b ∷ text)
reads_word b text w = behind_blanks b text (word_no_blank b w) (word_no_comment b w) w

reads_integer : (b : ℕ) (text : Bytes) → is_ascii_digit b ≡ true → begins (b ∷ text) ≡ integer (b ∷ text)
unfolding begins
reads_integer b text d =
    cond-false (is_blank b) _ _ (digit_no_blank b d) ∙ cond-false (b == 37) _ _ (digit_no_comment b d)
    ∙ cond-false (begins_word b) _ _ (digit_no_word b d)
    ∙ cond-true (is_ascii_digit b) _ _ d

reads_string : (text : Bytes) → begins (34 ∷ text) ≡ string false 1 text
unfolding begins
reads_string text = refl

reads_symbol : (b : ℕ) (text : Bytes) → StartsSymbol b → begins (b ∷ text) ≡ symbol (b ∷ text)
unfolding begins
reads_symbol b text s =
    cond-false (is_blank b) _ _ s.no_blank ∙ cond-false (b == 37) _ _ s.no_comment ∙ cond-false (begins_word b) _ _ s.no_word
    ∙ cond-false (is_ascii_digit b) _ _ s.no_integer ∙ cond-false (b == 34) _ _ s.no_string

symbol_starts : (text : Bytes) (n : ℕ) (s : Symbol) → symbol_of (take n text) ≡ Some s → begins text ≡ symbol text
symbol_starts [] zero s e = absurd (let none = no_empty_symbol in cc)
symbol_starts [] (suc n) s e = absurd (let none = no_empty_symbol in cc)
symbol_starts (b ∷ text) zero s e = absurd (let none = no_empty_symbol in cc)
symbol_starts (b ∷ text) (suc n) s e = reads_symbol b text (starts_symbol b (take n text) s e)

-- the form in which a token is read
pub record ReadAs (text : Bytes) (kind : TokenKind) (n : ℕ) : Type 0 where
  pub form : Form
  pub is_read : begins text ≡ Token form n
  pub kind_is : kind ≡ kind_of form (take n text)

pub reads_token : {text : Bytes} {kind : TokenKind} {n : ℕ} → IsToken text kind n → ReadAs text kind n
reads_token (reserved_word {b} {text} {word = r} w e) = record {
  form = form.Reserved r;
  is_read = reads_word b text w ∙ ap (λ x. Token (word_form x) (run class.Word (b ∷ text))) e;
  kind_is = refl;
}
reads_token (name {b} {text} w e) = record {
  form = form.Name;
  is_read = reads_word b text w ∙ ap (λ x. Token (word_form x) (run class.Word (b ∷ text))) e;
  kind_is = refl;
}
reads_token (is_integer {b} {text} d small) = record {
  form = form.Integer (number_of (front class.Digit (b ∷ text)));
  is_read = reads_integer b text d ∙ cond-false (nat_lt greatest (number_of (front class.Digit (b ∷ text)))) _ _ (le-ltb greatest _ small);
  kind_is = refl;
}
reads_token (is_string {body} rest spells) = record {
  form = form.Literal;
  is_read = reads_string (body ++ 34 ∷ rest) ∙ reads_literal rest spells;
  kind_is = sym (literal_is rest spells);
}
reads_token (is_symbol {text} {n} {s} l e above) = record {
  form = form.Symbol s;
  is_read = symbol_starts text n s e
      ∙ finds text n s e above (min (length text) 3)
      (let short = short_symbol (take n text) s e in let taken = length-take-le n text l in omega arith) (omega arith);
  kind_is = refl;
}

pub reads_fault : {text : Bytes} {kind : LexFault} {n : ℕ} → IsFault text kind n → begins text ≡ Fault kind n
reads_fault (stray_byte {b} {text} s) =
    reads_symbol b text
    (record {
      no_blank = s.no_blank;
      no_comment = s.no_comment;
      no_word = s.no_word;
      no_integer = s.no_integer;
      no_string =
          s.no_string;
    })
    ∙ finds_none (b ∷ text) s.no_symbol (min (length (b ∷ text)) 3)
reads_fault (forbidden_byte {body} b rest spells f) = reads_string (body ++ b ∷ rest) ∙ reads_forbidden rest spells b f
reads_fault (unclosed_string {body} rest spells end) = reads_string (body ++ rest) ∙ reads_unclosed rest spells end
reads_fault (unclosed_escape {body} rest spells end) = reads_string (body ++ 92 ∷ rest) ∙ reads_unclosed_escape rest spells end
reads_fault (unknown_escape {body} b rest spells no_escape no_line_feed) =
    reads_string (body ++ 92 ∷ b ∷ rest) ∙ reads_unknown rest spells b no_escape no_line_feed
reads_fault (large_integer {b} {text} d large) =
    reads_integer b text d ∙ cond-true (nat_lt greatest (number_of (front class.Digit (b ∷ text)))) _ _ (lt-ltb greatest _ large)
