-- The longest symbol that a text begins with.
use Rattle.std.proofs.Common.{◌≡◌, ℕ, zero, suc, ◌<◌, ◌≤◌, Bool, true, false, cond, not, List, [], ◌∷◌, length, take, inl, inr}
use Rattle.std.proofs.Common.{Option, Some, None, refl, sym, ◌∙◌, ap, subst, arith}
use Rattle.std.specs.Prelude.{◌==◌, ◌&&◌, nat_le}
use Rattle.std.specs.Char.{is_ascii_digit}
use Rattle.std.specs.Cmp.Lexicographic.{same_text}
use Rattle.std.specs.Str.{bytes_eq}
use Rattle.std.proofs.lemmas.Bool.{and_parts, cases_lt, leb-true, not-true}
use Rattle.std.proofs.lemmas.List.{length-take-le, take_all}
use Rattle.ec_lexer.specs.declared.error.LexFault.TheVariants.{StrayByte}
use Rattle.ec_lexer.specs.declared.lexeme.Form.TheVariants as form
use Rattle.ec_lexer.specs.declared.lexeme.Lexeme.TheVariants.{Token, Fault}
use Rattle.ec_lexer.specs.declared.token.Symbol.{Symbol}
use Rattle.ec_lexer.specs.Words.{Bytes, is_blank, begins_word, symbols, lookup_symbol, symbol_of}
use Rattle.ec_lexer.specs.Lexemes.{or_else, symbol_up_to}

-- ---- what each row of the table passes, each symbol passes

abbrev all_rows : (Bytes → Bool) → List (Bytes × Symbol) → Bool
all_rows p [] = true
all_rows p (row ∷ rows) = p row.0 && all_rows p rows

passes : (p : Bytes → Bool) (table : List (Bytes × Symbol)) (bytes : Bytes) (s : Symbol) → all_rows p table ≡ true →
    lookup_symbol table bytes ≡ Some s → p bytes ≡ true
passes p [] bytes s all e = cc
passes p (row ∷ rows) bytes s all e =
    let both = and_parts (p row.0) (all_rows p rows) all in
    elim (bytes_eq row.0 bytes) as
    (λ v. bytes_eq row.0 bytes ≡ v → cond v (Some row.1) (lookup_symbol rows bytes) ≡ Some s → p bytes ≡ true) [
      | true ↦ λ same k. subst (λ x. p x ≡ true) (same_text row.0 bytes (sym same)) both.0
      | false ↦ λ other k. passes p rows bytes s both.1 k
    ] refl e

abbrev begins_not : (ℕ → Bool) → Bytes → Bool
begins_not test [] = false
begins_not test (b ∷ bytes) = not (test b)

-- the first byte of a symbol starts nothing else
pub record StartsSymbol (b : ℕ) : Type 0 where
  pub no_blank : is_blank b ≡ false
  pub no_comment : (b == 37) ≡ false
  pub no_word : begins_word b ≡ false
  pub no_integer : is_ascii_digit b ≡ false
  pub no_string : (b == 34) ≡ false

pub starts_symbol : (b : ℕ) (bytes : Bytes) (s : Symbol) → symbol_of (b ∷ bytes) ≡ Some s → StartsSymbol b
unfolding symbol_of
starts_symbol b bytes s e = record {
  no_blank = not-true (is_blank b) (passes (begins_not is_blank) symbols (b ∷ bytes) s refl e);
  no_comment = not-true (b == 37) (passes (begins_not (λ x. x == 37)) symbols (b ∷ bytes) s refl e);
  no_word = not-true (begins_word b) (passes (begins_not begins_word) symbols (b ∷ bytes) s refl e);
  no_integer = not-true (is_ascii_digit b) (passes (begins_not is_ascii_digit) symbols (b ∷ bytes) s refl e);
  no_string = not-true (b == 34) (passes (begins_not (λ x. x == 34)) symbols (b ∷ bytes) s refl e);
}

pub short_symbol : (bytes : Bytes) (s : Symbol) → symbol_of bytes ≡ Some s → length bytes ≤ 3
unfolding symbol_of
short_symbol bytes s e = leb-true (length bytes) 3 (passes (λ x. nat_le (length x) 3) symbols bytes s refl e)

pub no_empty_symbol : symbol_of [] ≡ None
unfolding symbol_of
no_empty_symbol = refl

some_or_none : (found : Option Symbol) → ((s : Symbol) → found ≡ Some s → ⊥) → found ≡ None
some_or_none None h = refl
some_or_none (Some s) h = absurd (h s refl)

pub no_long_symbol : (bytes : Bytes) → 3 < length bytes → symbol_of bytes ≡ None
no_long_symbol bytes h = some_or_none (symbol_of bytes) (λ s e. let k = short_symbol bytes s e in omega arith)

-- ---- the search from three bytes down

-- no front of the text that is longer than this is a symbol
abbrev pub NoLonger : ℕ → Bytes → Type 0
NoLonger n text = (m : ℕ) → n < m → m ≤ length text → symbol_of (take m text) ≡ None

pub none_beyond : (text : Bytes) → NoLonger 3 text
none_beyond text m h k = let l = length-take-le m text k in no_long_symbol (take m text) (omega arith)

pub none_below : (text : Bytes) (n : ℕ) → NoLonger (suc n) text → symbol_of (take (suc n) text) ≡ None → NoLonger n text
none_below text n above here m h k = elim (cases_lt (suc n) m) as (λ _. symbol_of (take m text) ≡ None) [
  | inl more ↦ above m more k
  | inr no_more ↦ (let same : suc n ≡ m = omega arith in subst (λ x. symbol_of (take x text) ≡ None) same here)
]

not_whole : (text : Bytes) → NoLonger 0 text → symbol_of text ≡ None
not_whole [] above = no_empty_symbol
not_whole (b ∷ text) above =
    subst (λ x. symbol_of x ≡ None) (take_all (length (b ∷ text)) (b ∷ text) (omega arith))
    (above (length (b ∷ text)) (omega arith) (omega arith))

-- where no front is a symbol, none is at any length
pub none_at_all : (text : Bytes) → NoLonger 0 text → (n : ℕ) → symbol_of (take n text) ≡ None
none_at_all text above zero = no_empty_symbol
none_at_all text above (suc n) = elim (cases_lt (length text) (suc n)) as (λ _. symbol_of (take (suc n) text) ≡ None) [
  | inl beyond ↦ subst (λ x. symbol_of x ≡ None) (sym (take_all (suc n) text (omega arith))) (not_whole text above)
  | inr within ↦ above (suc n) (omega arith) within
]

-- the search finds a symbol where it is the longest, from any length on that isn't less
pub finds : (text : Bytes) (n : ℕ) (s : Symbol) → symbol_of (take n text) ≡ Some s → NoLonger n text →
    (k : ℕ) → n ≤ k → k ≤ length text → symbol_up_to k text ≡ Token (form.Symbol s) n
finds text n s e above zero h l =
    let none : n ≡ 0 = omega arith in
    let here : symbol_of (take 0 text) ≡ Some s = subst (λ x. symbol_of (take x text) ≡ Some s) none e in
    absurd (let empty = no_empty_symbol in cc)
finds text n s e above (suc k) h l =
    elim (cases_lt n (suc k)) as (λ _. or_else (symbol_of (take (suc k) text)) (suc k) (symbol_up_to k text) ≡ Token (form.Symbol s) n) [
      | inl less ↦ ap (λ x. or_else x (suc k) (symbol_up_to k text)) (above (suc k) less l)
          ∙ finds text n s e above k (omega arith) (omega arith)
      | inr no_less ↦ (let same : n ≡ suc k = omega arith in
          ap (λ x. or_else x (suc k) (symbol_up_to k text)) (subst (λ x. symbol_of (take x text) ≡ Some s) same e)
          ∙ ap (λ x. Token (form.Symbol s) x) (sym same))
    ]

-- it finds none where there is none
pub finds_none : (text : Bytes) → ((n : ℕ) → symbol_of (take n text) ≡ None) → (k : ℕ) → symbol_up_to k text ≡ Fault StrayByte 0
finds_none text none zero = refl
finds_none text none (suc k) = ap (λ x. or_else x (suc k) (symbol_up_to k text)) (none (suc k)) ∙ finds_none text none k
