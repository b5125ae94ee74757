-- What is known of a text that has been read up to a place. A text has its tokens or its fault, in one way only.
use Rattle.std.proofs.Common.{◌≡◌, ℕ, zero, suc, ◌+◌, ◌<◌, ◌≤◌, true, List, [], ◌∷◌, ◌++◌, length, take, drop, refl, sym, ◌∙◌, ap}
use Rattle.std.proofs.Common.{subst, arith, append_assoc, append-nil, length-drop}
use Rattle.std.proofs.lemmas.Bool.{cond-true}
use Rattle.std.proofs.lemmas.Grind.{common_steps}
use Rattle.ec_lexer.specs.declared.error.LexFault.{LexFault}
use Rattle.ec_lexer.specs.declared.error.LexFault.TheVariants.{TextTooLong}
use Rattle.ec_lexer.specs.declared.lexeme.Class.{Class}
use Rattle.ec_lexer.specs.declared.lexeme.Class.TheVariants as class
use Rattle.ec_lexer.specs.declared.lexeme.Form.{Form}
use Rattle.ec_lexer.specs.declared.lexeme.Lexeme.TheVariants.{End, Separator, Token, Fault}
use Rattle.ec_lexer.specs.declared.token.Token.{Token as AToken}
use Rattle.ec_lexer.specs.declared.token.TokenKind.{TokenKind}
use Rattle.ec_lexer.specs.Words.{Bytes, begins_word, is_in, run}
use Rattle.ec_lexer.specs.Tokens.{IsSeparator, IsToken, reserved_word, name, integer, string, symbol, token, HasTokensFrom, ended}
use Rattle.ec_lexer.specs.Tokens.{separated, taken, HasTokens, longest_text}
use Rattle.ec_lexer.specs.Faults.{IsFault, HasFaultFrom, faulty, behind_separator, behind_token, HasFault, too_long, first}
use Rattle.ec_lexer.specs.Lexemes.{begins, kind_of}
use Rattle.ec_lexer.proofs.Agrees.{Agrees}
use Rattle.ec_lexer.proofs.Lexing.{agrees, reads_end, reads_separator, reads_token, reads_fault}
use Rattle.ec_lexer.proofs.Symbols.{no_empty_symbol}

-- ---- tokens of a text whose front is known

of_end : {at : ℕ} {z : Bytes} {ts : List AToken} → begins z ≡ End → HasTokensFrom at z ts → ts ≡ []
of_end e ended = refl
of_end e (separated s r) = let f = reads_separator s in cc
of_end e (taken t r) = let f = (reads_token t).is_read in cc

of_separator : {at : ℕ} {z : Bytes} {ts : List AToken} → (n : ℕ) → begins z ≡ Separator n → HasTokensFrom at z ts →
    HasTokensFrom (at + n) (drop n z) ts
of_separator n e ended = absurd (let f = reads_end in cc)
of_separator {at} {z} {ts} n e (separated {n = m} s r) =
    let f = reads_separator s in
    let same : m ≡ n = cc in subst (λ k. HasTokensFrom (at + k) (drop k z) ts) same r
of_separator n e (taken t r) = let f = (reads_token t).is_read in cc

of_token : {at : ℕ} {z : Bytes} {ts : List AToken} → (form : Form) (n : ℕ) → begins z ≡ Token form n → HasTokensFrom at z ts →
    (us : List AToken) × (ts ≡ token (kind_of form (take n z)) at n ∷ us) × HasTokensFrom (at + n) (drop n z) us
of_token form n e ended = absurd (let f = reads_end in cc)
of_token form n e (separated s r) = let f = reads_separator s in cc
of_token {at} {z} form n e (taken {n = m} {kind = kind} {tokens = us} t r) =
    let read = reads_token t in
    let f = read.is_read in
    let same : m ≡ n = cc in
    let alike : read.form ≡ form = cc in
    let is : kind ≡ kind_of form (take n z) =
    read.kind_is ∙ ap (λ x. kind_of x (take m z)) alike ∙ ap (λ x. kind_of form (take x z)) same in (
      us,
      ap (λ x. token x at m ∷ us) is
          ∙ ap (λ x. token (kind_of form (take n z)) at x ∷ us) same,
      subst (λ x. HasTokensFrom (at + x) (drop x z) us) same r,
    )

of_fault : {at : ℕ} {z : Bytes} {ts : List AToken} → (fault : LexFault) (n : ℕ) → begins z ≡ Fault fault n → HasTokensFrom at z ts → ⊥
of_fault fault n e ended = let f = reads_end in cc
of_fault fault n e (separated s r) = let f = reads_separator s in cc
of_fault fault n e (taken t r) = let f = (reads_token t).is_read in cc

-- ---- a fault of a text whose front is known

fault_of_end : {at p : ℕ} {z : Bytes} {k : LexFault} → begins z ≡ End → HasFaultFrom at z p k → ⊥
fault_of_end e (faulty i) = let f = reads_fault i in cc
fault_of_end e (behind_separator s r) = let f = reads_separator s in cc
fault_of_end e (behind_token t r) = let f = (reads_token t).is_read in cc

fault_of_separator : {at p : ℕ} {z : Bytes} {k : LexFault} → (n : ℕ) → begins z ≡ Separator n → HasFaultFrom at z p k →
    HasFaultFrom (at + n) (drop n z) p k
fault_of_separator n e (faulty i) = let f = reads_fault i in cc
fault_of_separator {at} {p} {z} {k} n e (behind_separator {n = m} s r) =
    let f = reads_separator s in
    let same : m ≡ n = cc in subst (λ x. HasFaultFrom (at + x) (drop x z) p k) same r
fault_of_separator n e (behind_token t r) = let f = (reads_token t).is_read in cc

fault_of_token : {at p : ℕ} {z : Bytes} {k : LexFault} → (form : Form) (n : ℕ) → begins z ≡ Token form n → HasFaultFrom at z p k →
    HasFaultFrom (at + n) (drop n z) p k
fault_of_token form n e (faulty i) = let f = reads_fault i in cc
fault_of_token form n e (behind_separator s r) = let f = reads_separator s in cc
fault_of_token {at} {p} {z} {k} form n e (behind_token {n = m} t r) =
    let f = (reads_token t).is_read in
    let same : m ≡ n = cc in subst (λ x. HasFaultFrom (at + x) (drop x z) p k) same r

fault_of_fault : {at p : ℕ} {z : Bytes} {k : LexFault} → (fault : LexFault) (n : ℕ) → begins z ≡ Fault fault n →
    HasFaultFrom at z p k → (p ≡ at + n) × (k ≡ fault)
fault_of_fault fault n e (faulty i) = let f = reads_fault i in (cc, cc)
fault_of_fault fault n e (behind_separator s r) = absurd (let f = reads_separator s in cc)
fault_of_fault fault n e (behind_token t r) = absurd (let f = (reads_token t).is_read in cc)

-- ---- a text has its tokens or its fault, in one way only

same_tokens_from : {at : ℕ} {z : Bytes} {ts : List AToken} → HasTokensFrom at z ts → (us : List AToken) → HasTokensFrom at z us → ts ≡ us
same_tokens_from ended us d = sym (of_end reads_end d)
same_tokens_from (separated {n = n} s r) us d = same_tokens_from r us (of_separator n (reads_separator s) d)
same_tokens_from {at} {z} (taken {n = n} {kind = kind} t r) us d =
    let read = reads_token t in
    let i = of_token read.form n read.is_read d in
    ap (λ x. token kind at n ∷ x) (same_tokens_from r i.0 i.2) ∙ ap (λ x. token x at n ∷ i.0) read.kind_is ∙ sym i.1

-- a text has at most one list of tokens
pub same_tokens : (text : Bytes) (ts us : List AToken) → HasTokens text ts → HasTokens text us → ts ≡ us
same_tokens text ts us a b = same_tokens_from a.all us b.all

no_fault_from : {at p : ℕ} {z : Bytes} {ts : List AToken} {k : LexFault} → HasFaultFrom at z p k → HasTokensFrom at z ts → ⊥
no_fault_from (faulty {n = n} {kind = k} i) d = of_fault k n (reads_fault i) d
no_fault_from (behind_separator {n = n} s r) d = no_fault_from r (of_separator n (reads_separator s) d)
no_fault_from (behind_token {n = n} t r) d = let read = reads_token t in no_fault_from r (of_token read.form n read.is_read d).2

-- a text that has a fault has no tokens
pub no_tokens : {text : Bytes} {p : ℕ} {k : LexFault} → HasFault text p k → (ts : List AToken) → HasTokens text ts → ⊥
no_tokens (too_long l) ts d = let short = d.short in omega arith
no_tokens (first l f) ts d = no_fault_from f d.all

-- ---- up to a place

-- the text's tokens are these, and then those of what is left from this place on; its fault is that of what is left
pub record Sofar (z : Bytes) (at : ℕ) (ts : List AToken) : Type 0 where
  pub back : (us : List AToken) → HasTokensFrom at (drop at z) us → HasTokensFrom 0 z (ts ++ us)
  pub forth : (us : List AToken) → HasTokensFrom 0 z us → (rest : List AToken) × (us ≡ ts ++ rest) × HasTokensFrom at (drop at z) rest
  pub fault_back : (p : ℕ) (k : LexFault) → HasFaultFrom at (drop at z) p k → HasFaultFrom 0 z p k
  pub fault_forth : (p : ℕ) (k : LexFault) → HasFaultFrom 0 z p k → HasFaultFrom at (drop at z) p k

pub start : (z : Bytes) → Sofar z 0 []
start z = record { back = λ us d. d; forth = λ us d. (us, refl, d); fault_back = λ p k d. d; fault_forth = λ p k d. d }

module _ (z : Bytes) (at : ℕ) (ts : List AToken) (s : Sofar z at ts) (n : ℕ) (step : drop n (drop at z) ≡ drop (at + n) z) where
  pub after : begins (drop at z) ≡ Separator n → Sofar z (at + n) ts
  after e =
      let is : IsSeparator (drop at z) n = subst (λ x. Agrees (drop at z) x) e (agrees (drop at z)) in
      record {
        back = λ us d. s.back us (separated is (subst (λ x. HasTokensFrom (at + n) x us) (sym step) d));
        forth = λ us d. let r = s.forth us d in (r.0, r.1, subst (λ x. HasTokensFrom (at + n) x r.0) step (of_separator n e r.2));
        fault_back = λ p k d. s.fault_back p k (behind_separator is (subst (λ x. HasFaultFrom (at + n) x p k) (sym step) d));
        fault_forth = λ p k d. subst (λ x. HasFaultFrom (at + n) x p k) step (fault_of_separator n e (s.fault_forth p k d));
      }

  pub with_token : (form : Form) (t : AToken) → begins (drop at z) ≡ Token form n →
      t ≡ token (kind_of form (take n (drop at z))) at n → Sofar z (at + n) (ts ++ t ∷ [])
  with_token form t e is =
      let found : IsToken (drop at z) (kind_of form (take n (drop at z))) n = subst (λ x. Agrees (drop at z) x) e (agrees (drop at z)) in
      record {
        back = λ us d. rw (append_assoc ts (t ∷ []) us, is)
            (s.back (token (kind_of form (take n (drop at z))) at n ∷ us)
            (taken found (subst (λ x. HasTokensFrom (at + n) x us) (sym step) d)));
        forth = λ us d.
            let r = s.forth us d in
            let i = of_token form n e r.2 in (
              i.0,
              r.1 ∙ ap (λ x. ts ++ x) i.1 ∙ ap (λ x. ts ++ x ∷ i.0) (sym is)
                  ∙ sym (append_assoc ts (t ∷ []) i.0),
              subst (λ x. HasTokensFrom (at + n) x i.0) step i.2,
            );
        fault_back = λ p k d. s.fault_back p k (behind_token found (subst (λ x. HasFaultFrom (at + n) x p k) (sym step) d));
        fault_forth = λ p k d. subst (λ x. HasFaultFrom (at + n) x p k) step (fault_of_token form n e (s.fault_forth p k d));
      }

module _ (z : Bytes) (at : ℕ) (ts : List AToken) (s : Sofar z at ts) (short : length z ≤ longest_text) where
  pub whole : begins (drop at z) ≡ End → HasTokens z ts
  whole e =
      let none : drop at z ≡ [] = subst (λ x. Agrees (drop at z) x) e (agrees (drop at z)) in
      record {
        short = short;
        all =
            subst (λ x. HasTokensFrom 0 z x) (append-nil ts) (s.back [] (subst (λ x. HasTokensFrom at x []) (sym none) ended));
      }

  pub no_fault : begins (drop at z) ≡ End → (p : ℕ) (k : LexFault) → HasFault z p k → ⊥
  no_fault e p k (too_long l) = omega arith
  no_fault e p k (first l f) = fault_of_end e (s.fault_forth p k f)

  pub first_fault : (k : LexFault) (n : ℕ) → begins (drop at z) ≡ Fault k n → HasFault z (at + n) k
  first_fault k n e =
      let is : IsFault (drop at z) k n = subst (λ x. Agrees (drop at z) x) e (agrees (drop at z)) in
      first short (s.fault_back (at + n) k (faulty is))

  pub only_fault : (k : LexFault) (n : ℕ) → begins (drop at z) ≡ Fault k n → (p : ℕ) (other : LexFault) → HasFault z p other →
      (p ≡ at + n) × (other ≡ k)
  only_fault k n e p other (too_long l) = absurd (omega arith)
  only_fault k n e p other (first l f) = fault_of_fault k n e (s.fault_forth p other f)

pub only_too_long : (z : Bytes) → longest_text < length z → (p : ℕ) (k : LexFault) → HasFault z p k → (p ≡ longest_text) × (k ≡ TextTooLong)
only_too_long z h p k (too_long l) = (refl, refl)
only_too_long z h p k (first l f) = absurd (omega arith)

-- ---- a token takes a byte

run_takes : (c : Class) (b : ℕ) (text : Bytes) → is_in c b ≡ true → 1 ≤ run c (b ∷ text)
run_takes c b text h = rw (cond-true (is_in c b) (1 + run c text) 0 h) (omega arith)

word_byte : (b : ℕ) → begins_word b ≡ true → is_in class.Word b ≡ true
word_byte b h = grind (arith, common_steps)

token_takes : {text : Bytes} {kind : TokenKind} {n : ℕ} → IsToken text kind n → (1 ≤ n) × (1 ≤ length text)
token_takes (reserved_word {b} {text} w e) = (run_takes class.Word b text (word_byte b w), omega arith)
token_takes (name {b} {text} w e) = (run_takes class.Word b text (word_byte b w), omega arith)
token_takes (integer {b} {text} d small) = (run_takes class.Digit b text d, omega arith)
token_takes (string rest spells) = (omega arith, omega arith)
token_takes (symbol {n = zero} l e above) = absurd (let none = no_empty_symbol in cc)
token_takes (symbol {n = suc n} l e above) = (omega arith, omega arith)

few_tokens_from : {at : ℕ} {rest : Bytes} {tokens : List AToken} → HasTokensFrom at rest tokens → length tokens ≤ length rest
few_tokens_from ended = omega arith
few_tokens_from {rest = rest} (separated {n = n} s r) = let k = few_tokens_from r in let l = length-drop n rest in omega arith
few_tokens_from {rest = rest} (taken {n = n} t r) =
    let k = few_tokens_from r in
    let l = length-drop n rest in
    let takes = token_takes t in
    omega arith

-- a text has no more tokens than bytes
pub few_tokens : {text : Bytes} {tokens : List AToken} → HasTokens text tokens → length tokens ≤ length text
few_tokens h = few_tokens_from h.all
