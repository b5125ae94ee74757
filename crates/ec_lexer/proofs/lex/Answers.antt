use Rattle.std.proofs.Common.{◌≡◌, ℕ, ◌+◌, ◌-◌, ◌≤◌, length, take, drop, sym, ◌∙◌, arith, ap, inl, length-drop}
use Rattle.std.proofs.lemmas.List.{drop-drop, take_all, length-take-le}
use Rattle.ec_lexer.specs.declared.error.LexError.TheVariants.{Refused}
use Rattle.ec_lexer.specs.declared.error.LexFault.{LexFault}
use Rattle.ec_lexer.specs.declared.lexeme.Form.{Form}
use Rattle.ec_lexer.specs.declared.lexeme.Lexeme.{Lexeme}
use Rattle.ec_lexer.specs.declared.token.Token.{Token}
use Rattle.ec_lexer.specs.Faults.{too_long}
use Rattle.ec_lexer.specs.Lexemes.{begins, kind_of}
use Rattle.ec_lexer.specs.Tokens.{token as token_of}
use Rattle.ec_lexer.specs.Words.{Bytes}
use Rattle.ec_lexer.proofs.Reading.{after, with_token, whole, same_tokens, no_tokens, no_fault, first_fault, only_fault}
use Rattle.ec_lexer.proofs.lex.Goals as goal

rest_is : (z : Bytes) (at : ℕ) → take (length z - at) (drop at z) ≡ drop at z
rest_is z at = take_all (length z - at) (drop at z) (simp length-drop (omega arith))

begun : (z : Bytes) (at : ℕ) (x : Lexeme) → x ≡ begins (take (length z - at) (drop at z)) → begins (drop at z) ≡ x
begun z at x e = sym (e ∙ ap begins (rest_is z at))

-- the token that was made is that of the bytes at its place
made : (z : Bytes) (at n : ℕ) (form : Form) (t : Token) → n ≤ length z - at →
    t ≡ token_of (kind_of form (take n (take (length z - at) (drop at z)))) at
    (length (take n (take (length z - at) (drop at z)))) → t ≡ token_of (kind_of form (take n (drop at z))) at n
made z at n form t within e =
    let l : length (take n (drop at z)) ≡ n = length-take-le n (drop at z) (simp length-drop within) in
    e ∙ ap (λ x. token_of (kind_of form (take n x)) at (length (take n x))) (rest_is z at)
    ∙ ap (λ k. token_of (kind_of form (take n (drop at z))) at k) l

same_refusal : (p q : ℕ) (k other : LexFault) → p ≡ q → other ≡ k → Refused q k ≡ Refused p other
same_refusal p q k other e f = ap (λ x. Refused x k) (sym e) ∙ ap (λ x. Refused p x) (sym f)

pub returns-then-text-gt-LONGEST_TEXT-clause-cause : goal.returns-then-text-gt-LONGEST_TEXT-clause-cause
returns-then-text-gt-LONGEST_TEXT-clause-cause c = too_long c.if-text-gt-LONGEST_TEXT.true

pub returns-in-End-clause-tokens : goal.returns-in-End-clause-tokens
returns-in-End-clause-tokens c =
    whole _ _ _ c.reading.invariant.2 c.reading.invariant.1 (begun c.args.text.now c.reading.at _ c.begins.ensures.value ∙ c.in-End.is)

pub returns-in-End-clause-only_tokens : goal.returns-in-End-clause-only_tokens
returns-in-End-clause-only_tokens c tokens d =
    same_tokens c.args.text.now _ tokens
    (whole _ _ _ c.reading.invariant.2 c.reading.invariant.1
    (begun c.args.text.now c.reading.at _ c.begins.ensures.value ∙ c.in-End.is)) d

pub returns-in-End-clause-only_fault : goal.returns-in-End-clause-only_fault
returns-in-End-clause-only_fault c place kind f =
    no_fault _ _ _ c.reading.invariant.2 c.reading.invariant.1
    (begun c.args.text.now c.reading.at _ c.begins.ensures.value ∙ c.in-End.is) place kind f

pub reading-preserved-in-Separator : goal.reading-preserved-in-Separator
reading-preserved-in-Separator c = (
  omega (arith, c.in-Separator.ensures.within.1),
  c.reading.invariant.1,
  after _ _ _ c.reading.invariant.2 c.in-Separator.n (drop-drop c.in-Separator.n c.reading.at c.args.text.now)
      (begun c.args.text.now c.reading.at _ c.begins.ensures.value ∙ c.in-Separator.is),
)

pub reading-preserved : goal.reading-preserved
reading-preserved c = (
  omega (arith, c.in-Token.ensures.within.1),
  c.reading.invariant.1,
  rw c.in_ok-push-in-Token.ensures.ok
      (with_token _ _ _ c.reading.invariant.2 c.in-Token.n (drop-drop c.in-Token.n c.reading.at c.args.text.now) c.in-Token.form
      c.in_ok-token-in-Token.token (begun c.args.text.now c.reading.at _ c.begins.ensures.value ∙ c.in-Token.is)
      (made c.args.text.now c.reading.at c.in-Token.n c.in-Token.form c.in_ok-token-in-Token.token
      (omega (arith, c.in-Token.ensures.within.1)) c.in_ok-token-in-Token.ensures)),
)

pub returns-in-Fault-clause-cause : goal.returns-in-Fault-clause-cause
returns-in-Fault-clause-cause c =
    first_fault _ _ _ c.reading.invariant.2 c.reading.invariant.1 c.in-Fault.kind c.in-Fault.n
    (begun c.args.text.now c.reading.at _ c.begins.ensures.value ∙ c.in-Fault.is)

pub returns-in-Fault-clause-only_tokens : goal.returns-in-Fault-clause-only_tokens
returns-in-Fault-clause-only_tokens c tokens d =
    absurd (no_tokens
    (first_fault _ _ _ c.reading.invariant.2 c.reading.invariant.1 c.in-Fault.kind c.in-Fault.n
    (begun c.args.text.now c.reading.at _ c.begins.ensures.value ∙ c.in-Fault.is)) tokens d)

pub returns-in-Fault-clause-only_fault : goal.returns-in-Fault-clause-only_fault
returns-in-Fault-clause-only_fault c place kind f =
    let only = only_fault _ _ _ c.reading.invariant.2 c.reading.invariant.1 c.in-Fault.kind c.in-Fault.n
    (begun c.args.text.now c.reading.at _ c.begins.ensures.value ∙ c.in-Fault.is) place kind f in
    inl (same_refusal place (c.reading.at + c.in-Fault.n) c.in-Fault.kind kind only.0 only.1)
