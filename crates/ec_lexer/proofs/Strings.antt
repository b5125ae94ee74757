-- Strings: how the lexer reads them, against what they are.
use Rattle.std.proofs.Common.{◌≡◌, ℕ, suc, ◌+◌, ◌-◌, Bool, true, false, [], ◌∷◌, ◌++◌, length, take, drop, refl, sym, ◌∙◌, ap}
use Rattle.std.proofs.Common.{subst, arith, append_assoc, length-append}
use Rattle.std.specs.Prelude.{◌==◌}
use Rattle.std.proofs.lemmas.Grind.{common_steps}
use Rattle.std.proofs.Math.Seq.{take-append-add, take-append_seam}
use Rattle.std.proofs.lemmas.Bool.{cond-true, cond-false, cond_both, eqb-true}
use Rattle.ec_lexer.specs.declared.error.LexFault.TheVariants.{StrayByte, UnclosedString, UnknownEscape}
use Rattle.ec_lexer.specs.declared.lexeme.Form.TheVariants as form
use Rattle.ec_lexer.specs.declared.lexeme.Lexeme.{Lexeme}
use Rattle.ec_lexer.specs.declared.lexeme.Lexeme.TheVariants.{Token, Fault}
use Rattle.ec_lexer.specs.declared.token.TokenKind.TheVariants as kind
use Rattle.ec_lexer.specs.Words.{Bytes, is_plain, is_escape, unescaped_byte}
use Rattle.ec_lexer.specs.Tokens.{Spells, nothing, plain, escape, IsToken, string as is_string}
use Rattle.ec_lexer.specs.Faults.{IsForbidden, EndsLine, at_end, at_line_feed, IsFault, forbidden_byte, unclosed_string}
use Rattle.ec_lexer.specs.Faults.{unclosed_escape, unknown_escape}
use Rattle.ec_lexer.specs.Lexemes.{string, unescaped, kind_of}
use Rattle.ec_lexer.proofs.Agrees.{Agrees}

-- ---- bytes of a string

plain_no_quote : (b : ℕ) → is_plain b ≡ true → (b == 34) ≡ false
plain_no_quote b h = grind (arith, common_steps)

plain_no_backslash : (b : ℕ) → is_plain b ≡ true → (b == 92) ≡ false
plain_no_backslash b h = grind (arith, common_steps)

plain_no_line_feed : (b : ℕ) → is_plain b ≡ true → (b == 10) ≡ false
plain_no_line_feed b h = grind (arith, common_steps)

escape_no_line_feed : (b : ℕ) → is_escape b ≡ true → (b == 10) ≡ false
escape_no_line_feed b h = grind (arith, common_steps)

-- ---- what a body stands for

unescaped_plain : (b : ℕ) (body : Bytes) → (b == 92) ≡ false → unescaped (b ∷ body) ≡ b ∷ unescaped body
unescaped_plain b [] h = refl
unescaped_plain b (c ∷ body) h = cond-false (b == 92) _ _ h

pub unescaped_is : {body bytes : Bytes} → Spells body bytes → unescaped body ≡ bytes
unescaped_is nothing = refl
unescaped_is (plain {b} {body} p rest) = unescaped_plain b body (plain_no_backslash b p) ∙ ap (λ x. b ∷ x) (unescaped_is rest)
unescaped_is (escape {b} e rest) = ap (λ x. unescaped_byte b ∷ x) (unescaped_is rest)

-- one body behind another
joined : {body bytes more more_bytes : Bytes} → Spells body bytes → Spells more more_bytes → Spells (body ++ more) (bytes ++ more_bytes)
joined nothing behind = behind
joined (plain p rest) behind = plain p (joined rest behind)
joined (escape e rest) behind = escape e (joined rest behind)

-- the whole string, up to its closing quote
whole : (body rest : Bytes) → take (length body + 2) (34 ∷ (body ++ 34 ∷ rest)) ≡ 34 ∷ (body ++ 34 ∷ [])
whole body rest =
    let one : length body + 2 ≡ suc (length body + 1) = omega arith in
    rw one (ap (λ x. 34 ∷ x) (take-append-add body (34 ∷ rest) 1))

between : (body : Bytes) → take (length (34 ∷ (body ++ 34 ∷ [])) - 2) (drop 1 (34 ∷ (body ++ 34 ∷ []))) ≡ body
between body =
    let l : length (34 ∷ (body ++ 34 ∷ [])) - 2 ≡ length body = omega (arith, length-append body (34 ∷ [])) in
    rw l (take-append_seam body (34 ∷ []))

pub literal_is : {body bytes : Bytes} (rest : Bytes) → Spells body bytes →
    kind_of form.Literal (take (length body + 2) (34 ∷ (body ++ 34 ∷ rest))) ≡ kind.Literal bytes
literal_is {body} rest spells =
    ap (λ x. kind.Literal (unescaped (take (length x - 2) (drop 1 x)))) (whole body rest)
    ∙ ap (λ x. kind.Literal (unescaped x)) (between body) ∙ ap kind.Literal (unescaped_is spells)

-- ---- what the lexer reads is so

-- ---- what is read is so

escaped_more : (body bytes : Bytes) (b : ℕ) → Spells body bytes → is_escape b ≡ true →
    Spells (body ++ 92 ∷ b ∷ []) (bytes ++ unescaped_byte b ∷ [])
escaped_more body bytes b spells e = joined spells (escape e nothing)

literal_agrees : (body bytes rest : Bytes) (n : ℕ) → Spells body bytes → n ≡ length body + 2 →
    Agrees (34 ∷ (body ++ 34 ∷ rest)) (Token form.Literal n)
literal_agrees body bytes rest n spells is =
    subst (λ k. IsToken (34 ∷ (body ++ 34 ∷ rest)) (kind_of form.Literal (take k (34 ∷ (body ++ 34 ∷ rest)))) k) (sym is)
    (subst (λ k. IsToken (34 ∷ (body ++ 34 ∷ rest)) k (length body + 2)) (sym (literal_is rest spells)) (is_string rest spells))

-- the same where the body's last bytes stand with it or with what is left
along : (x : Lexeme) (body more rest : Bytes) → Agrees (34 ∷ ((body ++ more) ++ rest)) x → Agrees (34 ∷ (body ++ (more ++ rest))) x
along x body more rest h = subst (λ text. Agrees (34 ∷ text) x) (append_assoc body more rest) h

-- what is left of a string, with the backslash that was read last
abbrev held : Bool → Bytes → Bytes
held true left = 92 ∷ left
held false left = left

abbrev place : Bool → Bytes → ℕ
place true body = length body + 2
place false body = length body + 1

-- what the lexer reads behind these first bytes of a string
pub agrees : (left : Bytes) (is_escaped : Bool) (body bytes : Bytes) (at : ℕ) → Spells body bytes → at ≡ place is_escaped body →
    Agrees (34 ∷ (body ++ held is_escaped left)) (string is_escaped at left)
agrees [] false body bytes at spells is = unclosed_string [] spells at_end
agrees (b ∷ left) false body bytes at spells is =
    cond_both (b == 10) (Fault UnclosedString 0) _ (Agrees (34 ∷ (body ++ b ∷ left)))
    (λ e. subst (λ c. IsFault (34 ∷ (body ++ c ∷ left)) UnclosedString 0) (sym (eqb-true b 10 e))
    (unclosed_string (10 ∷ left) spells at_line_feed))
    (λ no_line_feed. cond_both (b == 34) (Token form.Literal (at + 1)) _ (Agrees (34 ∷ (body ++ b ∷ left)))
    (λ e. subst (λ c. Agrees (34 ∷ (body ++ c ∷ left)) (Token form.Literal (at + 1))) (sym (eqb-true b 34 e))
    (literal_agrees body bytes left (at + 1) spells (omega arith)))
    (λ no_quote. cond_both (b == 92) (string true (at + 1) left) _ (Agrees (34 ∷ (body ++ b ∷ left)))
    (λ e. subst (λ c. Agrees (34 ∷ (body ++ c ∷ left)) (string true (at + 1) left)) (sym (eqb-true b 92 e))
    (agrees left true body bytes (at + 1) spells (omega arith)))
    (λ no_backslash. cond_both (is_plain b) (string false (at + 1) left) (Fault StrayByte at) (Agrees (34 ∷ (body ++ b ∷ left)))
    (λ p. along (string false (at + 1) left) body (b ∷ []) left
    (agrees left false (body ++ b ∷ []) (bytes ++ b ∷ []) (at + 1) (joined spells (plain p nothing))
    (omega (arith, length-append body (b ∷ [])))))
    (λ no_plain. subst (λ n. IsFault (34 ∷ (body ++ b ∷ left)) StrayByte n) (sym is)
    (forbidden_byte b left spells
    (record { not_plain = no_plain; not_quote = no_quote; not_backslash = no_backslash; not_line_feed = no_line_feed }))))))
agrees [] true body bytes at spells is = unclosed_escape [] spells at_end
agrees (b ∷ left) true body bytes at spells is =
    cond_both (b == 10) (Fault UnclosedString 0) _ (Agrees (34 ∷ (body ++ 92 ∷ b ∷ left)))
    (λ e. subst (λ c. IsFault (34 ∷ (body ++ 92 ∷ c ∷ left)) UnclosedString 0) (sym (eqb-true b 10 e))
    (unclosed_escape (10 ∷ left) spells at_line_feed))
    (λ no_line_feed. cond_both (is_escape b) (string false (at + 1) left) (Fault UnknownEscape (at - 1))
    (Agrees (34 ∷ (body ++ 92 ∷ b ∷ left)))
    (λ e. along (string false (at + 1) left) body (92 ∷ b ∷ []) left
    (agrees left false (body ++ 92 ∷ b ∷ []) (bytes ++ unescaped_byte b ∷ []) (at + 1) (escaped_more body bytes b spells e)
    (omega (arith, length-append body (92 ∷ b ∷ [])))))
    (λ no_escape. let e : length body + 1 ≡ at - 1 = omega arith in
    subst (λ n. IsFault (34 ∷ (body ++ 92 ∷ b ∷ left)) UnknownEscape n) e (unknown_escape b left spells no_escape no_line_feed)))

-- ---- what is so is read

-- a body is passed over
passed : {body bytes : Bytes} (at : ℕ) (rest : Bytes) → Spells body bytes →
    string false at (body ++ rest) ≡ string false (at + length body) rest
passed at rest nothing = let e : at ≡ at + 0 = omega arith in ap (λ x. string false x rest) e
passed at rest (plain {b} {body} p more) =
    cond-false (b == 10) _ _ (plain_no_line_feed b p) ∙ cond-false (b == 34) _ _ (plain_no_quote b p)
    ∙ cond-false (b == 92) _ _ (plain_no_backslash b p) ∙ cond-true (is_plain b) _ _ p
    ∙ passed (at + 1) rest more ∙ (let e : at + 1 + length body ≡ at + length (b ∷ body) = omega arith in ap (λ x. string false x rest) e)
passed at rest (escape {b} {body} e more) =
    cond-false (b == 10) _ _ (escape_no_line_feed b e) ∙ cond-true (is_escape b) _ _ e
    ∙ passed (at + 1 + 1) rest more
    ∙ (let e : at + 1 + 1 + length body ≡ at + length (92 ∷ b ∷ body) = omega arith in ap (λ x. string false x rest) e)

module _ {body bytes : Bytes} (rest : Bytes) (spells : Spells body bytes) where
  pub reads_literal : string false 1 (body ++ 34 ∷ rest) ≡ Token form.Literal (length body + 2)
  reads_literal = passed 1 (34 ∷ rest) spells
      ∙ (let e : 1 + length body + 1 ≡ length body + 2 = omega arith in ap (λ x. Token form.Literal x) e)

  pub reads_forbidden : (b : ℕ) → IsForbidden b → string false 1 (body ++ b ∷ rest) ≡ Fault StrayByte (length body + 1)
  reads_forbidden b f =
      passed 1 (b ∷ rest) spells ∙ cond-false (b == 10) _ _ f.not_line_feed ∙ cond-false (b == 34) _ _ f.not_quote
      ∙ cond-false (b == 92) _ _ f.not_backslash
      ∙ cond-false (is_plain b) _ _ f.not_plain ∙ (let e : 1 + length body ≡ length body + 1 = omega arith in ap (λ x. Fault StrayByte x) e)

  pub reads_unknown : (b : ℕ) → is_escape b ≡ false → (b == 10) ≡ false →
      string false 1 (body ++ 92 ∷ b ∷ rest) ≡ Fault UnknownEscape (length body + 1)
  reads_unknown b no_escape no_line_feed =
      passed 1 (92 ∷ b ∷ rest) spells ∙ cond-false (b == 10) _ _ no_line_feed ∙ cond-false (is_escape b) _ _ no_escape
      ∙ (let e : 1 + length body + 1 - 1 ≡ length body + 1 = omega arith in ap (λ x. Fault UnknownEscape x) e)

ends : (is_escaped : Bool) (at : ℕ) {rest : Bytes} → EndsLine rest → string is_escaped at rest ≡ Fault UnclosedString 0
ends is_escaped at at_end = refl
ends true at at_line_feed = refl
ends false at at_line_feed = refl

pub reads_unclosed : {body bytes : Bytes} (rest : Bytes) → Spells body bytes → EndsLine rest →
    string false 1 (body ++ rest) ≡ Fault UnclosedString 0
reads_unclosed {body} rest spells end = passed 1 rest spells ∙ ends false (1 + length body) end

pub reads_unclosed_escape : {body bytes : Bytes} (rest : Bytes) → Spells body bytes → EndsLine rest →
    string false 1 (body ++ 92 ∷ rest) ≡ Fault UnclosedString 0
reads_unclosed_escape {body} rest spells end = passed 1 (92 ∷ rest) spells ∙ ends true (1 + length body + 1) end
