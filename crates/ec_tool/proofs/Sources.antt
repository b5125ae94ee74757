-- A source is judged in one way only: it is one program's, or it is refused for one reason at one place.
use Rattle.std.proofs.Common.{◌≡◌, ℕ, zero, suc, ◌+◌, ◌<◌, ◌≤◌, List, [], ◌∷◌, ◌++◌, length, take, drop, ◌⊎◌, inl, inr, Some}
use Rattle.std.proofs.Common.{None, refl, sym, ◌∙◌, ap, subst, arith, append_assoc}
use Rattle.std.specs.Prelude.{slice_get}
use Rattle.std.proofs.lemmas.Bool.{cases_lt}
use Rattle.std.proofs.lemmas.List.{take-append-drop, take-take, drop-drop}
use Rattle.ec_ast.specs.declared.Program.{Program}
use Rattle.ec_lexer.specs.declared.error.LexFault.{LexFault}
use Rattle.ec_lexer.specs.declared.lexeme.Lexeme.TheVariants as lexeme
use Rattle.ec_lexer.specs.declared.token.Token.{Token}
use Rattle.ec_lexer.specs.Faults.{HasFaultFrom, faulty, behind_separator, behind_token, HasFault, too_long, first}
use Rattle.ec_lexer.specs.Lexemes.{begins, kind_of}
use Rattle.ec_lexer.specs.Tokens.{HasTokens, longest_text, token}
use Rattle.ec_lexer.specs.Words.{Bytes}
use Rattle.ec_lexer.proofs.Lexing.{reads_separator, reads_token, reads_fault}
use Rattle.ec_lexer.proofs.Reading.{Sofar, start, after, with_token, only_fault, only_too_long, same_tokens, no_tokens}
use Rattle.ec_parser.specs.HasTree.{HasTree}
use Rattle.ec_parser.specs.declared.grammar.Opened.{Opened}
use Rattle.ec_parser.specs.Nesting.{Behind, behind, other, open_at, nestings_from, nestings_of}
use Rattle.ec_parser.specs.Terminals.{terminal_of}
use Rattle.ec_parser.specs.Program.{AreShallow, Begins, BeginsNone, IsDeep, IsShallow, IsSyntax}
use Rattle.ec_parser.proofs.OneTree.{same_tree}
use Rattle.ec_rules.specs.declared.StaticFault.{StaticFault}
use Rattle.ec_rules.specs.Faults.{HasFaults}
use Rattle.ec_rules.proofs.OneList.{same_faults}
use Rattle.ec_tool.specs.declared.source.Refusal.{Refusal}
use Rattle.ec_tool.specs.declared.source.Refusal.TheVariants.{Lexical, Syntax, Deep, Static}
use Rattle.ec_tool.specs.Sources.{IsProgramText, IsChecked, IsFaulty, lexical, syntax, deep, static_rule, place_of}

-- ---- a text has at most one first fault

-- the first fault of what is left of a text is the only one of the text
only_from : (text : Bytes) → length text ≤ longest_text → {at p : ℕ} {z : Bytes} {j : LexFault} → HasFaultFrom at z p j →
    (ts : List Token) → Sofar text at ts → z ≡ drop at text → (q : ℕ) (k : LexFault) → HasFault text q k → (q ≡ p) × (k ≡ j)
only_from text short {at} (faulty {n} {kind} i) ts s is =
    only_fault text at ts s short kind n (subst (λ x. begins x ≡ lexeme.Fault kind n) is (reads_fault i))
only_from text short {at} (behind_separator {n} i r) ts s is =
    let step = drop-drop n at text in
    let begun = subst (λ x. begins x ≡ lexeme.Separator n) is (reads_separator i) in
    only_from text short r ts (after text at ts s n step begun) (ap (drop n) is ∙ step)
only_from text short {at} (behind_token {n} i r) ts s is =
    let step = drop-drop n at text in
    let read = reads_token i in
    let begun = subst (λ x. begins x ≡ lexeme.Token read.form n) is read.is_read in
    let found = token (kind_of read.form (take n (drop at text))) at n in
    only_from text short r (ts ++ found ∷ []) (with_token text at ts s n step read.form found begun refl) (ap (drop n) is ∙ step)

-- a text has at most one first fault
same_lexical : (text : Bytes) (p q : ℕ) (j k : LexFault) → HasFault text p j → HasFault text q k → (p ≡ q) × (j ≡ k)
same_lexical text p q j k (too_long l) g = let only = only_too_long text l q k g in (sym only.0, sym only.1)
same_lexical text p q j k (first l f) g = let only = only_from text l f [] (start text) refl q k g in (sym only.0, sym only.1)

-- ---- tokens fail to be a program's at one place only

-- the nesting at a token is that of the tokens up to it
nestings-take : (os : List Opened) (b : Behind) (ts : List Token) (k : ℕ) → nestings_from os b (take k ts) ≡ take k (nestings_from os b ts)
nestings-take os b ts zero = refl
nestings-take os b [] (suc k) = refl
nestings-take os b (t ∷ ts) (suc k) =
    ap (λ ns. length (open_at b (terminal_of t) os) ∷ ns) (nestings-take (open_at b (terminal_of t) os) (behind (terminal_of t)) ts k)

front_nestings : (ts : List Token) (k : ℕ) → nestings_of (take k ts) ≡ take k (nestings_of ts)
unfolding nestings_of
front_nestings ts k = nestings-take [] other ts k

shallow_at : (ns : List ℕ) (i n : ℕ) → AreShallow ns → slice_get ns i ≡ Some n → n ≤ 64
shallow_at [] i n s e = cc
shallow_at (m ∷ ns) zero n s e = let same : m ≡ n = cc in subst (λ x. x ≤ 64) same s.0
shallow_at (m ∷ ns) (suc i) n s e = shallow_at ns i n s.1 e

at_front : (ns : List ℕ) (k i : ℕ) → i < k → slice_get (take k ns) i ≡ slice_get ns i
at_front ns zero i h = absurd (omega arith)
at_front [] (suc k) i h = refl
at_front (n ∷ ns) (suc k) zero h = refl
at_front (n ∷ ns) (suc k) (suc i) h = at_front ns k i (omega arith)

-- none of the tokens before a place is deep, and one of them is
no_deep_before : (ts : List Token) (j k : ℕ) → j < k → IsShallow (take k ts) → IsDeep ts j → ⊥
no_deep_before ts j k h s d =
    let ns : AreShallow (take k (nestings_of ts)) = subst AreShallow (front_nestings ts k) s in
    let n = shallow_at (take k (nestings_of ts)) j d.nesting ns (at_front (nestings_of ts) k j h ∙ d.nesting_is) in
    let m = d.deep in
    omega arith

no_deep : (ts : List Token) (j : ℕ) → IsShallow ts → IsDeep ts j → ⊥
no_deep ts j s d =
    let n = shallow_at (nestings_of ts) j d.nesting s d.nesting_is in
    let m = d.deep in
    omega arith

-- up to a token they begin no program, and up to a later place they begin one
begins_later : (ts : List Token) (j k : ℕ) → j < k → BeginsNone (take (j + 1) ts) → Begins (take k ts) → ⊥
begins_later ts j k h n b =
    let split : take k ts ≡ take (j + 1) ts ++ drop (j + 1) (take k ts) =
    sym (take-append-drop (j + 1) (take k ts)) ∙ ap (λ x. x ++ drop (j + 1) (take k ts)) (take-take (j + 1) k ts (omega arith)) in
    n (drop (j + 1) (take k ts) ++ b.more) b.program
    (subst (λ x. HasTree x b.program)
    (ap (λ x. x ++ b.more) split ∙ append_assoc (take (j + 1) ts) (drop (j + 1) (take k ts)) b.more) b.has_tree)

neither_less : (j k : ℕ) → (j < k → ⊥) → (k < j → ⊥) → (j < k) ⊎ (k ≤ j) → (k < j) ⊎ (j ≤ k) → j ≡ k
neither_less j k h l (inl a) b = absurd (h a)
neither_less j k h l (inr a) (inl b) = absurd (l b)
neither_less j k h l (inr a) (inr b) = omega arith

same_by : (j k : ℕ) → (j < k → ⊥) → (k < j → ⊥) → j ≡ k
same_by j k h l = neither_less j k h l (cases_lt j k) (cases_lt k j)

same_syntax : (ts : List Token) (j k : ℕ) → IsSyntax ts j → IsSyntax ts k → j ≡ k
same_syntax ts j k a b =
    same_by j k
    (λ h. let l = b.within in begins_later ts j k h (a.after (omega arith)) b.before)
    (λ h. let l = a.within in begins_later ts k j h (b.after (omega arith)) a.before)

same_deep : (ts : List Token) (j k : ℕ) → IsDeep ts j → IsDeep ts k → j ≡ k
same_deep ts j k a b = same_by j k (λ h. no_deep_before ts j k h b.shallow a) (λ h. no_deep_before ts k j h a.shallow b)

syntax_or_deep : (ts : List Token) (j k : ℕ) → IsSyntax ts j → IsDeep ts k → (k < j) ⊎ (j ≤ k) → ⊥
syntax_or_deep ts j k a b (inl h) = no_deep_before ts k j h a.shallow b
syntax_or_deep ts j k a b (inr h) = let l = b.within in begins_later ts j (k + 1) (omega arith) (a.after (omega arith)) b.begins

-- ---- a text is judged in one way only

-- how a text that has tokens is no program's
data IsFaultyOn (text : List ℕ) (ts : List Token) : Refusal → ℕ → Type 0 where
  by_syntax : {k : ℕ} → IsSyntax ts k → IsFaultyOn text ts Syntax (place_of text ts k)
  by_depth : {k : ℕ} → IsDeep ts k → IsFaultyOn text ts Deep (place_of text ts k)
  by_rule : {w : Program} {faults : List StaticFault} {fault : StaticFault} → HasTree ts w → IsShallow ts → HasFaults w faults →
      slice_get faults 0 ≡ Some fault → IsFaultyOn text ts (Static fault.rule) fault.at.from

faulty_on : {text : List ℕ} {r : Refusal} {at : ℕ} → IsFaulty text r at → (ts : List Token) → HasTokens text ts → IsFaultyOn text ts r at
faulty_on (lexical f) ts h = absurd (no_tokens f ts h)
faulty_on {text} {r} {at} (syntax {tokens} g s) ts h = subst (λ us. IsFaultyOn text us r at) (same_tokens text tokens ts g h) (by_syntax s)
faulty_on {text} {r} {at} (deep {tokens} g d) ts h = subst (λ us. IsFaultyOn text us r at) (same_tokens text tokens ts g h) (by_depth d)
faulty_on {text} {r} {at} (static_rule {tokens} g w s f e) ts h =
    subst (λ us. IsFaultyOn text us r at) (same_tokens text tokens ts g h) (by_rule w s f e)

-- the first fault of tokens is one
same_first : (ts : List Token) (w v : Program) (fs gs : List StaticFault) (f g : StaticFault) → HasTree ts w →
    HasTree ts v →
    HasFaults w fs → HasFaults v gs → slice_get fs 0 ≡ Some f → slice_get gs 0 ≡ Some g → f ≡ g
same_first ts w v fs gs f g t u has have e d =
    let as_v = subst (λ x. HasFaults x fs) (same_tree ts w v t u) has in
    let same : fs ≡ gs = same_faults v fs gs as_v have in
    let first : slice_get fs 0 ≡ slice_get gs 0 = ap (λ x. slice_get x 0) same in
    cc

same_on : {text : List ℕ} {ts : List Token} {r s : Refusal} {at to : ℕ} → IsFaultyOn text ts r at → IsFaultyOn text ts s to →
    (r ≡ s) × (at ≡ to)
same_on {text} {ts} (by_syntax {k = j} a) (by_syntax {k} b) = (refl, ap (λ x. place_of text ts x) (same_syntax ts j k a b))
same_on {text} {ts} (by_syntax {k = j} a) (by_depth {k} b) = absurd (syntax_or_deep ts j k a b (cases_lt k j))
same_on (by_syntax a) (by_rule {w} h s f e) = absurd (a.no_program w h)
same_on {text} {ts} (by_depth {k = j} a) (by_syntax {k} b) = absurd (syntax_or_deep ts k j b a (cases_lt j k))
same_on {text} {ts} (by_depth {k = j} a) (by_depth {k} b) = (refl, ap (λ x. place_of text ts x) (same_deep ts j k a b))
same_on {text} {ts} (by_depth {k = j} a) (by_rule h s f e) = absurd (no_deep ts j s a)
same_on (by_rule {w} h s f e) (by_syntax b) = absurd (b.no_program w h)
same_on {text} {ts} (by_rule h s f e) (by_depth {k} b) = absurd (no_deep ts k s b)
same_on {text} {ts} (by_rule {w} {faults = fs} {fault = f} h s a e) (by_rule {w = v} {faults = gs} {fault = g} i u b d) =
    let same = same_first ts w v fs gs f g h i a b e d in
    (ap (λ x. Static x.rule) same, ap (λ x. x.at.from) same)

-- a text is no program's for one reason at one place only
pub same_fault : {text : List ℕ} {r s : Refusal} {at to : ℕ} → IsFaulty text r at → IsFaulty text s to → (r ≡ s) × (at ≡ to)
same_fault {text} (lexical {at = p} {fault = j} f) (lexical {at = q} {fault = k} g) =
    let same = same_lexical text p q j k f g in
    (ap Lexical same.1, same.0)
same_fault (lexical f) (syntax {tokens} g s) = absurd (no_tokens f tokens g)
same_fault (lexical f) (deep {tokens} g d) = absurd (no_tokens f tokens g)
same_fault (lexical f) (static_rule {tokens} g w s h e) = absurd (no_tokens f tokens g)
same_fault (syntax {tokens} g s) d = same_on (by_syntax s) (faulty_on d tokens g)
same_fault (deep {tokens} g s) d = same_on (by_depth s) (faulty_on d tokens g)
same_fault (static_rule {tokens} g w s h e) d = same_on (by_rule w s h e) (faulty_on d tokens g)

no_fault_on : {text : List ℕ} {ts : List Token} {w : Program} {r : Refusal} {at : ℕ} → IsProgramText text ts w →
    IsFaultyOn text ts r at → ⊥
no_fault_on {w = w} p (by_syntax a) = a.no_program w p.has_tree
no_fault_on {ts = ts} p (by_depth {k} a) = no_deep ts k p.shallow a
no_fault_on {ts = ts} {w = w} p (by_rule {w = v} {faults = fs} h s a e) =
    let as_w = subst (λ x. HasFaults x fs) (same_tree ts v w h p.has_tree) a in
    let none : fs ≡ [] = same_faults w fs [] as_w p.is_accepted in
    let first : slice_get fs 0 ≡ None = ap (λ x. slice_get x 0) none in
    cc

-- the text of a program is not faulty
pub not_faulty : {text : List ℕ} {r : Refusal} {at : ℕ} → IsChecked text → IsFaulty text r at → ⊥
not_faulty c f = no_fault_on c.is_program (faulty_on f c.tokens c.is_program.has_tokens)

-- a text is one program's only
pub same_program : (text : List ℕ) (ts us : List Token) (p q : Program) → IsProgramText text ts p → IsProgramText text us q → p ≡ q
same_program text ts us p q a b =
    let same : ts ≡ us = same_tokens text ts us a.has_tokens b.has_tokens in
    same_tree us p q (subst (λ x. HasTree x p) same a.has_tree) b.has_tree
