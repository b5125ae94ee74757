-- The nesting at each token is the one that the tokens themselves tell.
use Rattle.std.proofs.Common.{◌≡◌, ℕ, Bool, true, false, not, ◌&&◌, cond, List, [], ◌∷◌, length, Option, Some, None, refl}
use Rattle.std.proofs.Common.{sym, ◌∙◌, ap, rules}
use denote.Enum.Bare.{same_true}
use Rattle.ec_parser.specs.contracts.grammar.Opened.{the_type as opened_type}
use Rattle.ec_parser.specs.declared.terminal.Terminal.{Terminal}
use Rattle.ec_parser.specs.declared.grammar.Part.TheVariants as part
use Rattle.ec_parser.specs.declared.grammar.Opened.{Opened}
use Rattle.ec_parser.specs.declared.grammar.Bound.TheVariants.{Opens, Closes}
use Rattle.ec_lexer.specs.declared.token.Token.{Token as Word}
use Rattle.ec_parser.specs.declared.values.Values.{Values}
use Rattle.ec_parser.specs.declared.grammar.Symbol.{Symbol}
use Rattle.ec_parser.specs.declared.grammar.Symbol.TheVariants.{Part}
use Rattle.ec_parser.specs.Terminals.{terminal_of}
use Rattle.ec_parser.specs.Values.{no_values}
use Rattle.ec_parser.specs.Reads.{rest, opened, Reads, finished, token, keep, part as reads_part, bound, made}
use Rattle.ec_parser.specs.Follow.{starts_of, head, Follows}
use Rattle.ec_parser.specs.Nesting.{Behind, operand, end, other, behind, goes_on, left, closes, innermost, opens, turned, open_at}
use Rattle.ec_parser.specs.Nesting.{nestings_from, nestings_of}
use Rattle.ec_parser.proofs.Sets.{and_left, and_right}
use Rattle.ec_parser.proofs.Good.{good_rule}
use Rattle.ec_parser.proofs.Theory.{begins, follows_list}
use Rattle.ec_parser.proofs.Stances.{Place, plain, opening, closing, stood, is_operand, top, stays, is_none, is_some, suits, ends_alone}
use Rattle.ec_parser.proofs.Stances.{none_goes_on, is_filled, is_balanced}
use Rattle.ec_parser.proofs.Walks.{is_not, none_has, all_walk_in, balanced-append, rule_balanced, rule_opened, rule_walks}

-- ---- what one token does

top-innermost : (os : List Opened) → top None os ≡ innermost os
top-innermost [] = refl
top-innermost (x ∷ os) = refl

left_stays : (b : Behind) (k : Terminal) (os : List Opened) → stays b k (top None os) ≡ true → left b k os ≡ os
left_stays operand k [] h = refl
left_stays operand k (x ∷ os) h = rw h refl
left_stays end k os h = refl
left_stays other k os h = refl

none : (x : Option Opened) → is_none x ≡ true → x ≡ None
none None h = refl
none (Some x) h = absurd (let g : false ≡ true = h in cc)

some : (x : Opened) (y : Option Opened) → is_some x y ≡ true → y ≡ Some x
some x None h = absurd (let g : false ≡ true = h in cc)
some x (Some y) h = ap Some (sym (same_true opened_type (search rules) x y h))

turned_plain : (b : Behind) (k : Terminal) (os : List Opened) → closes k ≡ false → opens b k (innermost os) ≡ None → turned b k os ≡ os
turned_plain b k os c n = rw c (rw n refl)

turned_opening : (b : Behind) (k : Terminal) (x : Opened) (os : List Opened) → closes k ≡ false → opens b k (innermost os) ≡ Some x →
    turned b k os ≡ x ∷ os
turned_opening b k x os c n = rw c (rw n refl)

turned_closing : (b : Behind) (k : Terminal) (x : Opened) (os : List Opened) → closes k ≡ true → opens b k (innermost os) ≡ None →
    turned b k (x ∷ os) ≡ os
turned_closing b k x os c n = rw c (rw n refl)

-- what is open in front of the next token, where these are open behind it
abbrev before : Place → List Opened → List Opened
before (plain b) os = os
before (opening b) os = rest os
before (closing x b) os = x ∷ os

token_turns : (place : Place) (k : Terminal) (os : List Opened) → suits place k None os ≡ true →
    open_at (stood place) k (before place os) ≡ os
token_turns (plain b) k os h =
    let i = and_right (stays b k (top None os)) (not (closes k) && is_none (opens b k (top None os))) h in
    let l : left b k os ≡ os =
    left_stays b k os (and_left (stays b k (top None os)) (not (closes k) && is_none (opens b k (top None os))) h) in
    let n : opens b k (innermost os) ≡ None = ap (opens b k) (sym (top-innermost os)) ∙
    none (opens b k (top None os)) (and_right (not (closes k)) (is_none (opens b k (top None os))) i) in
    ap (turned b k) l ∙ turned_plain b k os (is_not (closes k) (and_left (not (closes k)) (is_none (opens b k (top None os))) i)) n
token_turns (opening b) k [] h = absurd (let g : false ≡ true = h in cc)
token_turns (opening b) k (x ∷ os) h =
    let i = and_right (stays b k (top None os)) (not (closes k) && is_some x (opens b k (top None os))) h in
    let l : left b k os ≡ os =
    left_stays b k os (and_left (stays b k (top None os)) (not (closes k) && is_some x (opens b k (top None os))) h) in
    let n : opens b k (innermost os) ≡ Some x = ap (opens b k) (sym (top-innermost os)) ∙
    some x (opens b k (top None os)) (and_right (not (closes k)) (is_some x (opens b k (top None os))) i) in
    ap (turned b k) l ∙ turned_opening b k x os (is_not (closes k) (and_left (not (closes k)) (is_some x (opens b k (top None os))) i)) n
token_turns (closing x b) k os h =
    let i = and_right (stays b k (Some x)) (closes k && is_none (opens b k (top None os))) h in
    let l : left b k (x ∷ os) ≡ x ∷ os =
    left_stays b k (x ∷ os) (and_left (stays b k (Some x)) (closes k && is_none (opens b k (top None os))) h) in
    let n : opens b k (innermost os) ≡ None = ap (opens b k) (sym (top-innermost os)) ∙
    none (opens b k (top None os)) (and_right (closes k) (is_none (opens b k (top None os))) i) in
    ap (turned b k) l ∙ turned_closing b k x os (and_left (closes k) (is_none (opens b k (top None os))) i) n

-- an operand that can't go on ends
left_ends : (b : Behind) (k : Terminal) (x : Opened) (os : List Opened) → is_operand b ≡ true → not (goes_on x k) ≡ true →
    left b k (x ∷ os) ≡ left b k os
left_ends operand k x os h e = rw (is_not (goes_on x k) e) refl
left_ends end k x os h e = absurd (let g : false ≡ true = h in cc)
left_ends other k x os h e = absurd (let g : false ≡ true = h in cc)

-- ---- what a list of symbols reads

-- What is open in front of the first token is what the list says, but for operands that end there.
abbrev Agrees : Place → List Opened → Terminal → List Opened → Type 0
Agrees place os k qs = left (stood place) k os ≡ left (stood place) k (before place qs)

after_token : (place : Place) (j k : Terminal) (os qs : List Opened) (ts : List Word) (ns : List ℕ) → j ≡ k → suits place k None qs ≡ true →
    Agrees place os j qs →
    ns ≡ nestings_from qs (behind k) ts → length qs ∷ ns ≡ length (open_at (stood place) j os) ∷
    nestings_from (open_at (stood place) j os) (behind j) ts
after_token place j k os qs ts ns e h a i =
    let same : open_at (stood place) j os ≡ qs = ap (turned (stood place) j) a ∙ rw e (token_turns place k qs h) in
    rw (same, e, i) refl

read_nestings : {s : List Symbol} {vs ws : Values} {ts : List Word} {ns : List ℕ} → Reads s vs ts ns ws → Follows s → is_balanced s ≡ true →
    (place : Place) → all_walk_in place s ≡ true → (os : List Opened) → Agrees place os (head ts) (opened s) →
    ns ≡ nestings_from os (stood place) ts
read_nestings finished f b place h os a = refl
read_nestings (token {k = k} {s = s} {t = t} {ts = ts} {ns = ns} e r) f b place h os a =
    after_token place (terminal_of t) k os (opened s) ts ns e
    (and_left (suits place k None (opened s)) (all_walk_in (plain (behind k)) s) h) a
    (read_nestings r f.1 b (plain (behind k)) (and_right (suits place k None (opened s)) (all_walk_in (plain (behind k)) s) h)
    (opened s) refl)
read_nestings (keep {k = k} {s = s} {t = t} {ts = ts} {ns = ns} e r) f b place h os a =
    after_token place (terminal_of t) k os (opened s) ts ns e
    (and_left (suits place k None (opened s)) (all_walk_in (plain (behind k)) s) h) a
    (read_nestings r f.1 b (plain (behind k)) (and_right (suits place k None (opened s)) (all_walk_in (plain (behind k)) s) h)
    (opened s) refl)
read_nestings (reads_part {p = p} {s = s} {ts = ts} q e r) f b place h os a =
    read_nestings r (follows_list q p s (good_rule p q e).follows f.0 f.1) (balanced-append q s (rule_balanced p q e) b) place
    (rule_walks place p q s e f h) os
    (rw (rule_opened p q s e) a)
read_nestings (bound {o = Opens x} {s = s} r) f b (plain c) h os a =
    read_nestings r f (and_right (is_filled (opened s)) (is_balanced s) b) (opening c) h os a
read_nestings (bound {o = Closes x} {s = s} {ts = ts} {ns = ns} r) f b (plain c) h os a =
    go (ends_alone x) h
    (λ i. read_nestings r f b (plain c) i.1 os
    (a ∙ left_ends c (head ts) x (opened s) i.0.0 (none_has x (head ts) (starts_of s) i.0.1 (begins r))))
    (λ i. read_nestings r f b (closing x c) i os a)
  where
    go : (n : Bool) → cond n (is_operand c && (none_goes_on x (starts_of s) && all_walk_in (plain c) s)) (all_walk_in (closing x c) s) ≡
        true →
        (((is_operand c ≡ true) × (none_goes_on x (starts_of s) ≡ true)) × (all_walk_in (plain c) s ≡ true) → ns ≡ nestings_from os c ts) →
        (all_walk_in (closing x c) s ≡ true → ns ≡ nestings_from os c ts) → ns ≡ nestings_from os c ts
    go true h f g =
        let i = and_right (is_operand c) (none_goes_on x (starts_of s) && all_walk_in (plain c) s) h in
        f (
          (
            and_left (is_operand c) (none_goes_on x (starts_of s) && all_walk_in (plain c) s) h,
            and_left (none_goes_on x (starts_of s)) (all_walk_in (plain c) s) i,
          ),
          and_right (none_goes_on x (starts_of s)) (all_walk_in (plain c) s) i,
        )
    go false h f g = g h
read_nestings (bound {o = Opens x} r) f b (opening c) h os a = absurd (let g : false ≡ true = h in cc)
read_nestings (bound {o = Closes x} r) f b (opening c) h os a = absurd (let g : false ≡ true = h in cc)
read_nestings (bound {o = Opens x} r) f b (closing y c) h os a = absurd (let g : false ≡ true = h in cc)
read_nestings (bound {o = Closes x} r) f b (closing y c) h os a = absurd (let g : false ≡ true = h in cc)
read_nestings (made r) f b place h os a = read_nestings r f b place h os a

-- the nestings of a program are those of its tokens
pub nestings_are : (ts : List Word) (ns : List ℕ) (ws : Values) → Reads (Part part.Program ∷ []) no_values ts ns ws → ns ≡ nestings_of ts
unfolding nestings_of
nestings_are ts ns ws r = read_nestings r ((λ k h. h), tt) refl (plain other) refl [] refl
