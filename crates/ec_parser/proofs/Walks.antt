-- Each symbol of a list that is still to be read stands where it may, and does so where a part is replaced by an alternative.
use Rattle.std.proofs.Common.{◌≡◌, Bool, true, false, not, ◌&&◌, cond, List, [], ◌∷◌, ◌++◌, Option, Some, None, refl, ◌∙◌, ap, inl, inr}
use Rattle.ec_parser.specs.declared.terminal.Terminal.{Terminal}
use Rattle.ec_parser.specs.declared.terminal.Terminal.TheVariants as kind
use Rattle.ec_parser.specs.declared.grammar.Part.{Part as Part_of}
use Rattle.ec_parser.specs.declared.grammar.Opened.{Opened}
use Rattle.ec_parser.specs.declared.grammar.Opened.TheVariants as o
use Rattle.ec_parser.specs.declared.grammar.Bound.TheVariants.{Opens, Closes}
use Rattle.ec_parser.specs.declared.grammar.Symbol.{Symbol}
use Rattle.ec_parser.specs.declared.grammar.Symbol.TheVariants.{Token, Keep, Part, Bound, Do}
use Rattle.ec_parser.specs.Rules.{rules}
use Rattle.ec_parser.specs.Choose.{same_kind, has_kind}
use Rattle.ec_parser.specs.Sizes.{first, nullable, follow}
use Rattle.ec_parser.specs.Reads.{IsRule, first as here, later, rest, opened}
use Rattle.ec_parser.specs.Follow.{starts_with, starts_of, Follows}
use Rattle.ec_parser.specs.Nesting.{Behind, operand, end, other, behind, goes_on}
use Rattle.ec_parser.proofs.Table.{implies}
use Rattle.ec_parser.proofs.Sets.{or_cases, and_left, and_right, or_left, or_right, same_kinds}
use Rattle.ec_parser.proofs.Theory.{Has, same_refl, starts_with-append}
use Rattle.ec_parser.proofs.Stances.{stands, leaves, Place, plain, opening, closing, stood, is_plain, is_operand, top, suits, is_token}
use Rattle.ec_parser.proofs.Stances.{all_of, fits, ends_alone, none_goes_on, each, walks, is_filled, is_balanced, closes_all, walks_at}
use Rattle.ec_parser.proofs.Stances.{for_tops, closed, walked}

pub both : (a b : Bool) → a ≡ true → b ≡ true → (a && b) ≡ true
both true b e f = f
both false b e f = absurd (let g : false ≡ true = e in cc)

pub is_not : (a : Bool) → not a ≡ true → a ≡ false
is_not true e = absurd (let g : false ≡ true = e in cc)
is_not false e = refl

implies-map : (a b c : Bool) → (b ≡ true → c ≡ true) → implies a b ≡ true → implies a c ≡ true
implies-map true b c f h = f h
implies-map false b c f h = refl

implied_by : (a b : Bool) → implies a b ≡ true → a ≡ true → b ≡ true
implied_by true b h e = h
implied_by false b h e = absurd (let g : false ≡ true = e in cc)

each-map : (p : Part_of) (f g : Behind → Bool) → ((b : Behind) → f b ≡ true → g b ≡ true) → each p f ≡ true → each p g ≡ true
each-map p f g m h =
    let a = and_left (implies (leaves p operand) (f operand)) (implies (leaves p end) (f end) && implies (leaves p other) (f other)) h in
    let i = and_right (implies (leaves p operand) (f operand)) (implies (leaves p end) (f end) && implies (leaves p other) (f other)) h in
    both (implies (leaves p operand) (g operand)) (implies (leaves p end) (g end) && implies (leaves p other) (g other))
    (implies-map (leaves p operand) (f operand) (g operand) (m operand) a)
    (both (implies (leaves p end) (g end)) (implies (leaves p other) (g other))
    (implies-map (leaves p end) (f end) (g end) (m end) (and_left (implies (leaves p end) (f end)) (implies (leaves p other) (f other)) i))
    (implies-map (leaves p other) (f other) (g other) (m other)
    (and_right (implies (leaves p end) (f end)) (implies (leaves p other) (f other)) i)))

each_at : (p : Part_of) (f : Behind → Bool) (b : Behind) → each p f ≡ true → leaves p b ≡ true → f b ≡ true
each_at p f operand h e =
    implied_by (leaves p operand) (f operand)
    (and_left (implies (leaves p operand) (f operand)) (implies (leaves p end) (f end) && implies (leaves p other) (f other)) h) e
each_at p f end h e = implied_by (leaves p end) (f end) (and_left (implies (leaves p end) (f end)) (implies (leaves p other) (f other))
    (and_right (implies (leaves p operand) (f operand)) (implies (leaves p end) (f end) && implies (leaves p other) (f other)) h)) e
each_at p f other h e =
    implied_by (leaves p other) (f other) (and_right (implies (leaves p end) (f end)) (implies (leaves p other) (f other))
    (and_right (implies (leaves p operand) (f operand)) (implies (leaves p end) (f end) && implies (leaves p other) (f other)) h)) e

cond-map : (a b c b' c' : Bool) → (b ≡ true → b' ≡ true) → (c ≡ true → c' ≡ true) → cond a b c ≡ true → cond a b' c' ≡ true
cond-map true b c b' c' f g h = f h
cond-map false b c b' c' f g h = g h

-- ---- what is open in front of lists, one behind the other

top-append : (t : Option Opened) (os qs : List Opened) → top t (os ++ qs) ≡ top (top t qs) os
top-append t [] qs = refl
top-append t (x ∷ os) qs = refl

rest-append : (os qs : List Opened) → is_filled os ≡ true → rest (os ++ qs) ≡ rest os ++ qs
rest-append [] qs h = absurd (let g : false ≡ true = h in cc)
rest-append (x ∷ os) qs h = refl

filled-append : (os qs : List Opened) → is_filled os ≡ true → is_filled (os ++ qs) ≡ true
filled-append [] qs h = absurd (let g : false ≡ true = h in cc)
filled-append (x ∷ os) qs h = refl

opened-append : (r s : List Symbol) → is_balanced r ≡ true → opened (r ++ s) ≡ opened r ++ opened s
opened-append [] s h = refl
opened-append (Token k ∷ r) s h = opened-append r s h
opened-append (Keep k ∷ r) s h = opened-append r s h
opened-append (Part p ∷ r) s h = opened-append r s h
opened-append (Bound (Opens x) ∷ r) s h = ap rest (opened-append r s (and_right (is_filled (opened r)) (is_balanced r) h)) ∙
    rest-append (opened r) (opened s) (and_left (is_filled (opened r)) (is_balanced r) h)
opened-append (Bound (Closes x) ∷ r) s h = ap (λ os. x ∷ os) (opened-append r s h)
opened-append (Do a ∷ r) s h = opened-append r s h

pub balanced-append : (r s : List Symbol) → is_balanced r ≡ true → is_balanced s ≡ true → is_balanced (r ++ s) ≡ true
balanced-append [] s h g = g
balanced-append (Token k ∷ r) s h g = balanced-append r s h g
balanced-append (Keep k ∷ r) s h g = balanced-append r s h g
balanced-append (Part p ∷ r) s h g = balanced-append r s h g
balanced-append (Bound (Opens x) ∷ r) s h g =
    both (is_filled (opened (r ++ s))) (is_balanced (r ++ s)) filled
    (balanced-append r s (and_right (is_filled (opened r)) (is_balanced r) h) g)
  where
    filled : is_filled (opened (r ++ s)) ≡ true
    filled = rw (opened-append r s (and_right (is_filled (opened r)) (is_balanced r) h))
        (filled-append (opened r) (opened s) (and_left (is_filled (opened r)) (is_balanced r) h))
balanced-append (Bound (Closes x) ∷ r) s h g = balanced-append r s h g
balanced-append (Do a ∷ r) s h g = balanced-append r s h g

-- ---- what fits in front of the one fits in front of both

suits-append : (place : Place) (k : Terminal) (t : Option Opened) (os qs : List Opened) → suits place k (top t qs) os ≡ true →
    suits place k t (os ++ qs) ≡ true
suits-append (plain b) k t os qs h = rw (top-append t os qs) h
suits-append (opening b) k t [] qs h = absurd (let g : false ≡ true = h in cc)
suits-append (opening b) k t (x ∷ os) qs h = rw (top-append t os qs) h
suits-append (closing x b) k t os qs h = rw (top-append t os qs) h

token-append : (p : Part_of) (place : Place) (t : Option Opened) (os qs : List Opened) (r : List Symbol) →
    is_token p place (top t qs) os r ≡ true → is_token p place t (os ++ qs) r ≡ true
token-append p place t os qs (Token k ∷ []) h = both (suits place k t (os ++ qs)) (leaves p (behind k))
    (suits-append place k t os qs (and_left (suits place k (top t qs) os) (leaves p (behind k)) h))
    (and_right (suits place k (top t qs) os) (leaves p (behind k)) h)
token-append p place t os qs _ h = absurd (let g : false ≡ true = h in cc)

all_of-map : (f g : List Symbol → Bool) → ((r : List Symbol) → f r ≡ true → g r ≡ true) → (rs : List (List Symbol)) → all_of f rs ≡ true →
    all_of g rs ≡ true
all_of-map f g m [] h = refl
all_of-map f g m (r ∷ rs) h =
    both (g r) (all_of g rs) (m r (and_left (f r) (all_of f rs) h)) (all_of-map f g m rs (and_right (f r) (all_of f rs) h))

pub of_all : (f : List Symbol → Bool) (r : List Symbol) (rs : List (List Symbol)) → all_of f rs ≡ true → IsRule r rs → f r ≡ true
of_all f r _ h (here {rs = rs}) = and_left (f r) (all_of f rs) h
of_all f r _ h (later {q = q} {rs = rs} m) = of_all f r rs (and_right (f q) (all_of f rs) h) m

fits-append : (place : Place) (p : Part_of) (t : Option Opened) (os qs : List Opened) → fits place p (top t qs) os ≡ true →
    fits place p t (os ++ qs) ≡ true
fits-append (plain b) p t os qs h = rw (top-append t os qs) h
fits-append (opening b) p t os qs h =
    all_of-map (is_token p (opening b) (top t qs) os) (is_token p (opening b) t (os ++ qs)) (λ r. token-append p (opening b) t os qs r)
    (rules p) h
fits-append (closing x b) p t os qs h = absurd (let g : false ≡ true = h in cc)

-- ---- no operand goes on

pub none_has : (x : Opened) (k : Terminal) (ks : List Terminal) → none_goes_on x ks ≡ true → Has k ks → not (goes_on x k) ≡ true
none_has x k [] h e = absurd (let g : false ≡ true = e in cc)
none_has x k (j ∷ ks) h e = elim (or_cases (same_kind k j) (has_kind k ks) e) [
  | inl g ↦ rw (same_kinds k j g) (and_left (not (goes_on x j)) (none_goes_on x ks) h)
  | inr g ↦ none_has x k ks (and_right (not (goes_on x j)) (none_goes_on x ks) h) g
]

none_of : (x : Opened) (ks : List Terminal) → ((k : Terminal) → Has k ks → not (goes_on x k) ≡ true) → none_goes_on x ks ≡ true
none_of x [] f = refl
none_of x (k ∷ ks) f =
    both (not (goes_on x k)) (none_goes_on x ks) (f k (or_left (same_kind k k) (has_kind k ks) (same_refl k)))
    (none_of x ks (λ j h. f j (later_has k j ks h)))
  where
    later_has : (k j : Terminal) (ks : List Terminal) → Has j ks → Has j (k ∷ ks)
    later_has k j ks h = or_right (same_kind j k) (has_kind j ks) h

none_both : (x : Opened) (ks js : List Terminal) → none_goes_on x ks ≡ true → none_goes_on x js ≡ true → none_goes_on x (ks ++ js) ≡ true
none_both x [] js h g = g
none_both x (k ∷ ks) js h g =
    both (not (goes_on x k)) (none_goes_on x (ks ++ js)) (and_left (not (goes_on x k)) (none_goes_on x ks) h)
    (none_both x ks js (and_right (not (goes_on x k)) (none_goes_on x ks) h) g)

none_left : (x : Opened) (ks js : List Terminal) → none_goes_on x (ks ++ js) ≡ true → none_goes_on x ks ≡ true
none_left x [] js h = refl
none_left x (k ∷ ks) js h =
    both (not (goes_on x k)) (none_goes_on x ks) (and_left (not (goes_on x k)) (none_goes_on x (ks ++ js)) h)
    (none_left x ks js (and_right (not (goes_on x k)) (none_goes_on x (ks ++ js)) h))

none_right : (x : Opened) (ks js : List Terminal) → none_goes_on x (ks ++ js) ≡ true → none_goes_on x js ≡ true
none_right x [] js h = h
none_right x (k ∷ ks) js h = none_right x ks js (and_right (not (goes_on x k)) (none_goes_on x (ks ++ js)) h)

none_starts : (x : Opened) (f b : List Terminal) → ((k : Terminal) → Has k b → Has k f) → (r : List Symbol) →
    none_goes_on x (starts_with r f) ≡ true → none_goes_on x (starts_with r b) ≡ true
none_starts x f b m [] h = none_of x b (λ k e. none_has x k f h (m k e))
none_starts x f b m (Token k ∷ r) h = h
none_starts x f b m (Keep k ∷ r) h = h
none_starts x f b m (Part p ∷ r) h =
    none_both x (first p) (cond (nullable p) (starts_with r b) []) (none_left x (first p) (cond (nullable p) (starts_with r f) []) h)
    (go (nullable p) (none_right x (first p) (cond (nullable p) (starts_with r f) []) h) (λ e. none_starts x f b m r e))
  where
    go : (n : Bool) → none_goes_on x (cond n (starts_with r f) []) ≡ true →
        (none_goes_on x (starts_with r f) ≡ true → none_goes_on x (starts_with r b) ≡ true) →
        none_goes_on x (cond n (starts_with r b) []) ≡ true
    go true h g = g h
    go false h g = refl
none_starts x f b m (Bound c ∷ r) h = none_starts x f b m r h
none_starts x f b m (Do a ∷ r) h = none_starts x f b m r h

-- ---- a whole list

abbrev pub all_walk_in : Place → List Symbol → Bool
all_walk_in = walks (λ b. true) (kind.EndOfText ∷ []) None

module _ (e : Behind → Bool) (f : List Terminal) (s : List Symbol) (starts : (k : Terminal) → Has k (starts_of s) → Has k f)
    (after : (b : Behind) → e b ≡ true → all_walk_in (plain b) s ≡ true) where
  one : (k : Terminal) (place : Place) (r : List Symbol) → is_balanced r ≡ true → suits place k (top None (opened s)) (opened r) ≡ true →
      suits place k None (opened (r ++ s)) ≡ true
  one k place r h g = rw (opened-append r s h) (suits-append place k None (opened r) (opened s) g)

  pub walks-append : (place : Place) (r : List Symbol) → is_balanced r ≡ true → walks e f (top None (opened s)) place r ≡ true →
      all_walk_in place (r ++ s) ≡ true
  walks-append (plain b) [] h g = after b g
  walks-append (opening b) [] h g = absurd (let i : false ≡ true = g in cc)
  walks-append (closing x b) [] h g = absurd (let i : false ≡ true = g in cc)
  walks-append place (Token k ∷ r) h g = both (suits place k None (opened (r ++ s))) (all_walk_in (plain (behind k)) (r ++ s))
      (one k place r h (and_left (suits place k (top None (opened s)) (opened r)) (walks e f (top None (opened s)) (plain (behind k)) r) g))
      (walks-append (plain (behind k)) r h
      (and_right (suits place k (top None (opened s)) (opened r)) (walks e f (top None (opened s)) (plain (behind k)) r) g))
  walks-append place (Keep k ∷ r) h g = both (suits place k None (opened (r ++ s))) (all_walk_in (plain (behind k)) (r ++ s))
      (one k place r h (and_left (suits place k (top None (opened s)) (opened r)) (walks e f (top None (opened s)) (plain (behind k)) r) g))
      (walks-append (plain (behind k)) r h
      (and_right (suits place k (top None (opened s)) (opened r)) (walks e f (top None (opened s)) (plain (behind k)) r) g))
  walks-append place (Part p ∷ r) h g = both (fits place p None (opened (r ++ s))) (each p (λ b. all_walk_in (plain b) (r ++ s)))
      (rw (opened-append r s h)
      (fits-append place p None (opened r) (opened s)
      (and_left (fits place p (top None (opened s)) (opened r)) (each p (λ b. walks e f (top None (opened s)) (plain b) r)) g)))
      (each-map p (λ b. walks e f (top None (opened s)) (plain b) r) (λ b. all_walk_in (plain b) (r ++ s))
      (λ b w. walks-append (plain b) r h w)
      (and_right (fits place p (top None (opened s)) (opened r)) (each p (λ b. walks e f (top None (opened s)) (plain b) r)) g))
  walks-append place (Bound (Opens x) ∷ r) h g = both (is_plain place) (all_walk_in (opening (stood place)) (r ++ s))
      (and_left (is_plain place) (walks e f (top None (opened s)) (opening (stood place)) r) g)
      (walks-append (opening (stood place)) r (and_right (is_filled (opened r)) (is_balanced r) h)
      (and_right (is_plain place) (walks e f (top None (opened s)) (opening (stood place)) r) g))
  walks-append place (Bound (Closes x) ∷ r) h g = both (is_plain place) _ (and_left (is_plain place) _ g)
      (cond-map (ends_alone x) (is_operand (stood place) && (none_goes_on x (starts_with r f) && walks e f (top None (opened s)) place r))
      (walks e f (top None (opened s)) (closing x (stood place)) r)
      (is_operand (stood place) && (none_goes_on x (starts_of (r ++ s)) && all_walk_in place (r ++ s)))
      (all_walk_in (closing x (stood place)) (r ++ s))
      (alone (λ w. walks-append place r h w)) (λ w. walks-append (closing x (stood place)) r h w) (and_right (is_plain place) _ g))
    where
      alone : (walks e f (top None (opened s)) place r ≡ true → all_walk_in place (r ++ s) ≡ true) →
          (is_operand (stood place) && (none_goes_on x (starts_with r f) && walks e f (top None (opened s)) place r)) ≡ true →
          (is_operand (stood place) && (none_goes_on x (starts_of (r ++ s)) && all_walk_in place (r ++ s))) ≡ true
      alone again w =
          let v = and_right (is_operand (stood place)) (none_goes_on x (starts_with r f) && walks e f (top None (opened s)) place r) w in
          both (is_operand (stood place)) (none_goes_on x (starts_of (r ++ s)) && all_walk_in place (r ++ s))
          (and_left (is_operand (stood place)) (none_goes_on x (starts_with r f) && walks e f (top None (opened s)) place r) w)
          (both (none_goes_on x (starts_of (r ++ s))) (all_walk_in place (r ++ s))
          (rw (starts_with-append r s (kind.EndOfText ∷ []))
          (none_starts x f (starts_of s) starts r
          (and_left (none_goes_on x (starts_with r f)) (walks e f (top None (opened s)) place r) v)))
          (again (and_right (none_goes_on x (starts_with r f)) (walks e f (top None (opened s)) place r) v)))
  walks-append place (Do a ∷ r) h g = walks-append place r h g

-- ---- a part is replaced by an alternative

tops : (f : Option Opened → Bool) (t : Option Opened) → for_tops f ≡ true → f t ≡ true
tops f t h = go t
  where
    h1 : (f (Some o.Bracket) &&
        (f (Some o.Word) && (f (Some o.Typeobject) && (f (Some o.Operand) && (f (Some o.View) && f (Some o.Not)))))) ≡ true
    h1 = and_right (f None) _ h

    h2 : (f (Some o.Word) && (f (Some o.Typeobject) && (f (Some o.Operand) && (f (Some o.View) && f (Some o.Not))))) ≡ true
    h2 = and_right (f (Some o.Bracket)) _ h1

    h3 : (f (Some o.Typeobject) && (f (Some o.Operand) && (f (Some o.View) && f (Some o.Not)))) ≡ true
    h3 = and_right (f (Some o.Word)) _ h2

    h4 : (f (Some o.Operand) && (f (Some o.View) && f (Some o.Not))) ≡ true
    h4 = and_right (f (Some o.Typeobject)) _ h3

    h5 : (f (Some o.View) && f (Some o.Not)) ≡ true
    h5 = and_right (f (Some o.Operand)) _ h4

    go : (t : Option Opened) → f t ≡ true
    go None = and_left (f None) _ h
    go (Some o.Bracket) = and_left (f (Some o.Bracket)) _ h1
    go (Some o.Word) = and_left (f (Some o.Word)) _ h2
    go (Some o.Typeobject) = and_left (f (Some o.Typeobject)) _ h3
    go (Some o.Operand) = and_left (f (Some o.Operand)) _ h4
    go (Some o.View) = and_left (f (Some o.View)) _ h5
    go (Some o.Not) = and_right (f (Some o.View)) _ h5

walked_at : (p : Part_of) (b : Behind) (t : Option Opened) → walks_at p b t ≡ true
walked_at p operand t =
    tops (walks_at p operand) t
    (and_left (for_tops (walks_at p operand)) (for_tops (walks_at p end) && for_tops (walks_at p other)) (walked p))
walked_at p end t = tops (walks_at p end) t
    (and_left (for_tops (walks_at p end)) (for_tops (walks_at p other))
    (and_right (for_tops (walks_at p operand)) (for_tops (walks_at p end) && for_tops (walks_at p other)) (walked p)))
walked_at p other t =
    tops (walks_at p other) t
    (and_right (for_tops (walks_at p end)) (for_tops (walks_at p other))
    (and_right (for_tops (walks_at p operand)) (for_tops (walks_at p end) && for_tops (walks_at p other)) (walked p)))

no_filled : (os : List Opened) → not (is_filled os) ≡ true → os ≡ []
no_filled [] h = refl
no_filled (x ∷ os) h = absurd (let g : false ≡ true = h in cc)

pub rule_balanced : (p : Part_of) (r : List Symbol) → IsRule r (rules p) → is_balanced r ≡ true
rule_balanced p r m = and_left (is_balanced r) (not (is_filled (opened r))) (of_all closes_all r (rules p) (closed p) m)

pub rule_opened : (p : Part_of) (r s : List Symbol) → IsRule r (rules p) → opened (r ++ s) ≡ opened s
rule_opened p r s m =
    let e : opened r ≡ [] =
    no_filled (opened r) (and_right (is_balanced r) (not (is_filled (opened r))) (of_all closes_all r (rules p) (closed p) m)) in
    opened-append r s (rule_balanced p r m) ∙ ap (λ os. os ++ opened s) e

pub rule_walks : (place : Place) (p : Part_of) (r s : List Symbol) → IsRule r (rules p) → Follows (Part p ∷ s) →
    all_walk_in place (Part p ∷ s) ≡ true → all_walk_in place (r ++ s) ≡ true
rule_walks place p r s m f h = go place (and_left (fits place p None (opened s)) (each p (λ b. all_walk_in (plain b) s)) h)
  where
    after : (b : Behind) → leaves p b ≡ true → all_walk_in (plain b) s ≡ true
    after b e = each_at p (λ b. all_walk_in (plain b) s) b
        (and_right (fits place p None (opened s)) (each p (λ b. all_walk_in (plain b) s)) h) e

    of_token : (b : Behind) (q : List Symbol) → is_token p (opening b) None (opened s) q ≡ true → all_walk_in (opening b) (q ++ s) ≡ true
    of_token b (Token k ∷ []) e = both (suits (opening b) k None (opened s)) (all_walk_in (plain (behind k)) s)
        (and_left (suits (opening b) k None (opened s)) (leaves p (behind k)) e)
        (after (behind k) (and_right (suits (opening b) k None (opened s)) (leaves p (behind k)) e))
    of_token b _ e = absurd (let g : false ≡ true = e in cc)

    go : (place : Place) → fits place p None (opened s) ≡ true → all_walk_in place (r ++ s) ≡ true
    go (plain b) e = walks-append (leaves p) (follow p) s f.0 after (plain b) r (rule_balanced p r m)
        (of_all (walks (leaves p) (follow p) (top None (opened s)) (plain b)) r (rules p)
        (implied_by (stands p b (top None (opened s))) (all_of (walks (leaves p) (follow p) (top None (opened s)) (plain b)) (rules p))
        (walked_at p b (top None (opened s))) e) m)
    go (opening b) e = of_token b r (of_all (is_token p (opening b) None (opened s)) r (rules p) e m)
    go (closing x b) e = absurd (let g : false ≡ true = e in cc)
