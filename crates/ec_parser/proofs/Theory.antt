-- A list of symbols reads tokens by the rule that the table chooses, and each list of symbols reads some.
use Rattle.std.proofs.Common.{nat_lt, ◌≡◌, ℕ, zero, suc, ◌+◌, ◌<◌, Bool, true, false, ◌&&◌, cond, List, [], ◌∷◌, ◌++◌, Some, None, refl}
use Rattle.std.proofs.Common.{sym, subst, inl, inr, ◌⊎◌, arith, zero-add}
use Rattle.ec_parser.specs.declared.terminal.Terminal.{Terminal}
use Rattle.ec_parser.specs.declared.terminal.Terminal.TheVariants as kind
use Rattle.ec_parser.specs.declared.grammar.Part.{Part as Part_of}
use Rattle.ec_parser.specs.declared.grammar.Act.{Act}
use Rattle.ec_parser.specs.declared.grammar.Bound.{Bound as Bound_of}
use Rattle.ec_parser.specs.Terminals.{terminal_of, is_of_token}
use Rattle.ec_lexer.specs.declared.token.Token.{Token as Word}
use Rattle.ec_parser.specs.declared.values.Values.{Values}
use Rattle.ec_parser.specs.declared.grammar.Symbol.{Symbol}
use Rattle.ec_parser.specs.declared.grammar.Symbol.TheVariants.{Token, Keep, Part, Bound, Do}
use Rattle.ec_parser.specs.Values.{act, keep as kept}
use borrow.Author.Tests.{ltb-true}
use Rattle.ec_parser.specs.Rules.{rules as rules_of}
use Rattle.ec_parser.specs.Choose.{has_kind, same_kind, choose}
use Rattle.ec_parser.specs.Sizes.{first, nullable, follow, weight}
use Rattle.ec_parser.proofs.Shortest.{rank}
use Rattle.ec_parser.specs.Reads.{IsRule, open_in, Reads, finished, token, keep, part, bound, made}
use Rattle.ec_parser.specs.Follow.{starts_with, starts_of, weight_of, head, Follows, Same, ReadsNone, Goes, Refuses, EndsWith}
use Rattle.ec_parser.proofs.Table.{all_nullable, is_subset, follows_in, ends_below, lookahead, implies}
use Rattle.ec_parser.specs.Fits.{Fits, Finds}
use Rattle.ec_parser.proofs.Tokens.{some_token, some_is}
use Rattle.ec_parser.proofs.Fitting.{fits_part, fits_token, fits_bound, fits_keep, fits_act, finds_act}
use Rattle.ec_parser.proofs.Good.{good_rule, choose-of, ends_soon}
use Rattle.ec_parser.proofs.Sets.{and_left, and_right, or_left, has-append, has-append_left, has-append_right, subset}

abbrev pub Has : Terminal → List Terminal → Type 0
Has k ks = has_kind k ks ≡ true

pub starts_with-append : (xs s : List Symbol) (b : List Terminal) → starts_with (xs ++ s) b ≡ starts_with xs (starts_with s b)
starts_with-append [] s b = refl
starts_with-append (Token k ∷ xs) s b = refl
starts_with-append (Keep k ∷ xs) s b = refl
starts_with-append (Part p ∷ xs) s b = rw (starts_with-append xs s b) refl
starts_with-append (Bound o ∷ xs) s b = starts_with-append xs s b
starts_with-append (Do a ∷ xs) s b = starts_with-append xs s b

-- a kind that a list begins with comes from the list, or from behind it where the list may be empty
split_start : (k : Terminal) (xs : List Symbol) (b : List Terminal) → Has k (starts_with xs b) →
    (Has k (starts_with xs [])) ⊎ ((all_nullable xs ≡ true) × Has k b)
split_start k [] b h = inr (refl, h)
split_start k (Token j ∷ xs) b h = inl h
split_start k (Keep j ∷ xs) b h = inl h
split_start k (Part p ∷ xs) b h = elim (has-append k (first p) (cond (nullable p) (starts_with xs b) []) h) [
  | inl e ↦ inl (has-append_left k (first p) (cond (nullable p) (starts_with xs []) []) e)
  | inr e ↦ go (nullable p) e (λ f. split_start k xs b f) (λ f. has-append_right k (first p) (cond (nullable p) (starts_with xs []) []) f)
]
  where
    go : (n : Bool) → Has k (cond n (starts_with xs b) []) →
        (Has k (starts_with xs b) → (Has k (starts_with xs [])) ⊎ ((all_nullable xs ≡ true) × Has k b)) →
        (Has k (cond n (starts_with xs []) []) → Has k (first p ++ cond (nullable p) (starts_with xs []) [])) →
        (Has k (first p ++ cond (nullable p) (starts_with xs []) [])) ⊎ (((n && all_nullable xs) ≡ true) × Has k b)
    go true h f g = elim (f h) [ inl e ↦ inl (g e) | inr e ↦ inr e ]
    go false h f g = absurd (let e : false ≡ true = h in cc)
split_start k (Bound o ∷ xs) b h = split_start k xs b h
split_start k (Do a ∷ xs) b h = split_start k xs b h

implied : (a b : Bool) → implies a b ≡ true → a ≡ true → b ≡ true
implied true b h e = h
implied false b h e = absurd (let e : false ≡ true = e in cc)

pub same_refl : (k : Terminal) → same_kind k k ≡ true
same_refl kind.EndOfText = refl
same_refl _ = refl

part_begins : (p : Part_of) (s : List Symbol) (k : Terminal) (q : List Symbol) → IsRule q (rules_of p) →
    Has k (starts_with q (starts_of s)) → Has k (starts_of (Part p ∷ s))
part_begins p s k q e h = elim (split_start k q (starts_of s) h) [
  | inl f ↦ has-append_left k (first p) (cond (nullable p) (starts_of s) [])
      (subset k (starts_with q []) (first p) (good_rule p q e).starts f)
  | inr f ↦ has-append_right k (first p) (cond (nullable p) (starts_of s) [])
      (rw (implied (all_nullable q) (nullable p) (good_rule p q e).empty f.0) f.1)
]

-- what a list of symbols reads begins with a kind that the list may begin with
pub begins : {s : List Symbol} {vs ws : Values} {ts : List Word} {ns : List ℕ} → Reads s vs ts ns ws → Has (head ts) (starts_of s)
begins finished = refl
begins (token {k = k} {t = t} e r) = or_left (same_kind (terminal_of t) k) false (rw e (same_refl k))
begins (keep {k = k} {t = t} e r) = or_left (same_kind (terminal_of t) k) false (rw e (same_refl k))
begins (part {p = p} {s = s} {ts = ts} q e r) =
    part_begins p s (head ts) q e (rw (starts_with-append q s (kind.EndOfText ∷ [])) at (begins r))
begins (bound r) = begins r
begins (made r) = begins r

of_part : {p : Part_of} {s : List Symbol} {vs ws : Values} {ts : List Word} {ns : List ℕ} → Reads (Part p ∷ s) vs ts ns ws →
    (r : List Symbol) × IsRule r (rules_of p) × Reads (r ++ s) vs ts ns ws
of_part (part r e d) = (r, e, d)

of_bound : {o : Bound_of} {s : List Symbol} {vs ws : Values} {ts : List Word} {ns : List ℕ} → Reads (Bound o ∷ s) vs ts ns ws →
    Reads s vs ts ns ws
of_bound (bound d) = d

of_act : {a : Act} {s : List Symbol} {vs ws : Values} {ts : List Word} {ns : List ℕ} → Reads (Do a ∷ s) vs ts ns ws →
    Reads s (act a vs) ts ns ws
of_act (made d) = d

pub of_nothing : {vs ws : Values} {ts : List Word} {ns : List ℕ} → Reads [] vs ts ns ws → (ts ≡ []) × (ns ≡ []) × (ws ≡ vs)
of_nothing finished = (refl, refl, refl)

pub of_token : {k : Terminal} {s : List Symbol} {vs ws : Values} {t : Word} {ts : List Word} {ns : List ℕ} →
    Reads (Token k ∷ s) vs (t ∷ ts) ns ws →
    ((terminal_of t) ≡ k) × (ms : List ℕ) × (ns ≡ open_in s ∷ ms) × Reads s vs ts ms ws
of_token (token e d) = (e, _, refl, d)

pub of_keep : {k : Terminal} {s : List Symbol} {vs ws : Values} {t : Word} {ts : List Word} {ns : List ℕ} →
    Reads (Keep k ∷ s) vs (t ∷ ts) ns ws →
    ((terminal_of t) ≡ k) × (ms : List ℕ) × (ns ≡ open_in s ∷ ms) × Reads s (kept k t vs) ts ms ws
of_keep (keep e d) = (e, _, refl, d)

-- the rule by which a part reads what it reads is the one that is chosen
pub chosen : (p : Part_of) (s : List Symbol) (k : Terminal) (q : List Symbol) → Follows (Part p ∷ s) → IsRule q (rules_of p) →
    Has k (starts_of (q ++ s)) → choose p k ≡ Some q
chosen p s k q f e h = (good_rule p q e).chosen k looked
  where
    looked : Has k (lookahead p q)
    looked = elim (split_start k q (starts_of s) (rw (starts_with-append q s (kind.EndOfText ∷ [])) at h)) [
      | inl g ↦ has-append_left k (starts_with q []) (cond (all_nullable q) (follow p) []) g
      | inr g ↦ has-append_right k (starts_with q []) (cond (all_nullable q) (follow p) []) (rw g.0 (f.0 k g.1))
    ]

-- ---- one step of a list of symbols

pub expand : (p : Part_of) (s : List Symbol) (vs : Values) (k : Terminal) (r : List Symbol) → choose p k ≡ Some r → Follows (Part p ∷ s) →
    Same k (Part p ∷ s) vs (r ++ s) vs
expand p s vs k r c f = record {
  forth = λ ts ns ws h d. forwards ts ns ws h d;
  back = λ ts ns ws h d. part r (choose-of p k r c) d;
}
  where
    forwards : (ts : List Word) (ns : List ℕ) (ws : Values) → head ts ≡ k → Reads (Part p ∷ s) vs ts ns ws → Reads (r ++ s) vs ts ns ws
    forwards ts ns ws h d =
        let i = of_part d in
        let same : choose p k ≡ Some i.0 = chosen p s k i.0 f i.1 (rw h at (begins i.2)) in
        let equal : r ≡ i.0 = cc in
        rw equal i.2

pub stuck : (p : Part_of) (s : List Symbol) (vs : Values) (k : Terminal) → choose p k ≡ None → Follows (Part p ∷ s) →
    ReadsNone k (Part p ∷ s) vs
stuck p s vs k c f ts ns ws h d =
    let i = of_part d in
    let same : choose p k ≡ Some i.0 = chosen p s k i.0 f i.1 (rw h at (begins i.2)) in
    cc

pub skip_bound : (o : Bound_of) (s : List Symbol) (vs : Values) (k : Terminal) → Same k (Bound o ∷ s) vs s vs
skip_bound o s vs k = record { forth = λ ts ns ws h d. of_bound d; back = λ ts ns ws h d. bound d }

pub skip_act : (a : Act) (s : List Symbol) (vs : Values) (k : Terminal) → Same k (Do a ∷ s) vs s (act a vs)
skip_act a s vs k = record { forth = λ ts ns ws h d. of_act d; back = λ ts ns ws h d. made d }

pub same_again : (s : List Symbol) (vs : Values) (k : Terminal) → Same k s vs s vs
same_again s vs k = record { forth = λ ts ns ws h d. d; back = λ ts ns ws h d. d }

pub then : {k : Terminal} {s₁ s₂ s₃ : List Symbol} {v₁ v₂ v₃ : Values} → Same k s₁ v₁ s₂ v₂ → Same k s₂ v₂ s₃ v₃ → Same k s₁ v₁ s₃ v₃
then a b = record {
  forth = λ ts ns ws h d. b.forth ts ns ws h (a.forth ts ns ws h d);
  back = λ ts ns ws h d. a.back ts ns ws h (b.back ts ns ws h d);
}

pub none_before : {k : Terminal} {s₁ s₂ : List Symbol} {v₁ v₂ : Values} → Same k s₁ v₁ s₂ v₂ → ReadsNone k s₂ v₂ → ReadsNone k s₁ v₁
none_before a n ts ns ws h d = n ts ns ws h (a.forth ts ns ws h d)

-- ---- what follows stays right

pub follows_list : (xs : List Symbol) (p : Part_of) (s : List Symbol) → follows_in xs p ≡ true →
    ((k : Terminal) → Has k (starts_of s) → Has k (follow p)) → Follows s → Follows (xs ++ s)
follows_list [] p s e b f = f
follows_list (Token k ∷ xs) p s e b f =
    (and_left (is_of_token k) (follows_in xs p) e, follows_list xs p s (and_right (is_of_token k) (follows_in xs p) e) b f)
follows_list (Keep k ∷ xs) p s e b f =
    (and_left (is_of_token k) (follows_in xs p) e, follows_list xs p s (and_right (is_of_token k) (follows_in xs p) e) b f)
follows_list (Bound o ∷ xs) p s e b f = follows_list xs p s e b f
follows_list (Do a ∷ xs) p s e b f = follows_list xs p s e b f
follows_list (Part q ∷ xs) p s e b f = (behind, follows_list xs p s (and_right _ (follows_in xs p) e) b f)
  where
    both : (is_subset (starts_with xs []) (follow q) && implies (all_nullable xs) (is_subset (follow p) (follow q))) ≡ true
    both = and_left (is_subset (starts_with xs []) (follow q) && implies (all_nullable xs) (is_subset (follow p) (follow q)))
        (follows_in xs p) e

    behind : (k : Terminal) → Has k (starts_of (xs ++ s)) → Has k (follow q)
    behind k h = elim (split_start k xs (starts_of s) (rw (starts_with-append xs s (kind.EndOfText ∷ [])) at h)) [
      | inl g ↦ subset k (starts_with xs []) (follow q) (and_left (is_subset (starts_with xs []) (follow q)) _ both) g
      | inr g ↦ subset k (follow p) (follow q)
          (implied (all_nullable xs) (is_subset (follow p) (follow q)) (and_right (is_subset (starts_with xs []) (follow q)) _ both) g.0)
          (b k g.1)
    ]

pub follows_expand : (p : Part_of) (s : List Symbol) (k : Terminal) (r : List Symbol) → choose p k ≡ Some r → Follows (Part p ∷ s) →
    Follows (r ++ s)
follows_expand p s k r c f = follows_list r p s (good_rule p r (choose-of p k r c)).follows f.0 f.1

-- ---- the steps without a token end

weight_of-append : (xs s : List Symbol) → weight_of (xs ++ s) ≡ weight_of xs + cond (all_nullable xs) (weight_of s) 0
weight_of-append [] s = sym (zero-add (weight_of s))
weight_of-append (Token k ∷ xs) s = refl
weight_of-append (Keep k ∷ xs) s = refl
weight_of-append (Part p ∷ xs) s = go (nullable p) (weight_of-append xs s)
  where
    go : (n : Bool) → weight_of (xs ++ s) ≡ weight_of xs + cond (all_nullable xs) (weight_of s) 0 →
        cond n (weight p + weight_of (xs ++ s)) (weight p) ≡
        cond n (weight p + weight_of xs) (weight p) + cond (n && all_nullable xs) (weight_of s) 0
    go true e = omega (arith, e)
    go false e = omega arith
weight_of-append (Bound o ∷ xs) s = omega (arith, weight_of-append xs s)
weight_of-append (Do a ∷ xs) s = omega (arith, weight_of-append xs s)

pub lighter_rule : (p : Part_of) (s r : List Symbol) → IsRule r (rules_of p) → weight_of (r ++ s) < weight_of (Part p ∷ s)
lighter_rule p s r m = rw (weight_of-append r s) (go (all_nullable r) (nullable p) (good_rule p r m).empty)
  where
    less : weight_of r < weight p
    less = ltb-true _ _ (good_rule p r m).lighter

    go : (a n : Bool) → implies a n ≡ true → weight_of r + cond a (weight_of s) 0 < cond n (weight p + weight_of s) (weight p)
    go true true e = omega (arith, less)
    go true false e = absurd (let e' : false ≡ true = e in cc)
    go false true e = omega (arith, less)
    go false false e = omega (arith, less)

pub lighter : (p : Part_of) (s : List Symbol) (k : Terminal) (r : List Symbol) → choose p k ≡ Some r →
    weight_of (r ++ s) < weight_of (Part p ∷ s)
lighter p s k r c = lighter_rule p s r (choose-of p k r c)

-- ---- the same, for a loop: what it keeps, from one list of symbols to the next

abbrev pub Keeps : Terminal → List Symbol → Values → List Symbol → Values → Type 0
Keeps kind s₀ v₀ s v = Follows s × Fits s v × Same kind s₀ v₀ s v

module _ (kind : Terminal) (s₀ : List Symbol) (v₀ : Values) (old : List Symbol) (v : Values) (kept_so_far : Keeps kind s₀ v₀ old v) where
  pub after_part : (p : Part_of) (s : List Symbol) (r : List Symbol) (new : List Symbol) → old ≡ Part p ∷ s → choose p kind ≡ Some r →
      new ≡ r ++ s → Keeps kind s₀ v₀ new v
  after_part p s r new e c n =
      let f : Follows (Part p ∷ s) = subst Follows e kept_so_far.0 in
      let one : Same kind old v (Part p ∷ s) v = rw e (same_again (Part p ∷ s) v kind) in
      rw n (
        follows_expand p s kind r c f,
        fits_part p r s v (choose-of p kind r c) (subst (λ x. Fits x v) e kept_so_far.1),
        then kept_so_far.2 (then one (expand p s v kind r c f)),
      )

  pub after_bound : (o : Bound_of) (s : List Symbol) → old ≡ Bound o ∷ s → Keeps kind s₀ v₀ s v
  after_bound o s e =
      let f : Follows (Bound o ∷ s) = subst Follows e kept_so_far.0 in
      let one : Same kind old v (Bound o ∷ s) v = rw e (same_again (Bound o ∷ s) v kind) in
      (f, fits_bound o s v (subst (λ x. Fits x v) e kept_so_far.1), then kept_so_far.2 (then one (skip_bound o s v kind)))

  pub acts_find : (a : Act) (s : List Symbol) → old ≡ Do a ∷ s → Finds a v
  acts_find a s e = finds_act a s v (subst (λ x. Fits x v) e kept_so_far.1)

  pub after_act : (a : Act) (s : List Symbol) (w : Values) → old ≡ Do a ∷ s → w ≡ act a v → Keeps kind s₀ v₀ s w
  after_act a s w e n =
      let f : Follows (Do a ∷ s) = subst Follows e kept_so_far.0 in
      let one : Same kind old v (Do a ∷ s) v = rw e (same_again (Do a ∷ s) v kind) in
      rw n (f, fits_act a s v (subst (λ x. Fits x v) e kept_so_far.1), then kept_so_far.2 (then one (skip_act a s v kind)))

  pub after_stuck : (p : Part_of) (s : List Symbol) → old ≡ Part p ∷ s → choose p kind ≡ None → ReadsNone kind s₀ v₀
  after_stuck p s e c =
      let f : Follows (Part p ∷ s) = subst Follows e kept_so_far.0 in
      let one : Same kind old v (Part p ∷ s) v = rw e (same_again (Part p ∷ s) v kind) in
      none_before (then kept_so_far.2 one) (stuck p s v kind c f)

-- ---- a token, and the end

pub takes_token : (t : Word) (k : Terminal) (s₀ : List Symbol) (v₀ : Values) (s : List Symbol) (v : Values) → (terminal_of t) ≡ k →
    Same (terminal_of t) s₀ v₀ (Token k ∷ s) v × Follows s × Fits (Token k ∷ s) v → Goes t s₀ v₀ s v
takes_token t k s₀ v₀ s v e h = record {
  follows = h.1;
  fits = fits_token k s v h.2;
  forth = λ ts ns ws d. let i = of_token (h.0.forth (t ∷ ts) ns ws refl d) in (i.1, i.2, i.3);
  back = λ ts ns ws d. h.0.back (t ∷ ts) (open_in s ∷ ns) ws refl (token e d);
}

pub takes_keep : (t : Word) (k : Terminal) (s₀ : List Symbol) (v₀ : Values) (s : List Symbol) (v : Values) → (terminal_of t) ≡ k →
    Same (terminal_of t) s₀ v₀ (Keep k ∷ s) v × Follows s × Fits (Keep k ∷ s) v → Goes t s₀ v₀ s (kept k t v)
takes_keep t k s₀ v₀ s v e h = record {
  follows = h.1;
  fits = fits_keep k t s v h.2;
  forth = λ ts ns ws d. let i = of_keep (h.0.forth (t ∷ ts) ns ws refl d) in (i.1, i.2, i.3);
  back = λ ts ns ws d. h.0.back (t ∷ ts) (open_in s ∷ ns) ws refl (keep e d);
}

pub other_token : (t : Word) (k : Terminal) (s₀ : List Symbol) (v₀ : Values) (s : List Symbol) (v : Values) → ((terminal_of t) ≡ k → ⊥) →
    Same (terminal_of t) s₀ v₀ (Token k ∷ s) v × Follows s × Fits (Token k ∷ s) v → Refuses t s₀ v₀
other_token t k s₀ v₀ s v n h ts ns ws d = n (of_token (h.0.forth (t ∷ ts) ns ws refl d)).0

pub other_keep : (t : Word) (k : Terminal) (s₀ : List Symbol) (v₀ : Values) (s : List Symbol) (v : Values) → ((terminal_of t) ≡ k → ⊥) →
    Same (terminal_of t) s₀ v₀ (Keep k ∷ s) v × Follows s × Fits (Keep k ∷ s) v → Refuses t s₀ v₀
other_keep t k s₀ v₀ s v n h ts ns ws d = n (of_keep (h.0.forth (t ∷ ts) ns ws refl d)).0

pub ends_here : (s₀ : List Symbol) (v₀ v : Values) → Same kind.EndOfText s₀ v₀ [] v → Fits [] v → EndsWith s₀ v₀ v
ends_here s₀ v₀ v h fit = record {
  fits = fit;
  made = h.back [] [] v refl finished;
  only = λ ns ws d. ((of_nothing (h.forth [] ns ws refl d)).1, (of_nothing (h.forth [] ns ws refl d)).2);
}

-- ---- each list of symbols reads some tokens

abbrev pub Reaches : List Symbol → Type 0
Reaches s = (vs : Values) → (ts : List Word) × (ns : List ℕ) × (ws : Values) × Reads s vs ts ns ws

by_list : (n : ℕ) → ((p : Part_of) (s : List Symbol) → rank p < n → Reaches s → Reaches (Part p ∷ s)) → (xs s : List Symbol) →
    ends_below n xs ≡ true → Reaches s → Reaches (xs ++ s)
by_list n f [] s e g = g
by_list n f (Token k ∷ xs) s e g = λ vs.
    let r = by_list n f xs s (and_right (is_of_token k) (ends_below n xs) e) g vs in
    (some_token k ∷ r.0, open_in (xs ++ s) ∷ r.1, r.2, token (some_is k (and_left (is_of_token k) (ends_below n xs) e)) r.3)
by_list n f (Keep k ∷ xs) s e g = λ vs.
    let r = by_list n f xs s (and_right (is_of_token k) (ends_below n xs) e) g (kept k (some_token k) vs) in
    (some_token k ∷ r.0, open_in (xs ++ s) ∷ r.1, r.2, keep (some_is k (and_left (is_of_token k) (ends_below n xs) e)) r.3)
by_list n f (Part p ∷ xs) s e g =
    f p (xs ++ s) (ltb-true _ _ (and_left (nat_lt (rank p) n) (ends_below n xs) e))
    (by_list n f xs s (and_right (nat_lt (rank p) n) (ends_below n xs) e) g)
by_list n f (Bound o ∷ xs) s e g = λ vs. let r = by_list n f xs s e g vs in (r.0, r.1, r.2, bound r.3)
by_list n f (Do a ∷ xs) s e g = λ vs. let r = by_list n f xs s e g (act a vs) in (r.0, r.1, r.2, made r.3)

by_rank : (n : ℕ) (p : Part_of) (s : List Symbol) → rank p < n → Reaches s → Reaches (Part p ∷ s)
by_rank zero p s h g = absurd (omega arith)
by_rank (suc n) p s h g = λ vs. go vs (by_list (rank p) (λ q t b c. by_rank n q t (omega arith) c) (ends_soon p).0 s (ends_soon p).2 g vs)
  where
    go : (vs : Values) → (ts : List Word) × (ns : List ℕ) × (ws : Values) × Reads ((ends_soon p).0 ++ s) vs ts ns ws →
        (ts : List Word) × (ns : List ℕ) × (ws : Values) × Reads (Part p ∷ s) vs ts ns ws
    go vs r = (r.0, r.1, r.2, part (ends_soon p).0 (ends_soon p).1 r.3)

pub reaches : (s : List Symbol) → Follows s → Reaches s
reaches [] f = λ vs. ([], [], vs, finished)
reaches (Token k ∷ s) f = λ vs. let r = reaches s f.1 vs in (some_token k ∷ r.0, open_in s ∷ r.1, r.2, token (some_is k f.0) r.3)
reaches (Keep k ∷ s) f = λ vs. let r = reaches s f.1 (kept k (some_token k) vs) in
    (some_token k ∷ r.0, open_in s ∷ r.1, r.2, keep (some_is k f.0) r.3)
reaches (Part p ∷ s) f = by_rank (rank p + 1) p s (omega arith) (reaches s f.1)
reaches (Bound o ∷ s) f = λ vs. let r = reaches s f vs in (r.0, r.1, r.2, bound r.3)
reaches (Do a ∷ s) f = λ vs. let r = reaches s f (act a vs) in (r.0, r.1, r.2, made r.3)
