-- What the test of the table says of each alternative.
use Rattle.std.proofs.Common.{◌≡◌, ℕ, ◌+◌, ◌-◌, eqb, eqb-true, nat_lt, Bool, true, false, ◌&&◌, cond, List, [], ◌∷◌, Option, Some, None}
use Rattle.std.proofs.Common.{refl, subst, arith, inl, inr, zero-add}
use Rattle.ec_parser.specs.declared.terminal.Terminal.{Terminal}
use Rattle.ec_parser.specs.declared.grammar.Part.{Part as Part_of}
use Rattle.ec_parser.specs.declared.grammar.Symbol.{Symbol}
use Rattle.ec_parser.specs.Rules.{rules}
use Rattle.ec_parser.specs.Reads.{IsRule, first as here, later}
use Rattle.ec_parser.specs.Choose.{has_kind, same_kind, suits, choose_from, choose}
use Rattle.ec_parser.specs.Sizes.{first, nullable, weight}
use Rattle.ec_parser.specs.Follow.{starts_with, weight_of}
use Rattle.ec_parser.proofs.Shortest.{rank, shortest}
use Rattle.ec_parser.proofs.Table.{implies, all_nullable, is_subset, position, chosen_at, follows_in, ends_below, lookahead, is_good}
use Rattle.ec_parser.proofs.Table.{all_good, good, ends_at, ends}
use Rattle.ec_parser.proofs.Sets.{or_cases, and_left, and_right, same_kinds}

abbrev index : {r : List Symbol} {rs : List (List Symbol)} → IsRule r rs → ℕ
index here = 0
index (later m) = index m + 1

good_in : (p : Part_of) (all : List (List Symbol)) (r : List Symbol) (n : ℕ) (rs : List (List Symbol)) → all_good p all n rs ≡ true →
    (m : IsRule r rs) →
    is_good p all (n + index m) r ≡ true
good_in p all r n _ h (here {rs = rs}) =
    let same : n ≡ n + 0 = omega arith in
    subst (λ x. is_good p all x r ≡ true) same (and_left (is_good p all n r) (all_good p all (n + 1) rs) h)
good_in p all r n _ h (later {q = q} {rs = rs} m) =
    let i = good_in p all r (n + 1) rs (and_right (is_good p all n q) (all_good p all (n + 1) rs) h) m in
    let same : (n + 1) + index m ≡ n + (index m + 1) = omega arith in
    subst (λ x. is_good p all x r ≡ true) same i

at_place : (rs : List (List Symbol)) (n : ℕ) (ks : List Terminal) (k : Terminal) → chosen_at rs n ks ≡ true → has_kind k ks ≡ true →
    position rs k ≡ n
at_place rs n [] k c h = absurd (let f : false ≡ true = h in cc)
at_place rs n (x ∷ xs) k c h = elim (or_cases (same_kind k x) (has_kind k xs) h) [
  | inl e ↦ rw (same_kinds k x e) (eqb-true (position rs x) n (and_left (eqb (position rs x) n) (chosen_at rs n xs) c))
  | inr e ↦ at_place rs n xs k (and_right (eqb (position rs x) n) (chosen_at rs n xs) c) e
]

chosen_here : (k : Terminal) (r : List Symbol) (rs : List (List Symbol)) (b : Bool) → cond b 0 (position rs k + 1) ≡ 0 →
    cond b (Some r) (choose_from rs k) ≡ Some r
chosen_here k r rs true e = refl
chosen_here k r rs false e = absurd (omega (arith, e))

chosen_later : (k : Terminal) (q r : List Symbol) (rs : List (List Symbol)) (n : ℕ) (b : Bool) → cond b 0 (position rs k + 1) ≡ n + 1 →
    (position rs k ≡ n → choose_from rs k ≡ Some r) → cond b (Some q) (choose_from rs k) ≡ Some r
chosen_later k q r rs n true e f = absurd (omega (arith, e))
chosen_later k q r rs n false e f = f (omega (arith, e))

chosen_by : (k : Terminal) (r : List Symbol) (rs : List (List Symbol)) (m : IsRule r rs) → position rs k ≡ index m →
    choose_from rs k ≡ Some r
chosen_by k r _ (here {rs = rs}) e = chosen_here k r rs (suits k r) e
chosen_by k r _ (later {q = q} {rs = rs} m) e = chosen_later k q r rs (index m) (suits k q) e (λ f. chosen_by k r rs m f)

pub record IsGood (p : Part_of) (r : List Symbol) : Type 0 where
  pub chosen : (k : Terminal) → has_kind k (lookahead p r) ≡ true → choose p k ≡ Some r
  pub starts : is_subset (starts_with r []) (first p) ≡ true
  pub empty : implies (all_nullable r) (nullable p) ≡ true
  pub follows : follows_in r p ≡ true
  pub lighter : nat_lt (weight_of r) (weight p) ≡ true

module _ (p : Part_of) (r : List Symbol) (m : IsRule r (rules p)) where
  whole : is_good p (rules p) (index m) r ≡ true
  whole = subst (λ x. is_good p (rules p) x r ≡ true) (zero-add (index m)) (good_in p (rules p) r 0 (rules p) (good p) m)

  after : (is_subset (starts_with r []) (first p) &&
      (implies (all_nullable r) (nullable p) && (follows_in r p && nat_lt (weight_of r) (weight p)))) ≡ true
  after = and_right (chosen_at (rules p) (index m) (lookahead p r))
      (is_subset (starts_with r []) (first p) &&
      (implies (all_nullable r) (nullable p) && (follows_in r p && nat_lt (weight_of r) (weight p)))) whole

  after_starts : (implies (all_nullable r) (nullable p) && (follows_in r p && nat_lt (weight_of r) (weight p))) ≡ true
  after_starts = and_right (is_subset (starts_with r []) (first p))
      (implies (all_nullable r) (nullable p) && (follows_in r p && nat_lt (weight_of r) (weight p))) after

  after_empty : (follows_in r p && nat_lt (weight_of r) (weight p)) ≡ true
  after_empty = and_right (implies (all_nullable r) (nullable p)) (follows_in r p && nat_lt (weight_of r) (weight p)) after_starts

  pub good_rule : IsGood p r
  good_rule = record {
    chosen = λ k h. chosen_by k r (rules p) m
        (at_place (rules p) (index m) (lookahead p r) k
        (and_left (chosen_at (rules p) (index m) (lookahead p r))
        (is_subset (starts_with r []) (first p) &&
        (implies (all_nullable r) (nullable p) && (follows_in r p && nat_lt (weight_of r) (weight p)))) whole) h);
    starts = and_left (is_subset (starts_with r []) (first p))
        (implies (all_nullable r) (nullable p) && (follows_in r p && nat_lt (weight_of r) (weight p))) after;
    empty = and_left (implies (all_nullable r) (nullable p)) (follows_in r p && nat_lt (weight_of r) (weight p)) after_starts;
    follows = and_left (follows_in r p) (nat_lt (weight_of r) (weight p)) after_empty;
    lighter = and_right (follows_in r p) (nat_lt (weight_of r) (weight p)) after_empty;
  }

is_of : (k : Terminal) (r : List Symbol) (q : List Symbol) (rs : List (List Symbol)) (b : Bool) →
    cond b (Some q) (choose_from rs k) ≡ Some r →
    (choose_from rs k ≡ Some r → IsRule r rs) → IsRule r (q ∷ rs)
is_of k r q rs true e f = let same : q ≡ r = cc in subst (λ x. IsRule x (q ∷ rs)) same here
is_of k r q rs false e f = later (f e)

rule_in : (rs : List (List Symbol)) (k : Terminal) (r : List Symbol) → choose_from rs k ≡ Some r → IsRule r rs
rule_in [] k r e = absurd (let f : ◌≡◌ {A = Option (List Symbol)} None (Some r) = e in cc)
rule_in (q ∷ rs) k r e = is_of k r q rs (suits k q) e (λ f. rule_in rs k r f)

-- what is chosen is an alternative of the part
pub choose-of : (p : Part_of) (k : Terminal) (r : List Symbol) → choose p k ≡ Some r → IsRule r (rules p)
choose-of p k r e = rule_in (rules p) k r e

ends_here : (n m : ℕ) (r : List Symbol) (rs : List (List Symbol)) (b : Bool) → cond b (ends_below n r) (ends_at n (m - 1) rs) ≡ true →
    (ends_at n (m - 1) rs ≡ true → (q : List Symbol) × IsRule q rs × (ends_below n q ≡ true)) →
    (q : List Symbol) × IsRule q (r ∷ rs) × (ends_below n q ≡ true)
ends_here n m r rs true e f = (r, here, e)
ends_here n m r rs false e f = let i = f e in (i.0, later i.1, i.2)

ends_in : (n m : ℕ) (rs : List (List Symbol)) → ends_at n m rs ≡ true → (r : List Symbol) × IsRule r rs × (ends_below n r ≡ true)
ends_in n m [] e = absurd (let f : false ≡ true = e in cc)
ends_in n m (r ∷ rs) e = ends_here n m r rs (eqb m 0) e (λ f. ends_in n (m - 1) rs f)

-- an alternative whose parts end in fewer steps
pub ends_soon : (p : Part_of) → (r : List Symbol) × IsRule r (rules p) × (ends_below (rank p) r ≡ true)
ends_soon p = ends_in (rank p) (shortest p) (rules p) (ends p)
