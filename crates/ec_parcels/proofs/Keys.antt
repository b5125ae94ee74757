-- Owners that are among some.
use Rattle.std.proofs.Common.{◌≡◌, ◌≢◌, ℕ, zero, suc, ◌==◌, ◌&&◌, ◌||◌, ◌⊎◌, Bool, true, false, List, [], ◌∷◌, ◌++◌, refl, sym, ap, ◌∙◌}
use Rattle.std.proofs.Common.{subst, arith, inl, inr, ⊎_elim}
use Rattle.ec_world.specs.declared.key.Key.{Key}
use Rattle.ec_world.specs.declared.key.Key.TheVariants.{Frame, Object}
use Rattle.ec_parcels.specs.Laws.{AmongIsHas, OneFewerTravels, OneMoreTravels}
use Rattle.ec_parcels.specs.Owners.{among, is_same_key}
use Rattle.ec_things.specs.Travelling.{Turned}
use Rattle.ec_world.proofs.Members.{has_back, has_either, has_first, has_front, has_later, has_none, has_one, has_parts}
use Rattle.ec_world.specs.Group.{Has}

-- ---- two owners

same_number : (n : ℕ) → (n == n) ≡ true
same_number n = grind arith

one_number : (n m : ℕ) → (n == m) ≡ true → n ≡ m
one_number n m e = grind arith

two_true : (a b : Bool) → a && b ≡ true → (a ≡ true) × (b ≡ true)
two_true true true e = (refl, refl)
two_true true false e = absurd cc
two_true false b e = absurd cc

pub same_key : (key : Key) → is_same_key key key ≡ true
same_key (Object o) = same_number o
same_key (Frame p d) = ap (λ b. b && (d == d)) (same_number p) ∙ same_number d

pub one_key : (a b : Key) → is_same_key a b ≡ true → a ≡ b
one_key (Object o) (Object u) e = ap Object (one_number o u e)
one_key (Object o) (Frame q f) e = absurd cc
one_key (Frame p d) (Object u) e = absurd cc
one_key (Frame p d) (Frame q f) e =
    let both = two_true (p == q) (d == f) e in
    let x = one_number p q both.0 in
    let y = one_number d f both.1 in
    cc

true_or_false : (b : Bool) → (b ≡ true) ⊎ (b ≡ false)
true_or_false true = inl refl
true_or_false false = inr refl

pub other_key : (a b : Key) → a ≢ b → is_same_key a b ≡ false
other_key a b ne = ⊎_elim
    (λ (e : is_same_key a b ≡ true). absurd (ne (one_key a b e)))
    (λ (e : is_same_key a b ≡ false). e)
    (true_or_false (is_same_key a b))

-- ---- among some

pub among_has : (keys : List Key) (key : Key) → among keys key ≡ true → Has keys key
among_has [] key e = absurd cc
among_has (k ∷ ks) key e = ⊎_elim
    (λ (same : is_same_key k key ≡ true). subst (λ (x : Key). Has (k ∷ ks) x) (one_key k key same) (has_first k ks))
    (λ (other : is_same_key k key ≡ false). has_later k key ks (among_has ks key (sym (ap (λ b. b || among ks key) other) ∙ e)))
    (true_or_false (is_same_key k key))

or_true : (b : Bool) → b || true ≡ true
or_true true = refl
or_true false = refl

pub has_among : (keys : List Key) (key : Key) → Has keys key → among keys key ≡ true
has_among [] key h = absurd (has_none key h)
has_among (k ∷ ks) key h = ⊎_elim
    (λ (e : key ≡ k). rw e (ap (λ b. b || among ks k) (same_key k)))
    (λ (l : Has ks key). ap (λ b. is_same_key k key || b) (has_among ks key l) ∙ or_true (is_same_key k key))
    (has_parts k key ks h)

pub not_among : (keys : List Key) (key : Key) → (Has keys key → ⊥) → among keys key ≡ false
not_among keys key none = ⊎_elim
    (λ (e : among keys key ≡ true). absurd (none (among_has keys key e)))
    (λ (e : among keys key ≡ false). e)
    (true_or_false (among keys key))

pub not_has : (keys : List Key) (key : Key) → among keys key ≡ false → Has keys key → ⊥
not_has keys key e h = let t = has_among keys key h in cc

pub same_among : (xs ys : List Key) (key : Key) → (Has xs key → Has ys key) → (Has ys key → Has xs key) → among xs key ≡ among ys key
same_among xs ys key f g = ⊎_elim
    (λ (e : among ys key ≡ true). has_among xs key (g (among_has ys key e)) ∙ sym e)
    (λ (e : among ys key ≡ false). not_among xs key (λ h. not_has ys key e (f h)) ∙ sym e)
    (true_or_false (among ys key))

pub among_is_has : AmongIsHas
among_is_has keys key = (among_has keys key, has_among keys key)

-- ---- one more or less

pub one_more : OneMoreTravels
one_more keys key = record {
  here = ap (λ b. b || among keys key) (same_key key);
  others = λ other ne. ap (λ b. b || among keys other) (other_key key other (λ e. ne (sym e)));
}

pub one_fewer : OneFewerTravels
one_fewer keys key once = record {
  here = not_among keys key (λ h. let bad : zero ≡ suc h.at = once.once zero (suc h.at) key refl h.is in cc);
  others = λ other ne. sym (ap (λ b. b || among keys other) (other_key key other (λ e. ne (sym e))));
}

-- one more at the end
pub one_behind : (keys : List Key) (key : Key) → Turned (among keys) (among (keys ++ key ∷ [])) key true
one_behind keys key = record {
  here = has_among (keys ++ key ∷ []) key (has_back key keys (key ∷ []) (has_first key []));
  others = λ other ne. same_among (keys ++ key ∷ []) keys other
      (λ h. ⊎_elim (λ (x : Has keys other). x) (λ (x : Has (key ∷ []) other). absurd (ne (has_one key other x)))
      (has_either other keys (key ∷ []) h))
      (has_front other keys (key ∷ []));
}
