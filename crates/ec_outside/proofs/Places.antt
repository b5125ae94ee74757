-- The places of names, and the counts at them.
use Rattle.std.proofs.Common.{◌≡◌, ◌≢◌, ℕ, zero, suc, ◌+◌, ◌<◌, List, [], ◌∷◌, Option, Some, None, Bool, true, false, not, cond}
use Rattle.std.proofs.Common.{length, map, get_or, refl, sym, ap, subst, ◌∙◌, inl, inr, arith}
use Rattle.std.proofs.lemmas.List.Quantifiers.{position-Some}
use Rattle.std.proofs.lemmas.Slice.Eq.{bytes_eq-Decides}
use Rattle.std.proofs.lemmas.Grind.{common_steps, elements}
use Rattle.std.specs.List.{position, position_or_len}
use Rattle.std.specs.Prelude.{Contains, slice_set}
use Rattle.std.specs.Str.{bytes_eq}
use Rattle.std.specs.Borrow.{Bor}
use Rattle.ec_outside.specs.Fault.{Tally, ShareCount, place_of, count_at, count_of}

pub position_or_len-map : {X Y : Type 0} (f : X → Y) (p : Y → Bool) (xs : List X) →
    position_or_len p (map f xs) ≡ position_or_len (λ x. p (f x)) xs
position_or_len-map f p [] = refl
position_or_len-map f p (x ∷ xs) = ap (λ n. cond (not (p (f x))) (1 + n) 0) (position_or_len-map f p xs)

length-map_names : {X Y : Type 0} (f : X → Y) (xs : List X) → length (map f xs) ≡ length xs
length-map_names f [] = refl
length-map_names f (x ∷ xs) = ap suc (length-map_names f xs)

-- a place among the parts of items is one among the items
pub position-map : {X Y : Type 0} (f : X → Y) (p : Y → Bool) (xs : List X) → position p (map f xs) ≡ position (λ x. p (f x)) xs
position-map f p xs = rw (position_or_len-map f p xs, length-map_names f xs) refl

-- a name that is there has a place before the end
there : (names : List (List ℕ)) (name : List ℕ) (k : ℕ) → k < length names → get_or names k name ≡ name →
    position_or_len (λ kept. bytes_eq kept name) names < length names
there [] name k h e = absurd (omega arith)
there (x ∷ xs) name zero h e = rw ((bytes_eq-Decides x name).1 e) (omega arith)
there (x ∷ xs) name (suc k) h e =
    let more : position_or_len (λ kept. bytes_eq kept name) xs < length xs = there xs name k (omega arith) e in
    elim (bytes_eq x name) as (λ b. cond (not b) (1 + position_or_len (λ kept. bytes_eq kept name) xs) 0 < suc (length xs))
    [ true ↦ omega arith | false ↦ omega arith ]

no_place : (names : List (List ℕ)) (name : List ℕ) → place_of names name ≡ None → ¬ Contains names name
no_place names name e (k, h, at) = let l = there names name k h at in grind (arith, common_steps)

-- names of one place share a count
pub share_of_place : (names : List (List ℕ)) (a b : List ℕ) (p : Option ℕ) → place_of names a ≡ p → place_of names b ≡ p →
    ShareCount names a b
share_of_place names a b None e f = inr (no_place names a e, no_place names b f)
share_of_place names a b (Some i) e f =
    let g = (position-Some (λ kept. bytes_eq kept a) names i a e).1 in
    let h = (position-Some (λ kept. bytes_eq kept b) names i a f).1 in
    inl (sym ((bytes_eq-Decides (get_or names i a) a).0 g) ∙ (bytes_eq-Decides (get_or names i a) b).0 h)

-- a count that is set leaves those of other places
pub count_at-set : (counts : List ℕ) (others i v : ℕ) (p : Option ℕ) → p ≢ Some i →
    count_at (slice_set counts i v) others p ≡ count_at counts others p
count_at-set counts others i v None h = refl
count_at-set counts others i v (Some j) h = let ne : j ≢ i = (λ e. h (ap Some e)) in grind (arith, elements)

pub count_at-others : (counts : List ℕ) (old new : ℕ) (p : Option ℕ) → p ≢ None → count_at counts new p ≡ count_at counts old p
count_at-others counts old new None h = absurd (h refl)
count_at-others counts old new (Some j) h = refl

-- a fault of a kept name leaves the counts of other names
pub count_of-kept_raised : (old : Tally) (names : List (List ℕ)) (counts : List ℕ) (others i v : ℕ) (name other : List ℕ) →
    ◌≡◌ {A = Tally} (record { names = names; counts = counts; others = others }) old → place_of old.names name ≡ Some i →
    ¬ ShareCount old.names name other →
    count_of (record { names = names; counts = slice_set counts i v; others = others }) other ≡ count_of old other
count_of-kept_raised old names counts others i v name other is place apart =
    let T : Tally → Type 0 = λ t. place_of t.names name ≡ Some i → ¬ ShareCount t.names name other →
    count_of (record { names = names; counts = slice_set counts i v; others = others }) other ≡ count_of t other in
    subst T is
    (λ p h. count_at-set counts others i v (place_of names other) (λ e. h (share_of_place names name other (Some i) p e))) place apart

-- a fault of a name that isn't kept leaves the counts of the kept ones
pub count_of-other_raised : (old : Tally) (names : List (List ℕ)) (counts : List ℕ) (others v : ℕ) (name other : List ℕ) →
    ◌≡◌ {A = Tally} (record { names = names; counts = counts; others = others }) old → place_of old.names name ≡ None →
    ¬ ShareCount old.names name other → count_of (record { names = names; counts = counts; others = v }) other ≡ count_of old other
count_of-other_raised old names counts others v name other is place apart =
    let T : Tally → Type 0 = λ t. place_of t.names name ≡ None → ¬ ShareCount t.names name other →
    count_of (record { names = names; counts = counts; others = v }) other ≡ count_of t other in
    subst T is (λ p h. count_at-others counts others v (place_of names other) (λ e. h (share_of_place names name other None p e)))
    place apart

-- the place among texts is that among their bytes
pub place_of-texts : (texts : List (Bor (List ℕ))) (name : List ℕ) (t : Tally) (r : Option ℕ) → map (λ x. x.now) texts ≡ t.names →
    r ≡ position (λ kept. bytes_eq kept.now name) texts → r ≡ place_of t.names name
place_of-texts texts name t r is e =
    e ∙ sym (position-map (λ (x : Bor (List ℕ)). x.now) (λ kept. bytes_eq kept name) texts) ∙ ap (λ names. place_of names name) is
