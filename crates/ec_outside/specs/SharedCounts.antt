-- Two names that share a count have equal counts.
use Rattle.std.proofs.Common.{◌≡◌, ℕ, List, Option, Some, None, refl, sym, ap, ◌∙◌, inl, inr, get_or}
use Rattle.std.proofs.lemmas.List.Quantifiers.{position-Some}
use Rattle.std.proofs.lemmas.Slice.Eq.{bytes_eq-Decides}
use Rattle.std.specs.Prelude.{Contains}
use Rattle.std.specs.Str.{bytes_eq}
use Rattle.ec_outside.specs.Fault.{Tally, ShareCount, place_of, count_at, count_of}

-- a name that has a place is kept
pub kept_at : (names : List (List ℕ)) (name : List ℕ) (i : ℕ) → place_of names name ≡ Some i → Contains names name
kept_at names name i e =
    let h = position-Some (λ kept. bytes_eq kept name) names i name e in
    (i, h.0, (bytes_eq-Decides (get_or names i name) name).0 h.1)

-- a name that isn't kept has the count of all others
pub count_at-other : (names : List (List ℕ)) (name : List ℕ) (counts : List ℕ) (others : ℕ) (p : Option ℕ) →
    place_of names name ≡ p → ¬ Contains names name → count_at counts others p ≡ others
count_at-other names name counts others None e h = refl
count_at-other names name counts others (Some i) e h = absurd (h (kept_at names name i e))

pub count_of-shared : (t : Tally) (a b : List ℕ) → ShareCount t.names a b → count_of t a ≡ count_of t b
count_of-shared t a b (inl e) = ap (count_of t) e
count_of-shared t a b (inr h) =
    count_at-other t.names a t.counts t.others _ refl h.0 ∙ sym (count_at-other t.names b t.counts t.others _ refl h.1)
