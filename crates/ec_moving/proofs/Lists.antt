-- Lists of places once a group has gone, and once an event more has happened.
use Rattle.std.proofs.Common.{◌≡◌, ◌≢◌, ◌<◌, ◌≤◌, ◌-◌, ◌∙◌, ◌⊎◌, ◌∷◌, ◌++◌, ℕ, zero, suc, [], List, length, Some, inl, inr, ⊎_elim}
use Rattle.std.proofs.Common.{ap, arith, refl, subst, sym}
use Rattle.std.specs.Prelude.{slice_get, slice_set}
use Rattle.ec_base.proofs.Lists.{get_set_other, get_set_same, length_set}
use Rattle.ec_moving.specs.Moving.{GroupGoesTogether}
use Rattle.ec_world.proofs.Keys.{same_or_not}
use Rattle.ec_world.proofs.Members.{has_first, has_later, has_none, has_parts}
use Rattle.ec_world.specs.declared.event.Event.{Event}
use Rattle.ec_world.specs.Group.{Has}
use Rattle.ec_world.specs.Places.{AreThere, moved, node_or_first, place_in, placed, places, places_after}

-- ---- members

pub member_or_not : (xs : List ℕ) (x : ℕ) → Has xs x ⊎ (Has xs x → ⊥)
member_or_not [] x = inr (λ h. has_none x h)
member_or_not (y ∷ xs) x = ⊎_elim
    (λ (e : x ≡ y). inl (subst (λ z. Has (y ∷ xs) z) (sym e) (has_first y xs)))
    (λ (ne : x ≢ y). ⊎_elim
    (λ (h : Has xs x). inl (has_later y x xs h))
    (λ (out : Has xs x → ⊥). inr (λ h. ⊎_elim (λ (e : x ≡ y). ne e) (λ (k : Has xs x). out k) (has_parts y x xs h)))
    (member_or_not xs x))
    (same_or_not x y)

-- these are numbers of objects, of which there are so many
abbrev pub Within : ℕ → List ℕ → Type 0
Within count ms = (m : ℕ) → Has ms m → (0 < m) × (m ≤ count)

each_there : (count : ℕ) (ms : List ℕ) → AreThere count ms → Within count ms
each_there count [] h m k = absurd (has_none m k)
each_there count (x ∷ ms) h m k = ⊎_elim
    (λ (e : m ≡ x). subst (λ y. (0 < y) × (y ≤ count)) (sym e) (h.0, h.1))
    (λ (l : Has ms m). each_there count ms h.2 m l)
    (has_parts x m ms k)

-- ---- one place set

set_here : (ps : List ℕ) (m k : ℕ) → 0 < m → m ≤ length ps → place_in (slice_set ps (m - 1) k) m ≡ Some k
set_here ps zero k low high = absurd (omega arith)
set_here ps (suc j) k low high =
    let e : suc j - 1 ≡ j = omega arith in
    ap (λ i. slice_get (slice_set ps i k) j) e ∙ get_set_same ps j k (omega arith)

set_elsewhere : (ps : List ℕ) (m k x : ℕ) → 0 < m → m ≢ x → place_in (slice_set ps (m - 1) k) x ≡ place_in ps x
set_elsewhere ps zero k x low ne = absurd (omega arith)
set_elsewhere ps (suc j) k zero low ne = refl
set_elsewhere ps (suc j) k (suc i) low ne =
    let e : suc j - 1 ≡ j = omega arith in
    ap (λ n. slice_get (slice_set ps n k) i) e ∙ get_set_other ps j i k (λ same. ne (ap suc (sym same)))

set_keeps : (ps : List ℕ) (m k x : ℕ) → 0 < m → m ≤ length ps → place_in ps x ≡ Some k → place_in (slice_set ps (m - 1) k) x ≡ Some k
set_keeps ps m k x low high e = ⊎_elim
    (λ (same : m ≡ x). subst (λ y. place_in (slice_set ps (m - 1) k) y ≡ Some k) same (set_here ps m k low high))
    (λ (other : m ≢ x). set_elsewhere ps m k x low other ∙ e)
    (same_or_not m x)

-- ---- a group gone

pub length_moved : (ps ms : List ℕ) (k : ℕ) → length (moved ps ms k) ≡ length ps
length_moved ps [] k = refl
length_moved ps (m ∷ ms) k = length_moved (slice_set ps (m - 1) k) ms k ∙ length_set ps (m - 1) k

pub moved_other : (ps ms : List ℕ) (k x : ℕ) → ((m : ℕ) → Has ms m → 0 < m) → (Has ms x → ⊥) → place_in (moved ps ms k) x ≡ place_in ps x
moved_other ps [] k x low out = refl
moved_other ps (m ∷ ms) k x low out =
    moved_other (slice_set ps (m - 1) k) ms k x (λ y h. low y (has_later m y ms h)) (λ h. out (has_later m x ms h))
    ∙ set_elsewhere ps m k x (low m (has_first m ms)) (λ e. out (subst (λ y. Has (m ∷ ms) y) e (has_first m ms)))

later_within : (ps ms : List ℕ) (m k : ℕ) → Within (length ps) (m ∷ ms) → Within (length (slice_set ps (m - 1) k)) ms
later_within ps ms m k h x has =
    let bounds = h x (has_later m x ms has) in
    let many = length_set ps (m - 1) k in
    (bounds.0, omega (arith, bounds.1, many))

moved_keeps : (ps ms : List ℕ) (k x : ℕ) → Within (length ps) ms → place_in ps x ≡ Some k → place_in (moved ps ms k) x ≡ Some k
moved_keeps ps [] k x h e = e
moved_keeps ps (m ∷ ms) k x h e =
    let bounds = h m (has_first m ms) in
    moved_keeps (slice_set ps (m - 1) k) ms k x (later_within ps ms m k h) (set_keeps ps m k x bounds.0 bounds.1 e)

pub moved_member : (ps ms : List ℕ) (k x : ℕ) → Within (length ps) ms → Has ms x → place_in (moved ps ms k) x ≡ Some k
moved_member ps [] k x h has = absurd (has_none x has)
moved_member ps (m ∷ ms) k x h has = ⊎_elim
    (λ (e : x ≡ m).
    let bounds = h m (has_first m ms) in
    moved_keeps (slice_set ps (m - 1) k) ms k x (later_within ps ms m k h)
    (subst (λ y. place_in (slice_set ps (m - 1) k) y ≡ Some k) (sym e) (set_here ps m k bounds.0 bounds.1)))
    (λ (l : Has ms x). moved_member (slice_set ps (m - 1) k) ms k x (later_within ps ms m k h) l)
    (has_parts m x ms has)

pub goes_together : GroupGoesTogether
goes_together ps members target node there at =
    let within = each_there (length ps) members there in
    record {
      together = λ m h. ap (λ x. place_in (moved ps members (node_or_first x)) m) at ∙ moved_member ps members node m within h;
      others = λ x out. moved_other ps members (node_or_first (place_in ps target)) x (λ m h. (within m h).0) out;
    }

-- ---- an object more

pub length_push : (ps : List ℕ) (k : ℕ) → length (ps ++ k ∷ []) ≡ suc (length ps)
length_push [] k = refl
length_push (p ∷ ps) k = ap suc (length_push ps k)

get_push : (ps : List ℕ) (k i : ℕ) → i < length ps → slice_get (ps ++ k ∷ []) i ≡ slice_get ps i
get_push [] k i h = absurd (omega arith)
get_push (p ∷ ps) k zero h = refl
get_push (p ∷ ps) k (suc i) h = get_push ps k i (omega arith)

pub place_push : (ps : List ℕ) (k x : ℕ) → x ≤ length ps → place_in (ps ++ k ∷ []) x ≡ place_in ps x
place_push ps k zero h = refl
place_push ps k (suc i) h = get_push ps k i (omega arith)

-- ---- an event more

after_push : (ps : List ℕ) (es : List Event) (e : Event) → places_after ps (es ++ e ∷ []) ≡ placed (places_after ps es) e
after_push ps [] e = refl
after_push ps (f ∷ es) e = after_push (placed ps f) es e

pub places_push : (n : ℕ) (es : List Event) (e : Event) → places n (es ++ e ∷ []) ≡ placed (places n es) e
places_push n es e = after_push _ es e
