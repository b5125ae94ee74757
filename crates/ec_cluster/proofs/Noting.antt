-- Where objects are, event by event.
use Rattle.std.proofs.Common.{◌≡◌, ◌≢◌, ℕ, zero, suc, ◌+◌, ◌-◌, ◌<◌, ◌≤◌, List, [], ◌∷◌, ◌++◌, length}
use Rattle.std.proofs.Common.{Some, add-one, refl, ap, sym, ◌∙◌, arith}
use Rattle.std.proofs.Common.{inl, inr}
use Rattle.std.proofs.lemmas.Bool.Decides.{eqb_tells, nat_tests}
use Rattle.std.specs.Prelude.{slice_get, slice_set}
use Rattle.ec_base.proofs.Lists.{get_set_same, get_set_other, length_set}
use Rattle.ec_world.proofs.Placement.{length-first_places, numbers_from-next}
use Rattle.ec_world.specs.declared.event.Event.{Event}
use Rattle.ec_world.specs.declared.event.Event.TheVariants.{Created, Moved}
use Rattle.ec_world.specs.Places.{AreEvents, AreThere, first_places, node_or_first, numbers_from, place_in, places, places_after}
use Rattle.ec_world.specs.Places.{moved as places_moved}
use Rattle.ec_cluster.specs.Located.{Located, first_made, made_at, moved_to, nodes_made, nothing_made, with_at}
use Rattle.ec_cluster.specs.Events.{AreAt, all_moved, all_noted}

length-push : (ps : List ℕ) (k : ℕ) → length (ps ++ k ∷ []) ≡ suc (length ps)
length-push [] k = refl
length-push (p ∷ ps) k = ap suc (length-push ps k)

get-push_last : (ps : List ℕ) (k : ℕ) → slice_get (ps ++ k ∷ []) (length ps) ≡ Some k
get-push_last [] k = refl
get-push_last (p ∷ ps) k = get-push_last ps k

get-push_other : (ps : List ℕ) (k i : ℕ) → i ≢ length ps → slice_get (ps ++ k ∷ []) i ≡ slice_get ps i
get-push_other [] k zero h = absurd (h refl)
get-push_other [] k (suc i) h = refl
get-push_other (p ∷ ps) k zero h = refl
get-push_other (p ∷ ps) k (suc i) h = get-push_other ps k i (λ e. h (ap suc e))

-- a place that is changed at one number
pub with-same : {A : Type 0} (f : ℕ → A) (oid o : ℕ) (a : A) → o ≡ oid → with_at f oid a o ≡ a
with-same f oid o a e = grind (arith, nat_tests)

pub with-other : {A : Type 0} (f : ℕ → A) (oid o : ℕ) (a : A) → o ≢ oid → with_at f oid a o ≡ f o
with-other f oid o a h = grind (arith, nat_tests)

place-push : (w : Located) (ps : List ℕ) (k o : ℕ) → AreAt w ps → with_at w.place (suc (length ps)) (Some k) o ≡ place_in (ps ++ k ∷ []) o
place-push w ps k zero a = with-other w.place (suc (length ps)) zero (Some k) (λ e. cc) ∙ a.each zero
place-push w ps k (suc i) a =
    elim (eqb_tells i (length ps)) as (λ _. with_at w.place (suc (length ps)) (Some k) (suc i) ≡ slice_get (ps ++ k ∷ []) i) [
      | inl h ↦ with-same w.place (suc (length ps)) (suc i) (Some k) (ap suc h.1) ∙ sym (rw h.1 (get-push_last ps k))
      | inr h ↦
          with-other w.place (suc (length ps)) (suc i) (Some k) (λ e. h.1 (omega arith)) ∙ a.each (suc i)
          ∙ sym (get-push_other ps k i h.1)
    ]

made : (w : Located) (ps : List ℕ) (oid k : ℕ) → oid ≡ suc (length ps) → AreAt w ps → AreAt (made_at w oid k) (ps ++ k ∷ [])
made w ps oid k e a = record {
  made = ap suc a.made ∙ sym (length-push ps k);
  each = λ o. rw e (place-push w ps k o a);
}

place-set : (w : Located) (ps : List ℕ) (i k o : ℕ) → i < length ps → AreAt w ps →
    with_at w.place (suc i) (Some k) o ≡ place_in (slice_set ps i k) o
place-set w ps i k zero h a = with-other w.place (suc i) zero (Some k) (λ e. cc) ∙ a.each zero
place-set w ps i k (suc o) h a =
    elim (eqb_tells o i) as (λ _. with_at w.place (suc i) (Some k) (suc o) ≡ slice_get (slice_set ps i k) o) [
      | inl e ↦ with-same w.place (suc i) (suc o) (Some k) (ap suc e.1) ∙ sym (rw e.1 (get_set_same ps i k h))
      | inr e ↦
          with-other w.place (suc i) (suc o) (Some k) (λ d. e.1 (omega arith)) ∙ a.each (suc o) ∙ sym (get_set_other ps i o k e.1)
    ]

went : (w : Located) (ps : List ℕ) (m from k : ℕ) → 0 < m → m ≤ length ps → AreAt w ps →
    AreAt (moved_to w m from k) (slice_set ps (m - 1) k)
went w ps zero from k low high a = absurd (omega arith)
went w ps (suc i) from k low high a =
    let e : suc i - 1 ≡ i = omega arith in
    rw e (record {
      made = a.made ∙ sym (length_set ps i k);
      each = λ o. place-set w ps i k o (omega arith) a;
    })

all_went : (w : Located) (ps ms : List ℕ) (k : ℕ) → AreThere (length ps) ms → AreAt w ps → AreAt (all_moved w ms k) (places_moved ps ms k)
all_went w ps [] k h a = a
all_went w ps (m ∷ ms) k h a =
    let one = went w ps m (node_or_first (w.place m)) k h.0 h.1 a in
    let there : AreThere (length (slice_set ps (m - 1) k)) ms = rw (length_set ps (m - 1) k) h.2 in
    all_went (moved_to w m (node_or_first (w.place m)) k) (slice_set ps (m - 1) k) ms k there one

length-moved : (ps ms : List ℕ) (k : ℕ) → length (places_moved ps ms k) ≡ length ps
length-moved ps [] k = refl
length-moved ps (m ∷ ms) k = length-moved (slice_set ps (m - 1) k) ms k ∙ length_set ps (m - 1) k

length-numbers : (n : ℕ) → length (numbers_from 0 n) ≡ n
length-numbers n = omega (arith, length-push (numbers_from 0 n) 0, length-first_places n)

pub give : (w : Located) (ps : List ℕ) (es : List Event) → AreEvents (length ps) es → AreAt w ps →
    AreAt (all_noted w es) (places_after ps es)
give w ps [] h a = a
give w ps (Created oid maker ∷ es) h a =
    let k = node_or_first (place_in ps maker) in
    let same : node_or_first (w.place maker) ≡ k = ap node_or_first (a.each maker) in
    let one : AreAt (made_at w oid (node_or_first (w.place maker))) (ps ++ k ∷ []) = rw same (made w ps oid k h.0 a) in
    let rest : AreEvents (length (ps ++ k ∷ [])) es = rw (length-push ps k) h.3 in
    give (made_at w oid (node_or_first (w.place maker))) (ps ++ k ∷ []) es rest one
give w ps (Moved members target ∷ es) h a =
    let k = node_or_first (place_in ps target) in
    let same : node_or_first (w.place target) ≡ k = ap node_or_first (a.each target) in
    let one : AreAt (all_moved w members (node_or_first (w.place target))) (places_moved ps members k) =
    rw same (all_went w ps members k h.0 a) in
    let rest : AreEvents (length (places_moved ps members k)) es = rw (length-moved ps members k) h.3 in
    give (all_moved w members (node_or_first (w.place target))) (places_moved ps members k) es rest one

nodes_are_at : (n : ℕ) → AreAt (nodes_made n) (numbers_from 0 n)
nodes_are_at zero = record { made = refl; each = nowhere }
  where
    nowhere : (o : ℕ) → nothing_made.place o ≡ place_in [] o
    nowhere zero = refl
    nowhere (suc o) = refl
nodes_are_at (suc k) =
    let next = rw add-one at (numbers_from-next k) in
    let e : suc k ≡ suc (length (numbers_from 0 k)) = ap suc (sym (length-numbers k)) in
    rw next (made (nodes_made k) (numbers_from 0 k) (suc k) k e (nodes_are_at k))

pub first_are_at : (n : ℕ) → AreAt (first_made n) (first_places n)
first_are_at n = made (nodes_made n) (numbers_from 0 n) (suc n) 0 (ap suc (sym (length-numbers n))) (nodes_are_at n)

pub give_on : (n : ℕ) (es : List Event) → AreEvents (n + 1) es → AreAt (all_noted (first_made n) es) (places n es)
give_on n es h = give (first_made n) (first_places n) es (rw (length-first_places n) h) (first_are_at n)
