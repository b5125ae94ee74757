-- A group that has gone to a node is where the event of its move has it.
use Rattle.std.proofs.Common.{◌≡◌, ◌≢◌, ◌<◌, ◌≤◌, ◌-◌, ◌==◌, ◌||◌, ℕ, zero, suc, ⊎_elim, Bool, true, false, List, [], ◌∷◌, ◌++◌}
use Rattle.std.proofs.Common.{length, Option, Some, None, refl, sym, ap, ◌∙◌, subst, arith}
use Rattle.std.proofs.lemmas.Bool.Decides.{eqb_tells}
use Rattle.std.specs.Prelude.{if◌then◌else◌, slice_get, slice_set, IsSome}
use Rattle.ec_base.proofs.Lists.{get_set_other, get_set_same, length_set}
use Rattle.ec_cluster.specs.Cluster.{CodeWorld}
use Rattle.ec_cluster.specs.Steps.{with_common}
use Rattle.ec_rooms.proofs.Counting.{gone_grows, placed_after}
use Rattle.ec_rooms.proofs.Staying.{places_push}
use Rattle.ec_rooms.specs.PlacingLaws.{MovesKeepPlaces}
use Rattle.ec_rooms.specs.Places.{PlacesEach, place_of}
use Rattle.ec_world.proofs.Members.{has_first, has_later, object_within}
use Rattle.ec_world.specs.Group.{Has, is_in}
use Rattle.ec_world.specs.Objects.{object_at}
use Rattle.ec_world.specs.Outcomes.{gone}
use Rattle.ec_world.specs.Places.{moved, node_or_first, place_in, places}
use Rattle.ec_world.specs.declared.common.Common.{Common}
use Rattle.ec_world.specs.declared.event.Event.{Event}
use Rattle.ec_world.specs.declared.event.Event.TheVariants.{Moved}

-- ---- lists of places

-- these numbers have places
abbrev Within : List ℕ → List ℕ → Type 0
Within ps ms = (m : ℕ) → Has ms m → (0 < m) × (m ≤ length ps)

-- a place is set for one number
set_here : (ps : List ℕ) (m k : ℕ) → 0 < m → m ≤ length ps → place_in (slice_set ps (m - 1) k) m ≡ Some k
set_here ps zero k low high = absurd (omega arith)
set_here ps (suc j) k low high =
    let e : suc j - 1 ≡ j = omega arith in
    ap (λ i. slice_get (slice_set ps i k) j) e ∙ get_set_same ps j k (omega arith)

set_elsewhere : (ps : List ℕ) (m k oid : ℕ) → 0 < m → m ≢ oid → place_in (slice_set ps (m - 1) k) oid ≡ place_in ps oid
set_elsewhere ps zero k oid low ne = absurd (omega arith)
set_elsewhere ps (suc j) k zero low ne = refl
set_elsewhere ps (suc j) k (suc i) low ne =
    let e : suc j - 1 ≡ j = omega arith in
    ap (λ x. slice_get (slice_set ps x k) i) e ∙ get_set_other ps j i k (λ same. ne (ap suc (sym same)))

set_place : (ps : List ℕ) (m k oid : ℕ) → 0 < m → m ≤ length ps →
    place_in (slice_set ps (m - 1) k) oid ≡ (if m == oid then Some k else place_in ps oid)
set_place ps m k oid low high = ⊎_elim
    (λ (h : ((m == oid) ≡ true) × (m ≡ oid)).
    subst (λ x. place_in (slice_set ps (m - 1) k) x ≡ Some k) h.1 (set_here ps m k low high)
    ∙ ap (λ b. if b then Some k else place_in ps oid) (sym h.0))
    (λ (h : ((m == oid) ≡ false) × (m ≢ oid)).
    set_elsewhere ps m k oid low h.1 ∙ ap (λ b. if b then Some k else place_in ps oid) (sym h.0))
    (eqb_tells m oid)

either : (x y : Option ℕ) (a b : Bool) → (if b then x else (if a then x else y)) ≡ (if a || b then x else y)
either x y true true = refl
either x y true false = refl
either x y false true = refl
either x y false false = refl

moved_place : (ps ms : List ℕ) (k oid : ℕ) → Within ps ms →
    place_in (moved ps ms k) oid ≡ (if is_in oid ms then Some k else place_in ps oid)
moved_place ps [] k oid h = refl
moved_place ps (m ∷ ms) k oid h =
    let bounds = h m (has_first m ms) in
    let many = length_set ps (m - 1) k in
    moved_place (slice_set ps (m - 1) k) ms k oid
    (λ x g. let b = h x (has_later m x ms g) in (b.0, omega (arith, b.1, many)))
    ∙ ap (λ at. if is_in oid ms then Some k else at) (set_place ps m k oid bounds.0 bounds.1)
    ∙ either (Some k) (place_in ps oid) (m == oid) (is_in oid ms)

-- ---- the world in which a group has gone

gone_nodes : (c : Common) (members : List ℕ) (target : ℕ) (fixes : Option ℕ) → (gone c members target fixes).nodes ≡ c.nodes
gone_nodes c members target None = refl
gone_nodes c members target (Some x) = refl

gone_events : (c : Common) (members : List ℕ) (target : ℕ) (fixes : Option ℕ) →
    (gone c members target fixes).events ≡ c.events ++ Moved members target ∷ []
gone_events c members target None = refl
gone_events c members target (Some x) = refl

module _ (w : CodeWorld) (members : List ℕ) (target : ℕ) (fixes : Option ℕ)
    (there : (oid : ℕ) → Has members oid → IsSome (object_at w.common.objects oid)) (each : PlacesEach w) where
  abbrev left : CodeWorld
  left = with_common w (gone w.common members target fixes)

  abbrev before : List ℕ
  before = places w.common.nodes w.common.events

  pub gone_each : PlacesEach left
  gone_each = placed_after w.common left.common (gone_grows w.common members target fixes) each

  have_places : Within before members
  have_places m h = let l = object_within w.common.objects m (there m h) in (l.0, omega (arith, l.1, each))

  -- the members are where the target was
  pub gone_place : (k : ℕ) → place_of w target ≡ Some k → (oid : ℕ) →
      place_of left oid ≡ (if is_in oid members then Some k else place_of w oid)
  gone_place k at oid =
      ap (λ n. place_in (places n left.common.events) oid) (gone_nodes w.common members target fixes)
      ∙ ap (λ (es : List Event). place_in (places w.common.nodes es) oid) (gone_events w.common members target fixes)
      ∙ ap (λ (ps : List ℕ). place_in ps oid) (places_push w.common.nodes w.common.events (Moved members target))
      ∙ ap (λ x. place_in (moved before members (node_or_first x)) oid) at
      ∙ moved_place before members k oid have_places

pub moves_keep_places : MovesKeepPlaces
moves_keep_places old new w members target fixes there gathered has = record {
  each = gone_each w members target fixes there has.each;
  placed = λ oid.
      gathered.each oid
      ∙ ap (λ at. if is_in oid members then Some gathered.node else at) (has.placed oid)
      ∙ sym (gone_place w members target fixes there has.each gathered.node (sym (has.placed target) ∙ gathered.there) oid);
}
