-- Places after events, one event at a time.
use Rattle.std.proofs.Common.{◌≡◌, ℕ, zero, suc, ◌+◌, ◌-◌, ◌<◌, ◌≤◌, List, [], ◌∷◌, ◌++◌, length, Some, refl, ap, ◌∙◌, arith, add-one}
use Rattle.std.specs.Prelude.{slice_get, slice_set}
use Rattle.ec_base.proofs.Lists.{length_set}
use Rattle.ec_world.specs.declared.event.Event.{Event}
use Rattle.ec_world.specs.declared.event.Event.TheVariants.{Created, Moved}
use Rattle.ec_world.specs.Places.{numbers_from, first_places, place_in, node_or_first, moved, places_after, places}

-- ---- how many places

-- how many of the events are creations
abbrev pub made_by : List Event → ℕ
made_by [] = 0
made_by (Created oid maker ∷ es) = suc (made_by es)
made_by (Moved members target ∷ es) = made_by es

length-moved : (ps ms : List ℕ) (k : ℕ) → length (moved ps ms k) ≡ length ps
length-moved ps [] k = refl
length-moved ps (m ∷ ms) k = length-moved (slice_set ps (m - 1) k) ms k ∙ length_set ps (m - 1) k

length-push : (ps : List ℕ) (k : ℕ) → length (ps ++ k ∷ []) ≡ suc (length ps)
length-push [] k = refl
length-push (p ∷ ps) k = ap suc (length-push ps k)

length-places_after : (ps : List ℕ) (es : List Event) → length (places_after ps es) ≡ length ps + made_by es
length-places_after ps [] = omega arith
length-places_after ps (Created oid maker ∷ es) =
    let rest = length-places_after (ps ++ node_or_first (place_in ps maker) ∷ []) es in
    let one = length-push ps (node_or_first (place_in ps maker)) in
    omega arith
length-places_after ps (Moved members target ∷ es) =
    let rest = length-places_after (moved ps members (node_or_first (place_in ps target))) es in
    let same = length-moved ps members (node_or_first (place_in ps target)) in
    omega arith

length-numbers : (i n : ℕ) → length (numbers_from i n) ≡ n
length-numbers i zero = refl
length-numbers i (suc n) = ap suc (length-numbers (suc i) n)

pub length-first_places : (n : ℕ) → length (first_places n) ≡ n + 1
length-first_places n = length-push (numbers_from 0 n) 0 ∙ ap suc (length-numbers 0 n) ∙ (omega arith)

-- a place for each node's object, one for the program's, and one for each creation
pub length-places : (n : ℕ) (events : List Event) → length (places n events) ≡ n + 1 + made_by events
length-places n events = length-places_after (first_places n) events ∙ ap (λ l. l + made_by events) (length-first_places n)

-- ---- one step more

numbers-next : (i n : ℕ) → numbers_from i (n + 1) ≡ numbers_from i n ++ (i + n) ∷ []
numbers-next i zero = let e : i + 0 ≡ i = omega arith in rw e refl
numbers-next i (suc n) =
    let e : suc i + n ≡ i + suc n = omega arith in
    let rest : numbers_from (suc i) (n + 1) ≡ numbers_from (suc i) n ++ (i + suc n) ∷ [] = rw (← e) (numbers-next (suc i) n) in
    rw add-one (ap (λ r. i ∷ r) (rw add-one at rest))

-- one number more
pub numbers_from-next : (k : ℕ) → numbers_from 0 (k + 1) ≡ numbers_from 0 k ++ k ∷ []
numbers_from-next k = let e : 0 + k ≡ k = omega arith in let n = numbers-next 0 k in rw e at n

-- ---- on one node

pub record AreZero (ps : List ℕ) : Type 0 where
  pub each : (i : ℕ) → i < length ps → slice_get ps i ≡ Some 0

zero-tail : (p : ℕ) (ps : List ℕ) → AreZero (p ∷ ps) → AreZero ps
zero-tail p ps h = record { each = λ i l. h.each (suc i) (omega arith) }

zero-cons : (ps : List ℕ) → AreZero ps → AreZero (0 ∷ ps)
zero-cons ps h = record { each = part }
  where
    part : (i : ℕ) → i < length (0 ∷ ps) → slice_get (0 ∷ ps) i ≡ Some 0
    part zero l = refl
    part (suc i) l = h.each i (omega arith)

zero-set : (ps : List ℕ) (i : ℕ) → AreZero ps → AreZero (slice_set ps i 0)
zero-set [] i h = h
zero-set (p ∷ ps) zero h = zero-cons ps (zero-tail p ps h)
zero-set (p ∷ ps) (suc i) h =
    let e : Some p ≡ Some 0 = h.each 0 (omega arith) in
    let z : p ≡ 0 = cc in
    rw z (zero-cons (slice_set ps i 0) (zero-set ps i (zero-tail p ps h)))

zero-push : (ps : List ℕ) → AreZero ps → AreZero (ps ++ 0 ∷ [])
zero-push [] h = zero-cons [] h
zero-push (p ∷ ps) h =
    let e : Some p ≡ Some 0 = h.each 0 (omega arith) in
    let z : p ≡ 0 = cc in
    rw z (zero-cons (ps ++ 0 ∷ []) (zero-push ps (zero-tail p ps h)))

zero-get : (ps : List ℕ) (i : ℕ) → AreZero ps → node_or_first (slice_get ps i) ≡ 0
zero-get [] i h = refl
zero-get (p ∷ ps) zero h = let e : Some p ≡ Some 0 = h.each 0 (omega arith) in cc
zero-get (p ∷ ps) (suc i) h = zero-get ps i (zero-tail p ps h)

zero-place : (ps : List ℕ) (m : ℕ) → AreZero ps → node_or_first (place_in ps m) ≡ 0
zero-place ps zero h = refl
zero-place ps (suc i) h = zero-get ps i h

zero-moved : (ps ms : List ℕ) → AreZero ps → AreZero (moved ps ms 0)
zero-moved ps [] h = h
zero-moved ps (m ∷ ms) h = zero-moved (slice_set ps (m - 1) 0) ms (zero-set ps (m - 1) h)

zero-after : (ps : List ℕ) (es : List Event) → AreZero ps → AreZero (places_after ps es)
zero-after ps [] h = h
zero-after ps (Created oid maker ∷ es) h =
    zero-after (ps ++ node_or_first (place_in ps maker) ∷ []) es (rw (zero-place ps maker h) (zero-push ps h))
zero-after ps (Moved members target ∷ es) h =
    zero-after (moved ps members (node_or_first (place_in ps target))) es (rw (zero-place ps target h) (zero-moved ps members h))

-- every object is on the only node
pub place_on_one : (events : List Event) (oid : ℕ) → 0 < oid → oid ≤ length (places 1 events) → place_in (places 1 events) oid ≡ Some 0
place_on_one events zero h l = absurd (omega arith)
place_on_one events (suc i) h l =
    let start : AreZero (first_places 1) = zero-cons (0 ∷ []) (zero-cons [] (record { each = λ j m. absurd (omega arith) })) in
    (zero-after (first_places 1) events start).each i (omega arith)
