-- Numbers that rise, and the numbers of types whose names stand at rising places.
use Rattle.std.proofs.Common.{◌≡◌, ℕ, zero, suc, ◌+◌, ◌<◌, List, [], ◌∷◌, ◌++◌, length, map, Some, refl, sym, ap, ◌∙◌, subst, arith}
use Rattle.std.proofs.lemmas.Bool.{eq-eqb, ne_eqb}
use Rattle.std.specs.List.{slice_get}
use Rattle.ec_check.proofs.Every.{Every, every_weaker}
use Rattle.ec_places.specs.Rising.{IsRising}
use Rattle.ec_check.specs.Resolving.{numbers_from}
use Rattle.ec_types.specs.Conforms.{operations_at}
use Rattle.ec_types.specs.Table.{Table, IsTable}
use Rattle.ec_types.specs.Types.{number_from, number_at, places_of, type_with, operations_from}
use Rattle.ec_types.specs.declared.conform.declared.DeclaredType.{DeclaredType}
use Rattle.ec_types.specs.declared.conform.declared.Declarations.{Declarations}
use Rattle.ec_types.specs.Names.{Text}

-- ---- numbers below others

abbrev pub Below : ℕ → List ℕ → Type 0
Below n ns = Every (λ m. n < m) ns

-- a number is none of these
abbrev pub Apart : ℕ → List ℕ → Type 0
Apart n ns = Every (λ m. (m ≡ n) → ⊥) ns

-- each number is below all that come behind it
abbrev pub Ascending : List ℕ → Type 0
Ascending [] = Unit {0}
Ascending (n ∷ ns) = Below n ns × Ascending ns

below_more : (n m : ℕ) (ns : List ℕ) → n < m → Below m ns → Below n ns
below_more n m ns l h = every_weaker (λ k. m < k) (λ k. n < k) (λ k b. omega arith) ns h

pub below_apart : (n : ℕ) (ns : List ℕ) → Below n ns → Apart n ns
below_apart n ns h = every_weaker (λ m. n < m) (λ m. (m ≡ n) → ⊥) (λ m l e. let f : m ≡ n = e in omega arith) ns h

pub ascending : (ns : List ℕ) → IsRising ns → Ascending ns
ascending [] h = tt
ascending (n ∷ []) h = (tt, tt)
ascending (n ∷ m ∷ ns) h =
    let later : Ascending (m ∷ ns) = ascending (m ∷ ns) h.1 in
    ((h.0, below_more n m ns h.0 later.0), later)

pub rising : (ns : List ℕ) → Ascending ns → IsRising ns
rising [] h = tt
rising (n ∷ []) h = tt
rising (n ∷ m ∷ ns) h = (h.0.0, rising (m ∷ ns) h.1)

-- ---- one list behind another

pub ascending_left : (ns ms : List ℕ) → Ascending (ns ++ ms) → Ascending ns
ascending_left [] ms h = tt
ascending_left (n ∷ ns) ms h = (every_before n ns ms h.0, ascending_left ns ms h.1)
  where
    every_before : (n : ℕ) (ns ms : List ℕ) → Below n (ns ++ ms) → Below n ns
    every_before n [] ms h = tt
    every_before n (k ∷ ns) ms h = (h.0, every_before n ns ms h.1)

pub ascending_right : (ns ms : List ℕ) → Ascending (ns ++ ms) → Ascending ms
ascending_right [] ms h = h
ascending_right (n ∷ ns) ms h = ascending_right ns ms h.1

pub each_below : (ns ms : List ℕ) → Ascending (ns ++ ms) → Every (λ n. Below n ms) ns
each_below [] ms h = tt
each_below (n ∷ ns) ms h = (every_behind n ns ms h.0, each_below ns ms h.1)
  where
    every_behind : (n : ℕ) (ns ms : List ℕ) → Below n (ns ++ ms) → Below n ms
    every_behind n [] ms h = h
    every_behind n (k ∷ ns) ms h = every_behind n ns ms h.1

-- each of the second ones is none of the first ones
pub apart_before : (ns ms : List ℕ) → Every (λ n. Below n ms) ns → Every (λ m. Apart m ns) ms
apart_before ns [] h = tt
apart_before ns (m ∷ ms) h = (
  every_weaker (λ n. Below n (m ∷ ms)) (λ n. (n ≡ m) → ⊥) (λ n b e. let l : n < m = b.0 in let f : n ≡ m = e in omega arith) ns h,
  apart_before ns ms (every_weaker (λ n. Below n (m ∷ ms)) (λ n. Below n ms) (λ n b. b.1) ns h),
)

-- Where some are left out of the second ones, the rest rises.
pub ascending_fewer : (ns ms ks : List ℕ) → ((n : ℕ) → Below n ms → Below n ks) → Ascending ks → Ascending (ns ++ ms) →
    Ascending (ns ++ ks)
ascending_fewer [] ms ks fewer k h = k
ascending_fewer (n ∷ ns) ms ks fewer k h = (joined n ns ms ks (fewer n) h.0, ascending_fewer ns ms ks fewer k h.1)
  where
    joined : (n : ℕ) (ns ms ks : List ℕ) → (Below n ms → Below n ks) → Below n (ns ++ ms) → Below n (ns ++ ks)
    joined n [] ms ks fewer h = fewer h
    joined n (m ∷ ns) ms ks fewer h = (h.0, joined n ns ms ks fewer h.1)

-- ---- the numbers from one on

below_from : (n m k : ℕ) → n < m → Below n (numbers_from m k)
below_from n m zero l = tt
below_from n m (suc k) l = (l, below_from n (suc m) k (omega arith))

pub ascending_from : (n k : ℕ) → Ascending (numbers_from n k)
ascending_from n zero = tt
ascending_from n (suc k) = (below_from n (suc n) k (omega arith), ascending_from (suc n) k)

-- ---- numbers by places

number_here : (n place : ℕ) (places : List ℕ) → number_from n (place ∷ places) place ≡ n
number_here n place places = rw (eq-eqb place place refl) refl

number_behind : (n place : ℕ) (places : List ℕ) (at : ℕ) → place < at →
    number_from n (place ∷ places) at ≡ number_from (suc n) places at
number_behind n place places at l =
    let e : n + 1 ≡ suc n = omega arith in
    rw (ne_eqb place at (λ e. let f : place ≡ at = e in omega arith)) (ap (λ m. number_from m places at) e)

numbers_behind : (n place : ℕ) (places all : List ℕ) → Below place all →
    map (number_from n (place ∷ places)) all ≡ map (number_from (suc n) places) all
numbers_behind n place places [] h = refl
numbers_behind n place places (at ∷ all) h =
    ap (λ m. m ∷ map (number_from n (place ∷ places)) all) (number_behind n place places at h.0)
    ∙ ap (λ ms. number_from (suc n) places at ∷ ms) (numbers_behind n place places all h.1)

-- the numbers of all places are those from n on
numbers_of_places : (n : ℕ) (places : List ℕ) → Ascending places →
    map (number_from n places) places ≡ numbers_from n (length places)
numbers_of_places n [] h = refl
numbers_of_places n (place ∷ places) h =
    ap (λ m. m ∷ map (number_from n (place ∷ places)) places) (number_here n place places)
    ∙ ap (λ ms. n ∷ ms) (numbers_behind n place places places h.0 ∙ numbers_of_places (suc n) places h.1)

-- ---- types by their numbers

-- the numbers of declared types
abbrev pub numbers_declared : Table → List DeclaredType → List ℕ
numbers_declared table ts = map (λ d. number_at table.places d.name.at.from) ts

-- the type with a declared type's number has its operations
abbrev pub StandsAt : Table → DeclaredType → Type 0
StandsAt table d =
    operations_at table.types (number_at table.places d.name.at.from) ≡ operations_from table.names [] d.operations

-- a type stands among some, whose numbers are those from n on
abbrev Position : ℕ → List DeclaredType → DeclaredType → Type 0
Position n ds d = (k : ℕ) × (number_from n (places_of ds) d.name.at.from ≡ n + k) × (slice_get ds k ≡ Some d)

position_behind : (n : ℕ) (t : DeclaredType) (ds all : List DeclaredType) → Below t.name.at.from (places_of all) →
    Every (Position (suc n) ds) all → Every (Position n (t ∷ ds)) all
position_behind n t ds [] b h = tt
position_behind n t ds (d ∷ all) b h = (
  (
    suc h.0.0,
    number_behind n t.name.at.from (places_of ds) d.name.at.from b.0 ∙ (h.0.1 ∙ omega arith),
    h.0.2,
  ),
  position_behind n t ds all b.1 h.1,
)

positions : (n : ℕ) (ds : List DeclaredType) → Ascending (places_of ds) → Every (Position n ds) ds
positions n [] h = tt
positions n (d ∷ ds) h = (
  (zero, number_here n d.name.at.from (places_of ds) ∙ omega arith, refl),
  position_behind n d ds ds h.0 (positions (suc n) ds h.1),
)

-- the operations of the type at a number
type_at : (names : List Text) (ds : List DeclaredType) (n : ℕ) (d : DeclaredType) → slice_get ds n ≡ Some d →
    operations_at (map (type_with names) ds) n ≡ operations_from names [] d.operations
type_at names [] n d e = cc
type_at names (t ∷ ds) zero d e =
    let f : Some t ≡ Some d = e in
    let same : t ≡ d = cc in
    ap (λ (x : DeclaredType). operations_from names [] x.operations) same
type_at names (t ∷ ds) (suc n) d e = type_at names ds n d e

stands_at : (names : List Text) (all ds : List DeclaredType) → Every (Position 0 all) ds →
    Every
    (λ (d : DeclaredType).
    operations_at (map (type_with names) all) (number_at (places_of all) d.name.at.from) ≡ operations_from names [] d.operations)
    ds
stands_at names all [] h = tt
stands_at names all (d ∷ ds) h =
    let at : number_at (places_of all) d.name.at.from ≡ h.0.0 = h.0.1 ∙ omega arith in (
      ap (λ n. operations_at (map (type_with names) all) n) at ∙ type_at names all h.0.0 d h.0.2,
      stands_at names all ds h.1,
    )

pub types_stand : (table : Table) (declared : Declarations) → IsTable declared table → Ascending (places_of declared.types) →
    Every (StandsAt table) declared.types
types_stand table declared is h =
    every_weaker
    (λ (d : DeclaredType).
    operations_at (map (type_with table.names) declared.types) (number_at (places_of declared.types) d.name.at.from)
    ≡ operations_from table.names [] d.operations)
    (StandsAt table)
    (λ d e.
    ap (λ ts. operations_at ts (number_at table.places d.name.at.from))
    (is.types ∙ ap (λ ns. map (type_with ns) declared.types) (sym is.names))
    ∙ ap (λ ps. operations_at (map (type_with table.names) declared.types) (number_at ps d.name.at.from)) is.places ∙ e)
    declared.types (stands_at table.names declared.types declared.types (positions 0 declared.types h))

map_again : (f : ℕ → ℕ) (ds : List DeclaredType) → map (λ (d : DeclaredType). f d.name.at.from) ds ≡ map f (places_of ds)
map_again f [] = refl
map_again f (d ∷ ds) = ap (λ ns. f d.name.at.from ∷ ns) (map_again f ds)

pub numbers_rise : (table : Table) (declared : Declarations) → IsTable declared table → Ascending (places_of declared.types) →
    Ascending (numbers_declared table declared.types)
numbers_rise table declared is h =
    subst Ascending
    (sym
    (ap (λ ps. numbers_at ps) is.places ∙ map_again (number_at (places_of declared.types)) declared.types
    ∙ numbers_of_places 0 (places_of declared.types) h))
    (ascending_from 0 (length (places_of declared.types)))
  where
    numbers_at : List ℕ → List ℕ
    numbers_at ps = map (λ (d : DeclaredType). number_at ps d.name.at.from) declared.types
