-- What a failed process gives up, one monitor after the other, and the objects of its activations, the innermost first.
use Rattle.std.proofs.Common.{◌≡◌, ℕ, ◌+◌, ◌-◌, ◌<◌, List, [], ◌∷◌, ◌++◌, length, map, reverse, drop, get_or, Option, Some, None}
use Rattle.std.proofs.Common.{refl, sym, ap, ◌∙◌, arith, add-one, append_assoc, drop-cons}
use Rattle.std.specs.Prelude.{slice_get}
use Rattle.std.proofs.lemmas.List.{reverse-append, map-append}
use Rattle.ec_base.proofs.Lists.{drop_at}
use Rattle.ec_monitors.specs.declared.record.Granted.{Granted}
use Rattle.ec_world.specs.declared.object.ObjectRec.{ObjectRec}
use Rattle.ec_world.specs.Outcomes.{all_granted, dropped_at, dropped_each}

-- those that are freed, and then what is still to be dropped
abbrev pub and_freed : List ℕ → List ObjectRec × List ℕ → List ObjectRec × List ℕ
and_freed freed t = (t.0, freed ++ t.1)

granted_front : (granted : Option Granted) (more : List ℕ) → all_granted granted [] ++ more ≡ all_granted granted more
granted_front None more = refl
granted_front (Some q) more = refl

abbrev beside : List ObjectRec → List ℕ → List ObjectRec × List ℕ
beside objects freed = (objects, freed)

dropped_first : (p oid : ℕ) (others : List ℕ) (objects : List ObjectRec) (first : List ObjectRec × Option Granted) →
    dropped_at objects p oid ≡ first →
    dropped_each p (oid ∷ others) objects ≡ beside (dropped_each p others first.0).0
    (all_granted first.1 (dropped_each p others first.0).1)
dropped_first p oid others objects first e =
    ap (λ (f : List ObjectRec × Option Granted). beside (dropped_each p others f.0).0 (all_granted f.1 (dropped_each p others f.0).1)) e

-- one object more
pub dropped_next : (p i : ℕ) (owns freed freed' : List ℕ) (objects objects' : List ObjectRec) (granted : Option Granted) →
    i < length owns → dropped_at objects p (get_or owns i 0) ≡ (objects', granted) → freed' ≡ freed ++ all_granted granted [] →
    and_freed freed' (dropped_each p (drop (i + 1) owns) objects') ≡ and_freed freed (dropped_each p (drop i owns) objects)
dropped_next p i owns freed freed' objects objects' granted h e f =
    let d : drop i owns ≡ get_or owns i 0 ∷ drop (i + 1) owns = rw add-one (drop-cons owns i 0 h) in
    let others : List ObjectRec × List ℕ = dropped_each p (drop (i + 1) owns) objects' in
    let g : freed' ++ others.1 ≡ freed ++ all_granted granted others.1 =
    ap (λ (xs : List ℕ). xs ++ others.1) f ∙ append_assoc freed (all_granted granted []) others.1
    ∙ ap (λ (xs : List ℕ). freed ++ xs) (granted_front granted others.1) in
    let all : dropped_each p (drop i owns) objects ≡ beside others.0 (all_granted granted others.1) =
    ap (λ (os : List ℕ). dropped_each p os objects) d
    ∙ dropped_first p (get_or owns i 0) (drop (i + 1) owns) objects (objects', granted) e in
    ap (beside others.0) g ∙ sym (ap (and_freed freed) all)

module _ {A : Type 0} (own : A → ℕ) where
  -- one activation further down
  pub one_down : (xs : List A) (n i : ℕ) (x : A) → i < n → slice_get xs (n - 1 - i) ≡ Some x →
      reverse (map own (drop (n - i) xs)) ++ own x ∷ [] ≡ reverse (map own (drop (n - (i + 1)) xs))
  one_down xs n i x h e =
      let k : n - (i + 1) ≡ n - 1 - i = omega arith in
      let j : n - i ≡ n - 1 - i + 1 = omega arith in
      let d : drop (n - 1 - i) xs ≡ x ∷ drop (n - 1 - i + 1) xs = drop_at xs (n - 1 - i) x e in
      rw (k, j, d) (sym (reverse-append (own x ∷ []) (map own (drop (n - 1 - i + 1) xs))))

  -- all of a stack: that of the top, and then those below
  pub all_owns : (below : List A) (top : A) → reverse (map own (below ++ top ∷ [])) ≡ own top ∷ reverse (map own below)
  all_owns below top = ap reverse (map-append own below (top ∷ [])) ∙ reverse-append (map own below) (own top ∷ [])
