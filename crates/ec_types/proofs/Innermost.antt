-- Lists of objects with the innermost one changed.
use Rattle.std.proofs.Common.{◌≡◌, ℕ, zero, suc, ◌+◌, ◌-◌, List, [], ◌∷◌, length, Some, refl, ap, arith}
use Rattle.std.specs.Prelude.{option_map, slice_get, slice_set}
use Rattle.ec_base.specs.Stack.{top_of, below_of}
use Rattle.ec_types.specs.Scopes.{change_innermost}
use Rattle.ec_types.specs.declared.scopes.object.Object.{Object}

-- the top, as a slice reads its last item
pub top_read : (os : List Object) → top_of os ≡ slice_get os (length os - 1)
top_read [] = refl
top_read (p ∷ []) = refl
top_read (p ∷ q ∷ os) =
    let e : length (p ∷ q ∷ os) - 1 ≡ suc (length (q ∷ os) - 1) = omega arith in
    rw e (top_read (q ∷ os))

module _ (f : Object → Object) where
  -- the last object is set to the changed one
  pub change_set : (os : List Object) (i : ℕ) (o : Object)
      → i + 1 ≡ length os → slice_get os i ≡ Some o → slice_set os i (f o) ≡ change_innermost f os
  change_set [] i o l e = cc
  change_set (p ∷ []) zero o l e = cc
  change_set (p ∷ []) (suc i) o l e = absurd (omega arith)
  change_set (p ∷ q ∷ os) zero o l e = absurd (omega arith)
  change_set (p ∷ q ∷ os) (suc i) o l e = ap (λ r. p ∷ r) (change_set (q ∷ os) i o (omega arith) e)

  pub top_of-change : (os : List Object) → top_of (change_innermost f os) ≡ option_map f (top_of os)
  top_of-change [] = refl
  top_of-change (p ∷ []) = refl
  top_of-change (p ∷ q ∷ []) = refl
  top_of-change (p ∷ q ∷ r ∷ os) = top_of-change (q ∷ r ∷ os)

  pub below_of-change : (os : List Object) → below_of (change_innermost f os) ≡ below_of os
  below_of-change [] = refl
  below_of-change (p ∷ []) = refl
  below_of-change (p ∷ q ∷ []) = refl
  below_of-change (p ∷ q ∷ r ∷ os) = ap (λ s. p ∷ s) (below_of-change (q ∷ r ∷ os))

  pub change-same : (os : List Object) → ((o : Object) → top_of os ≡ Some o → f o ≡ o) → change_innermost f os ≡ os
  change-same [] h = refl
  change-same (p ∷ []) h = ap (λ o. o ∷ []) (h p refl)
  change-same (p ∷ q ∷ os) h = ap (λ r. p ∷ r) (change-same (q ∷ os) h)

module _ (f g : Object → Object) where
  pub change-change : (os : List Object) → change_innermost g (change_innermost f os) ≡ change_innermost (λ o. g (f o)) os
  change-change [] = refl
  change-change (p ∷ []) = refl
  change-change (p ∷ q ∷ []) = refl
  change-change (p ∷ q ∷ r ∷ os) = ap (λ s. p ∷ s) (change-change (q ∷ r ∷ os))

  pub change-as : (os : List Object)
      → ((o : Object) → top_of os ≡ Some o → f o ≡ g o) → change_innermost f os ≡ change_innermost g os
  change-as [] h = refl
  change-as (p ∷ []) h = ap (λ o. o ∷ []) (h p refl)
  change-as (p ∷ q ∷ os) h = ap (λ r. p ∷ r) (change-as (q ∷ os) h)

  pub change-commutes : (os : List Object) → ((o : Object) → g (f o) ≡ f (g o))
      → change_innermost g (change_innermost f os) ≡ change_innermost f (change_innermost g os)
  change-commutes [] h = refl
  change-commutes (p ∷ []) h = ap (λ o. o ∷ []) (h p)
  change-commutes (p ∷ q ∷ []) h = ap (λ o. p ∷ o ∷ []) (h q)
  change-commutes (p ∷ q ∷ r ∷ os) h = ap (λ s. p ∷ s) (change-commutes (q ∷ r ∷ os) h)
