-- Lists in which no item stands twice, cut into two.
use Rattle.std.proofs.Common.{◌≡◌, List, [], ◌∷◌, ◌++◌, subst, ⊎_elim}
use Rattle.ec_world.specs.Held.{Distinct}
use Rattle.ec_parcels.proofs.Rising.{once_cons, once_first, once_none, once_tail}
use Rattle.ec_world.proofs.Members.{has_back, has_front, has_none, has_parts}
use Rattle.ec_world.specs.Group.{Has}

module _ {A : Type 0} where
  pub once_front : (xs ys : List A) → Distinct (xs ++ ys) → Distinct xs
  once_front [] ys once = once_none
  once_front (x ∷ xs) ys once =
      once_cons x xs (λ h. once_first x (xs ++ ys) once (has_front x xs ys h)) (once_front xs ys (once_tail x (xs ++ ys) once))

  pub once_back : (xs ys : List A) → Distinct (xs ++ ys) → Distinct ys
  once_back [] ys once = once
  once_back (x ∷ xs) ys once = once_back xs ys (once_tail x (xs ++ ys) once)

  pub once_apart : (xs ys : List A) (y : A) → Distinct (xs ++ ys) → Has xs y → Has ys y → ⊥
  once_apart [] ys y once h g = has_none y h
  once_apart (x ∷ xs) ys y once h g = ⊎_elim
      (λ (e : y ≡ x). once_first x (xs ++ ys) once (has_back x xs ys (subst (λ (z : A). Has ys z) e g)))
      (λ (l : Has xs y). once_apart xs ys y (once_tail x (xs ++ ys) once) l g)
      (has_parts x y xs h)
