-- Operations, one after another.
use Rattle.std.proofs.Common.{◌≡◌, ℕ, ◌+◌, ◌≤◌, List, [], ◌∷◌, ◌++◌, length, take, Some, sym, subst}
use Rattle.std.specs.Prelude.{slice_get}
use Rattle.std.proofs.lemmas.List.{take_all}
use Rattle.ec_base.proofs.Lists.{take_next}
use Rattle.ec_code.specs.declared.code.Operation.{Operation as Made}
use Rattle.ec_emission.specs.Lowered.{IsOperationOf, IsProgramOf, AreOperationsOf}
use Rattle.ec_meaning.specs.Programs.{Source}
use Rattle.ec_world.specs.Agree.{AllTwo}

module _ {A B : Type 0} (R : A → B → Type 0) where
  one_behind : (xs : List A) (ys : List B) (x : A) (y : B) → AllTwo R xs ys → R x y → AllTwo R (xs ++ x ∷ []) (ys ++ y ∷ [])
  one_behind [] [] x y a r = (r, tt)
  one_behind [] (z ∷ ys) x y a r = absurd a
  one_behind (w ∷ xs) [] x y a r = absurd a
  one_behind (w ∷ xs) (z ∷ ys) x y a r = (a.0, one_behind xs ys x y a.1 r)

  -- related as far as a place, and at the place
  pub related_next : (xs : List A) (ys new : List B) (i : ℕ) (x : A) (y : B) → slice_get xs i ≡ Some x →
      new ≡ ys ++ y ∷ [] → AllTwo R (take i xs) ys → R x y → AllTwo R (take (i + 1) xs) new
  related_next xs ys new i x y at e a r =
      subst (λ (zs : List B). AllTwo R (take (i + 1) xs) zs) (sym e)
      (subst (λ (zs : List A). AllTwo R zs (ys ++ y ∷ [])) (sym (take_next xs i x at)) (one_behind (take i xs) ys x y a r))

  pub all_related : (xs : List A) (ys : List B) (i : ℕ) → length xs ≤ i → AllTwo R (take i xs) ys → AllTwo R xs ys
  all_related xs ys i h a = subst (λ (zs : List A). AllTwo R zs ys) (take_all i xs h) a

pub all_operations : (s : Source) (first : Made) (others all : List Made) → all ≡ first ∷ others → IsProgramOf s first →
    AllTwo (IsOperationOf s) s.core.operations others → AreOperationsOf s all
all_operations s first others all e a b = subst (AreOperationsOf s) (sym e) (a, b)
