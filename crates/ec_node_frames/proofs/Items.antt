-- Items of lists that are joined, mapped, set or filled up with nil.
use Rattle.std.proofs.Common.{◌≡◌, ◌≢◌, ℕ, zero, suc, ◌+◌, List, [], ◌∷◌, ◌++◌, length, map, Some, refl, ap, arith}
use Rattle.std.specs.Prelude.{replicate, slice_get}
use Rattle.ec_activations.specs.Frames.{or_nil}
use Rattle.ec_code.specs.Steps.{put}
use Rattle.ec_world.specs.declared.value.Value.{Value}
use Rattle.ec_world.specs.declared.value.Value.TheVariants.{Nil}

module _ {A : Type 0} where
  -- an item behind a list is one of the list behind it
  pub get_behind : (xs ys : List A) (i j : ℕ) → i ≡ length xs + j → slice_get (xs ++ ys) i ≡ slice_get ys j
  get_behind [] ys i j e = ap (slice_get ys) (omega (arith, e))
  get_behind (x ∷ xs) ys zero j e = absurd (omega (arith, e))
  get_behind (x ∷ xs) ys (suc i) j e = get_behind xs ys i j (omega (arith, e))

  pub get_front : (xs ys : List A) (i : ℕ) (x : A) → slice_get xs i ≡ Some x → slice_get (xs ++ ys) i ≡ Some x
  get_front [] ys i x e = absurd cc
  get_front (y ∷ xs) ys zero x e = e
  get_front (y ∷ xs) ys (suc i) x e = get_front xs ys i x e

pub get_map : {A B : Type 0} (f : A → B) (xs : List A) (i : ℕ) (x : A) → slice_get xs i ≡ Some x → slice_get (map f xs) i ≡ Some (f x)
get_map f [] i x e = absurd cc
get_map f (y ∷ ys) zero x e = let same : y ≡ x = cc in ap (λ z. Some (f z)) same
get_map f (y ∷ ys) (suc i) x e = get_map f ys i x e

pub map_both : {A B : Type 0} (f : A → B) (xs ys : List A) → map f xs ++ map f ys ≡ map f (xs ++ ys)
map_both f [] ys = refl
map_both f (x ∷ xs) ys = ap (λ l. f x ∷ l) (map_both f xs ys)

-- ---- values, of which those that aren't there are nil

pub put_here : (vs : List Value) (i : ℕ) (v : Value) → slice_get (put vs i v) i ≡ Some v
put_here [] zero v = refl
put_here [] (suc i) v = put_here [] i v
put_here (u ∷ us) zero v = refl
put_here (u ∷ us) (suc i) v = put_here us i v

pub put_beside : (vs : List Value) (i j : ℕ) (v : Value) → j ≢ i → or_nil (slice_get (put vs i v) j) ≡ or_nil (slice_get vs j)
put_beside [] zero zero v ne = absurd (ne refl)
put_beside [] zero (suc j) v ne = refl
put_beside [] (suc i) zero v ne = refl
put_beside [] (suc i) (suc j) v ne = put_beside [] i j v (λ e. ne (ap suc e))
put_beside (u ∷ us) zero zero v ne = absurd (ne refl)
put_beside (u ∷ us) zero (suc j) v ne = refl
put_beside (u ∷ us) (suc i) zero v ne = refl
put_beside (u ∷ us) (suc i) (suc j) v ne = put_beside us i j v (λ e. ne (ap suc e))

nil_or_none : (k n : ℕ) → or_nil (slice_get (replicate k Nil) n) ≡ Nil
nil_or_none zero n = refl
nil_or_none (suc k) zero = refl
nil_or_none (suc k) (suc n) = nil_or_none k n

pub filled_up : (vs : List Value) (k n : ℕ) → or_nil (slice_get (vs ++ replicate k Nil) n) ≡ or_nil (slice_get vs n)
filled_up [] k n = nil_or_none k n
filled_up (v ∷ vs) k zero = refl
filled_up (v ∷ vs) k (suc n) = filled_up vs k n
