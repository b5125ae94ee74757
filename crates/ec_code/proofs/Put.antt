-- Temporaries and named variables that are set.
use Rattle.std.proofs.Common.{◌≡◌, ℕ, zero, suc, ◌<◌, List, [], ◌∷◌, ◌++◌, length, refl, ap, arith}
use Rattle.std.specs.Prelude.{slice_set, ◌≤◌}
use Rattle.ec_world.specs.declared.value.Value.{Value}
use Rattle.ec_world.specs.declared.value.Value.TheVariants.{Nil}
use Rattle.ec_code.specs.Steps.{put}

pub put_in : (vs : List Value) (i : ℕ) (v : Value) → i < length vs → put vs i v ≡ slice_set vs i v
put_in [] i v h = absurd (omega arith)
put_in (x ∷ xs) zero v h = refl
put_in (x ∷ xs) (suc i) v h = ap (λ r. x ∷ r) (put_in xs i v (omega arith))

pub put_end : (vs : List Value) (v : Value) (i : ℕ) → i ≡ length vs → put vs i v ≡ vs ++ v ∷ []
put_end [] v zero h = refl
put_end [] v (suc i) h = cc
put_end (x ∷ xs) v zero h = cc
put_end (x ∷ xs) v (suc i) h = ap (λ r. x ∷ r) (put_end xs v i (omega arith))

pub put_more : (vs : List Value) (i : ℕ) (v : Value) → length vs < i → put (vs ++ Nil ∷ []) i v ≡ put vs i v
put_more [] zero v h = absurd (omega arith)
put_more [] (suc i) v h = refl
put_more (x ∷ xs) zero v h = absurd (omega arith)
put_more (x ∷ xs) (suc i) v h = ap (λ r. x ∷ r) (put_more xs i v (omega arith))

-- what isn't there can't be set
pub set_beyond : (vs : List Value) (i : ℕ) (v : Value) → length vs ≤ i → slice_set vs i v ≡ vs
set_beyond [] i v h = refl
set_beyond (x ∷ xs) zero v h = absurd (omega arith)
set_beyond (x ∷ xs) (suc i) v h = ap (λ r. x ∷ r) (set_beyond xs i v (omega arith))
