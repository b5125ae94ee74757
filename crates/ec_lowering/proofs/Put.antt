-- Types of temporaries that are set.
use Rattle.std.proofs.Common.{◌≡◌, ℕ, zero, suc, ◌<◌, List, [], ◌∷◌, ◌++◌, length, refl, ap, arith}
use Rattle.std.specs.Prelude.{slice_set}
use Rattle.ec_types.specs.declared.conform.static_type.StaticType.{StaticType}
use Rattle.ec_types.specs.declared.conform.static_type.StaticType.TheVariants.{Unknown}
use Rattle.ec_emission.specs.Types.{put_type}

pub put_in : (ts : List StaticType) (i : ℕ) (t : StaticType) → i < length ts → put_type ts i t ≡ slice_set ts i t
put_in [] i t h = absurd (omega arith)
put_in (u ∷ ts) zero t h = refl
put_in (u ∷ ts) (suc i) t h = ap (λ r. u ∷ r) (put_in ts i t (omega arith))

pub put_end : (ts : List StaticType) (t : StaticType) (i : ℕ) → i ≡ length ts → put_type ts i t ≡ ts ++ t ∷ []
put_end [] t zero h = refl
put_end [] t (suc i) h = cc
put_end (u ∷ ts) t zero h = cc
put_end (u ∷ ts) t (suc i) h = ap (λ r. u ∷ r) (put_end ts t i (omega arith))

pub put_more : (ts : List StaticType) (i : ℕ) (t : StaticType) → length ts < i →
    put_type (ts ++ Unknown ∷ []) i t ≡ put_type ts i t
put_more [] zero t h = absurd (omega arith)
put_more [] (suc i) t h = refl
put_more (u ∷ ts) zero t h = absurd (omega arith)
put_more (u ∷ ts) (suc i) t h = ap (λ r. u ∷ r) (put_more ts i t (omega arith))
