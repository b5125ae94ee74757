-- Numbers in their order.
use Rattle.std.proofs.Common.{◌≡◌, ℕ, zero, suc, ◌+◌, [], ◌∷◌, ◌++◌, map, ap, ◌∙◌, arith, add-one, add-zero}
use Rattle.std.proofs.lemmas.List.{map-append}
use Rattle.ec_meaning.specs.Programs.{numbers_to}

-- one more, at the end
numbers_next : (from n : ℕ) → numbers_to from (suc n) ≡ numbers_to from n ++ (from + n) ∷ []
numbers_next from zero = rw add-zero
numbers_next from (suc n) =
    let e : suc from + n ≡ from + suc n = omega arith in
    ap (λ ns. from ∷ ns) (numbers_next (suc from) n ∙ ap (λ m. numbers_to (suc from) n ++ m ∷ []) e)

pub each_next : {A : Type 0} (f : ℕ → A) (n : ℕ) → map f (numbers_to 0 (n + 1)) ≡ map f (numbers_to 0 n) ++ f n ∷ []
each_next f n =
    let e : 0 + n ≡ n = omega arith in
    rw add-one
    (ap (map f) (numbers_next 0 n) ∙ map-append f (numbers_to 0 n) ((0 + n) ∷ []) ∙ ap (λ m. map f (numbers_to 0 n) ++ f m ∷ []) e)
