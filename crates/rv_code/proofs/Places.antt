-- Words at their places in code.
use Rattle.std.proofs.Common.{◌≡◌, ℕ, zero, suc, ◌+◌, List, [], ◌∷◌, ◌++◌, length, Some, refl, ap, ◌∙◌, arith}
use Rattle.std.specs.Prelude.{slice_get}
use Rattle.ec_machine_code.specs.Speaks.{HasAt}
use Rattle.ec_target.specs.Code.{pc_of, word_at}

get_front : (xs ys : List ℕ) (i v : ℕ) → slice_get xs i ≡ Some v → slice_get (xs ++ ys) i ≡ Some v
get_front [] ys i v e = cc
get_front (x ∷ xs) ys zero v e = e
get_front (x ∷ xs) ys (suc i) v e = get_front xs ys i v e

get_back : (xs ys : List ℕ) (k v : ℕ) → slice_get ys k ≡ Some v → slice_get (xs ++ ys) (length xs + k) ≡ Some v
get_back [] ys k v e = let n : 0 + k ≡ k = omega arith in ap (slice_get ys) n ∙ e
get_back (x ∷ xs) ys k v e =
    let n : suc (length xs) + k ≡ suc (length xs + k) = omega arith in
    ap (slice_get (x ∷ xs ++ ys)) n ∙ get_back xs ys k v e

module _ (code : List ℕ) (i : ℕ) where
  pub first_at : (w pc : ℕ) (ws : List ℕ) → HasAt code i (w ∷ ws) → pc ≡ pc_of i → word_at code pc ≡ Some w
  first_at w pc ws has e =
      let at : pc ≡ pc_of (i + 0) = omega (arith, e) in
      ap (word_at code) at ∙ has 0 w refl

  pub rest_at : (w : ℕ) (ws : List ℕ) → HasAt code i (w ∷ ws) → HasAt code (i + 1) ws
  rest_at w ws has k u e =
      let on : i + 1 + k ≡ i + suc k = omega arith in
      ap (λ j. word_at code (pc_of j)) on ∙ has (suc k) u e

  pub front_at : (xs ys : List ℕ) → HasAt code i (xs ++ ys) → HasAt code i xs
  front_at xs ys has k w e = has k w (get_front xs ys k w e)

  pub back_at : (xs ys : List ℕ) → HasAt code i (xs ++ ys) → HasAt code (i + length xs) ys
  back_at xs ys has k w e =
      let on : i + length xs + k ≡ i + (length xs + k) = omega arith in
      ap (λ j. word_at code (pc_of j)) on ∙ has (length xs + k) w (get_back xs ys k w e)
