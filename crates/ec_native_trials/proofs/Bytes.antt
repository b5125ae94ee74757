-- Lists of bytes.
use Rattle.std.proofs.Common.{ℕ, suc, ◌<◌, List, [], ◌∷◌, get_or}
use Rattle.std.specs.List.{AllByRecursion as Each}

-- what is below 256 at each index is a list of bytes
pub each_is_byte : (xs : List ℕ) → ((i : ℕ) → get_or xs i 0 < 256) → Each (λ b. b < 256) xs
each_is_byte [] small = tt
each_is_byte (x ∷ xs) small = (small 0, each_is_byte xs (λ i. small (suc i)))
