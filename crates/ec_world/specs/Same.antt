-- When two values are the same (the Emerald report: of a value type those with the same contents, of objects one object).
use Rattle.std.specs.Prelude.{ℕ, zero, suc, ◌==◌, Bool, true, false, not, if◌then◌else◌, List, [], ◌∷◌, Option, Some, None, ℤ, pos}
use Rattle.std.specs.Prelude.{negsuc}
use Rattle.ec_world.specs.declared.value.Value.{Value}
use Rattle.ec_world.specs.declared.value.Value.TheVariants.{Int, Str, Ref, Nil, Bool as Truth}

abbrev pub is_same_text : List ℕ → List ℕ → Bool
is_same_text [] [] = true
is_same_text [] (b ∷ t) = false
is_same_text (a ∷ s) [] = false
is_same_text (a ∷ s) (b ∷ t) = if a == b then is_same_text s t else false

abbrev pub is_same_number : ℤ → ℤ → Bool
is_same_number (pos a) (pos b) = a == b
is_same_number (negsuc a) (negsuc b) = a == b
is_same_number _ _ = false

abbrev pub is_same_truth : Bool → Bool → Bool
is_same_truth true b = b
is_same_truth false b = not b

-- Values of one value type, or two references; none where they are of two.
abbrev pub are_same : Value → Value → Option Bool
are_same (Int a) (Int b) = Some (is_same_number a b)
are_same (Truth a) (Truth b) = Some (is_same_truth a b)
are_same (Str a) (Str b) = Some (is_same_text a b)
are_same (Ref a) (Ref b) = Some (a == b)
are_same (Ref a) Nil = Some false
are_same Nil (Ref b) = Some false
are_same Nil Nil = Some true
are_same _ _ = None

abbrev pub is_zero : ℤ → Bool
is_zero (pos zero) = true
is_zero (pos (suc n)) = false
is_zero (negsuc n) = false
