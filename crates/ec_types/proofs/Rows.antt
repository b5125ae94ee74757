-- The map of the places of numbers in a row.
use Rattle.std.proofs.Common.{◌≡◌, ℕ, ◌+◌, ◌==◌, Bool, true, false, List, [], ◌∷◌, length, Some, BTreeMap, refl, ap, ◌∙◌, arith}
use Rattle.std.specs.Ordering.{nat_cmp, is_eq}
use Rattle.std.specs.BTreeMap.{Updates, get}
use Rattle.std.specs.Option.{unwrap_or}
use Rattle.std.proofs.lemmas.Bool.Decides.{nat_tests}
use Rattle.ec_types.specs.Rows.{place_from, place_of}
use Rattle.ec_types.specs.Types.{number_from, number_at}

same_number : (a b : ℕ) → is_eq (nat_cmp a b) ≡ (a == b)
same_number a b = grind (arith, nat_tests)

-- A number comes before others, whose places a map has.
pub placed_before : (m n : BTreeMap ℕ ℕ) (numbers : List ℕ) (place own : ℕ) → Updates nat_cmp m n own (Some place)
    → ((number : ℕ) → get nat_cmp m number ≡ place_from (place + 1) numbers number)
    → (number : ℕ) → get nat_cmp n number ≡ place_from place (own ∷ numbers) number
placed_before m n numbers place own updates before number = updates.0 number ∙ rw (same_number own number, before number) refl

-- the number of a type by the place of its name
number_from_place : (n : ℕ) (places : List ℕ) (at : ℕ)
    → number_from n places at ≡ unwrap_or (place_from n places at) (n + length places)
number_from_place n [] at = omega arith
number_from_place n (own ∷ places) at = by (number_from_place (n + 1) places at) (own == at) refl
  where
    by : number_from (n + 1) places at ≡ unwrap_or (place_from (n + 1) places at) (n + 1 + length places) → (b : Bool)
        → (own == at) ≡ b
        → number_from n (own ∷ places) at ≡ unwrap_or (place_from n (own ∷ places) at) (n + length (own ∷ places))
    by later true same = rw same refl
    by later false apart = rw apart (later ∙ ap (λ other. unwrap_or (place_from (n + 1) places at) other) (omega arith))

pub number_at_place : (places : List ℕ) (at : ℕ) → number_at places at ≡ unwrap_or (place_of places at) (length places)
number_at_place places at = number_from_place 0 places at ∙ ap (unwrap_or (place_of places at)) (omega arith)
