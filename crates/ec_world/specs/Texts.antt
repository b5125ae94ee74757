-- What the stops do with texts (Emerald report: String).
use Rattle.std.specs.Prelude.{ℕ, ◌+◌, ◌==◌, Bool, true, false, not, if◌then◌else◌, List, [], ◌∷◌, length, take, drop, codes}
use Rattle.std.specs.Prelude.{Option, Some, None, ℤ, pos, negsuc, nat_lt, nat_le}
use Rattle.ec_world.specs.declared.stop.Order.{Order}
use Rattle.ec_world.specs.declared.stop.Order.TheVariants.{Less, LessEqual, More, MoreEqual}

-- the most bytes that a text has
abbrev pub longest : ℕ
longest = 65535

-- By bytes; a text that is the begin of another one stands before it.
abbrev pub is_before : List ℕ → List ℕ → Bool
is_before s [] = false
is_before [] (b ∷ t) = true
is_before (a ∷ s) (b ∷ t) = if a == b then is_before s t else nat_lt a b

abbrev pub in_order : Order → List ℕ → List ℕ → Bool
in_order Less s t = is_before s t
in_order LessEqual s t = not (is_before t s)
in_order More s t = is_before t s
in_order MoreEqual s t = not (is_before s t)

-- so many bytes from one on, where they are all there
abbrev pub slice_of : List ℕ → ℤ → ℤ → Option (List ℕ)
slice_of s (pos from) (pos count) = if nat_le (from + count) (length s) then Some (take count (drop from s)) else None
slice_of s (pos from) (negsuc count) = None
slice_of s (negsuc from) count = None

abbrev pub truth_text : Bool → List ℕ
truth_text true = codes "true"
truth_text false = codes "false"
