-- When a word of a node stands for a value.
use Rattle.std.specs.Prelude.{◌≡◌, ℕ, ◌+◌, List, [], ◌∷◌, length, Option, Some, if◌then◌else◌}
use mir.Val.{of_z}
use mir.Syntax.{w32}
use Rattle.ec_world.specs.declared.value.Value.{Value}
use Rattle.ec_world.specs.declared.value.Value.TheVariants.{Int, Str, Ref, Nil, Bool as Truth}

-- a word stands for a value: a number modulo 2^32, a truth value by 0 or 1, a text by its place in the pool, a reference
-- by the node's own reference to the object, nil by 0
abbrev pub StandsFor : (ℕ → Option ℕ) → (ℕ → Option (List ℕ)) → Value → ℕ → Type 0
StandsFor local text (Int z) word = word ≡ of_z w32 z
StandsFor local text (Truth b) word = word ≡ (if b then 1 else 0)
StandsFor local text (Str t) word = text word ≡ Some t
StandsFor local text (Ref oid) word = local word ≡ Some oid
StandsFor local text Nil word = word ≡ 0

-- the bytes of some texts
abbrev pub text_bytes : List (List ℕ) → ℕ
text_bytes [] = 0
text_bytes (s ∷ ss) = length s + text_bytes ss
