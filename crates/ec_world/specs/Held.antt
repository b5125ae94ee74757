-- Sums of what is held at nodes, and when an entry finds no room.
use Rattle.std.specs.Prelude.{◌≡◌, ℕ, suc, ◌+◌, ◌<◌, ◌≤◌, ◌==◌, List, [], ◌∷◌, Option, Some, None, slice_get, if◌then◌else◌}
use Rattle.ec_world.specs.declared.room.Needs.{Needs}
use Rattle.ec_world.specs.declared.room.Part.{Part}
use Rattle.ec_world.specs.declared.room.Part.TheVariants.{Blocks, Text}

-- the sum of a number for each item and its place in the list
abbrev pub total : {A : Type 0} → (ℕ → A → ℕ) → ℕ → List A → ℕ
total f i [] = 0
total f i (x ∷ xs) = f i x + total f (suc i) xs

-- a number where something is at node k, else 0
abbrev pub if_at : ℕ → ℕ → Option ℕ → ℕ
if_at k n None = 0
if_at k n (Some j) = if j == k then n else 0

-- no item stands twice
pub record Distinct {A : Type 0} (xs : List A) : Type 0 where
  pub once : (i j : ℕ) (x : A) → slice_get xs i ≡ Some x → slice_get xs j ≡ Some x → i ≡ j

abbrev pub Fits : Needs → Type 0
Fits n = (n.blocks ≤ n.free_blocks) × (n.bytes ≤ n.free_bytes)

-- a part that lacks room, with what is needed and what is free
abbrev pub Lacks : Part → Needs → ℕ → ℕ → Type 0
Lacks Blocks n need free = (need ≡ n.blocks) × (free ≡ n.free_blocks) × (n.free_blocks < n.blocks)
Lacks Text n need free = (need ≡ n.bytes) × (free ≡ n.free_bytes) × (n.blocks ≤ n.free_blocks) × (n.free_bytes < n.bytes)
