-- Files read whole and texts written whole, piece by piece.
use Rattle.std.specs.Prelude.{◌≡◌, ℕ, ◌<◌, List, [], ◌++◌, Option, Some, None, length, take}

-- the bytes are the first ones of the file, and none where there is no file
abbrev pub IsFront : Option (List ℕ) → List ℕ → Type 0
IsFront (Some file) bytes = bytes ≡ take (length bytes) file
IsFront None bytes = bytes ≡ []

-- the file is there, and the bytes are all that it holds, up to a limit
abbrev pub IsWhole : Option (List ℕ) → ℕ → List ℕ → Type 0
IsWhole (Some file) limit bytes = bytes ≡ take limit file
IsWhole None limit bytes = ⊥

-- the bytes taken grew by the first ones of a text, and not by all
abbrev pub GrowsByFront : List ℕ → List ℕ → List ℕ → Type 0
GrowsByFront old new text = (n : ℕ) × (n < length text) × (new ≡ old ++ take n text)
