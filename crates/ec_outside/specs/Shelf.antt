-- What a read answers of a file.
use Rattle.std.specs.Prelude.{◌≡◌, ℕ, ◌<◌, ◌≤◌, List, Option, Some, None, length, take, drop}

-- the first n bytes of the buffer are those of the file from a place on;
-- none came into a buffer with room only at the end of the file
pub record Reads (file : List ℕ) (from : ℕ) (buffer : List ℕ) (n : ℕ) : Type 0 where
  pub bytes : take n buffer ≡ take n (drop from file)
  pub at_end : n ≡ 0 → 0 < length buffer → length file ≤ from

-- the file is there, and this was read of it
abbrev pub ReadsFile : Option (List ℕ) → ℕ → List ℕ → ℕ → Type 0
ReadsFile (Some file) from buffer n = Reads file from buffer n
ReadsFile None from buffer n = ⊥
