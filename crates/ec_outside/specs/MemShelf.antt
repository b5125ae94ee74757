-- A shelf in memory: its files, and which of its calls fail.
use Rattle.std.specs.Prelude.{ℕ, ◌+◌, ◌-◌, ◌^◌, ◌⊎◌, min, map, List, [], ◌∷◌, Option, Some, None, IsNone, Contains, if◌then◌else◌}
use Rattle.std.specs.Str.{bytes_eq}
use Rattle.ec_outside.specs.Fault.{Tally}
use Rattle.ec_outside.specs.declared.mem_shelf.MemFile.{MemFile}

-- what the first file of a name holds
abbrev pub file_of : List MemFile → List ℕ → Option (List ℕ)
file_of [] name = None
file_of (file ∷ files) name = if bytes_eq file.name.now name then Some file.bytes.now else file_of files name

-- the names of files, in their order
abbrev pub names_of : List MemFile → List (List ℕ)
names_of files = map (λ file. file.name.now) files

-- the files, the most bytes that a call moves, the numbers of the calls that are to fail, the number of
-- calls so far, and the counts of faults
pub record MemShelfState : Type 0 where
  pub files : List MemFile
  pub piece : ℕ
  pub failing : List ℕ
  pub calls : ℕ
  pub counts : Tally

-- the number of the call that comes next, from 1; it stops at 2^64 - 1
abbrev pub next_call : ℕ → ℕ
next_call calls = min (calls + 1) (2 ^ 64 - 1)

-- the next call meets a fault: its number is listed, or no file has the name
abbrev pub IsToFail : MemShelfState → List ℕ → Type 0
IsToFail s name = Contains s.failing (next_call s.calls) ⊎ IsNone (file_of s.files name)
