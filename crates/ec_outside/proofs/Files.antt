-- Files by their names.
use Rattle.std.proofs.Common.{◌≡◌, ℕ, List, [], ◌∷◌, map, refl, ap}
use Rattle.std.specs.Borrow.{Bor}
use Rattle.ec_outside.specs.MemShelf.{names_of}
use Rattle.ec_outside.specs.declared.mem_shelf.MemFile.{MemFile}

-- the names that files hold are those of the files
pub map-names : (files : List MemFile) → map (λ (x : Bor (List ℕ)). x.now) (map (λ (file : MemFile). file.name) files) ≡ names_of files
map-names [] = refl
map-names (file ∷ files) = ap (λ names. file.name.now ∷ names) (map-names files)
