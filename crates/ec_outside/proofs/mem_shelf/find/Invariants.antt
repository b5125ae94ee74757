use Rattle.std.proofs.Common.{◌≡◌, drop}
use Rattle.ec_outside.specs.MemShelf.{file_of}
use Rattle.ec_outside.proofs.mem_shelf.find.Given as goal

-- no earlier file has the name
abbrev pub invariant-loop-file : goal.invariant-loop-file
invariant-loop-file l = file_of l.files l.name ≡ file_of (drop l.file-index l.files) l.name
