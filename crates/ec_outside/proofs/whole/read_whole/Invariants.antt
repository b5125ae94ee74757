use Rattle.std.proofs.Common.{◌≡◌, ◌-◌, ◌≤◌, vec_len}
use Rattle.ec_outside.specs.Whole.{IsFront}
use Rattle.ec_outside.proofs.whole.read_whole.Given as goal

-- the bytes are the file's first ones, and there was no fault
abbrev pub invariant-loop-bytes : goal.invariant-loop-bytes
invariant-loop-bytes g l = record {
  within : vec_len l.bytes ≤ l.limit;
  front : g.F.Shelf.tells l.initial.shelf → IsFront (g.F.Shelf.content l.initial.shelf l.name) l.bytes.items;
  tells : g.F.Shelf.tells l.initial.shelf → g.F.Shelf.tells l.shelf;
  content : g.F.Shelf.content l.shelf ≡ g.F.Shelf.content l.initial.shelf;
  kept : g.F.Shelf.kept l.shelf ≡ g.F.Shelf.kept l.initial.shelf;
  faults : g.F.Shelf.faults l.shelf ≡ g.F.Shelf.faults l.initial.shelf;
}

abbrev pub decreases-loop-bytes : goal.decreases-loop-bytes
decreases-loop-bytes g l = l.limit - vec_len l.bytes
