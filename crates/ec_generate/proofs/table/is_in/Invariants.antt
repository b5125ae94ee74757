use Rattle.std.proofs.Common.{◌≡◌, drop}
use Rattle.ec_generate.specs.Entries.{is_in}
use Rattle.ec_generate.proofs.table.is_in.Given as goal

-- none before this one is it
abbrev pub invariant-loop-l : goal.invariant-loop-l
invariant-loop-l l = is_in (drop l.l-index l.live) l.x ≡ is_in l.live l.x
