use Rattle.std.proofs.Common.{◌≡◌, drop}
use Rattle.ec_generate.specs.Entries.{typed}
use Rattle.ec_generate.proofs.entries.typed.Given as goal

-- none before this one is it
abbrev pub invariant-loop-l : goal.invariant-loop-l
invariant-loop-l l = typed (drop l.l-index l.live) l.x ≡ typed l.live l.x
