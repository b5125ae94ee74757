use Rattle.std.proofs.Common.{◌≡◌, ◌+◌, drop}
use Rattle.ec_world.specs.Words.{text_bytes}
use Rattle.ec_acts.proofs.load.bytes_in.Given as goal

abbrev pub invariant-loop-i : goal.invariant-loop-i
invariant-loop-i l = l.bytes + text_bytes (drop l.i l.texts) ≡ text_bytes l.texts
