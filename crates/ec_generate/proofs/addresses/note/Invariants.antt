use Rattle.ec_generate.proofs.Noting.{NotesBelow}
use Rattle.ec_generate.proofs.addresses.note.Given as goal

abbrev pub invariant-loop-n : goal.invariant-loop-n
invariant-loop-n l = NotesBelow l.n l.fn.at l.at l.operation l.stops
