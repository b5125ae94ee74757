use Rattle.ec_objects.proofs.texts.new_bytes.Given as goal
use Rattle.ec_objects.specs.Texts.{Noted}
use Rattle.ec_stores.specs.Node.{store_of}

abbrev pub invariant-loop-i : goal.invariant-loop-i
invariant-loop-i l = Noted (store_of l.node) l.values l.i 4294967295 l.seen
