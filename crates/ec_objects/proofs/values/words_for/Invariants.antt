use Rattle.ec_objects.proofs.values.words_for.Given as goal
use Rattle.ec_objects.specs.Loops.{Wording}
use Rattle.ec_stores.specs.Node.{store_of}

abbrev pub invariant-loop-i : goal.invariant-loop-i
invariant-loop-i l = Wording (store_of l.fn.node) (store_of l.node) l.values l.i l.words.items
