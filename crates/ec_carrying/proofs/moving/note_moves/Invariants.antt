use Rattle.ec_carrying.proofs.Places.{Moving}
use Rattle.ec_carrying.proofs.moving.note_moves.Given as goal

abbrev pub invariant-loop-i : goal.invariant-loop-i
invariant-loop-i l = Moving l.fn.whereabouts l.whereabouts l.objects l.from l.to l.i
