use Rattle.ec_carrying.proofs.Leaving.{Taking}
use Rattle.ec_carrying.proofs.taking.take_objects.Given as goal
use Rattle.ec_parcels.specs.Owners.{object_keys}

abbrev pub invariant-loop-i : goal.invariant-loop-i
invariant-loop-i l = Taking l.fn.cluster l.cluster l.from (object_keys l.objects) l.i
