-- One node more has room.
use Rattle.std.proofs.Common.{Some, sym, ap, ◌∙◌, arith, subst}
use Rattle.std.proofs.lemmas.Option.{slice_get-get_or}
use Rattle.ec_acts.proofs.Rooms.{none_lacks, one_has_room}
use Rattle.ec_acts.proofs.load.first_lack.Goals as goal
use Rattle.ec_acts.specs.Loading.{counted}
use Rattle.ec_world.specs.Held.{Fits}
use Rattle.ec_world.specs.declared.room.Needs.{Needs}

pub loop-k-init : goal.loop-k-init
loop-k-init c = none_lacks (counted c.args.bytes) c.args.specs.now

pub loop-k-preserved : goal.loop-k-preserved
loop-k-preserved c =
    one_has_room (counted c.args.bytes) c.args.specs.now c.loop-k.k c.index-specs-k.result c.loop-k.invariant
    (slice_get-get_or c.args.specs.now c.loop-k.k c.index-specs-k.result (omega arith) ∙ ap Some (sym c.index-specs-k.is))
    (subst (λ (n : Needs). Fits n) c.needs_of.ensures c.in_default.ensures.none)
