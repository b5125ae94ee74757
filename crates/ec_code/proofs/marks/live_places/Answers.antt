use Rattle.ec_code.proofs.Sweeping.{are_live}
use Rattle.ec_code.proofs.marks.live_places.Goals as goal

pub returns-then-not-sweep : goal.returns-then-not-sweep
returns-then-not-sweep c =
    rw c.from_vec.ensures
    (are_live c.args.code.now c.args.x c.sweep.new.marks.items (c.sweep.ensures.only c.sweeping.invariant.1)
    (c.sweep.ensures.none c.if-not-sweep.true))
