use Rattle.std.proofs.Common.{map}
use Rattle.mips_delay.proofs.Written.{map_next}
use Rattle.mips_delay.specs.Choice.{set_at}
use Rattle.mips_delay.specs.Places.{moved_to}
use Rattle.mips_delay.proofs.operations.put_stops.Goals as goal

pub loop-i-preserved : goal.loop-i-preserved
loop-i-preserved c =
    let moved = moved_to (set_at c.args.moves.now.fills.items) in
    rw (c.in_ok-push.ensures.ok, c.moved_to.ensures)
    (map_next moved c.loop-i.new (map moved c.args.stops.now) c.args.stops.now c.loop-i.i c.at.result.now c.at.ensures c.loop-i.invariant)
