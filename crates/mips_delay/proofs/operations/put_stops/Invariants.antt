use Rattle.std.proofs.Common.{◌≡◌, ◌++◌, drop, map}
use Rattle.mips_delay.specs.Choice.{set_at}
use Rattle.mips_delay.specs.Places.{moved_to}
use Rattle.mips_delay.proofs.operations.put_stops.Given as goal

-- what is written, and what is made of the rest, is all
abbrev pub invariant-loop-i : goal.invariant-loop-i
invariant-loop-i l =
    l.new ++ map (moved_to (set_at l.moves.fills.items)) (drop l.i l.stops) ≡ map (moved_to (set_at l.moves.fills.items)) l.stops
