use Rattle.std.proofs.Common.{◌≡◌, ◌+◌, true, false, arith}
use Rattle.mips_delay.proofs.Kept.{place_small}
use Rattle.mips_delay.proofs.Written.{place_dropped, place_kept, places_more}
use Rattle.mips_delay.specs.Choice.{set_at}
use Rattle.mips_delay.specs.Places.{drops, place}
use Rattle.mips_delay.proofs.moves.places_of.Goals as goal
use Rattle.mips_delay.proofs.moves.places_of.Goals.{then-not-drops, else-not-drops}

pub overflow_add-to : goal.overflow_add-to
overflow_add-to c =
    let small = place_small (set_at c.args.fills.now) c.loop-i.i in
    let to = c.loop-i.invariant.1 in
    omega (arith, small, to)

pub loop-i-preserved : goal.loop-i-preserved
loop-i-preserved c =
    let fills = set_at c.args.fills.now in
    let to : c.loop-i.to ≡ place fills c.loop-i.i = c.loop-i.invariant.1 in
    let next : c.if-not-drops.to ≡ place fills (c.loop-i.i + 1) = elim c.if-not-drops.branch [
      | then-not-drops w ↦
          let stays : drops fills c.loop-i.i ≡ false = (cc) in
          let kept = place_kept fills c.loop-i.i stays in
          cc
      | else-not-drops w ↦
          let goes : drops fills c.loop-i.i ≡ true = (cc) in
          let dropped = place_dropped fills c.loop-i.i goes in
          cc
    ] in
    places_more fills c.loop-i.i c.loop-i.places.items c.loop-i.invariant.0 c.loop-i.invariant.2 c.if-not-drops.to next
    c.push-in-loop-i.new.self.items c.in_ok-push-2.ensures.items
