use Rattle.std.proofs.Common.{◌≡◌, ◌+◌, length, ap, arith}
use Rattle.mips_delay.proofs.Written.{place_past}
use Rattle.mips_delay.specs.Choice.{set_at}
use Rattle.mips_delay.specs.Places.{place}
use Rattle.mips_delay.proofs.moves.Moves.span.Goals as goal

pub returns-else-many-behind : goal.returns-else-many-behind
returns-else-many-behind c =
    let fills = c.args.self.now.fills in
    let e : c.len-all.result ≡ length fills.items = omega (arith, fills.ok.0) in
    let same = ap (place (set_at fills.items)) e in
    let past =
    place_past (set_at fills.items) (length fills.items) (c.args.from + c.args.many) c.args.self.now.within (omega (arith, e)) in
    omega (arith, e, same, past)
