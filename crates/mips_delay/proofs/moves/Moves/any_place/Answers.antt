use Rattle.std.proofs.Common.{◌≡◌, length, arith}
use Rattle.mips_delay.proofs.Kept.{place_small}
use Rattle.mips_delay.proofs.Written.{place_past}
use Rattle.mips_delay.specs.Choice.{set_at}
use Rattle.mips_delay.proofs.moves.Moves.any_place.Goals as goal

pub overflow_add-result : goal.overflow_add-result
overflow_add-result c =
    let small = place_small (set_at c.args.self.now.fills.items) c.len.result in
    omega (arith, small)

pub returns-then-i-many-clause-low : goal.returns-then-i-many-clause-low
returns-then-i-many-clause-low c =
    let small = place_small (set_at c.args.self.now.fills.items) c.args.i in
    omega (arith, small)

pub returns-else-i-many-clause-value : goal.returns-else-i-many-clause-value
returns-else-i-many-clause-value c =
    let fills = c.args.self.now.fills in
    let e : c.len.result ≡ length fills.items = omega (arith, fills.ok.0) in
    let f : c.len-many.result ≡ length fills.items = omega (arith, fills.ok.0) in
    let past = place_past (set_at fills.items) (length fills.items) c.args.i c.args.self.now.within (omega (arith, f)) in
    cc

pub returns-else-i-many-clause-low : goal.returns-else-i-many-clause-low
returns-else-i-many-clause-low c =
    let small = place_small (set_at c.args.self.now.fills.items) c.len.result in
    omega (arith, small)
