use Rattle.std.proofs.Common.{arith}
use Rattle.mips_delay.proofs.Order.{place_rises}
use Rattle.mips_delay.proofs.Written.{place_near}
use Rattle.mips_delay.specs.Choice.{set_at}
use Rattle.mips_delay.proofs.moves.Moves.between.Goals as goal

pub overflow_sub-result : goal.overflow_sub-result
overflow_sub-result c =
    let rises = place_rises (set_at c.args.self.now.fills.items) c.args.from c.args.to c.requires.order in
    omega (arith, rises)

pub returns-clause-exact : goal.returns-clause-exact
returns-clause-exact c =
    let rises = place_rises (set_at c.args.self.now.fills.items) c.args.from c.args.to c.requires.order in
    omega (arith, rises)

pub returns-clause-few : goal.returns-clause-few
returns-clause-few c =
    let rises = place_rises (set_at c.args.self.now.fills.items) c.args.from c.args.to c.requires.order in
    let near = place_near (set_at c.args.self.now.fills.items) c.args.from c.args.to c.requires.order in
    omega (arith, rises, near)
