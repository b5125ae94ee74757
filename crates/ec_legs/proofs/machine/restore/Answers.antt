use Rattle.std.proofs.Common.{◌≡◌, ◌+◌, subst, arith}
use Rattle.ec_legs.proofs.Registers.{restores_more, restores_none}
use Rattle.ec_legs.proofs.machine.restore.Goals as goal
use Rattle.ec_legs.specs.Machines.{Restores}
use Rattle.ec_stores.specs.Node.{store_of}
use Rattle.ec_world.specs.declared.key.Key.TheVariants.{Frame}
use Rattle.ec_target.specs.Runs.{SetsRegister}

pub word_in-word-requires-clause-owned : goal.word_in-word-requires-clause-owned
word_in-word-requires-clause-owned g c = (Frame c.args.process c.args.depth, c.requires)

pub word_in-word-requires-clause-within : goal.word_in-word-requires-clause-within
word_in-word-requires-clause-within g c = let few = g.met.N.NativeKind.registers.few in omega arith

pub set_reg-requires : goal.set_reg-requires
set_reg-requires g c = let there = g.met.N.NativeKind.registers.there in omega arith

pub loop-k-init : goal.loop-k-init
loop-k-init g c =
    restores_none g.N.NativeKind.meaning g.M.Machine.kind g.M.Machine.goes g.M.Machine.stops g.M.Machine.register g.M.Machine.place
    g.M.Machine.rests g.M.Machine.beside g.M.Machine.flow g.met.N.NativeKind.means g.M.Machine.REGISTERS g.M.Machine.FRAME
    g.M.Machine.OWN g.N.NativeKind.FIRST_HOME g.N.NativeKind.HOMES g.met.N.NativeKind.registers (store_of c.args.node.now) c.args.process
    c.args.depth
    c.args.machine.now

pub loop-k-preserved : goal.loop-k-preserved
loop-k-preserved g c =
    restores_more g.N.NativeKind.meaning g.M.Machine.kind g.M.Machine.goes g.M.Machine.stops g.M.Machine.register g.M.Machine.place
    g.M.Machine.rests g.M.Machine.beside g.M.Machine.flow g.met.N.NativeKind.means g.M.Machine.REGISTERS g.M.Machine.FRAME
    g.M.Machine.OWN g.N.NativeKind.FIRST_HOME g.N.NativeKind.HOMES g.met.N.NativeKind.registers (store_of c.args.node.now) c.args.process
    c.args.depth
    c.loop-k.k c.word_in-word.result c.args.machine.now c.loop-k.machine c.set_reg.new.self c.loop-k.invariant (omega arith)
    (c.word_in-word.ensures (Frame c.args.process c.args.depth) c.requires)
    (subst
    (λ r. SetsRegister g.M.Machine.register g.M.Machine.place g.M.Machine.rests g.M.Machine.beside g.M.Machine.flow c.loop-k.machine
    c.set_reg.new.self (r + c.loop-k.k) c.word_in-word.result)
    c.FIRST_HOME.ensures c.set_reg.ensures)

pub overflow_add-FIRST_HOME : goal.overflow_add-FIRST_HOME
overflow_add-FIRST_HOME g c =
    let there = g.met.N.NativeKind.registers.there in
    let small = g.met.N.NativeKind.registers.small in
    omega arith

pub returns : goal.returns
returns g c =
    let same : c.loop-k.k ≡ g.N.NativeKind.HOMES = omega arith in
    subst
    (λ n. Restores g.N.NativeKind.meaning (store_of c.args.node.now) c.args.process c.args.depth n c.args.machine.now c.loop-k.machine)
    same c.loop-k.invariant
