use Rattle.std.proofs.Common.{subst, arith}
use Rattle.ec_legs.proofs.Registers.{is_set_up}
use Rattle.ec_legs.proofs.machine.set_up.Goals as goal
use Rattle.ec_stores.specs.Node.{store_of}
use Rattle.ec_target.specs.Runs.{SetsRegister}

pub set_reg-requires : goal.set_reg-requires
set_reg-requires g c = let is = c.FRAME.ensures in let there = g.met.M.Machine.bases.frame_there in omega arith

pub set_reg-requires-2 : goal.set_reg-requires-2
set_reg-requires-2 g c = let is = c.OWN.ensures in let there = g.met.M.Machine.bases.own_there in omega arith

pub returns : goal.returns
returns g c =
    is_set_up g.N.NativeKind.meaning g.M.Machine.kind g.M.Machine.goes g.M.Machine.stops g.M.Machine.register g.M.Machine.place
    g.M.Machine.rests g.M.Machine.beside g.M.Machine.flow g.met.N.NativeKind.means g.M.Machine.REGISTERS g.M.Machine.FRAME
    g.M.Machine.OWN g.N.NativeKind.FIRST_HOME g.N.NativeKind.HOMES g.met.N.NativeKind.registers (store_of c.args.node.now) c.args.process
    c.args.depth
    c.args.own c.args.place c.args.block c.first_block.result c.block_address-frame_at.result c.block_address-own_at.result
    c.args.machine.now c.set_reg.new.self c.set_reg-2.new.self c.restore.new.machine c.set_pc.new.self
    (subst
    (λ r. SetsRegister g.M.Machine.register g.M.Machine.place g.M.Machine.rests g.M.Machine.beside g.M.Machine.flow c.args.machine.now
    c.set_reg.new.self r c.block_address-frame_at.result)
    c.FRAME.ensures c.set_reg.ensures)
    (subst
    (λ r. SetsRegister g.M.Machine.register g.M.Machine.place g.M.Machine.rests g.M.Machine.beside g.M.Machine.flow c.set_reg.new.self
    c.set_reg-2.new.self r c.block_address-own_at.result)
    c.OWN.ensures c.set_reg-2.ensures)
    c.restore.ensures c.set_pc.ensures c.requires.frame c.first_block.ensures.first
    c.block_address-frame_at.ensures c.block_address-own_at.ensures g.met.M.Machine.bases.frame_not_zero
    g.met.M.Machine.bases.own_not_zero g.met.M.Machine.bases.two
