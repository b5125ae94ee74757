use Rattle.std.proofs.Common.{sym, subst}
use Rattle.std.specs.Prelude.{is_some}
use Rattle.byteorder.specs.Endian.{big_bytes}
use Rattle.ec_base.specs.Bytes.{bytes_from}
use Rattle.mips_machine.specs.Machine.{data_of, HasEffect}
use Rattle.mips_machine.specs.Step.{address, aligned, effect, loaded, loaded_to, stored}
use Rattle.mips_machine.specs.Values.{load_size, store_size}
use Rattle.mips_machine.proofs.machine.MipsMachine.effect.Goals as goal

pub returns-in-LoadFrom-clause-data : goal.returns-in-LoadFrom-clause-data
returns-in-LoadFrom-clause-data g c =
    let b = g.M.Memory.byte_at c.args.memory.now in
    let d = data_of c.args.self.now b in
    let new = data_of c.load.new.self b in
    let load = c.in-LoadFrom.load in
    let rt = c.in-LoadFrom.rt in
    subst (λ i. HasEffect (effect i d) d c.load.result new) (sym c.in-LoadFrom.is)
    (subst (λ at. HasEffect (aligned (load_size load) at (loaded_to d rt (loaded load b at))) d c.load.result new)
    (c.address.ensures b) c.load.ensures.data)

pub returns-in-StoreTo-clause-data : goal.returns-in-StoreTo-clause-data
returns-in-StoreTo-clause-data g c =
    let b = g.M.Memory.byte_at c.args.memory.now in
    let d = data_of c.args.self.now b in
    let new = data_of c.args.self.now (g.M.Memory.byte_at c.store.new.memory) in
    let size = store_size c.in-StoreTo.store in
    let v = c.read-in-StoreTo.result in
    subst (λ i. HasEffect (effect i d) d c.store.result new) (sym c.in-StoreTo.is)
    (subst (λ v. HasEffect
    (aligned size (address d c.in-StoreTo.rs c.in-StoreTo.offset)
    (stored d (address d c.in-StoreTo.rs c.in-StoreTo.offset) (big_bytes size v)
    (is_some (bytes_from b (address d c.in-StoreTo.rs c.in-StoreTo.offset) size)))) d c.store.result new)
    c.read-in-StoreTo.ensures
    (subst (λ at. HasEffect (aligned size at (stored d at (big_bytes size v) (is_some (bytes_from b at size)))) d c.store.result
    new) (c.address-in-StoreTo.ensures b) c.store.ensures.data))
