use Rattle.std.proofs.Common.{◌≡◌, Some, sym, ap, ◌∙◌}
use Rattle.ec_legs.proofs.Keeping.{first_kept, first_written}
use Rattle.ec_legs.proofs.Registers.{bytes_resting, rests_where}
use Rattle.ec_legs.proofs.machine.rest_at.Goals as goal
use Rattle.ec_legs.specs.Machines.{IsUnsaved}
use Rattle.ec_world.specs.declared.key.Key.TheVariants.{Frame}
use Rattle.ec_generate.specs.Addresses.{address_in}
use Rattle.ec_stores.specs.Node.{store_of}

pub unreachable-requires : goal.unreachable-requires
unreachable-requires g c =
    let z = c.requires.stop in
    c.in_default.ensures.none z.0 z.1
    (z.2 ∙ ap Some (g.met.N.NativeKind.means.place_is c.args.machine.now ∙ sym c.pc.ensures))

pub set_word_in-requires-clause-owned : goal.set_word_in-requires-clause-owned
set_word_in-requires-clause-owned g c =
    let key = Frame c.args.process c.args.depth in (
      key,
      first_kept (store_of c.args.node.now) (store_of c.save.new.node) key key c.block_of_frame-block.result
          (IsUnsaved g.N.NativeKind.HOMES) c.save.ensures.saves.keeps c.block_of_frame-block.ensures.first,
    )

pub set_word_in-requires-2-clause-owned : goal.set_word_in-requires-2-clause-owned
set_word_in-requires-2-clause-owned g c =
    let key = Frame c.args.process c.args.depth in
    let saved = first_kept (store_of c.args.node.now) (store_of c.save.new.node) key key c.block_of_frame-block.result
    (IsUnsaved g.N.NativeKind.HOMES) c.save.ensures.saves.keeps c.block_of_frame-block.ensures.first in (
      key,
      first_written (store_of c.save.new.node) (store_of c.set_word_in.new.self) key key c.block_of_frame-block.result 3
          c.in-Some.id.stop (c.set_word_in.ensures.writes key saved) saved,
    )

pub returns-clause-rests : goal.returns-clause-rests
returns-clause-rests g c =
    let key = Frame c.args.process c.args.depth in
    let saved = first_kept (store_of c.args.node.now) (store_of c.save.new.node) key key c.block_of_frame-block.result
    (IsUnsaved g.N.NativeKind.HOMES) c.save.ensures.saves.keeps c.block_of_frame-block.ensures.first in
    let named = first_written (store_of c.save.new.node) (store_of c.set_word_in.new.self) key key c.block_of_frame-block.result 3
    c.in-Some.id.stop (c.set_word_in.ensures.writes key saved) saved in
    let there : address_in c.args.table.now.addresses c.in-Some.id.operation c.in-Some.id.stop ≡ Some
    (g.N.NativeKind.meaning.place c.args.machine.now) =
    c.in-Some.ensures.some ∙ ap Some (c.pc.ensures ∙ sym (g.met.N.NativeKind.means.place_is c.args.machine.now)) in
    rests_where g.N.NativeKind.meaning (store_of c.args.node.now) c.args.process c.args.depth c.requires.frame c.args.machine.now
    g.N.NativeKind.HOMES c.in-Some.id.operation c.in-Some.id.stop (store_of c.save.new.node) (store_of c.set_word_in.new.self)
    (store_of c.set_word_in-2.new.self) g.met.N.NativeKind.registers.homes_are g.met.N.NativeKind.registers.few
    c.save.ensures.saves
    (c.set_word_in.ensures.writes key saved) (c.set_word_in-2.ensures.writes key named) c.args.table.now.addresses there

pub returns-clause-bytes : goal.returns-clause-bytes
returns-clause-bytes g c =
    let key = Frame c.args.process c.args.depth in
    let saved = first_kept (store_of c.args.node.now) (store_of c.save.new.node) key key c.block_of_frame-block.result
    (IsUnsaved g.N.NativeKind.HOMES) c.save.ensures.saves.keeps c.block_of_frame-block.ensures.first in
    let named = first_written (store_of c.save.new.node) (store_of c.set_word_in.new.self) key key c.block_of_frame-block.result 3
    c.in-Some.id.stop (c.set_word_in.ensures.writes key saved) saved in
    bytes_resting c.args.node.now c.save.new.node c.set_word_in.new.self c.set_word_in-2.new.self c.args.process c.args.depth
    g.N.NativeKind.HOMES (c.save.ensures.saves.keeps.rows key) ((c.set_word_in.ensures.writes key saved).rows key)
    c.save.ensures.bytes (c.set_word_in.ensures.bytes key saved) (c.set_word_in-2.ensures.bytes key named)
