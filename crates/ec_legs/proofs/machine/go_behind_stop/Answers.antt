use Rattle.std.proofs.Common.{ℕ, Option, refl, sym, ◌∙◌, subst, arith}
use Rattle.std.specs.Prelude.{IsSome}
use Rattle.std.proofs.lemmas.Option.{same_Some}
use Rattle.ec_legs.proofs.machine.go_behind_stop.Goals as goal
use Rattle.ec_world.specs.declared.key.Key.TheVariants.{Frame}

pub word_in-operation-requires-clause-owned : goal.word_in-operation-requires-clause-owned
word_in-operation-requires-clause-owned g c = (Frame c.args.process c.args.depth, c.block_of_frame-block.ensures.first)

pub word_in-stop-requires-clause-owned : goal.word_in-stop-requires-clause-owned
word_in-stop-requires-clause-owned g c = (Frame c.args.process c.args.depth, c.block_of_frame-block.ensures.first)

pub word_in-own-requires-clause-owned : goal.word_in-own-requires-clause-owned
word_in-own-requires-clause-owned g c = (Frame c.args.process c.args.depth, c.block_of_frame-block.ensures.first)

pub pc_of-address-requires : goal.pc_of-address-requires
pc_of-address-requires g c =
    let z = c.requires.stop c.word_in-operation.result c.word_in-stop.result (c.word_in-operation.ensures (Frame c.args.process c.args.depth) c.block_of_frame-block.ensures.first)
    (c.word_in-stop.ensures (Frame c.args.process c.args.depth) c.block_of_frame-block.ensures.first) in
    subst (λ (o : Option ℕ). IsSome o) (sym z.1) refl

pub overflow_add-address : goal.overflow_add-address
overflow_add-address g c =
    let z = c.requires.stop c.word_in-operation.result c.word_in-stop.result (c.word_in-operation.ensures (Frame c.args.process c.args.depth) c.block_of_frame-block.ensures.first)
    (c.word_in-stop.ensures (Frame c.args.process c.args.depth) c.block_of_frame-block.ensures.first) in
    let same = same_Some c.pc_of-address.result z.0 (sym c.pc_of-address.ensures ∙ z.1) in
    let small = z.2 in
    omega arith

pub set_up-requires-clause-object : goal.set_up-requires-clause-object
set_up-requires-clause-object g c = c.requires.object c.word_in-own.result (c.word_in-own.ensures (Frame c.args.process c.args.depth) c.block_of_frame-block.ensures.first)

pub returns : goal.returns
returns g c = record {
  operation = c.word_in-operation.result;
  number = c.word_in-stop.result;
  own = c.word_in-own.result;
  address = c.pc_of-address.result;
  operation_is = (c.word_in-operation.ensures (Frame c.args.process c.args.depth) c.block_of_frame-block.ensures.first);
  stop_is = (c.word_in-stop.ensures (Frame c.args.process c.args.depth) c.block_of_frame-block.ensures.first);
  own_is = (c.word_in-own.ensures (Frame c.args.process c.args.depth) c.block_of_frame-block.ensures.first);
  is_there = c.pc_of-address.ensures;
  set_up = c.set_up.ensures;
}
