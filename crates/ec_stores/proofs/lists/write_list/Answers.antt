use Rattle.std.proofs.Common.{◌≡◌, ◌<◌, ◌/◌, ◌%◌, List, ℕ, length, sym, subst, arith, get_or, Some}
use Rattle.std.specs.Prelude.{slice_get}
use Rattle.std.proofs.lemmas.Option.{slice_get-get_or}
use Rattle.ec_memory.specs.Words.{HasWord}
use Rattle.ec_memory.proofs.Places.{block_word_there}
use Rattle.ec_memory.proofs.Whole.{whole_same}
use Rattle.ec_stores.specs.Memory.{byte_in, held, kind_of, WritesAt}
use Rattle.ec_stores.proofs.Blocks.{more_written}
use Rattle.ec_stores.proofs.Numbers.{all_has}
use Rattle.ec_stores.proofs.lists.write_list.Goals as goal

pub set_word-requires : goal.set_word-requires
set_word-requires c =
    let same = c.loop-i.invariant.same in
    let b = get_or c.args.blocks.now (c.loop-i.i / 128) 0 in
    let there : slice_get c.args.blocks.now (c.loop-i.i / 128) ≡ Some b =
    slice_get-get_or c.args.blocks.now (c.loop-i.i / 128) 0 (omega arith) in
    let was = all_has (λ x. x < length (held c.args.memory.now).links) c.args.blocks.now b c.requires.blocks_in
    (record { at = c.loop-i.i / 128; is = there }) in
    let within : b < length (held c.loop-i.memory).links = subst (λ (l : List ℕ). b < length l) (sym same.lists.links) was in
    subst (HasWord (byte_in c.loop-i.memory)) (sym c.block_word.ensures)
    (block_word_there (held c.loop-i.memory) (whole_same (held c.args.memory.now) (held c.loop-i.memory) c.requires.whole same.lists) b
    (c.loop-i.i % 128) within (omega arith))

pub loop-i-preserved : goal.loop-i-preserved
loop-i-preserved c =
    let w = get_or c.args.given.now c.loop-i.i 0 in
    let few = c.type_inv.given c.loop-i.i in
    let b = get_or c.args.blocks.now (c.loop-i.i / 128) 0 in
    let there : slice_get c.args.blocks.now (c.loop-i.i / 128) ≡ Some b =
    slice_get-get_or c.args.blocks.now (c.loop-i.i / 128) 0 (omega arith) in
    let kind = kind_of c.args.memory.now in
    let by_kind = subst (λ k. WritesAt k c.loop-i.memory c.set_word.new.self c.block_word.result w) c.loop-i.invariant.same.kind
    c.set_word.ensures.writes in
    more_written kind c.args.memory.now c.loop-i.memory c.set_word.new.self c.args.blocks.now c.args.given.now c.loop-i.i w b
    c.loop-i.invariant (slice_get-get_or c.args.given.now c.loop-i.i 0 (omega arith)) there c.requires.once (omega arith)
    c.set_word.ensures.same
    (subst (λ at. WritesAt kind c.loop-i.memory c.set_word.new.self at w) c.block_word.ensures by_kind)
