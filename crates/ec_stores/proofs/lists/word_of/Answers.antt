use Rattle.std.proofs.Common.{◌≡◌, ◌<◌, ◌/◌, ◌%◌, length, sym, ap, ◌∙◌, subst, arith, get_or, Some}
use Rattle.std.specs.Prelude.{slice_get}
use Rattle.std.proofs.lemmas.Option.{slice_get-get_or, same_Some}
use Rattle.ec_memory.specs.Words.{HasWord, block_word_at}
use Rattle.ec_memory.proofs.Places.{block_word_there}
use Rattle.ec_stores.specs.Memory.{byte_in, held, kind_of, word_at}
use Rattle.ec_stores.proofs.Numbers.{all_has}
use Rattle.ec_stores.proofs.lists.word_of.Goals as goal

pub word-requires : goal.word-requires
word-requires c =
    let b = get_or c.args.blocks.now (c.args.i / 128) 0 in
    let there : slice_get c.args.blocks.now (c.args.i / 128) ≡ Some b = slice_get-get_or c.args.blocks.now (c.args.i / 128) 0
    (omega arith) in
    let within = all_has (λ x. x < length (held c.args.memory.now).links) c.args.blocks.now b c.requires.blocks_in
    (record { at = c.args.i / 128; is = there }) in
    subst (HasWord (byte_in c.args.memory.now)) (sym c.block_word.ensures)
    (block_word_there (held c.args.memory.now) c.requires.whole b (c.args.i % 128) within (omega arith))

pub returns : goal.returns
returns c = λ b e.
    let there = slice_get-get_or c.args.blocks.now (c.args.i / 128) 0 (omega arith) in
    let same = same_Some b (get_or c.args.blocks.now (c.args.i / 128) 0) (sym e ∙ there) in
    ap (word_at (kind_of c.args.memory.now) c.args.memory.now)
    (ap (λ x. block_word_at x (c.args.i % 128)) same ∙ sym c.block_word.ensures)
    ∙ c.word.ensures
