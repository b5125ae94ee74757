use Rattle.std.proofs.Common.{◌≡◌, ◌<◌, List, ℕ, length, sym, subst, arith, get_or, Some}
use Rattle.std.specs.Prelude.{slice_get, take}
use Rattle.std.proofs.lemmas.Option.{slice_get-get_or}
use Rattle.ec_base.proofs.Lists.{take_next}
use Rattle.ec_stores.specs.Lists.{GivesList}
use Rattle.ec_stores.specs.Memory.{held}
use Rattle.ec_stores.proofs.Blocks.{gives_more, still_taken, still_within}
use Rattle.ec_stores.proofs.Numbers.{all_has, not_before}
use Rattle.ec_stores.proofs.lists.give_list.Goals as goal

pub give-requires-clause-in_range : goal.give-requires-clause-in_range
give-requires-clause-in_range c =
    let b = get_or c.args.blocks.now c.loop-i.i 0 in
    let e : slice_get c.args.blocks.now c.loop-i.i ≡ Some b = slice_get-get_or c.args.blocks.now c.loop-i.i 0 (omega arith) in
    still_within c.args.memory.now c.loop-i.memory (take c.loop-i.i c.args.blocks.now) b c.loop-i.invariant
    (not_before c.args.blocks.now c.loop-i.i b c.requires.once e) (c.requires.taken b (record { at = c.loop-i.i; is = e }))
    (all_has (λ x. x < length (held c.args.memory.now).links) c.args.blocks.now b c.requires.blocks_in
    (record { at = c.loop-i.i; is = e }))

pub give-requires-clause-taken : goal.give-requires-clause-taken
give-requires-clause-taken c =
    let b = get_or c.args.blocks.now c.loop-i.i 0 in
    let e : slice_get c.args.blocks.now c.loop-i.i ≡ Some b = slice_get-get_or c.args.blocks.now c.loop-i.i 0 (omega arith) in
    still_taken c.args.memory.now c.loop-i.memory (take c.loop-i.i c.args.blocks.now) b c.loop-i.invariant
    (not_before c.args.blocks.now c.loop-i.i b c.requires.once e) (c.requires.taken b (record { at = c.loop-i.i; is = e }))
    (all_has (λ x. x < length (held c.args.memory.now).links) c.args.blocks.now b c.requires.blocks_in
    (record { at = c.loop-i.i; is = e }))

pub loop-i-preserved : goal.loop-i-preserved
loop-i-preserved c =
    let b = get_or c.args.blocks.now c.loop-i.i 0 in
    let e : slice_get c.args.blocks.now c.loop-i.i ≡ Some b = slice_get-get_or c.args.blocks.now c.loop-i.i 0 (omega arith) in
    subst (λ (l : List ℕ). GivesList c.args.memory.now c.give.new.self l) (sym (take_next c.args.blocks.now c.loop-i.i b e))
    (gives_more c.args.memory.now c.loop-i.memory (take c.loop-i.i c.args.blocks.now) b c.loop-i.invariant
    (not_before c.args.blocks.now c.loop-i.i b c.requires.once e) (c.requires.taken b (record { at = c.loop-i.i; is = e }))
    (all_has (λ x. x < length (held c.args.memory.now).links) c.args.blocks.now b c.requires.blocks_in
    (record { at = c.loop-i.i; is = e }))
    c.give.new.self c.give.ensures)
