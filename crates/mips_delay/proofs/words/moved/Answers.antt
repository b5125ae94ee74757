use Rattle.std.proofs.Common.{sym, ap, ◌∙◌, subst}
use Rattle.ec_target.specs.Code.{pc_of}
use Rattle.mips_delay.proofs.Decoded.{has_word, none_moved, other_moved, turn_moved}
use Rattle.mips_delay.specs.Choice.{CanLead, set_at}
use Rattle.mips_delay.specs.Places.{moved_to}
use Rattle.mips_delay.proofs.words.moved.Goals as goal

pub leading-requires-clause-can : goal.leading-requires-clause-can
leading-requires-clause-can c =
    let fills = set_at c.args.moves.now.fills.items in
    let b = c.in-Some.instr in
    let turned = c.in-Some-turned_to.ensures.some in
    subst (λ g. CanLead b (pc_of c.args.to) g) (ap (moved_to fills) turned.1 ∙ sym c.moved_to.ensures)
    (c.requires.can b (has_word c.args.word b c.in-Some.ensures) turned.0)

pub returns-in-Some-turned_to : goal.returns-in-Some-turned_to
returns-in-Some-turned_to c =
    let fills = set_at c.args.moves.now.fills.items in
    let turned = c.in-Some-turned_to.ensures.some in
    turn_moved fills c.args.from c.args.to c.args.word c.in-Some.instr c.leading.result c.encode.result c.in-Some.ensures c.encode.ensures
    turned.0 c.leading.ensures.same (c.leading.ensures.leads ∙ c.moved_to.ensures ∙ ap (moved_to fills) (sym turned.1))

pub returns-in-None-turned_to : goal.returns-in-None-turned_to
returns-in-None-turned_to c =
    other_moved (set_at c.args.moves.now.fills.items) c.args.from c.args.to c.args.word c.in-Some.instr c.in-Some.ensures
    c.in-None-turned_to.ensures.none

pub returns-in-None : goal.returns-in-None
returns-in-None c = none_moved (set_at c.args.moves.now.fills.items) c.args.from c.args.to c.args.word c.in-None.ensures
