use Rattle.std.proofs.Common.{sym, ◌∙◌, subst, arith}
use Rattle.std.specs.Prelude.{slice_index}
use Rattle.ec_target.specs.Code.{pc_of}
use Rattle.mips_delay.proofs.Kept.{place_small}
use Rattle.mips_delay.proofs.Reach.{kept_leads}
use Rattle.mips_delay.specs.Choice.{CanLead, IsMoved, set_at}
use Rattle.mips_delay.specs.Places.{moved_to}
use Rattle.mips_delay.specs.Swap.{turned_to}
use Rattle.mips_waits.proofs.words.word_for.Goals as goal

pub returns-then-drops : goal.returns-then-drops
returns-then-drops c = sym c.drops.ensures ∙ c.if-drops.true

pub moved-requires-clause-small : goal.moved-requires-clause-small
moved-requires-clause-small c =
    let small = place_small (set_at c.args.moves.now.fills.items) c.args.i in
    omega (arith, small, c.place.ensures, c.requires.there, c.requires.few)

pub moved-requires-clause-can : goal.moved-requires-clause-can
moved-requires-clause-can c = λ b is turns.
    let skips = set_at c.args.moves.now.fills.items in
    let i = c.args.i in
    subst (λ p. CanLead b (pc_of p) (moved_to skips (turned_to b (pc_of i)))) (sym c.place.ensures)
    (kept_leads c.args.words.now skips c.requires.few i b c.requires.there turns)

pub returns : goal.returns
returns c =
    let skips = set_at c.args.moves.now.fills.items in
    let old = c.args.words.now in
    let i = c.args.i in (
      sym c.drops.ensures ∙ c.if-drops.false,
      subst (λ p. IsMoved skips i p (slice_index old i) c.moved.result) c.place.ensures c.moved.ensures,
    )
