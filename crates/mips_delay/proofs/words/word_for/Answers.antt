use Rattle.std.proofs.Common.{◌≡◌, ℕ, ◌+◌, ◌-◌, ◌<◌, false, sym, ◌∙◌, subst, arith}
use Rattle.std.specs.Prelude.{slice_index}
use Rattle.ec_target.specs.Code.{pc_of}
use Rattle.mips_delay.proofs.Decoded.{word_of_branch, word_of_kept, word_of_slot}
use Rattle.mips_delay.proofs.Kept.{place_small}
use Rattle.mips_delay.specs.Choice.{CanLead, IsMoved, set_at}
use Rattle.mips_delay.specs.Places.{moved_to}
use Rattle.mips_delay.specs.Swap.{turned_to}
use Rattle.mips_delay.proofs.words.word_for.Goals as goal
use Rattle.mips_delay.proofs.words.word_for.Goals.{else-i-gt0-via-then-i-gt0+else-fills-2, else-i-gt0-via-else-i-gt0}

pub returns-then-drops : goal.returns-then-drops
returns-then-drops c = sym c.drops.ensures ∙ c.if-drops.true

-- ---- a filled place: the branch

pub bounds-words-i : goal.bounds-words-i
bounds-words-i c =
    let less = c.args.moves.now.within c.args.i (sym c.fills.ensures ∙ c.if-fills.true) in
    omega (arith, less, c.requires.long)

pub moved-requires-clause-low : goal.moved-requires-clause-low
moved-requires-clause-low c =
    let less = c.args.moves.now.within c.args.i (sym c.fills.ensures ∙ c.if-fills.true) in
    omega (arith, less)

pub moved-requires-clause-small : goal.moved-requires-clause-small
moved-requires-clause-small c =
    let small = place_small (set_at c.args.moves.now.fills.items) c.args.i in
    omega (arith, small, c.place.ensures, c.requires.there, c.requires.long, c.args.moves.now.few)

pub moved-requires-clause-can : goal.moved-requires-clause-can
moved-requires-clause-can c = λ b is turns.
    let fills = set_at c.args.moves.now.fills.items in
    let i = c.args.i in
    let filled = sym c.fills.ensures ∙ c.if-fills.true in
    let less = c.args.moves.now.within i filled in
    subst (λ (p : ℕ). CanLead b (pc_of p) (moved_to fills (turned_to b (pc_of (i + 1))))) (sym c.place.ensures)
    ((c.requires.along (i + 1) b (omega (arith, less, c.requires.long)) is turns).1 i (omega arith) filled)

pub returns-then-fills : goal.returns-then-fills
returns-then-fills c =
    let fills = set_at c.args.moves.now.fills.items in
    let old = c.args.words.now in
    let i = c.args.i in
    word_of_branch old fills i (sym c.drops.ensures ∙ c.if-drops.false) c.moved.result (sym c.fills.ensures ∙ c.if-fills.true)
    (subst (λ (p : ℕ). IsMoved fills (i + 1) p (slice_index old (i + 1)) c.moved.result) c.place.ensures c.moved.ensures)

-- ---- behind it: the word that stood before

pub returns-then-fills-2 : goal.returns-then-fills-2
returns-then-fills-2 c =
    word_of_slot c.args.words.now (set_at c.args.moves.now.fills.items) c.args.i (sym c.drops.ensures ∙ c.if-drops.false) c.if-i-gt0.true
    (sym c.fills-then-i-gt0.ensures ∙ c.if-fills-2.true)

-- ---- else the word itself

pub moved-requires-2-clause-small : goal.moved-requires-2-clause-small
moved-requires-2-clause-small c =
    let small = place_small (set_at c.args.moves.now.fills.items) c.args.i in
    omega (arith, small, c.place-2.ensures, c.requires.there, c.requires.long, c.args.moves.now.few)

pub moved-requires-2-clause-can : goal.moved-requires-2-clause-can
moved-requires-2-clause-can c = λ b is turns.
    let fills = set_at c.args.moves.now.fills.items in
    let i = c.args.i in
    subst (λ (p : ℕ). CanLead b (pc_of p) (moved_to fills (turned_to b (pc_of i)))) (sym c.place-2.ensures)
    ((c.requires.along i b c.requires.there is turns).0 (sym c.drops.ensures ∙ c.if-drops.false))

pub returns : goal.returns
returns c =
    let fills = set_at c.args.moves.now.fills.items in
    let old = c.args.words.now in
    let i = c.args.i in
    let before : 0 < i → fills (i - 1) ≡ false = elim c.else-i-gt0.branch [
      | else-i-gt0-via-then-i-gt0+else-fills-2 w ↦ λ low. sym w.fills-then-i-gt0.ensures ∙ w.if-fills-2.false
      | else-i-gt0-via-else-i-gt0 w ↦ λ low. absurd (omega (arith, low, w.if-i-gt0.false))
    ] in
    word_of_kept old fills i (sym c.drops.ensures ∙ c.if-drops.false) c.moved-2.result (sym c.fills.ensures ∙ c.if-fills.false) before
    (subst (λ (p : ℕ). IsMoved fills i p (slice_index old i) c.moved-2.result) c.place-2.ensures c.moved-2.ensures)
