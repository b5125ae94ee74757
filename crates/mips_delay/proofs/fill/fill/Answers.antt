use Rattle.std.proofs.Common.{◌≡◌, ℕ, ◌<◌, true, false, List, length, sym, ap, ◌∙◌, subst}
use Rattle.std.specs.Prelude.{slice_index}
use Rattle.ec_machine_code.specs.declared.code.Code.{Code}
use Rattle.mips_delay.proofs.Assembly.{filled_so, first_stays, second_stays}
use Rattle.mips_delay.proofs.Promised.{Promised, promised}
use Rattle.mips_delay.proofs.Reach.{lead_along}
use Rattle.mips_delay.specs.Choice.{LeadAlong, Stands, set_at}
use Rattle.mips_delay.specs.Fillable.{Fillable}
use Rattle.mips_delay.specs.Places.{drops, place}
use Rattle.mips_delay.proofs.fill.fill.Goals as goal

pub put_words-requires-clause-along : goal.put_words-requires-clause-along
put_words-requires-clause-along c =
    let old = c.args.code.now.words in
    let fills = set_at c.in_ok-moves.moves.fills.items in
    let each : (j : ℕ) → fills j ≡ true → Fillable old j =
    (λ j h. subst (λ (code : List ℕ). Fillable code j) c.as_slice.ensures (c.in_ok-moves.ensures.yes j h)) in
    subst (λ (code : List ℕ). LeadAlong code fills) (sym c.as_slice-2.ensures)
    (lead_along old fills c.requires.few each (λ j h. (first_stays old fills each j h, second_stays old fills each j h)))

-- all that is promised of the code that was written
kept : (c : goal.After-drop-moves-3) →
    Promised c.args.code.now (record { words = c.in_ok-words.words; operations = c.in_ok-operations.operations })
kept c =
    let old = c.args.code.now in
    let new : Code = record { words = c.in_ok-words.words; operations = c.in_ok-operations.operations } in
    let fills = set_at c.in_ok-moves.moves.fills.items in
    promised old new fills c.requires.links c.requires.few
    (filled_so old new fills
    (λ j h. subst (λ (code : List ℕ). Fillable code j) c.as_slice.ensures (c.in_ok-moves.ensures.yes j h))
    (λ j f. c.in_ok-moves.ensures.no j (subst (λ (code : List ℕ). Fillable code j) (sym c.as_slice.ensures) f))
    (c.in_ok-words.ensures.long ∙ ap (λ (code : List ℕ). place fills (length code)) c.as_slice-2.ensures)
    (subst (λ (code : List ℕ). (i : ℕ) → i < length code → drops fills i ≡ false →
    Stands code fills i (slice_index new.words (place fills i))) c.as_slice-2.ensures c.in_ok-words.ensures.each)
    c.in_ok-operations.ensures.many c.in_ok-operations.ensures.begins c.in_ok-operations.ensures.stops)

pub returns-clause-filled : goal.returns-clause-filled
returns-clause-filled c = let all = kept c in (all.fills, all.filled)

pub returns-clause-none_left : goal.returns-clause-none_left
returns-clause-none_left c = (kept c).none_left

pub returns-clause-few_words : goal.returns-clause-few_words
returns-clause-few_words c = (kept c).few_words

pub returns-clause-keeps : goal.returns-clause-keeps
returns-clause-keeps c = (kept c).keeps

pub returns-clause-few_steps : goal.returns-clause-few_steps
returns-clause-few_steps c = (kept c).few_steps
