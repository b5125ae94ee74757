use Rattle.std.proofs.Common.{◌≡◌, ℕ, ◌<◌, false, List, Bool, length, sym, ap, ◌∙◌, subst, arith}
use Rattle.std.specs.Prelude.{slice_index}
use Rattle.ec_machine_code.specs.declared.code.Code.{Code}
use Rattle.mips_delay.specs.Choice.{set_at}
use Rattle.mips_delay.specs.Places.{IsKept, drops, place}
use Rattle.mips_waits.proofs.Assembly.{Promised, dropped_so, promised}
use Rattle.mips_waits.proofs.Deciding.{is_low}
use Rattle.mips_waits.specs.Waits.{IsNeedless}
use Rattle.mips_waits.proofs.waits.drop_waits.Goals as goal

pub of-requires-clause-within : goal.of-requires-clause-within
of-requires-clause-within c = λ j h.
    let long = c.in_ok-skips.ensures.long in
    let low = is_low c.as_slice.result.now j (c.in_ok-skips.ensures.yes j h) in
    omega (arith, long, low)

-- all that is promised of the code that was written
kept : (c : goal.After-drop-moves-3) →
    Promised c.args.code.now (record { words = c.in_ok-words.words; operations = c.in_ok-operations.operations })
kept c =
    let old = c.args.code.now in
    let new : Code = record { words = c.in_ok-words.words; operations = c.in_ok-operations.operations } in
    let fills = c.in_ok-moves.ensures.fills in
    let skips = set_at c.in_ok-moves.moves.fills.items in
    promised old new skips c.requires.links c.requires.few
    (dropped_so old new skips
    (λ j h. subst (λ (code : List ℕ). IsNeedless code j) c.as_slice.ensures
    (c.in_ok-skips.ensures.yes j (ap (λ (xs : List Bool). set_at xs j) (sym fills) ∙ h)))
    (λ j n. ap (λ (xs : List Bool). set_at xs j) fills
    ∙ c.in_ok-skips.ensures.no j (subst (λ (code : List ℕ). IsNeedless code j) (sym c.as_slice.ensures) n))
    (c.in_ok-words.ensures.long ∙ ap (λ (code : List ℕ). place skips (length code)) c.as_slice-2.ensures)
    (subst (λ (code : List ℕ). (i : ℕ) → i < length code → drops skips i ≡ false →
    IsKept skips i (slice_index code i) (slice_index new.words (place skips i))) c.as_slice-2.ensures c.in_ok-words.ensures.each)
    c.in_ok-operations.ensures.many c.in_ok-operations.ensures.begins c.in_ok-operations.ensures.stops)

pub returns-clause-dropped : goal.returns-clause-dropped
returns-clause-dropped c = let all = kept c in (all.skips, all.dropped)

pub returns-clause-few_words : goal.returns-clause-few_words
returns-clause-few_words c = (kept c).few_words

pub returns-clause-keeps : goal.returns-clause-keeps
returns-clause-keeps c = (kept c).keeps

pub returns-clause-fits : goal.returns-clause-fits
returns-clause-fits c = (kept c).fits

pub returns-clause-few_steps : goal.returns-clause-few_steps
returns-clause-few_steps c = (kept c).few_steps

pub returns-clause-links : goal.returns-clause-links
returns-clause-links c = (kept c).links
