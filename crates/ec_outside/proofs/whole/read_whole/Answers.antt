use Rattle.std.proofs.Common.{◌∙◌, ap, subst, List, ℕ}
use Rattle.ec_outside.specs.Fault.{ShareCount}
use Rattle.ec_outside.proofs.whole.read_whole.Goals as goal

pub returns-in_err-read_more-clause-others : goal.returns-in_err-read_more-clause-others
returns-in_err-read_more-clause-others g c other apart =
    let Shared : List (List ℕ) → Type 0 = λ kept. ShareCount kept c.args.name.now other in
    c.in_err-read_more.ensures.others other (λ share. apart (subst Shared c.loop-bytes.invariant.kept share))
    ∙ ap (λ f. f other) c.loop-bytes.invariant.faults
