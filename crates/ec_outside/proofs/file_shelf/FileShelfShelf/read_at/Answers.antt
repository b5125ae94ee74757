use Rattle.std.proofs.Common.{◌∙◌, ap, subst}
use Rattle.ec_outside.specs.Fault.{Tally, ShareCount, count_of}
use Rattle.ec_outside.proofs.file_shelf.FileShelfShelf.read_at.Goals as goal

pub returns-in-Err-clause-others : goal.returns-in-Err-clause-others
returns-in-Err-clause-others g c other apart =
    let Shared : Tally → Type 0 = λ t. ShareCount t.names c.args.name.now other in
    c.raise.ensures.others other (λ share. apart (subst Shared c.self.view_is share)) ∙ ap (λ t. count_of t other) c.self.view_is
