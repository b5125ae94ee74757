use Rattle.std.proofs.Common.{◌∙◌, ap, subst}
use Rattle.ec_outside.specs.Fault.{ShareCount, count_of}
use Rattle.ec_outside.specs.MemShelf.{MemShelfState}
use Rattle.ec_outside.proofs.mem_shelf.MemShelfShelf.read_at.Goals as goal

pub returns-in-None-clause-others : goal.returns-in-None-clause-others
returns-in-None-clause-others c other apart =
    let Shared : MemShelfState → Type 0 = λ s. ShareCount s.counts.names c.args.name.now other in
    c.raise.ensures.others other (λ share. apart (subst Shared c.self.view_is share)) ∙ ap (λ s. count_of s.counts other) c.self.view_is
