use Rattle.std.proofs.Common.{◌∙◌, map, ap}
use Rattle.ec_outside.proofs.Files.{map-names}
use Rattle.ec_outside.proofs.mem_shelf.MemShelf.new.Goals as goal

pub returns-clause-kept : goal.returns-clause-kept
returns-clause-kept c = c.in_ok-new.ensures.names ∙ ap (map (λ x. x.now)) c.in_ok-names.ensures ∙ map-names c.args.files.now
