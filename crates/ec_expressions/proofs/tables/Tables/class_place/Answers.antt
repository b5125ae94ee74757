use Rattle.std.proofs.Common.{length, ap, ap₂, ◌∙◌}
use Rattle.std.specs.Option.{unwrap_or}
use Rattle.ec_core.specs.declared.Core.{Core}
use Rattle.ec_expressions.proofs.Numbers.{class_found}
use Rattle.ec_meaning.specs.Sources.{source_of}
use Rattle.ec_expressions.proofs.tables.Tables.class_place.Goals as goal

pub returns : goal.returns
returns c =
    let core = (source_of c.args.self.now.program.now).core in
    let there = c.copied.ensures ∙ c.get.ensures.value ∙ c.args.self.now.classes_known c.args.number in
    let count = c.len-count.ensures ∙ ap (λ (k : Core). length k.classes) c.core.ensures in
    c.unwrap_or.ensures ∙ ap₂ unwrap_or there count ∙ class_found core.classes c.args.number
