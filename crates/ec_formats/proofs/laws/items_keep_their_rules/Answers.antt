use Rattle.ec_formats.proofs.ListLaws.{each_fits, all_fit, items_fit-push}
use Rattle.ec_formats.proofs.laws.items_keep_their_rules.Goals as goal

pub returns-clause-each : goal.returns-clause-each
returns-clause-each g c = λ item xs. (each_fits item xs, all_fit item xs)

pub returns-clause-one_more : goal.returns-clause-one_more
returns-clause-one_more g c = items_fit-push
