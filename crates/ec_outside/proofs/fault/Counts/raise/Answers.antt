use Rattle.std.proofs.Common.{◌∙◌, sym}
use Rattle.ec_outside.proofs.Places.{count_of-kept_raised, count_of-other_raised}
use Rattle.ec_outside.proofs.fault.Counts.raise.Goals as goal

pub returns-in-Some-clause-others : goal.returns-in-Some-clause-others
returns-in-Some-clause-others c other h =
    count_of-kept_raised _ _ _ _ _ _ _ other c.self.view_is (sym c.place.ensures ∙ c.in-Some.is) h

pub returns-in-None-clause-others : goal.returns-in-None-clause-others
returns-in-None-clause-others c other h =
    count_of-other_raised _ _ _ _ _ _ other c.self.view_is (sym c.place.ensures ∙ c.in-None.is) h
