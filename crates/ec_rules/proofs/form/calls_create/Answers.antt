use Rattle.std.proofs.Common.{ap, sym, ◌∙◌, [], ◌∷◌}
use Rattle.ec_rules.specs.Calls.{is_creation}
use Rattle.ec_rules.specs.Tree.{link_of}
use Rattle.ec_rules.proofs.Equations.{call_link, index_link}
use Rattle.ec_rules.proofs.form.calls_create.Goals as goal

pub returns-in-Call : goal.returns-in-Call
returns-in-Call c =
    c.is_word.ensures
    ∙ sym (ap (λ l. is_creation (link_of l ∷ [])) c.in-Call.is
    ∙ ap (λ p. is_creation (p ∷ [])) (call_link c.in-Call.word c.in-Call.field-1))

pub returns-in-Index : goal.returns-in-Index
returns-in-Index c =
    sym (ap (λ l. is_creation (link_of l ∷ [])) c.in-Index.is
    ∙ ap (λ p. is_creation (p ∷ [])) (index_link c.in-Index.field-0 c.in-Index.field-1))
