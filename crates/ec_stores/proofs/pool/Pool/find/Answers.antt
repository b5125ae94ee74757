use Rattle.std.proofs.Common.{◌≡◌, ◌≢◌, ℕ, Some, ◌∙◌, subst}
use Rattle.std.specs.Prelude.{IfNone, IfSome, slice_get}
use Rattle.ec_stores.specs.Tables.{TextPool}
use Rattle.ec_stores.proofs.Finding.{place_found, place_missing}
use Rattle.ec_stores.proofs.pool.Pool.find.Goals as goal

pub returns-clause-some : goal.returns-clause-some
returns-clause-some c =
    subst (λ (p : TextPool). IfSome c.copied.result (λ i. slice_get p.texts i ≡ Some c.args.text.now)) c.self.view_is
    (place_found c.copied.result c.self.inside.places c.self.inside.texts.items c.args.text.now c.self.invariant
    (c.copied.ensures ∙ c.get.ensures.value))

pub returns-clause-none : goal.returns-clause-none
returns-clause-none c =
    subst (λ (p : TextPool). IfNone c.copied.result ((i : ℕ) → slice_get p.texts i ≢ Some c.args.text.now)) c.self.view_is
    (place_missing c.copied.result c.self.inside.places c.self.inside.texts.items c.args.text.now c.self.invariant
    (c.copied.ensures ∙ c.get.ensures.value))
