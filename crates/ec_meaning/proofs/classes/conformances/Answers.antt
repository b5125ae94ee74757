use Rattle.std.proofs.Common.{ℕ, [], ◌∷◌, ◌++◌, sym, ap, ◌∙◌}
use Rattle.ec_types.specs.Table.{conforms}
use Rattle.ec_types.specs.Types.{named}
use Rattle.ec_meaning.proofs.Counting.{each_next}
use Rattle.ec_meaning.proofs.classes.conformances.Goals as goal

pub loop-number-preserved : goal.loop-number-preserved
loop-number-preserved c =
    let f = λ (n : ℕ). conforms c.args.table.now (named c.args.class) (named n) in
    c.in_ok-push.ensures.ok ∙ ap (λ b. c.loop-number.found ++ b ∷ []) c.class_conforms.ensures.equal
    ∙ ap (λ found. found ++ f c.loop-number.number ∷ []) c.loop-number.invariant ∙ sym (each_next f c.loop-number.number)
