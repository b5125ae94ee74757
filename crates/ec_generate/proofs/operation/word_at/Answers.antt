use Rattle.std.proofs.Common.{◌≡◌, ◌∙◌, sym, arith}
use Rattle.std.proofs.lemmas.Option.{same_Some}
use Rattle.ec_generate.specs.Puts.{pick}
use Rattle.ec_generate.specs.Sites.{home_there, ops_there}
use Rattle.ec_machine_code.specs.Layout.{before}
use Rattle.ec_machine_code.proofs.LaidOutSizes.{before_within}
use Rattle.ec_generate.proofs.operation.word_at.Goals as goal

pub overflow_add-result : goal.overflow_add-result
overflow_add-result g c =
    let V = pick g.K.Kind.vocabularies c.args.span in
    let is : c.at.result.now ≡ before V (home_there c.args.site.now) (ops_there c.args.site.now) c.args.site.now.order.now c.args.q =
    same_Some _ _ (sym c.at.ensures ∙ c.requires.placed.each c.args.q c.requires.within) in
    omega (arith, is, before_within V (home_there c.args.site.now) (ops_there c.args.site.now) c.args.site.now.order.now c.args.q, c.requires.room)

pub returns-clause-room : goal.returns-clause-room
returns-clause-room g c =
    let V = pick g.K.Kind.vocabularies c.args.span in
    let is : c.at.result.now ≡ before V (home_there c.args.site.now) (ops_there c.args.site.now) c.args.site.now.order.now c.args.q =
    same_Some _ _ (sym c.at.ensures ∙ c.requires.placed.each c.args.q c.requires.within) in
    omega (arith, is, before_within V (home_there c.args.site.now) (ops_there c.args.site.now) c.args.site.now.order.now c.args.q)
