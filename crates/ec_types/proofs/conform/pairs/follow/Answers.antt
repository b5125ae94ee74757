use Rattle.std.proofs.Common.{[], ◌∷◌, ◌++◌, set, false, sym, ap, subst, ◌∙◌, length, arith, length-set, length-append}
use Rattle.ec_types.specs.Pairs.{Follows}
use Rattle.ec_types.proofs.Striking.{follows_none, follows_one, follows_on, fewer_by}
use Rattle.ec_types.proofs.conform.pairs.follow.Goals as goal

pub loop-next-init : goal.loop-next-init
loop-next-init c = (
  follows_none _ _ _ (length-set _ _ _ ∙ c.requires.full),
  omega (arith, ap length c.in_ok-push.ensures.items, length-append c.new-struck.result.items (c.args.first ∷ [])),
  omega arith,
)

pub loop-next-preserved : goal.loop-next-preserved
loop-next-preserved c = (
  follows_on c.loop-next.invariant.0 (follows_on c.in_ok-check_users.ensures c.in_ok-check_users-2.ensures),
  omega (arith, c.loop-next.invariant.1, c.in_ok-check_users.ensures.more, c.in_ok-check_users-2.ensures.more),
  omega (arith, c.loop-next-test.true, c.len.ensures, c.in_ok-check_users.ensures.more, c.in_ok-check_users-2.ensures.more),
)

pub returns : goal.returns
returns c =
    fewer_by
    (follows_on
    (subst (λ struck. Follows c.args.types.now c.args.pairs.now.items [] (set c.args.pairs.now.items c.args.first false) struck)
    (sym (c.in_ok-push.ensures.items ∙ ap (λ struck. struck ++ c.args.first ∷ []) c.new-struck.ensures.items))
    (follows_one c.args.types.now c.args.pairs.now.items [] c.args.first c.requires.full c.requires.wrong))
    c.loop-next.invariant.0)
    c.loop-next.invariant.1
