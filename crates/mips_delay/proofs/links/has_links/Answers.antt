use Rattle.mips_delay.proofs.Linking.{one_links}
use Rattle.mips_delay.proofs.links.has_links.Goals as goal

pub returns-then-is_link-clause-some : goal.returns-then-is_link-clause-some
returns-then-is_link-clause-some c =
    λ e. one_links c.args.words.now c.loop-i.i c.loop-i-test.true (c.is_link.ensures.yes c.if-is_link.true)
