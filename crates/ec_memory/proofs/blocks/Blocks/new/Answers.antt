use Rattle.std.proofs.Common.{sym, ◌∙◌}
use Rattle.ec_memory.proofs.Chains.{new_whole, length-chain}
use Rattle.ec_memory.proofs.blocks.Blocks.new.Goals as goal

pub invariant_of-result : goal.invariant_of-result
invariant_of-result g c =
    let b = c.in_ok-vec.field-0 in
    let m = c.in_ok-vec-2.field-0 in
    new_whole b.items m.items c.in_ok-links.links.items c.args.blocks c.args.globals c.in_ok-links.ensures c.requires.few_blocks
    c.requires.few_globals (sym b.ok.0 ∙ c.in_ok-vec.ensures.len) (sym m.ok.0 ∙ c.in_ok-vec-2.ensures.len)

pub returns-clause-new : goal.returns-clause-new
returns-clause-new g c = record {
  all_blocks = c.in_ok-vec.ensures.items_if_clones_equal (λ y e. e);
  all_globals = c.in_ok-vec-2.ensures.items_if_clones_equal (λ y e. e);
  links = c.in_ok-links.ensures.0;
  free = length-chain c.in_ok-links.links.items 0 c.args.blocks;
}

pub returns-clause-whole : goal.returns-clause-whole
returns-clause-whole g c = invariant_of-result g c
