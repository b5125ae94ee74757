use Rattle.std.proofs.Common.{◌∷◌, ◌++◌, []}
use Rattle.ec_stores.proofs.Blocks.{on_err, takes_more}
use Rattle.ec_stores.proofs.lists.take_list.Goals as goal

pub returns-in_err-push-in-Some-clause-err : goal.returns-in_err-push-in-Some-clause-err
returns-in_err-push-in-Some-clause-err c = on_err c.from_residual.result (
  c.loop-i.blocks ++ c.in-Some.block ∷ [],
  takes_more c.args.memory.now c.loop-i.memory c.take.new.self c.loop-i.blocks c.in-Some.block c.loop-i.invariant.0
      c.in-Some.ensures.taken,
)
