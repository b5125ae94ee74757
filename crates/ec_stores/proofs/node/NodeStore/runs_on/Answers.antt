use Rattle.std.proofs.Common.{◌≡◌, length, ◌^◌, ◌<◌, ◌≤◌, subst, arith}
use Rattle.ec_stores.specs.Inside.{data_of}
use Rattle.ec_stores.specs.Node.{NodeData, bytes_in, store_of}
use Rattle.ec_stores.specs.Readable.{IsSmall, StandsIn}
use Rattle.ec_stores.proofs.Readable.{is_small, stands_in}
use Rattle.ec_stores.proofs.node.NodeStore.runs_on.Goals as goal

pub returns-clause-small : goal.returns-clause-small
returns-clause-small c =
    let node = data_of c.self.inside in
    subst (λ (n : NodeData). IsSmall (store_of n)) c.self.view_is (is_small node c.self.invariant (omega arith) (omega arith))

pub returns-clause-words : goal.returns-clause-words
returns-clause-words c =
    subst (λ (n : NodeData). StandsIn (store_of n) (bytes_in n)) c.self.view_is (stands_in (data_of c.self.inside) c.self.invariant)
