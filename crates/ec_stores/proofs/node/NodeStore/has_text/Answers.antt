use Rattle.std.proofs.Common.{List, ℕ, subst}
use Rattle.std.specs.Prelude.{◌↔◌, IsTrue}
use Rattle.ec_things.specs.Texts.{InPool}
use Rattle.ec_stores.specs.Inside.{data_of}
use Rattle.ec_stores.specs.Node.{NodeData, store_of}
use Rattle.ec_stores.proofs.Finding.{is_there}
use Rattle.ec_stores.proofs.node.NodeStore.has_text.Goals as goal

pub returns : goal.returns
returns c =
    subst (λ (n : NodeData). IsTrue c.is_some.result ↔ InPool (store_of n) c.args.text.now) c.self.view_is
    (subst (λ (t : List ℕ). IsTrue c.is_some.result ↔ InPool (store_of (data_of c.self.inside)) t) c.as_slice.ensures
    (is_there c.find.result c.is_some.result c.self.inside.pool.texts c.as_slice.result.now c.is_some.ensures c.find.ensures.some
    c.find.ensures.none))
