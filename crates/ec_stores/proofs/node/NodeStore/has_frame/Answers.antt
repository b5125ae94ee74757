use Rattle.std.proofs.Common.{◌≡◌, None, ap, ◌∙◌, subst}
use Rattle.std.specs.Bool.{OnFalse}
use Rattle.std.specs.Prelude.{◌↔◌, IsSome, IsTrue, is_some}
use Rattle.ec_world.specs.declared.key.Key.TheVariants.{Frame as OfFrame}
use Rattle.ec_stores.specs.Inside.{data_of}
use Rattle.ec_stores.specs.Node.{NodeData, owned_frame, row_of}
use Rattle.ec_stores.specs.Tables.{frame_in}
use Rattle.ec_stores.proofs.Comings.{is_absent, is_there}
use Rattle.ec_stores.proofs.node.NodeStore.has_frame.Goals as goal

pub returns-clause-there : goal.returns-clause-there
returns-clause-there c =
    let node = data_of c.self.inside in
    subst (λ (n : NodeData). IsTrue c.is_some.result ↔ IsSome (row_of n (OfFrame c.args.process c.args.depth))) c.self.view_is
    (is_there owned_frame (frame_in node.frames c.args.process c.args.depth) c.is_some.result
    (c.is_some.ensures ∙ ap is_some c.find.ensures))

pub returns-clause-none : goal.returns-clause-none
returns-clause-none c =
    let node = data_of c.self.inside in
    subst (λ (n : NodeData). OnFalse c.is_some.result (row_of n (OfFrame c.args.process c.args.depth) ≡ None)) c.self.view_is
    (is_absent owned_frame (frame_in node.frames c.args.process c.args.depth) c.is_some.result
    (c.is_some.ensures ∙ ap is_some c.find.ensures))
